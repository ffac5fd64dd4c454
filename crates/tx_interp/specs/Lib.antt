-- The arguments of a call.
pub mod Arguments
-- For calls inside the crate alone: frames, and how they stand for the values of names.
pub mod Frames
-- For calls inside the crate alone: which nodes a function is asked for.
pub mod Kinds
-- For calls inside the crate alone: a list that grows item by item.
pub mod Weighed
