-- What the names around a part of a function stand for.
pub mod Around
-- A function from its names, its parameters and its body.
pub mod Whole
