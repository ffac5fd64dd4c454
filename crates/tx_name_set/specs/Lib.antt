-- Names in the order in which they were met, each once, with their places.
pub mod NameSet
-- What the calls inside the crate need.
pub mod Calls
