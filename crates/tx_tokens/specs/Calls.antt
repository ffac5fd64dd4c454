-- What only the contracts of calls inside the crate speak of.
pub mod Walking
pub mod Reading
