-- What only the contracts of calls inside the crate need: what is still to be read behind the front of a text.
pub mod Reading
