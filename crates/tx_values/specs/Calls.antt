-- For calls and impls inside the crate alone.
-- The definitions over lists of items and of pairs.
pub mod Lists
-- What `Eq` and `Hash` ask of keys.
pub mod KeyLaws
