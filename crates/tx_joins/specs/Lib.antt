-- A join of two lists of rows: the list of all pairs with equal keys, by left row and then by right row.
pub mod Join
-- `unique`: of rows that are equal cell by cell the first.
pub mod Unique
-- An index of first places: each key with the place of its first row, in the order of these places.
pub mod FirstPlaces
-- What the calls inside the crate need.
pub mod Calls
