-- Integers of 128 bits, and division that rounds down.
pub mod Number
-- What Python's `int` reads of a text, within this project's profile of characters.
pub mod ReadInt
-- The items of a range and the sum of a list, over integers, and the laws on them.
pub mod Range
-- Laws above the definitions of the two.
pub mod Laws
-- What numbers mean to a sequence: an index, the bounds of a slice, and how often it is repeated.
pub mod Place
-- Examples of the same, as facts.
pub mod PlaceExamples
-- What only the contracts of calls inside the crate need.
pub mod Calls
