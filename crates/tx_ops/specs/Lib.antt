-- Integers that an operation makes.
pub mod Overflow
-- Arithmetic: sums, differences, products, quotients and remainders of numbers; sequences joined and repeated.
pub mod Binary
-- Signs.
pub mod Unary
-- Comparisons: equality, order, membership, and whether a value is None.
pub mod Compare
-- The item of a sequence and the value of a dictionary.
pub mod Index
-- The slice of a sequence.
pub mod Slice
-- Laws above the definitions.
pub mod Laws
-- What only the contracts of calls inside the crate need.
pub mod Calls
