-- What only the contracts of calls inside the crate need.
-- The numbers among operands.
pub mod Numbers
-- Whether a sequence that is not made yet is within the limits.
pub mod Fits
-- The rows of the tables of arithmetic that are not of two numbers.
pub mod Sequences
