-- Weight and depth of sequences that are joined and repeated.
pub mod LimitLemmas
-- Lists repeated.
pub mod Repeats
-- Sequences that are joined and repeated, with the test ahead of the copying.
pub mod Tables
-- The items of a slice.
pub mod SliceLemmas
-- What an operation makes of valid values is valid.
pub mod ValidityLemmas
-- Quotient and remainder of values.
pub mod DivisionLemmas
-- Sequences that come apart, parts of texts, and `<=`.
pub mod LawLemmas
