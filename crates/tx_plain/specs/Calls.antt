-- What a call is given.
pub mod Given
-- Rows that are lent or owned, and lists of rows that are read of a file or were made.
pub mod Holding
-- How far the operators of a pipe have gone.
pub mod Standing
-- What a call inside the crate leaves of the counts.
pub mod Tracking
