-- To be read in this order.
-- The search for a handler, and what handlers make of an evaluation.
pub mod Handlers
-- What an operator that goes row by row makes of a row.
pub mod RowWise
-- What an operator gives of its whole input lists.
pub mod Operators
-- What a pipe gives: its operators in the order of their numbers; output, report and counts.
pub mod Pipeline
-- What a call leaves of the counts.
pub mod Counts
-- What holds of the definitions alone.
pub mod Laws
-- What the contracts of calls need.
pub mod Calls
