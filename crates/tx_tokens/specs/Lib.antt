-- To be read in this order.
-- The physical lines of a text.
pub mod Lines
-- The pieces of a line: each the longest that may stand there.
pub mod Pieces
-- The layout of lines: columns, brackets, and which lines are logical.
pub mod Layout
-- The tokens of a text, or its first fault.
pub mod Tokens
-- Laws above the definitions.
pub mod Laws
-- For the calls inside the crate.
pub mod Calls
