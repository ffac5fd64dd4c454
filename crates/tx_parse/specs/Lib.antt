-- To be read in this order.
-- What the grammar sees of tokens: of each its kind, and its line.
pub mod Lexemes
-- The spelling of trees with their lines.
pub mod Spells
-- Which tokens are a block, and of which tree.
pub mod Block
-- Why lexemes are no block.
pub mod Faults
-- The blocks of a script: where each begins and ends.
pub mod Spans
-- Laws above the definitions.
pub mod Laws
-- For the calls inside the crate.
pub mod Calls
