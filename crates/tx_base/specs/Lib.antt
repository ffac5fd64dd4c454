-- The words of the classes, and their order.
pub mod Class
-- Counts of 64 bits, which stand at their last value.
pub mod Count
-- Integers of 128 bits.
pub mod Width
-- What the definitions add up to.
pub mod Laws
