-- The words of the operations.
pub mod Word
