pub mod Front
pub mod Reader
pub mod Statements
pub mod Blocks
