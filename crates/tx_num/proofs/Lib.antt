pub mod Numbers
pub mod Floors
pub mod Ends
pub mod Groups
pub mod ByCharacter
pub mod Plain
pub mod Ranges
