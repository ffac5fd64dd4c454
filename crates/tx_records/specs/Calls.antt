pub mod Packed
pub mod Reading
pub mod Written
