pub mod Ascii
pub mod Lengths
pub mod Lines
pub mod Names
pub mod Sizes
pub mod Tails
