pub mod Cell
pub mod Records
pub mod Source
pub mod Output
pub mod Laws
pub mod Calls
