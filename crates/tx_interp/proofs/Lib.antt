pub mod Slots
pub mod Rows
pub mod Weighed
pub mod EntryLemmas
pub mod Given
