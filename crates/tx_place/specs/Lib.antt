-- Counts of faults: they never fall, and they stand at their last value.
pub mod Count
-- What a place holds, and all that each of its calls does to that.
pub mod Place
-- What a console was told, and all that each of its calls does to that.
pub mod Console
-- Reading a whole file.
pub mod Whole
-- Files as a list of pairs of a name and bytes, and a place and a console in memory.
pub mod Memory
-- The real place and the real console: they tell nothing of what they hold, and say of a stream what the kit knows of it.
pub mod Real
-- What only the contracts of calls inside the crate need.
pub mod Calls
