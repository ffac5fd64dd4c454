-- For the calls inside the crate.
-- What the code holds, as a script that is written.
pub mod View
-- Links and entries as they are read from the front.
pub mod Formed
-- What the code holds of the blocks ahead.
pub mod Behind
-- The end of a script, by its last block and those ahead of it.
pub mod Ends
-- How often names are used.
pub mod Counts
-- The files of links and of blocks.
pub mod Files
-- What is read of a text.
pub mod Reading
