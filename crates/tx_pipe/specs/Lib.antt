-- To be read in this order.
-- The words of operators and handlers.
pub mod Verbs
-- Operators, handlers and pipes, whatever functions are; the pipe that the code holds.
pub mod Pipe
-- Which pipes are lawful.
pub mod Lawful
-- The columns of each operator, and the names that are asked for.
pub mod Column
-- For the calls inside the crate.
pub mod Calls
