-- To be read in this order.
-- A script as it is written: the operators and handlers of its blocks.
pub mod Written
-- The forms of operators and handlers: what a word with its arguments writes.
pub mod Forms
-- What the names of a script stand for: its pipe, or the first name in fault.
pub mod Linked
-- The checks of a script, each with its first place.
pub mod Checks
-- What `read_script` answers.
pub mod Accepted
-- Laws above the definitions.
pub mod Laws
-- For the calls inside the crate.
pub mod Calls
