-- In reading order.
-- The script that the words of a command name.
pub mod Words
-- A file that may hold only a prefix of its bytes.
pub mod Partly
-- All that an accepted command does: the files that it writes, and what it says.
pub mod Deed
-- What a script asks of its files once it is accepted: the inputs, and their columns.
pub mod Inputs
-- What each command does once it is accepted: the deed of a run, of a check, and of a table that is generated.
pub mod Commands
-- What is due for the words, over the files that a place holds: a refusal, or a deed.
pub mod Due
-- All that a command touches, at one moment.
pub mod Outside
-- The status of each outcome.
pub mod Status
-- How a command ends: the headline, and what each answer says.
pub mod Ends
-- The complaint of each outcome: one line, or nothing.
pub mod Complaint
-- What holds of the definitions alone.
pub mod Laws
-- What only the contracts of calls inside this crate need.
pub mod Calls
