-- What only the contracts of calls inside this crate need.
-- the code's own record of an accepted command, as a deed
pub mod Accept
-- why a command was refused before it wrote anything, a step each
pub mod Refusals
-- the part that writes, and the part that says
pub mod Finish
