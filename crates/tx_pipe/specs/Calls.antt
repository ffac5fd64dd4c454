-- For the calls inside the crate.
-- The first of some names that is absent.
pub mod Asking
