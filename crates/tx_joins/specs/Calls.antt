-- The places of the rows of a key, as a chain through the places of all rows.
pub mod Chains
-- The keys that were seen are those of some rows.
pub mod Seen
