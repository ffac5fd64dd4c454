-- Words as bytes and as characters.
mod Words
-- The first name that is absent.
mod Absent
