-- The values of names, and the cells of a row.
pub mod Maps
-- Dictionaries and lists that are made item by item.
pub mod Containers
-- What a function means.
pub mod Meaning
-- Which names are read.
pub mod Reads
-- Functions whose literals are values of the language.
pub mod Literals
-- What holds of the definitions alone.
pub mod Laws
