-- What a word names: a built-in function, a method, a walk that is a function, a view of a dictionary.
pub mod Named
-- Which names are local to a function, and which within its comprehensions; the places of names.
pub mod Scope
-- The faults of names in a function, in the order of the tokens.
pub mod Faults
-- A function: a tree in which each word stands for what it names.
pub mod Function
-- What the words of a tree name: its function, or the first fault.
pub mod Linked
-- A function with slots for its names.
pub mod Numbered
-- Each name of a function is one of its local names, and each word is called with a number of arguments that it takes.
pub mod Sound
-- What a function reads of a row.
pub mod Parts
-- A bound function is a function whose names are slots.
pub mod View
-- What `bind` and `bind_lambda` answer.
pub mod Bind
-- What holds of the definitions alone.
pub mod Laws
-- What the calls inside the crate need.
pub mod Calls
