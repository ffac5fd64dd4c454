-- What arguments are taken as: how many they are, and of which kinds.
pub mod Arguments
-- What is gone through: the items of a value, and those of `range`, `enumerate`, `zip` and the views of a dictionary.
pub mod Walks
-- What the built-in functions give.
pub mod Builtins
-- What the methods of texts give.
pub mod TextMethods
-- What the methods of tuples and lists give.
pub mod SequenceMethods
-- What the methods of dictionaries give.
pub mod DictMethods
-- Which kinds have which methods, and what these give.
pub mod Methods
-- Laws above the definitions.
pub mod Laws
-- For calls inside the crate alone.
pub mod Calls
