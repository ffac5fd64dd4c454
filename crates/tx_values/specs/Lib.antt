-- The weight and the depth of a value, and the limits of both.
pub mod Limits
-- Equality and truth of values.
pub mod Equality
-- The order of values.
pub mod Order
-- Which values are hashable, and which are valid.
pub mod Valid
-- A hashable value as a flat list of atoms.
pub mod Keys
-- What an operation sees of a value.
pub mod Operand
-- What an operation on values answers: a value, or the class that is raised.
pub mod Answer
-- The value of a key in a dictionary.
pub mod Lookup
-- What holds of the definitions alone.
pub mod Laws
-- For calls and impls inside the crate alone.
pub mod Calls
