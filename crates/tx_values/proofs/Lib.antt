-- Induction over values.
pub mod Induction
-- Equality, layer by layer and pair by pair, and that it is an equivalence on valid values.
pub mod Pigeonhole
pub mod EqualityLemmas
pub mod KeyedLayers
pub mod Equivalence
-- Weight, depth and validity.
pub mod DepthLemmas
pub mod PartsAreLess
pub mod ValidityByParts
-- Keys.
pub mod KeysFollowEquality
-- The order.
pub mod OrderLemmas
pub mod OrderIsTotal
pub mod OrderRespectsEquality
