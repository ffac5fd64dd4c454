-- What a value is made of, and its weight and depth.
pub mod Layers
-- Items side by side.
pub mod Zips
-- `min` and `max`: the first of the least and of the greatest.
pub mod FirstExtremes
-- A number of arguments that is not allowed is TypeError.
pub mod WrongNumbers
-- What is true of each character of texts is true of each of the texts that are made of them.
pub mod Characters
-- Texts whose characters are code points.
pub mod CodePoints
-- Valid values: what makes one, and what its parts are.
pub mod ValidValues
-- What valid values give as items is valid.
pub mod ValidItems
-- What built-in functions give of valid values is valid.
pub mod ValidBuiltins
-- What methods give of valid values is valid.
pub mod ValidMethods
-- A built-in function of one argument.
pub mod OneArgument
-- The words that `str` gives.
pub mod Words
-- The weight of lists of texts.
pub mod TextLists
-- The weight of texts that are to be joined.
pub mod JoinWeights
-- A part at the end of a text.
pub mod Ends
-- The sum of what is left.
pub mod SumLemmas
-- The items of a range have 128 bits.
pub mod RangeItems
-- The arguments of `range`.
pub mod RangeArguments
