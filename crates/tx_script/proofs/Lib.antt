-- The items of a list from a place on.
mod Items
-- First accumulators are literals.
mod Literals
-- Links and entries that are read from the front.
mod Formed
-- Words that may not be defined.
mod Reserved
-- A name that is free is no pipeline's.
mod Free
-- Faults of functions.
mod Told
-- A def gives the same function with more defs ahead of its use.
mod LaterDefs
-- What a def holds is its own, and stays so with more defs ahead.
mod DefFunctions
-- The last link of a chain and the last block of a script.
mod Ends
-- One link, and then those behind it.
mod Steps
-- The name of a report.
mod Suffix
-- Names that are added to others.
mod Added
-- The item at a place of two lists.
mod Nth
-- Bytes that are UTF-8.
mod Utf8
-- Long scripts.
mod Long
-- Answers and faults that are taken apart.
mod LawfulShapeParts
-- Sources stand at the heads of chains.
mod LawfulShapeForms
-- What the links of a chain add to a pipe.
mod LawfulShapeNodes
-- How often links use each operator.
mod LawfulShapeCounts
-- Inputs of links stand ahead.
mod LawfulShapeFed
-- Which operators write.
mod LawfulShapeEnds
-- Names that are still used.
mod LawfulShapeUses
-- The shape of the pipe of an accepted script.
mod LawfulShape
-- What a function that is linked takes.
mod LawfulParts
-- Operators and handlers that are linked.
mod LawfulPartsLinked
-- Forms of operators.
mod LawfulPartsForms
-- The operators of a script's pipe.
mod LawfulPartsPipe
-- The pipe of an accepted script is lawful.
mod Lawful
-- How often names are used.
mod UsesLemmas
-- The blocks of tokens at their spans.
mod CoverBlocks
-- Blocks are read in one way.
mod ReadOnce
-- Links and entries that are read from the front.
mod ReadForms
-- The first check that fails.
mod RefusedFirst
