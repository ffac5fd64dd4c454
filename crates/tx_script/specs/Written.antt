-- A script as it is written: the operators and handlers of its blocks, whose functions and pipelines are words of the text.
use Rattle.std.specs.Prelude.{ℕ, List}
use Rattle.tx_tree.specs.declared.target.Word.{Word}
use Rattle.tx_tree.specs.Tree.{Tree, BlockTree}
use Rattle.tx_names.specs.Scope.{Text}
use Rattle.tx_pipe.specs.Pipe.{Operation, Handling}

-- the function of an operator or of a handler: a lambda with its parameters and its expression, or the name of a def; the line is
-- that of its first token
pub data Code : Type 0 where
  lambda : ℕ → List Text → Tree → Code
  named : ℕ → Text → Code

-- an operator or a handler; a join names its right pipeline
pub data Part : Type 0 where
  operator : Operation Code Word → Part
  handler : Handling Code → Part

-- with the line of its word
pub record Link : Type 0 where
  pub line : ℕ
  pub part : Part

-- a block, and the links of its chain from the front; a source at the head of a chain is the first of them
pub record Entry : Type 0 where
  pub block : BlockTree
  pub links : List Link
