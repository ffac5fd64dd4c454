-- What the code holds of the blocks ahead.
use Rattle.std.specs.Prelude.{◌≡◌, ℕ, Bool, false, List, map, Option, Some, None, IfSome, Result, Ok}
use Rattle.std.specs.List.{All}
use Rattle.tx_tree.specs.declared.target.Word.{Word}
use Rattle.tx_names.specs.Scope.{Text}
use Rattle.tx_tree.specs.Tree.{BlockTree, block_of}
use Rattle.tx_names.specs.declared.bound.Bound.{Bound}
use Rattle.tx_names.specs.Function.{Function, role_of}
use Rattle.tx_names.specs.Bind.{function_of, defs_of, bound_block}
use Rattle.tx_script.specs.declared.ahead.DefBlock.{DefBlock}
use Rattle.tx_script.specs.declared.ahead.Ahead as declared
use Rattle.tx_names.specs.declared.fault.BindError.{BindError}
use Rattle.tx_names.specs.declared.fault.BindError.TheVariants as bind
use Rattle.tx_script.specs.declared.fault.ScriptFault.{ScriptFault}
use Rattle.tx_script.specs.declared.fault.ScriptError.{ScriptError}
use Rattle.tx_script.specs.declared.fault.ScriptError.TheVariants as error
use Rattle.tx_script.specs.declared.fault.ScriptKind.TheVariants as kind
use Rattle.tx_script.specs.Written.{Link}
use Rattle.tx_script.specs.Linked.{◌>>=◌, Ahead, at, free_at, told, role_or, size_of, with_def, with_pipeline, Pipe, State, linked_chain}

abbrev pub block_in : DefBlock → BlockTree
block_in d = block_of d.block.now

abbrev pub ahead_of : declared.Ahead → Ahead
ahead_of a = record { defs = defs_of a.defs; blocks = map block_in a.blocks; pipelines = a.pipelines; ends = a.ends }

-- a function is what linking a def gives in the role that the function has, on any line
abbrev pub IsFunctionOf : List (Text × Function ℕ) → BlockTree → Bound → Type 0
IsFunctionOf defs b f = (line : ℕ) → bound_block defs (role_of (function_of f)) line b ≡ Ok (function_of f)

-- the functions that a def holds are its own
pub record HasFunctions (defs : List (Text × Function ℕ)) (d : DefBlock) : Type 0 where
  pub of_values : IsFunctionOf defs (block_in d) d.of_values
  pub of_row : IfSome d.of_row (IsFunctionOf defs (block_in d))

-- and are so with all the defs ahead
abbrev pub AreLinked : declared.Ahead → Type 0
AreLinked a = All (HasFunctions (defs_of a.defs)) a.blocks

-- a word names something that passes a test
abbrev pub is_function : {A : Type 0} → (A → Bool) → Option A → Bool
is_function test None = false
is_function test (Some x) = test x

-- why there is no function
abbrev pub told_error : BindError → ScriptError
told_error (bind.Unknown line) = error.Fault (at kind.Name line)
told_error (bind.Arity line) = error.Fault (at kind.Arity line)
told_error (bind.Recursive line) = error.Fault (at kind.Recursive line)
told_error (bind.RowUse line) = error.Fault (at kind.RowUse line)
told_error bind.NoMemory = error.NoMemory

-- with a def of this name, and with a pipeline
abbrev pub with_def_of : Ahead → ℕ → Text → BlockTree → Result Ahead ScriptFault
with_def_of a l n b = do
  free ← free_at a l n
  f ← told (bound_block a.defs (role_or None (size_of b)) l b)
  Ok (with_def a n f b)

abbrev pub with_pipeline_of : Ahead → Pipe → ℕ → Text → Option Word → List Link → Result State ScriptFault
with_pipeline_of a done l n start links = do
  free ← free_at a l n
  chain ← linked_chain a done start links
  Ok (with_pipeline a n chain.1, chain.0)
