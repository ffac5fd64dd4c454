-- What is read of a text.
use Rattle.std.specs.Prelude.{◌≡◌, ◌≤◌, ◌<◌, ◌⊎◌, ℕ, List, [], ◌∷◌, Option, None, Some, map, option_map, slice_get, length, slice_range, ⊤}
use Rattle.std.specs.List.{flat_map}
use Rattle.tx_tokens.specs.declared.token.Token.{Token}
use Rattle.tx_tree.specs.Tree.{BlockTree}
use Rattle.tx_parse.specs.declared.cover.Span.{Span}
use Rattle.tx_names.specs.Scope.{Text}
use Rattle.tx_names.specs.Faults.{first_some}
use Rattle.tx_pipe.specs.Lawful.{most_operators}
use Rattle.tx_script.specs.declared.fault.ScriptFault.{ScriptFault}
use Rattle.tx_script.specs.declared.fault.ScriptKind.TheVariants as kind
use Rattle.tx_script.specs.Written.{Entry}
use Rattle.tx_script.specs.Linked.{at}
use Rattle.tx_script.specs.Checks.{first_of, text_fault, blocks_in, too_many_defs, name_fault, handler_place, pipe_use, no_end, output_is_input}
use Rattle.tx_script.specs.Accepted.{AreRead}

-- spans of some tokens
abbrev pub AreWithin : List Token → List Span → Type 0
AreWithin ts [] = ⊤
AreWithin ts (s ∷ ss) = (s.from < s.to) × ((s.to ≤ length ts) × AreWithin ts ss)

abbrev pub parts_of : List Token → List Span → List (List Token)
parts_of ts = map (λ s. slice_range ts s.from s.to)

-- a fault of the text or of its tokens, or of a block behind some that are read
pub record IsFaultOfBlock (bytes : List ℕ) (f : ScriptFault) : Type 0 where
  pub none : text_fault bytes ≡ None
  pub blocks : List BlockTree
  pub read : AreRead (blocks_in bytes) blocks (Some f)

abbrev pub IsFaultOfText : List ℕ → ScriptFault → Type 0
IsFaultOfText bytes f = (text_fault bytes ≡ Some f) ⊎ IsFaultOfBlock bytes f

-- ---- blocks whose operators and handlers all have a form

-- the link by which there are more than 64
abbrev pub too_many_links : List Entry → Option ScriptFault
too_many_links es = option_map (λ x. at kind.TooManyOperators x.line) (slice_get (flat_map (λ e. e.links) es) most_operators)

abbrev pub number_fault : List BlockTree → List Entry → Option ScriptFault
number_fault bs es = first_of (too_many_links es ∷ too_many_defs bs ∷ [])

-- the checks behind that of the names
abbrev pub use_fault : Text → List Entry → Option ScriptFault
use_fault own es = first_of (handler_place es ∷ pipe_use es ∷ no_end es ∷ output_is_input own es ∷ [])

-- all that are left, in their order
abbrev pub link_fault : Text → List BlockTree → List Entry → Option ScriptFault
link_fault own bs es = first_some (number_fault bs es) (first_some (name_fault es) (use_fault own es))
