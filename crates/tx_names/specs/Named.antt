-- What a word names: a built-in function, a method, a walk that is a function, a view of a dictionary.
use Rattle.std.specs.Prelude.{ℕ, if◌then◌else◌, List, [], ◌∷◌, Option, Some, None}
use Rattle.tx_tree.specs.declared.function.Method.{Method}
use Rattle.tx_tree.specs.declared.function.Method.TheVariants as method
use Rattle.tx_tree.specs.declared.function.Builtin.{Builtin}
use Rattle.tx_tree.specs.declared.function.Builtin.TheVariants as builtin
use Rattle.tx_tree.specs.declared.function.Walk.{Walk}
use Rattle.tx_tree.specs.declared.function.Walk.TheVariants as walk
use Rattle.tx_tree.specs.Words.{same_text, method_word, builtin_word, walk_word}

-- the one of these that has this word
abbrev pub with_word : {A : Type 0} → (A → List ℕ) → List A → List ℕ → Option A
with_word word [] n = None
with_word word (x ∷ xs) n = if same_text n (word x) then Some x else with_word word xs n

-- each of them once
abbrev pub builtins : List Builtin
builtins = builtin.Len ∷ builtin.Int ∷ builtin.Str ∷ builtin.Bool ∷ builtin.Abs ∷ builtin.Min ∷ builtin.Max ∷ builtin.Sum ∷ builtin.Any ∷ builtin.All ∷ builtin.Ord ∷ builtin.List ∷ builtin.Tuple ∷ []

abbrev pub methods : List Method
methods = method.Lower ∷ method.Upper ∷ method.Strip ∷ method.Lstrip ∷ method.Rstrip ∷ method.Split ∷ method.Replace ∷ method.Find ∷ method.Rfind ∷ method.Index ∷ method.Count ∷ method.StartsWith ∷ method.EndsWith ∷ method.Join ∷ method.Zfill ∷ method.IsDigit ∷ method.Get ∷ []

abbrev pub walk_functions : List Walk
walk_functions = walk.Range ∷ walk.Enumerate ∷ walk.Zip ∷ []

abbrev pub views : List Walk
views = walk.Items ∷ walk.Keys ∷ walk.Values ∷ []

abbrev pub builtin_at : List ℕ → Option Builtin
builtin_at = with_word builtin_word builtins

abbrev pub method_at : List ℕ → Option Method
method_at = with_word method_word methods

abbrev pub walk_function_at : List ℕ → Option Walk
walk_function_at = with_word walk_word walk_functions

abbrev pub view_at : List ℕ → Option Walk
view_at = with_word walk_word views
