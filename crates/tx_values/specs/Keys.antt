-- A hashable value as a flat list of atoms: a tuple is its length, and then its items.
use Rattle.std.specs.Prelude.{◌==◌, ℕ, Bool, true, false, List, [], ◌∷◌, length, encode_utf8_all}
use Rattle.std.specs.Cmp.Lexicographic.{pointwise}
use Rattle.std.specs.Hash as fed
use Rattle.std.specs.List.{flat_map}
use Rattle.std.specs.Ordering.{int_eq}
use Rattle.tx_values.specs.declared.value.Value.{Value, fold-Value}
use Rattle.tx_values.specs.declared.value.Value.TheOpen.{Value-F}
use Rattle.tx_values.specs.declared.value.Value.TheOpen as v
use Rattle.tx_values.specs.declared.key.Atom.{Atom}
use Rattle.tx_values.specs.declared.key.Atom.TheVariants.{Nil, Int, Text, Tuple}
use Rattle.tx_values.specs.Equality.{number_of, same_text}

abbrev pub same_atom : Atom → Atom → Bool
same_atom Nil Nil = true
same_atom (Int m) (Int n) = int_eq m n
same_atom (Text s) (Text t) = same_text s t
same_atom (Tuple m) (Tuple n) = m == n
same_atom _ _ = false

abbrev pub same_key : List Atom → List Atom → Bool
same_key = pointwise same_atom

-- what the hash of an atom is made of; where two of other kinds hash alike, the test decides
abbrev pub atom_input : Atom → List (List ℕ)
atom_input Nil = fed.u8 0
atom_input (Int n) = fed.i128 n
atom_input (Text s) = fed.str (encode_utf8_all s)
atom_input (Tuple n) = fed.usize n

-- and that of a key: its atoms in turn
abbrev pub key_input : List Atom → List (List ℕ)
key_input = flat_map atom_input

abbrev pub key_step : Value-F (List Atom) → List Atom
key_step v.Nil = Nil ∷ []
key_step (v.Truth b) = Int (number_of b) ∷ []
key_step (v.Int n) = Int n ∷ []
key_step (v.Text s) = Text s ∷ []
key_step (v.Tuple keys) = Tuple (length keys) ∷ flat_map (λ atoms. atoms) keys
key_step (v.List keys) = []
key_step (v.Dict pairs) = []

-- the key of a hashable value
abbrev pub key_of : Value → List Atom
key_of = fold-Value (List Atom) key_step
