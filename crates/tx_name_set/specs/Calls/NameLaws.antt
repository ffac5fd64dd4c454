-- That the test of two names decides whether they are the same, as `Eq` and `Hash` ask of an `impl`. These few proofs stand here
-- and not in proofs/, since an `impl` takes its laws from specs/ alone.
use Rattle.std.specs.Prelude.{◌≡◌, ℕ, List, encode_utf8_all}
use Rattle.std.specs.Bool.{Decides}
use Rattle.std.specs.Cmp.{IsEquivalence, decided}
use Rattle.std.specs.Cmp.Lexicographic.{bytes_decides}
use Rattle.std.specs.Hash as fed
use Rattle.tx_tree.specs.Words.{same_text}

-- what a name gives to a hasher
abbrev pub name_input : List ℕ → List (List ℕ)
name_input n = fed.str (encode_utf8_all n)

pub name_decides : (m n : List ℕ) → Decides (same_text m n) (m ≡ n)
name_decides = bytes_decides

pub name_equiv : IsEquivalence same_text
name_equiv = decided same_text name_decides
