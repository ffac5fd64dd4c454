-- That the tests of atoms and of keys decide whether two are the same, as `Eq` and `Hash` ask of an `impl`. These few
-- proofs stand here and not in proofs/, since an `impl` takes its laws from specs/ alone.
use Rattle.std.specs.Prelude.{◌≡◌, true, List}
use Rattle.std.proofs.Common.{ap, refl, subst, sym}
use Rattle.std.proofs.lemmas.Bool.{true≢false}
use Rattle.std.proofs.lemmas.Bool.Decides.{Decides-eqb, Decides-int_eq}
use Rattle.std.specs.Bool.{Decides}
use Rattle.std.specs.Cmp.{IsEquivalence, decided}
use Rattle.std.specs.Cmp.Lexicographic.{bytes_decides, pointwise_decides}
use Rattle.tx_values.specs.declared.key.Atom.{Atom}
use Rattle.tx_values.specs.declared.key.Atom.TheVariants.{Nil, Int, Text, Tuple}
use Rattle.tx_values.specs.Keys.{same_atom, same_key}

pub atom_found : (a b : Atom) → same_atom a b ≡ true → a ≡ b
atom_found Nil Nil t = refl
atom_found (Int m) (Int n) t = ap Int ((Decides-int_eq m n).0 t)
atom_found (Text r) (Text s) t = ap Text ((bytes_decides r s).0 t)
atom_found (Tuple m) (Tuple n) t = ap Tuple ((Decides-eqb m n).0 t)
atom_found _ _ t = absurd (true≢false (sym t))

pub atom_itself : (a : Atom) → same_atom a a ≡ true
atom_itself Nil = refl
atom_itself (Int n) = (Decides-int_eq n n).1 refl
atom_itself (Text s) = (bytes_decides s s).1 refl
atom_itself (Tuple n) = (Decides-eqb n n).1 refl

pub atom_decides : (a b : Atom) → Decides (same_atom a b) (a ≡ b)
atom_decides a b = (atom_found a b, λ e. subst (λ (c : Atom). same_atom a c ≡ true) e (atom_itself a))

pub key_decides : (a b : List Atom) → Decides (same_key a b) (a ≡ b)
key_decides = pointwise_decides atom_decides

pub atom_equiv : IsEquivalence same_atom
atom_equiv = decided same_atom atom_decides

pub key_equiv : IsEquivalence same_key
key_equiv = decided same_key key_decides
