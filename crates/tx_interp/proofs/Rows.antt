-- The cell of a column, looked for from the front.
use Rattle.std.proofs.Common.{◌≡◌, ℕ, zero, suc, ◌+◌, ◌<◌, ◌≤◌, List, [], ◌∷◌, Option, Some, None, length, drop, min, Bool, true, false, if◌then◌else◌, refl, sym, ap, ◌∙◌, subst, arith}
use Rattle.std.specs.Prelude.{get_or, encode_utf8_all}
use Rattle.tx_tree.specs.Words.{same_text}
use Rattle.tx_values.specs.declared.value.Value.{Value}
use Rattle.tx_meaning.specs.Maps.{row_of}

pub row_end : (names : List (List ℕ)) (cells : List Value) (i : ℕ) (c : List ℕ) → min (length names) (length cells) ≤ i → row_of (drop i names) (drop i cells) c ≡ None
row_end [] cells i c h = none_left i
  where
    none_left : (i : ℕ) → row_of (drop i []) (drop i cells) c ≡ None
    none_left zero = refl
    none_left (suc i) = refl
row_end (n ∷ names) [] i c h = ended (drop i (n ∷ names)) i
  where
    ended : (ns : List (List ℕ)) (i : ℕ) → row_of ns (drop i []) c ≡ None
    ended [] zero = refl
    ended [] (suc i) = refl
    ended (n ∷ ns) zero = refl
    ended (n ∷ ns) (suc i) = refl
row_end (n ∷ names) (x ∷ cells) zero c h = absurd (omega arith)
row_end (n ∷ names) (x ∷ cells) (suc i) c h = row_end names cells i c (omega arith)

one_behind : (i : ℕ) → suc i + 1 ≡ suc (i + 1)
one_behind i = omega arith

pub row_next : (names : List (List ℕ)) (cells : List Value) (i : ℕ) (d : List ℕ) (c : List ℕ) → i < length names → i < length cells → same_text (get_or names i d) (encode_utf8_all c) ≡ false
    → row_of (drop i names) (drop i cells) c ≡ row_of (drop (i + 1) names) (drop (i + 1) cells) c
row_next [] cells i d c h k e = absurd (omega arith)
row_next (n ∷ names) [] i d c h k e = absurd (omega arith)
row_next (n ∷ names) (x ∷ cells) zero d c h k e = ap (λ b. if b then Some x else row_of names cells c) e
row_next (n ∷ names) (x ∷ cells) (suc i) d c h k e = subst (λ j. row_of (drop i names) (drop i cells) c ≡ row_of (drop j (n ∷ names)) (drop j (x ∷ cells)) c) (sym (one_behind i)) (row_next names cells i d c (omega arith) (omega arith) e)

pub ruleset rows = (row_end, row_next)
