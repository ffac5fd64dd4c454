-- The rows that are left to be written: one fewer, none, and those of a longer table.
use Rattle.std.proofs.Common.{◌≡◌, ◌∙◌, ℕ, zero, suc, ◌+◌, ◌++◌, List, arith, sym, refl, ap, append_assoc, add-one, append-nil}
use Rattle.rand_core.specs.Stream.{Stream}
use Rattle.tx_generate.specs.declared.generated.Draw.{Draw}
use Rattle.tx_generate.specs.Generated.{drawn, head, row_text, rows, rows_from, stream_from}

rows_from-more : (i n m : ℕ) (s : Stream) → n ≡ m + 1 → rows_from i n s ≡ row_text i (drawn s).0 ++ rows_from (i + 1) m (drawn s).1
unfolding rows_from
rows_from-more i n m s e = rw (e, add-one m) refl

-- a row more is written
pub written-more : (all out out2 : List ℕ) (i n m : ℕ) (row : Draw) (s t : Stream) → n ≡ m + 1 → (row, t) ≡ drawn s
    → all ≡ out ++ rows_from i n s → out2 ≡ out ++ row_text i row
    → all ≡ out2 ++ rows_from (i + 1) m t
written-more all out out2 i n m row s t e ed eall eout =
    let row_is : row ≡ (drawn s).0 = ap (λ (p : Draw × Stream). p.0) ed in
    let rest_is : t ≡ (drawn s).1 = ap (λ (p : Draw × Stream). p.1) ed in
    eall ∙ ap (λ (x : List ℕ). out ++ x) (rows_from-more i n m s e)
    ∙ sym (append_assoc out (row_text i (drawn s).0) (rows_from (i + 1) m (drawn s).1))
    ∙ (rw (eout, rest_is, row_is) refl)

-- all rows are written
pub written-all : (all out : List ℕ) (i n : ℕ) (s : Stream) → n ≡ 0 → all ≡ out ++ rows_from i n s → out ≡ all
unfolding rows_from
written-all all out i n s e h = sym (h ∙ rw e (append-nil out))

-- the rows of a longer table begin with those of a shorter one
rows_from-split : (i n m : ℕ) (s : Stream) → (behind : List ℕ) × (rows_from i (n + m) s ≡ rows_from i n s ++ behind)
unfolding rows_from
rows_from-split i zero m s = (rows_from i m s, let e : 0 + m ≡ m = omega arith in rw e refl)
rows_from-split i (suc n) m s =
    let rest = rows_from-split (i + 1) n m (drawn s).1 in
    let e : suc n + m ≡ suc (n + m) = omega arith in (
      rest.0,
      rw e (ap (λ (x : List ℕ). row_text i (drawn s).0 ++ x) rest.1
          ∙ sym (append_assoc (row_text i (drawn s).0) (rows_from (i + 1) n (drawn s).1) rest.0)),
    )

pub rows-split : (seed n m : ℕ) → (behind : List ℕ) × (rows seed (n + m) ≡ rows seed n ++ behind)
rows-split seed n m =
    let rest = rows_from-split 1 n m (stream_from seed) in
    (rest.0, ap (λ (x : List ℕ). head ++ x) rest.1 ∙ sym (append_assoc head (rows_from 1 n (stream_from seed)) rest.0))
