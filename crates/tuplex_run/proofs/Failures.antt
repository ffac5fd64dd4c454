-- The name of the last call that failed, among more and more names.
use Rattle.std.proofs.Common.{◌≡◌, ◌∙◌, ◌<◌, ℕ, List, [], ◌∷◌, length, zero, suc, sym, inl, inr, arith, Contains}
use Rattle.std.specs.Prelude.{slice_index_or}
use Rattle.tx_place.specs.Place.{PlaceState}
use Rattle.tuplex_run.specs.Ends.{FailedAmong}

pub among_more : (P Q : List ℕ → Type 0) (old new : PlaceState) → ((name : List ℕ) → P name → Q name) → FailedAmong P old new → FailedAmong Q old new
among_more P Q old new f (inl same) = inl same
among_more P Q old new f (inr h) = inr (h.0, h.1, f h.0 h.2)

-- no call failed before
pub among_later : (P : List ℕ → Type 0) (old mid new : PlaceState) → mid.failed ≡ old.failed → FailedAmong P mid new → FailedAmong P old new
among_later P old mid new same (inl e) = inl (e ∙ same)
among_later P old mid new same (inr h) = inr h

pub later : (n : List ℕ) (ns : List (List ℕ)) (name : List ℕ) → Contains ns name → Contains (n ∷ ns) name
later n ns name h = (suc h.0, omega (arith, h.1), h.2)

one_at : (a name : List ℕ) (k : ℕ) → k < length (a ∷ []) → slice_index_or (a ∷ []) k name ≡ name → name ≡ a
one_at a name zero l e = sym e
one_at a name (suc k) l e = absurd (omega (arith, l))

pub only_one : (a name : List ℕ) → Contains (a ∷ []) name → name ≡ a
only_one a name h = one_at a name h.0 h.1 h.2
