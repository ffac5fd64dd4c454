-- What `split_once` and `rsplit_once` answer at a text, by code points.
use Rattle.std.proofs.Common.{◌≡◌, ◌≢◌, ◌<◌, ◌+◌, List, [], ◌∷◌, refl, ℕ, Option, Some, None, Bor, IfSome, MatchOption, IsUtf8, IsAscii, length, arith, subst, sym}
use Rattle.std.specs.Str.{chars}
use Rattle.std.specs.Str.Pattern.{FindsText, RFindsText, SplitsAroundMatch}
use Rattle.std.proofs.lemmas.Str.{IsAscii-take}
use Rattle.tx_text.specs.Text.{first_place, last_place}
use Rattle.tx_text.specs.Laws.{IsFirstSplit}
use Rattle.tx_text.proofs.Places.{nowhere_by_bytes, first_place_none, last_place_none, first_by_bytes, last_by_bytes, first_split_by_bytes}

abbrev Parts : Type 0
Parts = Option (Bor (List ℕ) × Bor (List ℕ))

abbrev pub SplitsOnce : List ℕ → List ℕ → Parts → Type 0
SplitsOnce p s r = MatchOption r (FindsText p s None) (λ x. SplitsAroundMatch (FindsText p) s x.0.now x.1.now)

abbrev pub SplitsLast : List ℕ → List ℕ → Parts → Type 0
SplitsLast p s r = MatchOption r (RFindsText p s None) (λ x. SplitsAroundMatch (RFindsText p) s x.0.now x.1.now)

module _ (p s : List ℕ) (up : IsUtf8 p) (us : IsUtf8 s) where
  pub split_none : (r : Parts) → SplitsOnce p s r → r ≡ None → first_place (chars p) (chars s) ≡ None
  split_none None h e = first_place_none (chars p) (chars s) (nowhere_by_bytes p s up us h)
  split_none (Some x) h e = absurd (cc)

  pub split_some : (r : Parts) → SplitsOnce p s r → IfSome r (λ x. IsFirstSplit (chars p) (chars s) (chars x.0.now) (chars x.1.now))
  split_some None h = tt
  split_some (Some x) h = first_split_by_bytes p s up us x.0.now x.1.now h.0 h.1 h.2.1 h.3 h.4 h.6 h.2.0

  pub split_shorter : (r : Parts) → p ≢ [] → SplitsOnce p s r → IfSome r (λ x. length x.1.now < length s)
  split_shorter None some h = tt
  split_shorter (Some x) some h = by p some h.2.1.ends
    where
      by : (q : List ℕ) → q ≢ [] → h.1 ≡ h.0 + length q → length x.1.now < length s
      by [] n e = absurd (n refl)
      by (b ∷ bs) n e = omega (arith, h.7)

  pub split_place : (front back : Bor (List ℕ)) → SplitsOnce p s (Some (front, back)) → first_place (chars p) (chars s) ≡ Some (length (chars front.now))
  split_place front back h = first_by_bytes p s up us front.now back.now h.0 h.1 h.2.1 h.3 h.4 h.6 h.2.0

  pub split_last_none : SplitsLast p s None → last_place (chars p) (chars s) ≡ None
  split_last_none h = last_place_none (chars p) (chars s) (nowhere_by_bytes p s up us h)

  pub split_last_place : (front back : Bor (List ℕ)) → SplitsLast p s (Some (front, back)) → last_place (chars p) (chars s) ≡ Some (length (chars front.now))
  split_last_place front back h = last_by_bytes p s up us front.now back.now h.0 h.1 h.2.1 h.3 h.4 h.6 h.2.0

-- a front of an ASCII text is ASCII
pub IsAscii-first : (p s : List ℕ) (front back : Bor (List ℕ)) → IsAscii s → SplitsOnce p s (Some (front, back)) → IsAscii front.now
IsAscii-first p s front back a h = subst IsAscii (sym h.3) (IsAscii-take s h.0 a)

pub IsAscii-last : (p s : List ℕ) (front back : Bor (List ℕ)) → IsAscii s → SplitsLast p s (Some (front, back)) → IsAscii front.now
IsAscii-last p s front back a h = subst IsAscii (sym h.3) (IsAscii-take s h.0 a)
