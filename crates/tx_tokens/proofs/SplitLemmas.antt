-- What `split_once` and `strip_suffix` answer at a character of one byte, by characters.
use Rattle.std.proofs.Common.{◌≡◌, ◌≢◌, ◌∙◌, ◌-◌, ◌==◌, ◌<◌, ◌+◌, ℕ, Bool, true, false, List, [], ◌∷◌, ◌++◌, Option, Some, None, Bor, IfSome, MatchOption, IsAscii, IsUtf8, append-nil, get_or, length, take, ap, subst, sym, arith}
use Rattle.std.specs.Str.{IsCharBoundary, NonePass, chars}
use Rattle.std.specs.Str.Pattern.{FindsChar, FindsCharSuffix, HasMatch, StripsSuffix}
use Rattle.std.specs.Bool.{MatchBool}
use Rattle.std.proofs.Math.Utf8.{encode, encodes}
use Rattle.std.proofs.lemmas.Str.{IsCharBoundary-before_ascii, IsUtf8-from_ascii, IsUtf8-take, chars-IsAscii, chars-append, chars_from_encodes, encodes-append, encodes-chars, len_utf8_ascii}
use Rattle.std.proofs.lemmas.Str.Ascii.{IsAscii-nil, IsAscii-cons}
use Rattle.std.proofs.lemmas.Str.Pattern.{IsSplitOnceResult, split_parts, strip_suffix_char}

module _ (c : ℕ) (s : List ℕ) (u : IsUtf8 s) where
  pub split_none : (r : Option (Bor (List ℕ) × Bor (List ℕ))) → IsSplitOnceResult c s r → r ≡ None → NonePass (λ d. d == c) (chars s)
  split_none None h e = subst (NonePass (λ d. d == c)) (chars_from_encodes h.0 s u h.1) h.2
  split_none (Some x) h e = absurd (cc)

  module _ (low : c < 128) (x : Bor (List ℕ) × Bor (List ℕ)) (h : IsSplitOnceResult c s (Some x)) where
    front_utf8 : IsUtf8 (take h.0 s)
    front_utf8 =
        let inside : h.0 < length s = omega (arith, h.7, h.2.1.ends, len_utf8_ascii c low) in
        let small : get_or s h.0 0 < 128 = omega (arith, h.2.1.byte low) in
        IsUtf8-take s h.0 u (IsCharBoundary-before_ascii s h.0 inside small)

    chars-parts : chars s ≡ chars x.0.now ++ c ∷ chars x.1.now
    chars-parts =
        let mark : chars (c ∷ []) ≡ c ∷ [] = chars-IsAscii (c ∷ []) (IsAscii-cons c [] low IsAscii-nil) in
        let one : IsUtf8 (c ∷ []) = IsUtf8-from_ascii (c ∷ []) (IsAscii-cons c [] low IsAscii-nil) in
        ap chars (split_parts c s (Some x) h low).0 ∙ (chars-append x.0.now (c ∷ x.1.now) (subst IsUtf8 (sym h.3) front_utf8)
        ∙ ap (λ t. chars x.0.now ++ t) (chars-append (c ∷ []) x.1.now one ∙ ap (λ t. t ++ chars x.1.now) mark))

    none_before : NonePass (λ d. d == c) (chars x.0.now)
    none_before =
        let part : NonePass (λ d. d == c) (chars (take h.0 s)) = subst (NonePass (λ d. d == c)) (chars_from_encodes h.2.0.0 (take h.0 s) front_utf8 h.2.0.1) h.2.0.2 in
        subst (λ t. NonePass (λ d. d == c) (chars t)) (sym h.3) part

  pub split_some : c < 128 → (r : Option (Bor (List ℕ) × Bor (List ℕ))) → IsSplitOnceResult c s r → IfSome r (λ x. chars s ≡ chars x.0.now ++ c ∷ chars x.1.now)
  split_some low None h = tt
  split_some low (Some x) h = chars-parts low x h

  pub split_before : c < 128 → (r : Option (Bor (List ℕ) × Bor (List ℕ))) → IsSplitOnceResult c s r → IfSome r (λ x. NonePass (λ d. d == c) (chars x.0.now))
  split_before low None h = tt
  split_before low (Some x) h = none_before low x h

-- ---- a character anywhere

pub lacks : (c : ℕ) (s : List ℕ) (r : Bool) → IsUtf8 s → MatchBool r (HasMatch (FindsChar c) s) (FindsChar c s None) → r ≡ false → NonePass (λ d. d == c) (chars s)
lacks c s true u h e = absurd (cc)
lacks c s false u h e = subst (NonePass (λ d. d == c)) (chars_from_encodes h.0 s u h.1) h.2

-- ---- a character at the end

abbrev Stripped : ℕ → List ℕ → Option (Bor (List ℕ)) → Type 0
Stripped c s r = MatchOption r (FindsCharSuffix c s None) (λ x. StripsSuffix (FindsCharSuffix c) s x.now)

stripped_utf8 : (c : ℕ) (s : List ℕ) (x : Bor (List ℕ)) → IsUtf8 s → Stripped c s (Some x) → IsUtf8 x.now
stripped_utf8 c s x u h =
    subst IsUtf8 (sym h.2) (IsUtf8-take s (length s - h.0) u (subst (λ (k : ℕ). IsCharBoundary s (length s - k)) (sym h.1.0) h.1.2))

pub closed_some : (c : ℕ) (s : List ℕ) (x : Bor (List ℕ)) → IsUtf8 s → c < 128 → Stripped c s (Some x) → chars s ≡ chars x.now ++ c ∷ []
closed_some c s x u low h =
    let a : IsAscii (c ∷ []) = IsAscii-cons c [] low IsAscii-nil in
    let e : s ≡ x.now ++ (c ∷ []) = strip_suffix_char c s (Some x) h low in
    ap chars e ∙ (chars-append x.now (c ∷ []) (stripped_utf8 c s x u h) ∙ ap (λ t. chars x.now ++ t) (chars-IsAscii (c ∷ []) a))

pub closed_none : (c : ℕ) (s : List ℕ) → IsUtf8 s → Stripped c s None → (front : List ℕ) → chars s ≢ front ++ c ∷ []
closed_none c s u h front e =
    h (encodes front) (sym (encodes-chars s u) ∙ (ap encodes e ∙ (encodes-append front (c ∷ []) ∙ ap (λ t. encodes front ++ t) (append-nil (encode c)))))
