-- The front of a text before a part that ends it.
use Rattle.std.proofs.Common.{◌≡◌, ◌∙◌, sym, ap, ℕ, zero, suc, [], add-one, ◌-◌, ◌≤◌, List, ◌∷◌, ◌++◌, ◌+◌, length, take, drop, IsUtf8, arith, length-append, take-append-drop, take_at, drop-drop}
use Rattle.std.specs.Str.{chars}
use Rattle.std.proofs.Math.Utf8.{encodes}
use Rattle.std.proofs.lemmas.Str.{chars_from_encodes, encodes-append, encodes-chars, IsCharBoundary-at_seam, length-le-encodes}
use Rattle.std.specs.Prelude.{IsCharBoundary}

-- a text is the bytes of its first characters and what follows them
split : (s rest : List ℕ) (n : ℕ) → IsUtf8 s → IsUtf8 rest → chars rest ≡ drop n (chars s) → s ≡ encodes (take n (chars s)) ++ rest
split s rest n u v h =
    sym (encodes-chars s u) ∙ (ap encodes (sym (take-append-drop n (chars s))) ∙ (encodes-append (take n (chars s)) (drop n (chars s))
    ∙ ap (λ x. encodes (take n (chars s)) ++ x) (ap encodes (sym h) ∙ encodes-chars rest v)))

front_len : (s rest : List ℕ) (n : ℕ) → s ≡ encodes (take n (chars s)) ++ rest → length (encodes (take n (chars s))) ≡ length s - length rest
front_len s rest n w = omega (arith, ap length w, length-append (encodes (take n (chars s))) rest)

pub boundary : (s rest : List ℕ) (n : ℕ) → IsUtf8 s → IsUtf8 rest → chars rest ≡ drop n (chars s) → IsCharBoundary s (length s - length rest)
boundary s rest n u v h =
    let w = split s rest n u v h in
    rw (← front_len s rest n w) (IsCharBoundary-at_seam s (encodes (take n (chars s))) rest w v)

pub chars-front : (s rest before : List ℕ) (n : ℕ) → IsUtf8 s → IsUtf8 rest → IsUtf8 before → chars rest ≡ drop n (chars s) → before ≡ take (length s - length rest) s → chars before ≡ take n (chars s)
chars-front s rest before n u v uf h e =
    let w = split s rest n u v h in
    let is : take (length s - length rest) s ≡ encodes (take n (chars s)) = ap (take (length s - length rest)) w ∙ take_at (encodes (take n (chars s))) rest (length s - length rest) (front_len s rest n w) in
    sym (chars_from_encodes (take n (chars s)) before uf (sym (e ∙ is)))

pub within : (s rest : List ℕ) (n : ℕ) → IsUtf8 s → IsUtf8 rest → chars rest ≡ drop n (chars s) → length rest ≤ length s
within s rest n u v h =
    omega (arith, ap length (split s rest n u v h), length-append (encodes (take n (chars s))) rest)

-- a text has no more characters than bytes
pub length-chars : (s : List ℕ) → IsUtf8 s → length (chars s) ≤ length s
length-chars s u = omega (arith, length-le-encodes (chars s), ap length (encodes-chars s u))

-- one character further
pub dropped_more : (cs rest more : List ℕ) (c n : ℕ) → rest ≡ c ∷ more → rest ≡ drop n cs → more ≡ drop (n + 1) cs
dropped_more cs rest more c n e h = ap (drop 1) (sym e ∙ h) ∙ drop-drop 1 n cs

-- some characters further
pub dropped_by : (cs rest more after : List ℕ) (c n k : ℕ) → rest ≡ c ∷ more → rest ≡ drop n cs → after ≡ drop k (c ∷ more) → after ≡ drop (n + k) cs
dropped_by cs rest more after c n k e h a = a ∙ (ap (drop k) (sym e ∙ h) ∙ drop-drop k n cs)

taken : (n : ℕ) (cs : List ℕ) (c : ℕ) (more : List ℕ) → drop n cs ≡ c ∷ more → take n cs ++ c ∷ [] ≡ take (suc n) cs
taken zero [] c more e = absurd (cc)
taken zero (x ∷ xs) c more e = let same : x ≡ c = cc in ap (λ z. z ∷ []) (sym same)
taken (suc n) [] c more e = absurd (cc)
taken (suc n) (x ∷ xs) c more e = ap (λ t. x ∷ t) (taken n xs c more e)

-- one character more in front
pub taken_more : (cs rest more front next : List ℕ) (c n : ℕ) → rest ≡ c ∷ more → rest ≡ drop n cs → front ≡ take n cs → next ≡ front ++ c ∷ [] → next ≡ take (n + 1) cs
taken_more cs rest more front next c n e h f p = p ∙ (ap (λ t. t ++ c ∷ []) f ∙ (taken n cs c more (sym h ∙ e) ∙ ap (λ k. take k cs) (sym (add-one n))))
