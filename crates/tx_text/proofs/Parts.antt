-- Parts of a text between two places.
use Rattle.std.proofs.Common.{◌≡◌, ◌∙◌, sym, ap, ℕ, ◌-◌, ◌≤◌, List, ◌∷◌, ◌++◌, ◌+◌, length, take, drop, IsUtf8, arith, length-append, take-append-drop, take_at, drop-drop}
use Rattle.std.specs.Str.{chars}
use Rattle.std.proofs.Math.Utf8.{encodes}
use Rattle.std.proofs.lemmas.Str.{chars_from_encodes, encodes-append, encodes-chars, IsCharBoundary-at_seam}
use Rattle.std.specs.Prelude.{IsCharBoundary}

-- a text is its first characters' bytes and what follows them
split_at_char : (s rest : List ℕ) (n : ℕ) → IsUtf8 s → IsUtf8 rest → chars rest ≡ drop n (chars s) → s ≡ encodes (take n (chars s)) ++ rest
split_at_char s rest n u v h =
    sym (encodes-chars s u) ∙ (ap encodes (sym (take-append-drop n (chars s))) ∙ (encodes-append (take n (chars s)) (drop n (chars s))
    ∙ ap (λ x. encodes (take n (chars s)) ++ x) (ap encodes (sym h) ∙ encodes-chars rest v)))

front_len : (s rest : List ℕ) (n : ℕ) → s ≡ encodes (take n (chars s)) ++ rest → length (encodes (take n (chars s))) ≡ length s - length rest
front_len s rest n w = omega (arith, ap length w, length-append (encodes (take n (chars s))) rest)

pub IsCharBoundary-front : (s rest : List ℕ) (n : ℕ) → IsUtf8 s → IsUtf8 rest → chars rest ≡ drop n (chars s) → IsCharBoundary s (length s - length rest)
IsCharBoundary-front s rest n u v h =
    let w = split_at_char s rest n u v h in
    rw (← front_len s rest n w) (IsCharBoundary-at_seam s (encodes (take n (chars s))) rest w v)

pub chars-front : (s rest front : List ℕ) (n : ℕ) → IsUtf8 s → IsUtf8 rest → IsUtf8 front → chars rest ≡ drop n (chars s) → front ≡ take (length s - length rest) s → chars front ≡ take n (chars s)
chars-front s rest front n u v uf h e =
    let w = split_at_char s rest n u v h in
    let is : take (length s - length rest) s ≡ encodes (take n (chars s)) = ap (take (length s - length rest)) w ∙ take_at (encodes (take n (chars s))) rest (length s - length rest) (front_len s rest n w) in
    sym (chars_from_encodes (take n (chars s)) front uf (sym (e ∙ is)))

pub rest_within : (s rest : List ℕ) (n : ℕ) → IsUtf8 s → IsUtf8 rest → chars rest ≡ drop n (chars s) → length rest ≤ length s
rest_within s rest n u v h =
    omega (arith, ap length (split_at_char s rest n u v h), length-append (encodes (take n (chars s))) rest)

-- one character further
pub dropped_more : (cs rest more : List ℕ) (c n : ℕ) → rest ≡ c ∷ more → rest ≡ drop n cs → more ≡ drop (n + 1) cs
dropped_more cs rest more c n e h = ap (drop 1) (sym e ∙ h) ∙ drop-drop 1 n cs
