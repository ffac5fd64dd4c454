-- The longest mark that a character and what follows it begin.
use Rattle.std.proofs.Common.{◌≡◌, ◌==◌, inl, inr, ℕ, true, false, List, [], ◌∷◌, Option, Some, None, take, find, refl, sym, subst, if◌then◌else◌}
use Rattle.std.specs.List.{AllByRecursion}
use Rattle.std.proofs.lemmas.Bool.{cases_Bool, eqb-true, true≢false}
use Rattle.tx_text.specs.Text.{begins}
use Rattle.tx_tokens.specs.Pieces.{marks}
use Rattle.tx_tokens.specs.Calls.Walking.{is_among, mark_size}

-- the mark in front, by how many characters it has
abbrev pub by_size : ℕ → List ℕ → Option (List ℕ)
by_size n text = if n == 0 then None else Some (take n text)

abbrev Found : ℕ → Type 0
Found c = (text : List ℕ) → find (λ mark. begins mark (c ∷ text)) marks ≡ by_size (mark_size c text) (c ∷ text)

-- ---- by the first character

slash : Found 47
slash [] = refl
slash (d ∷ []) = elim (cases_Bool (47 == d)) [ inl is ↦ rw (is, sym (eqb-true 47 d is)) refl | inr other ↦ rw other refl ]
slash (d ∷ e ∷ text) = elim (cases_Bool (47 == d)) [
  | inl is ↦ elim (cases_Bool (61 == e)) [ inl assigns ↦ rw (is, assigns, sym (eqb-true 47 d is), sym (eqb-true 61 e assigns)) refl | inr other ↦ rw (is, other, sym (eqb-true 47 d is)) refl ]
  | inr other ↦ rw other refl
]

bang : Found 33
bang [] = refl
bang (d ∷ text) = elim (cases_Bool (61 == d)) [ inl is ↦ rw (is, sym (eqb-true 61 d is)) refl | inr other ↦ rw other refl ]

equals : Found 61
equals [] = refl
equals (d ∷ text) = elim (cases_Bool (61 == d)) [ inl is ↦ rw (is, sym (eqb-true 61 d is)) refl | inr other ↦ rw other refl ]

below : Found 60
below [] = refl
below (d ∷ text) = elim (cases_Bool (61 == d)) [ inl is ↦ rw (is, sym (eqb-true 61 d is)) refl | inr other ↦ rw other refl ]

above : Found 62
above [] = refl
above (d ∷ text) = elim (cases_Bool (61 == d)) [ inl is ↦ rw (is, sym (eqb-true 61 d is)) refl | inr other ↦ rw other refl ]

plus : Found 43
plus [] = refl
plus (d ∷ text) = elim (cases_Bool (61 == d)) [ inl is ↦ rw (is, sym (eqb-true 61 d is)) refl | inr other ↦ rw other refl ]

minus : Found 45
minus [] = refl
minus (d ∷ text) = elim (cases_Bool (61 == d)) [ inl is ↦ rw (is, sym (eqb-true 61 d is)) refl | inr other ↦ rw other refl ]

star : Found 42
star [] = refl
star (d ∷ text) = elim (cases_Bool (61 == d)) [ inl is ↦ rw (is, sym (eqb-true 61 d is)) refl | inr other ↦ rw other refl ]

percent : Found 37
percent [] = refl
percent (d ∷ text) = elim (cases_Bool (61 == d)) [ inl is ↦ rw (is, sym (eqb-true 61 d is)) refl | inr other ↦ rw other refl ]

-- ---- any character

abbrev firsts : List ℕ
firsts = 47 ∷ 33 ∷ 61 ∷ 60 ∷ 62 ∷ 43 ∷ 45 ∷ 42 ∷ 37 ∷ 40 ∷ 41 ∷ 91 ∷ 93 ∷ 123 ∷ 125 ∷ 44 ∷ 58 ∷ 46 ∷ []

each : AllByRecursion Found firsts
each = (
  slash,
  (
    bang,
    (
      equals,
      (
        below,
        (
          above,
          (
            plus,
            (
              minus,
              (
                star,
                (
                  percent,
                  ((λ text. refl), ((λ text. refl), ((λ text. refl), ((λ text. refl), ((λ text. refl), ((λ text. refl), ((λ text. refl), ((λ text. refl), ((λ text. refl), tt))))))))),
                ),
              ),
            ),
          ),
        ),
      ),
    ),
  ),
)

at_one : (P : ℕ → Type 0) (ks : List ℕ) (c : ℕ) → AllByRecursion P ks → is_among ks c ≡ true → P c
at_one P [] c all e = absurd (cc)
at_one P (k ∷ ks) c all e = elim (cases_Bool (k == c)) [
  | inl is ↦ subst P (eqb-true k c is) all.0
  | inr other ↦ at_one P ks c all.1 (rw other at e)
]

at_none : (ks : List ℕ) (c : ℕ) → is_among ks c ≡ false → AllByRecursion (λ k. (k == c) ≡ false) ks
at_none [] c e = tt
at_none (k ∷ ks) c e = elim (cases_Bool (k == c)) [
  | inl is ↦ absurd (true≢false (rw is at e))
  | inr other ↦ (other, at_none ks c (rw other at e))
]

none_found : (c : ℕ) (text : List ℕ) → AllByRecursion (λ k. (k == c) ≡ false) firsts → find (λ mark. begins mark (c ∷ text)) marks ≡ by_size (mark_size c text) (c ∷ text)
none_found c text (a, (b, (d, (e, (f, (g, (h, (i, (j, (k, (l, (m, (n, (o, (p, (q, (r, (s, t)))))))))))))))))) =
    rw (a, b, d, e, f, g, h, i, j, k, l, m, n, o, p, q, r, s) refl

pub mark_found : (c : ℕ) (text : List ℕ) → find (λ mark. begins mark (c ∷ text)) marks ≡ by_size (mark_size c text) (c ∷ text)
mark_found c text = elim (cases_Bool (is_among firsts c)) [
  | inl is ↦ at_one Found firsts c each is text
  | inr other ↦ none_found c text (at_none firsts c other)
]
