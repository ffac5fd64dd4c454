-- Digits with single underscores between them, character by character.
use Rattle.std.proofs.Common.{◌≡◌, ◌∙◌, ◌==◌, ◌&&◌, inl, inr, ℕ, Bool, true, false, List, [], ◌∷◌, Some, ap, refl, sym, if◌then◌else◌, filter}
use Rattle.std.specs.List.{list_all}
use Rattle.std.proofs.lemmas.Bool.{cases_Bool, eqb-false, eqb-true, ne_eqb}
use Rattle.tx_text.specs.Text.{is_ascii_digit, onto_first, pieces_from}
use Rattle.tx_num.specs.ReadInt.{is_digits, is_number, read_digits}
use Rattle.tx_num.specs.Calls.Reading.{goes_on, longer_read, number_read}
use Rattle.tx_num.specs.declared.read.IntRead.TheVariants.{NotInt}

-- the first piece may be without digits where a digit stands right before it
abbrev rest_fits : Bool → List (List ℕ) → Bool
rest_fits false ps = list_all is_digits ps
rest_fits true [] = true
rest_fits true (p ∷ ps) = list_all is_ascii_digit p && list_all is_digits ps

abbrev sep : List ℕ
sep = 95 ∷ []

digit_first : (after : Bool) (x : ℕ) (ps : List (List ℕ)) → is_ascii_digit x ≡ true → rest_fits after (onto_first x ps) ≡ rest_fits true ps
digit_first false x [] digit = rw digit refl
digit_first false x (p ∷ ps) digit = rw digit refl
digit_first true x [] digit = rw digit refl
digit_first true x (p ∷ ps) digit = rw digit refl

other_first : (after : Bool) (x : ℕ) (ps : List (List ℕ)) → is_ascii_digit x ≡ false → rest_fits after (onto_first x ps) ≡ false
other_first false x [] other = rw other refl
other_first false x (p ∷ ps) other = rw other refl
other_first true x [] other = rw other refl
other_first true x (p ∷ ps) other = rw other refl

-- an underscore begins a piece
underscore_first : (after : Bool) (text : List ℕ) → goes_on false text ≡ rest_fits false (pieces_from sep 0 text)
    → goes_on after (95 ∷ text) ≡ rest_fits after (pieces_from sep 0 (95 ∷ text))
underscore_first false text rest = refl
underscore_first true text rest = rest

-- anything else goes on with one
piece_goes_on : (x : ℕ) (text : List ℕ) → (x ≡ 95 → ⊥) → pieces_from sep 0 (x ∷ text) ≡ onto_first x (pieces_from sep 0 text)
piece_goes_on x text apart = ap (λ b. if b && true then [] ∷ pieces_from sep 0 text else onto_first x (pieces_from sep 0 text)) (ne_eqb 95 x (λ e. apart (sym e)))

goes_on_by_pieces : (after : Bool) (text : List ℕ) → goes_on after text ≡ rest_fits after (pieces_from sep 0 text)
goes_on_by_pieces false [] = refl
goes_on_by_pieces true [] = refl
goes_on_by_pieces after (x ∷ text) = elim (cases_Bool (x == 95)) [
  | inl is ↦ let here : x ≡ 95 = eqb-true x 95 is in
      ap (λ c. goes_on after (c ∷ text)) here ∙ (underscore_first after text (goes_on_by_pieces false text) ∙ ap (λ c. rest_fits after (pieces_from sep 0 (c ∷ text))) (sym here))
  | inr other ↦ within after x text other (goes_on_by_pieces true text)
]
  where
    within : (after : Bool) (x : ℕ) (text : List ℕ) → (x == 95) ≡ false → goes_on true text ≡ rest_fits true (pieces_from sep 0 text)
        → goes_on after (x ∷ text) ≡ rest_fits after (pieces_from sep 0 (x ∷ text))
    within after x text other rest = elim (cases_Bool (is_ascii_digit x)) [
      | inl digit ↦ ap (λ b. if b then goes_on true text else (x == 95) && (after && goes_on false text)) digit
          ∙ (rest ∙ (sym (digit_first after x (pieces_from sep 0 text) digit) ∙ ap (rest_fits after) (sym (piece_goes_on x text (eqb-false x 95 other)))))
      | inr none ↦ ap (λ b. if b then goes_on true text else (x == 95) && (after && goes_on false text)) none
          ∙ (ap (λ b. b && (after && goes_on false text)) other
          ∙ (sym (other_first after x (pieces_from sep 0 text) none) ∙ ap (rest_fits after) (sym (piece_goes_on x text (eqb-false x 95 other)))))
    ]

pub number_goes_on : (text : List ℕ) → is_number text ≡ goes_on false text
number_goes_on text = sym (goes_on_by_pieces false text)

pub digits_go_on : (negative : Bool) (text : List ℕ) → read_digits negative text ≡ number_read negative (Some 0) false text
digits_go_on negative text = ap (λ b. if b then longer_read negative (Some 0) (filter is_ascii_digit text) else NotInt) (number_goes_on text)
