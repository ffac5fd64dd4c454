-- The piece in front, by its kind.
use Rattle.std.proofs.Common.{◌≡◌, ◌≢◌, ◌∙◌, ◌==◌, inl, inr, ℕ, ◌+◌, ◌<◌, ◌≤◌, true, false, List, [], ◌∷◌, Some, None, length, take, drop, find, refl, sym, subst, ap, arith, if◌then◌else◌, one-add, eq-eqb, length-take, length-drop}
use Rattle.std.proofs.lemmas.List.{drop_all}
use Rattle.std.specs.List.{list_all, prefix_len}
use Rattle.std.proofs.lemmas.Bool.{cases_Bool, ne_eqb}
use Rattle.std.proofs.lemmas.Bool.Decides.{nat_tests}
use Rattle.std.proofs.lemmas.List.Folds.{length-prefix_len}
use Rattle.tx_text.specs.Text.{begins, is_ascii_digit}
use Rattle.tx_tokens.specs.Pieces.{cut, cuts, first_cut, hash, integer_piece, is_blank, is_letter, is_passed, is_quote, is_word_char, mark_cut, marks, quoted, run, text_cut}
use Rattle.tx_tokens.specs.Calls.Walking.{IsCut, begins_with, delimiters, is_among, mark_size, operators, slash_size, starts_nothing}
use Rattle.tx_tokens.specs.declared.piece.Piece.{Piece}
use Rattle.tx_tokens.specs.declared.piece.Piece.TheVariants.{Passed, Written, Bad}
use Rattle.tx_tokens.specs.declared.token.TokenKind.TheVariants.{Name, Text, Mark}
use Rattle.tx_tokens.proofs.CutLemmas.{cut_fits, cuts_more, passed_is}
use Rattle.tx_tokens.proofs.MarkLemmas.{by_size, mark_found}

-- ---- texts and marks

pub text_none : (quote : ℕ) (more : List ℕ) → quoted quote more ≡ None → IsCut (text_cut (quoted quote more)) (quote ∷ more) Bad 1 more
text_none quote more h = record { same = ap text_cut h; behind = refl }

pub text_some : (quote : ℕ) (more value rest : List ℕ) (size : ℕ) → quoted quote more ≡ Some (value, size) → rest ≡ drop size more → IsCut (text_cut (quoted quote more)) (quote ∷ more) (Written (Text value)) (1 + size) rest
text_some quote more value rest size h d = record { same = ap text_cut h; behind = rw one-add d }

begins_some : (k : ℕ) (text : List ℕ) → begins_with k text ≡ true → 1 ≤ length text
begins_some k [] e = absurd (cc)
begins_some k (d ∷ text) e = omega arith

slash_within : (text : List ℕ) → slash_size text ≤ 1 + length text
slash_within [] = omega arith
slash_within (c ∷ text) = elim (cases_Bool (47 == c)) [
  | inl is ↦ rw is (elim (cases_Bool (begins_with 61 text)) [
    | inl assigns ↦ rw assigns (omega (arith, begins_some 61 text assigns))
    | inr other ↦ rw other (omega arith)
  ])
  | inr other ↦ rw other (omega arith)
]

mark_within : (c : ℕ) (text : List ℕ) → mark_size c text ≤ length (c ∷ text)
mark_within c text = elim (cases_Bool (47 == c)) [
  | inl is ↦ rw is (omega (arith, slash_within text))
  | inr a ↦ rw a (elim (cases_Bool (begins_with 61 text)) [
    | inl assigns ↦ rw assigns (elim (cases_Bool (33 == c)) [
      | inl bang ↦ rw bang (omega (arith, begins_some 61 text assigns))
      | inr b ↦ rw b (elim (cases_Bool (is_among operators c)) [
        | inl operator ↦ rw operator (omega (arith, begins_some 61 text assigns))
        | inr d ↦ rw d (at_most_one c)
      ])
    ])
    | inr other ↦ rw other (elim (cases_Bool (33 == c)) [
      | inl bang ↦ rw bang (omega arith)
      | inr b ↦ rw b (elim (cases_Bool (is_among operators c)) [
        | inl operator ↦ rw operator (omega arith)
        | inr d ↦ rw d (at_most_one c)
      ])
    ])
  ])
]
  where
    at_most_one : (c : ℕ) → (if is_among delimiters c then 1 else 0) ≤ length (c ∷ text)
    at_most_one c = elim (cases_Bool (is_among delimiters c)) [ inl is ↦ rw is (omega arith) | inr other ↦ rw other (omega arith) ]

module _ (c size : ℕ) (more text : List ℕ) (e : text ≡ c ∷ more) (s : size ≡ mark_size c more) where
  found : mark_cut (find (λ mark. begins mark text) marks) ≡ mark_cut (by_size size text)
  found = rw (s, e) (ap mark_cut (mark_found c more))

  pub mark_none : size ≡ 0 → IsCut (mark_cut (find (λ mark. begins mark text) marks)) text Bad 1 more
  mark_none z = record { same = found ∙ rw z refl; behind = rw e refl }

  pub mark_some : (mark rest : List ℕ) → (size ≡ 0 → ⊥) → mark ≡ take size text → rest ≡ drop size text → IsCut (mark_cut (find (λ mark. begins mark text) marks)) text (Written (Mark mark)) size rest
  mark_some mark rest some m r =
      let within : size ≤ length text = rw (s, e) (mark_within c more) in
      let len : length (take size text) ≡ size = omega (arith, length-take size text) in
      record {
        same = found ∙ rw (ne_eqb size 0 some, m, len) refl;
        behind = r;
      }

-- ---- all kinds

module _ (c : ℕ) (more text rest : List ℕ) (n : ℕ) (e : text ≡ c ∷ more) where
  pub blank_piece : is_blank c ≡ true → n ≡ prefix_len is_blank text → rest ≡ drop n text → IsCut (first_cut c more) text Passed n rest
  blank_piece t h d = record { same = rw (h, e, t) refl; behind = d }

  pub comment_piece : is_blank c ≡ false → c ≡ hash → n ≡ length text → rest ≡ [] → IsCut (first_cut c more) text Passed n rest
  comment_piece a is h r = record {
    same = rw (h, e, a, eq-eqb c hash is) refl;
    behind = r ∙ sym (drop_all n text (omega arith));
  }

  pub name_piece : (name : List ℕ) → is_blank c ≡ false → c ≢ hash → is_letter c ≡ true → name ≡ run is_word_char text → n ≡ length name → rest ≡ drop (prefix_len is_word_char text) text
      → IsCut (first_cut c more) text (Written (Name name)) n rest
  name_piece name a b t w h d =
      let len : n ≡ prefix_len is_word_char text = h ∙ (ap length w ∙ length-prefix_len is_word_char text) in
      record {
        same = rw (len, w, e, a, ne_eqb c hash b, t) refl;
        behind = d ∙ ap (λ k. drop k text) (sym len);
      }

  pub digit_piece : (digits : List ℕ) (piece : Piece) → is_blank c ≡ false → c ≢ hash → is_letter c ≡ false → is_ascii_digit c ≡ true → digits ≡ run is_word_char text → n ≡ length digits
      → rest ≡ drop (prefix_len is_word_char text) text → piece ≡ integer_piece digits rest → IsCut (first_cut c more) text piece n rest
  digit_piece digits piece a b t g w h d p =
      let len : n ≡ prefix_len is_word_char text = h ∙ (ap length w ∙ length-prefix_len is_word_char text) in
      record {
        same = rw (p, w, d, len, e, a, ne_eqb c hash b, t, g) refl;
        behind = d ∙ ap (λ k. drop k text) (sym len);
      }

  pub quote_piece : (piece : Piece) → is_blank c ≡ false → c ≢ hash → is_letter c ≡ false → is_ascii_digit c ≡ false → is_quote c ≡ true
      → IsCut (text_cut (quoted c more)) (c ∷ more) piece n rest → IsCut (first_cut c more) text piece n rest
  quote_piece piece a b t g q x = record {
    same = rw (a, ne_eqb c hash b, t, g, q) x.same;
    behind = rw e x.behind;
  }

  pub other_piece : (piece : Piece) → is_blank c ≡ false → c ≢ hash → is_letter c ≡ false → is_ascii_digit c ≡ false → is_quote c ≡ false
      → IsCut (mark_cut (find (λ mark. begins mark text) marks)) text piece n rest → IsCut (first_cut c more) text piece n rest
  other_piece piece a b t g q x =
      let P : List ℕ → Type 0 = λ z. mark_cut (find (λ mark. begins mark z) marks) ≡ cut piece n in
      record {
        same = rw (a, ne_eqb c hash b, t, g, q) (subst P e x.same);
        behind = x.behind;
      }

  pub cuts_is : (piece : Piece) → IsCut (first_cut c more) text piece n rest → cuts text ≡ cut piece n ∷ cuts rest
  cuts_is piece x =
      ap cuts e ∙ (cuts_more c more ∙ (ap (λ k. k ∷ cuts (drop k.size (c ∷ more))) x.same ∙ ap (λ z. cut piece n ∷ cuts z) (ap (drop n) (sym e) ∙ sym x.behind)))

-- ---- sizes

module _ (c : ℕ) (more text rest : List ℕ) (n : ℕ) (piece : Piece) (e : text ≡ c ∷ more) (x : IsCut (first_cut c more) text piece n rest) where
  size_is : (first_cut c more).size ≡ n
  size_is = ap (λ k. k.size) x.same

  pub piece_some : 0 < n
  piece_some = let f = cut_fits c more in omega (arith, f.some, size_is)

  pub piece_size : n + length rest ≡ length text
  piece_size = let f = cut_fits c more in omega (arith, f.within, size_is, ap length e, ap length x.behind, length-drop n text)

-- ---- lines that give nothing

pub passed_by : (content rest : List ℕ) (n : ℕ) → n ≡ prefix_len is_blank content → rest ≡ drop n content → starts_nothing rest ≡ list_all is_passed (cuts content)
passed_by content rest n e h = rw (h, e) (sym (passed_is content))

-- ---- a quote is one byte

pub quote_low : (c : ℕ) → is_quote c ≡ true → c < 128
quote_low c h = grind (arith, nat_tests)
