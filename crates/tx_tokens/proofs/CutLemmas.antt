-- The cutting of a line, piece by piece.
use Rattle.std.proofs.Common.{◌≡◌, ◌∙◌, ◌==◌, ◌||◌, inl, inr, ℕ, zero, suc, ◌+◌, ◌-◌, ◌<◌, ◌≤◌, Bool, true, false, not, List, [], ◌∷◌, Option, Some, None, IfSome, length, drop, find, pos, refl, sym, ap, arith, one-add, length-take, subst}
use Rattle.std.specs.List.{list_all, prefix_len}
use Rattle.std.proofs.lemmas.Bool.{cases_Bool, eqb-false, or_left, or_right}
use Rattle.std.proofs.lemmas.List.{drop_all}
use Rattle.std.proofs.lemmas.List.Sums.{prefix_len-le-length}
use Rattle.tx_text.specs.Text.{begins, is_ascii_digit}
use Rattle.tx_tokens.specs.Pieces.{Cut, backslash, cut, cuts, cuts_behind, escaped, first_cut, hash, in_front, integer_piece, is_blank, is_integer, is_letter, is_passed, is_passed_piece, is_quote, is_word_char, mark_cut, marks, quoted, run, starts_with_dot, text_cut, value_of}
use Rattle.tx_base.specs.Width.{is_128_bit}
use Rattle.tx_tokens.specs.declared.piece.Piece.TheVariants.{Passed, Written}
use Rattle.tx_tokens.specs.declared.token.TokenKind.TheVariants.{Name}
use Rattle.tx_tokens.specs.Calls.Walking.{mark_size, starts_nothing}
use Rattle.tx_tokens.proofs.MarkLemmas.{by_size, mark_found}

-- ---- how long a piece is

pub record Fits (size : ℕ) (text : List ℕ) : Type 0 where
  pub some : 0 < size
  pub within : size ≤ length text

front_within : (size : ℕ) (item : Option ℕ) (o : Option (List ℕ × ℕ)) (text : List ℕ) → IfSome o (λ r. r.1 ≤ length text) → IfSome (in_front size item o) (λ r. r.1 ≤ size + length text)
front_within size None o text h = tt
front_within size (Some c) None text h = tt
front_within size (Some c) (Some r) text h = omega arith

weaker : (o : Option (List ℕ × ℕ)) (m n : ℕ) → m ≤ n → IfSome o (λ r. r.1 ≤ m) → IfSome o (λ r. r.1 ≤ n)
weaker None m n le h = tt
weaker (Some r) m n le h = omega arith

pub quoted_within : (quote : ℕ) (text : List ℕ) → IfSome (quoted quote text) (λ r. r.1 ≤ length text)
quoted_within quote [] = tt
quoted_within quote (c ∷ []) = elim (cases_Bool (c == quote)) [ inl is ↦ rw is (omega arith) | inr other ↦ rw other tt ]
quoted_within quote (c ∷ d ∷ text) = elim (cases_Bool (c == quote)) [
  | inl is ↦ rw is (omega arith)
  | inr other ↦ rw other (elim (cases_Bool (c == backslash)) [
    | inl escape ↦ rw escape (weaker (in_front 2 (escaped d) (quoted quote text)) (2 + length text) (length (c ∷ d ∷ text)) (omega arith) (front_within 2 (escaped d) (quoted quote text) text (quoted_within quote text)))
    | inr plain ↦ rw plain (weaker (in_front 1 (Some c) (quoted quote (d ∷ text))) (1 + length (d ∷ text)) (length (c ∷ d ∷ text)) (omega arith) (front_within 1 (Some c) (quoted quote (d ∷ text)) (d ∷ text) (quoted_within quote (d ∷ text))))
  ])
]

text_fits : (c : ℕ) (text : List ℕ) (o : Option (List ℕ × ℕ)) → IfSome o (λ r. r.1 ≤ length text) → Fits (text_cut o).size (c ∷ text)
text_fits c text None h = record { some = omega arith; within = omega arith }
text_fits c text (Some r) h = record { some = omega arith; within = omega arith }

mark_fits : (c : ℕ) (text : List ℕ) (n : ℕ) → Fits (mark_cut (by_size n (c ∷ text))).size (c ∷ text)
mark_fits c text n = elim (cases_Bool (n == 0)) [
  | inl none ↦ rw none (record { some = omega arith; within = omega arith })
  | inr some ↦ rw some (record {
    some = omega (arith, length-take n (c ∷ text), eqb-false n 0 some);
    within = omega (arith, length-take n (c ∷ text));
  })
]

run_fits : (p : ℕ → Bool) (c : ℕ) (text : List ℕ) → p c ≡ true → Fits (prefix_len p (c ∷ text)) (c ∷ text)
run_fits p c text e = record {
  some = rw e (omega arith);
  within = prefix_len-le-length p (c ∷ text);
}

module _ (c : ℕ) (text : List ℕ) where
  fits_by : (k : Cut) → first_cut c text ≡ k → Fits k.size (c ∷ text) → Fits (first_cut c text).size (c ∷ text)
  fits_by k e h = subst (λ (x : Cut). Fits x.size (c ∷ text)) (sym e) h

  pub cut_fits : Fits (first_cut c text).size (c ∷ text)
  cut_fits = elim (cases_Bool (is_blank c)) [
    | inl blank ↦ fits_by (cut Passed (prefix_len is_blank (c ∷ text))) (rw blank refl) (run_fits is_blank c text blank)
    | inr a ↦ elim (cases_Bool (c == hash)) [
      | inl comment ↦ fits_by (cut Passed (length (c ∷ text))) (rw (a, comment) refl) (record { some = omega arith; within = omega arith })
      | inr b ↦ elim (cases_Bool (is_letter c)) [
        | inl letter ↦ fits_by (cut (Written (Name (run is_word_char (c ∷ text)))) (prefix_len is_word_char (c ∷ text))) (rw (a, b, letter) refl) (run_fits is_word_char c text (or_left (is_letter c) (is_ascii_digit c) letter))
        | inr d ↦ elim (cases_Bool (is_ascii_digit c)) [
          | inl digit ↦ fits_by (cut (integer_piece (run is_word_char (c ∷ text)) (drop (prefix_len is_word_char (c ∷ text)) (c ∷ text))) (prefix_len is_word_char (c ∷ text))) (rw (a, b, d, digit) refl)
              (run_fits is_word_char c text (or_right (is_letter c) (is_ascii_digit c) digit))
          | inr e ↦ elim (cases_Bool (is_quote c)) [
            | inl quote ↦ fits_by (text_cut (quoted c text)) (rw (a, b, d, e, quote) refl) (text_fits c text (quoted c text) (quoted_within c text))
            | inr f ↦ fits_by (mark_cut (by_size (mark_size c text) (c ∷ text))) (rw (a, b, d, e, f) (ap mark_cut (mark_found c text))) (mark_fits c text (mark_size c text))
          ]
        ]
      ]
    ]
  ]

-- ---- one piece more

pub cuts_skip : (skip : ℕ) (text : List ℕ) → cuts_behind skip text ≡ cuts (drop skip text)
cuts_skip zero text = refl
cuts_skip (suc skip) [] = refl
cuts_skip (suc skip) (c ∷ text) = cuts_skip skip text

pub drop_less : (n c : ℕ) (text : List ℕ) → 0 < n → drop (n - 1) text ≡ drop n (c ∷ text)
drop_less zero c text some = absurd (omega arith)
drop_less (suc n) c text some = let e : suc n - 1 ≡ n = omega arith in rw e refl

pub cuts_more : (c : ℕ) (text : List ℕ) → cuts (c ∷ text) ≡ first_cut c text ∷ cuts (drop (first_cut c text).size (c ∷ text))
cuts_more c text =
    ap (λ cs. first_cut c text ∷ cs) (cuts_skip ((first_cut c text).size - 1) text ∙ ap cuts (drop_less (first_cut c text).size c text (cut_fits c text).some))

-- ---- blanks and comments

integer_written : (digits behind : List ℕ) → is_passed_piece (integer_piece digits behind) ≡ false
integer_written digits behind = elim (cases_Bool (not (is_integer digits) || starts_with_dot behind)) [
  | inl bad ↦ rw bad refl
  | inr good ↦ rw good (elim (cases_Bool (is_128_bit (pos (value_of digits)))) [ inl fits ↦ rw fits refl | inr past ↦ rw past refl ])
]

text_written : (o : Option (List ℕ × ℕ)) → is_passed (text_cut o) ≡ false
text_written None = refl
text_written (Some r) = refl

mark_written : (o : Option (List ℕ)) → is_passed (mark_cut o) ≡ false
mark_written None = refl
mark_written (Some m) = refl

pub other_written : (c : ℕ) (text : List ℕ) → is_blank c ≡ false → (c == hash) ≡ false → is_passed (first_cut c text) ≡ false
other_written c text a b = elim (cases_Bool (is_letter c)) [
  | inl letter ↦ by (cut (Written (Name (run is_word_char (c ∷ text)))) (prefix_len is_word_char (c ∷ text))) (rw (a, b, letter) refl) refl
  | inr d ↦ elim (cases_Bool (is_ascii_digit c)) [
    | inl digit ↦ by (cut (integer_piece (run is_word_char (c ∷ text)) (drop (prefix_len is_word_char (c ∷ text)) (c ∷ text))) (prefix_len is_word_char (c ∷ text))) (rw (a, b, d, digit) refl)
        (integer_written (run is_word_char (c ∷ text)) (drop (prefix_len is_word_char (c ∷ text)) (c ∷ text)))
    | inr e ↦ elim (cases_Bool (is_quote c)) [
      | inl quote ↦ by (text_cut (quoted c text)) (rw (a, b, d, e, quote) refl) (text_written (quoted c text))
      | inr f ↦ by (mark_cut (find (λ mark. begins mark (c ∷ text)) marks)) (rw (a, b, d, e, f) refl) (mark_written (find (λ mark. begins mark (c ∷ text)) marks))
    ]
  ]
]
  where
    by : (k : Cut) → first_cut c text ≡ k → is_passed k ≡ false → is_passed (first_cut c text) ≡ false
    by k e h = ap is_passed e ∙ h

-- behind the longest front of characters that pass a test no more of them stand
after_run : (p : ℕ → Bool) (text : List ℕ) → prefix_len p (drop (prefix_len p text) text) ≡ 0
after_run p [] = refl
after_run p (c ∷ text) = elim (cases_Bool (p c)) [
  | inl is ↦ rw (is, one-add) (after_run p text)
  | inr other ↦ let e : prefix_len p (c ∷ text) ≡ 0 = rw other refl in ap (λ n. prefix_len p (drop n (c ∷ text))) e ∙ e
]

no_blank : (text : List ℕ) → prefix_len is_blank text ≡ 0 → list_all is_passed (cuts text) ≡ starts_nothing text
no_blank [] e = refl
no_blank (c ∷ text) e = elim (cases_Bool (is_blank c)) [
  | inl blank ↦ absurd (let f : 1 + prefix_len is_blank text ≡ 0 = rw blank at e in omega arith)
  | inr a ↦ elim (cases_Bool (c == hash)) [
    | inl comment ↦ comment_passes a comment
    | inr b ↦ ap (list_all is_passed) (cuts_more c text) ∙ rw (other_written c text a b, b) refl
  ]
]
  where
    comment_passes : is_blank c ≡ false → (c == hash) ≡ true → list_all is_passed (cuts (c ∷ text)) ≡ (c == hash)
    comment_passes a comment =
        let is : first_cut c text ≡ cut Passed (length (c ∷ text)) = rw (a, comment) refl in
        ap (list_all is_passed) (cuts_more c text ∙ ap (λ k. k ∷ cuts (drop k.size (c ∷ text))) is) ∙ rw (drop_all (length (c ∷ text)) (c ∷ text) (omega arith), comment) refl

pub passed_is : (text : List ℕ) → list_all is_passed (cuts text) ≡ starts_nothing (drop (prefix_len is_blank text) text)
passed_is [] = refl
passed_is (c ∷ text) = elim (cases_Bool (is_blank c)) [
  | inl blank ↦ behind blank
  | inr other ↦ let e : prefix_len is_blank (c ∷ text) ≡ 0 = rw other refl in no_blank (c ∷ text) e ∙ ap (λ n. starts_nothing (drop n (c ∷ text))) (sym e)
]
  where
    behind : is_blank c ≡ true → list_all is_passed (cuts (c ∷ text)) ≡ starts_nothing (drop (prefix_len is_blank (c ∷ text)) (c ∷ text))
    behind blank =
        let is : first_cut c text ≡ cut Passed (prefix_len is_blank (c ∷ text)) = rw blank refl in
        ap (list_all is_passed) (cuts_more c text ∙ ap (λ k. k ∷ cuts (drop k.size (c ∷ text))) is)
        ∙ no_blank (drop (prefix_len is_blank (c ∷ text)) (c ∷ text)) (after_run is_blank (c ∷ text))
