-- What stands in the span of a token writes it.
use Rattle.std.proofs.Common.{◌≡◌, ◌∙◌, ◌==◌, ◌&&◌, inl, inr, ℕ, zero, suc, ◌+◌, ◌-◌, ◌≤◌, true, false, not, List, [], ◌∷◌, ◌++◌, Option, Some, None, IfSome, Ok, length, take, drop, map, filter, nat_lt, pos, refl, sym, ap, subst, arith, drop-drop}
use Rattle.std.specs.List.{list_any, prefix_len}
use Rattle.std.proofs.lemmas.Bool.{cases_Bool, eqb-true, eqb-false}
use Rattle.std.proofs.lemmas.List.{drop-append-le, take-append-le, length-take-le}
use Rattle.tx_base.specs.Width.{is_128_bit}
use Rattle.tx_text.specs.Text.{begins, is_ascii_digit}
use Rattle.tx_tokens.specs.Lines.{Line, lines}
use Rattle.tx_tokens.specs.Pieces.{Cut, backslash, cut, cuts, cuts_behind, escaped, first_cut, hash, in_front, integer_piece, is_blank, is_integer, is_letter, is_quote, is_word_char, mark_cut, quoted, run, starts_with_dot, text_cut, value_of}
use Rattle.tx_tokens.specs.Layout.{Event, Front, State, behind_line, closing_one, closing_to, cut_events, end_events, events, front_at, front_behind, front_events, front_of, gives_nothing, is_outside, is_tab, last_events, line_events, opened_behind, opened_behind_cut, opened_behind_line, piece_events, token_event}
use Rattle.tx_tokens.specs.Layout.Event.{written, laid, fault}
use Rattle.tx_tokens.specs.Tokens.{byte_order_mark, events_of, start, tokens_behind}
use Rattle.tx_tokens.specs.Laws.{AreSpelled, IsQuoted, IsSpelling, SpellingLaw, part}
use Rattle.tx_tokens.specs.declared.nesting.Open.{Open}
use Rattle.tx_tokens.specs.declared.piece.Piece.{Piece}
use Rattle.tx_tokens.specs.declared.piece.Piece.TheVariants.{Passed, Written, Bad, TooWide}
use Rattle.tx_tokens.specs.declared.token.Token.{Token}
use Rattle.tx_tokens.specs.declared.token.TokenKind.{TokenKind}
use Rattle.tx_tokens.specs.declared.token.TokenKind.TheVariants.{Name, Dedent}
use Rattle.tx_tokens.specs.Calls.Walking.{mark_size}
use Rattle.tx_tokens.proofs.LiteralLemmas.{escape_item, plain_item}
use Rattle.tx_tokens.proofs.MarkLemmas.{by_size, mark_found}
use Rattle.tx_tokens.proofs.CutLemmas.{cut_fits, drop_less, quoted_within}
use Rattle.tx_tokens.proofs.JoinLemmas.{Joined, behind_ending, lines_joined}
use Rattle.tx_tokens.proofs.OrderLemmas.{first_parts}

-- ---- a text literal is read from its own characters alone

abbrev IsAlone : ℕ → List ℕ → Option (List ℕ × ℕ) → Type 0
IsAlone quote text o = IfSome o (λ r. quoted quote (take r.1 text) ≡ Some r)

escape_alone : (quote c d : ℕ) (text : List ℕ) (o : Option ℕ) (q : Option (List ℕ × ℕ)) → (c == quote) ≡ false → (c == backslash) ≡ true → escaped d ≡ o
    → IsAlone quote text q → IsAlone quote (c ∷ d ∷ text) (in_front 2 o q)
escape_alone quote c d text None q other escape e h = tt
escape_alone quote c d text (Some x) None other escape e h = tt
escape_alone quote c d text (Some x) (Some r) other escape e h =
    let two : 2 + r.1 ≡ suc (suc r.1) = omega arith in
    ap (λ n. quoted quote (take n (c ∷ d ∷ text))) two
    ∙ (escape_item quote c d x (d ∷ take r.1 text) (take r.1 text) (eqb-true c backslash escape) refl e (eqb-false c quote other) ∙ ap (in_front 2 (Some x)) h)

plain_alone : (quote c : ℕ) (text : List ℕ) (q : Option (List ℕ × ℕ)) → (c == quote) ≡ false → (c == backslash) ≡ false → IsAlone quote text q → IsAlone quote (c ∷ text) (in_front 1 (Some c) q)
plain_alone quote c text None other plain h = tt
plain_alone quote c text (Some r) other plain h =
    let one : 1 + r.1 ≡ suc r.1 = omega arith in
    ap (λ n. quoted quote (take n (c ∷ text))) one
    ∙ (plain_item quote c (take r.1 text) (eqb-false c backslash plain) (eqb-false c quote other) ∙ ap (in_front 1 (Some c)) h)

quoted_alone : (quote : ℕ) (text : List ℕ) → IsAlone quote text (quoted quote text)
quoted_alone quote [] = tt
quoted_alone quote (c ∷ []) = elim (cases_Bool (c == quote)) [ inl is ↦ rw (is, is) refl | inr other ↦ rw other tt ]
quoted_alone quote (c ∷ d ∷ text) = elim (cases_Bool (c == quote)) [
  | inl is ↦ rw (is, is) refl
  | inr other ↦ elim (cases_Bool (c == backslash)) [
    | inl escape ↦ rw (other, escape) (escape_alone quote c d text (escaped d) (quoted quote text) other escape refl (quoted_alone quote text))
    | inr plain ↦ rw (other, plain) (plain_alone quote c (d ∷ text) (quoted quote (d ∷ text)) other plain (quoted_alone quote (d ∷ text)))
  ]
]

-- ---- a piece

abbrev IsPiece : Piece → List ℕ → Type 0
IsPiece (Written kind) text = IsSpelling kind text
IsPiece _ text = Unit {0}

integer_spelled : (digits behind : List ℕ) → IsPiece (integer_piece digits behind) digits
integer_spelled digits behind = elim (cases_Bool (is_integer digits)) [
  | inl is ↦ elim (cases_Bool (starts_with_dot behind)) [
    | inl stop ↦ rw (is, stop) tt
    | inr none ↦ elim (cases_Bool (is_128_bit (pos (value_of digits)))) [
      | inl fits ↦ rw (is, none, fits) (is, refl)
      | inr past ↦ rw (is, none, past) tt
    ]
  ]
  | inr other ↦ rw other tt
]

text_spelled : (c : ℕ) (text : List ℕ) (o : Option (List ℕ × ℕ)) → is_quote c ≡ true → IsAlone c text o → IfSome o (λ r. r.1 ≤ length text)
    → IsPiece (text_cut o).piece (take (text_cut o).size (c ∷ text))
text_spelled c text None quote h le = tt
text_spelled c text (Some r) quote h le =
    let one : 1 + r.1 ≡ suc r.1 = omega arith in
    let n : length (take r.1 text) ≡ r.1 = length-take-le r.1 text le in
    subst (λ (k : ℕ). IsQuoted r.0 (take k (c ∷ text))) (sym one) (quote, h ∙ ap (λ k. Some (r.0, k)) (sym n))

take_own : (n : ℕ) (text : List ℕ) → take (length (take n text)) text ≡ take n text
take_own zero text = refl
take_own (suc n) [] = refl
take_own (suc n) (c ∷ text) = ap (λ t. c ∷ t) (take_own n text)

mark_spelled : (text : List ℕ) (n : ℕ) → IsPiece (mark_cut (by_size n text)).piece (take (mark_cut (by_size n text)).size text)
mark_spelled text n = elim (cases_Bool (n == 0)) [ inl none ↦ rw none tt | inr some ↦ rw some (take_own n text) ]

module _ (c : ℕ) (text : List ℕ) where
  by_cut : (k : Cut) → first_cut c text ≡ k → IsPiece k.piece (take k.size (c ∷ text)) → IsPiece (first_cut c text).piece (take (first_cut c text).size (c ∷ text))
  by_cut k e h = subst (λ (x : Cut). IsPiece x.piece (take x.size (c ∷ text))) (sym e) h

  first_spelled : IsPiece (first_cut c text).piece (take (first_cut c text).size (c ∷ text))
  first_spelled = elim (cases_Bool (is_blank c)) [
    | inl blank ↦ by_cut (cut Passed (prefix_len is_blank (c ∷ text))) (rw blank refl) tt
    | inr a ↦ elim (cases_Bool (c == hash)) [
      | inl comment ↦ by_cut (cut Passed (length (c ∷ text))) (rw (a, comment) refl) tt
      | inr b ↦ elim (cases_Bool (is_letter c)) [
        | inl letter ↦ by_cut (cut (Written (Name (run is_word_char (c ∷ text)))) (prefix_len is_word_char (c ∷ text))) (rw (a, b, letter) refl) refl
        | inr d ↦ elim (cases_Bool (is_ascii_digit c)) [
          | inl digit ↦ by_cut (cut (integer_piece (run is_word_char (c ∷ text)) (drop (prefix_len is_word_char (c ∷ text)) (c ∷ text))) (prefix_len is_word_char (c ∷ text))) (rw (a, b, d, digit) refl)
              (integer_spelled (run is_word_char (c ∷ text)) (drop (prefix_len is_word_char (c ∷ text)) (c ∷ text)))
          | inr e ↦ elim (cases_Bool (is_quote c)) [
            | inl quote ↦ by_cut (text_cut (quoted c text)) (rw (a, b, d, e, quote) refl) (text_spelled c text (quoted c text) quote (quoted_alone c text) (quoted_within c text))
            | inr f ↦ by_cut (mark_cut (by_size (mark_size c text) (c ∷ text))) (rw (a, b, d, e, f) (ap mark_cut (mark_found c text))) (mark_spelled (c ∷ text) (mark_size c text))
          ]
        ]
      ]
    ]
  ]

-- ---- what a text gives

abbrev Spelled : List ℕ → List Event → Type 0
Spelled all [] = Unit {0}
Spelled all (written t ∷ es) = IsSpelling t.kind (part t.from t.to all) × Spelled all es
Spelled all (laid place kind ∷ es) = IsSpelling kind [] × Spelled all es
Spelled all (fault place e ∷ es) = Spelled all es

then_spelled : (all : List ℕ) (xs ys : List Event) → Spelled all xs → Spelled all ys → Spelled all (xs ++ ys)
then_spelled all [] ys h o = o
then_spelled all (written t ∷ xs) ys h o = (h.0, then_spelled all xs ys h.1 o)
then_spelled all (laid place kind ∷ xs) ys h o = (h.0, then_spelled all xs ys h.1 o)
then_spelled all (fault place e ∷ xs) ys h o = then_spelled all xs ys h o

-- ---- the pieces of a line

token_spelled : (all : List ℕ) (t : Token) (o : Option (List Open)) → IsSpelling t.kind (part t.from t.to all) → Spelled all (token_event t o ∷ [])
token_spelled all t None h = tt
token_spelled all t (Some opened) h = (h, tt)

piece_spelled : (all : List ℕ) (line place size : ℕ) (opened : List Open) (piece : Piece) → IsPiece piece (part place (place + size) all) → Spelled all (piece_events line place size opened piece)
piece_spelled all line place size opened Passed h = tt
piece_spelled all line place size opened (Written kind) h = token_spelled all (record { kind = kind; from = place; to = place + size; line = line }) (opened_behind line opened kind) h
piece_spelled all line place size opened Bad h = tt
piece_spelled all line place size opened TooWide h = tt

module _ (all : List ℕ) (place size : ℕ) (text after : List ℕ) (is : drop place all ≡ text ++ after) (fits : size ≤ length text) where
  part_is : part place (place + size) all ≡ take size text
  part_is =
      let n : place + size - place ≡ size = omega arith in
      ap (λ k. take k (drop place all)) n ∙ (ap (take size) is ∙ take-append-le size text after fits)

  rest_is : drop (place + size) all ≡ drop size text ++ after
  rest_is = sym (drop-drop size place all) ∙ (ap (drop size) is ∙ drop-append-le size text after fits)

cuts_spelled : (all : List ℕ) (line place : ℕ) (opened : List Open) (skip : ℕ) (text after : List ℕ) → drop place all ≡ drop skip text ++ after
    → Spelled all (cut_events line place opened (cuts_behind skip text))
cuts_spelled all line place opened skip [] after is = tt
cuts_spelled all line place opened (suc skip) (c ∷ text) after is = cuts_spelled all line place opened skip text after is
cuts_spelled all line place opened zero (c ∷ text) after is =
    let k : Cut = first_cut c text in
    let fits = cut_fits c text in
    then_spelled all (piece_events line place k.size opened k.piece) (cut_events line (place + k.size) (opened_behind_cut line opened k.piece) (cuts_behind (k.size - 1) text))
    (piece_spelled all line place k.size opened k.piece (subst (IsPiece k.piece) (sym (part_is all place k.size (c ∷ text) after is fits.within)) (first_spelled c text)))
    (cuts_spelled all line (place + k.size) (opened_behind_cut line opened k.piece) (k.size - 1) text after
    (rest_is all place k.size (c ∷ text) after is fits.within ∙ ap (λ t. t ++ after) (sym (drop_less k.size c text fits.some))))

-- ---- the front of a line

abbrev KindsSpelled : List TokenKind → Type 0
KindsSpelled [] = Unit {0}
KindsSpelled (k ∷ ks) = IsSpelling k [] × KindsSpelled ks

laid_spelled : (all : List ℕ) (place : ℕ) (ks : List TokenKind) → KindsSpelled ks → Spelled all (map (laid place) ks)
laid_spelled all place [] h = tt
laid_spelled all place (k ∷ ks) h = (h.0, laid_spelled all place ks h.1)

abbrev FrontSpelled : Option Front → Type 0
FrontSpelled None = Unit {0}
FrontSpelled (Some f) = KindsSpelled f.0

closing_spelled : (o : Option Front) → FrontSpelled o → FrontSpelled (closing_one o)
closing_spelled None h = tt
closing_spelled (Some f) h = (refl, h)

closed_spelled : (column : ℕ) (cs : List ℕ) → FrontSpelled (closing_to column cs)
closed_spelled column [] = tt
closed_spelled column (c ∷ cs) = elim (cases_Bool (nat_lt column c)) [
  | inl below ↦ rw below (closing_spelled (closing_to column cs) (closed_spelled column cs))
  | inr other ↦ rw other (elim (cases_Bool (column == c)) [ inl is ↦ rw is tt | inr none ↦ rw none tt ])
]

at_spelled : (column : ℕ) (cs : List ℕ) → FrontSpelled (front_at column cs)
at_spelled column [] = elim (cases_Bool (column == 0)) [ inl is ↦ rw is tt | inr other ↦ rw other tt ]
at_spelled column (c ∷ cs) = elim (cases_Bool (nat_lt c column)) [
  | inl more ↦ rw more (refl, tt)
  | inr other ↦ rw other (closed_spelled column (c ∷ cs))
]

of_spelled : (content cs : List ℕ) → FrontSpelled (front_of content cs)
of_spelled content cs = elim (cases_Bool (list_any is_tab (run is_blank content))) [
  | inl tabs ↦ rw tabs tt
  | inr none ↦ rw none (at_spelled (prefix_len is_blank content) cs)
]

front_spelled : (s : State) (content : List ℕ) → FrontSpelled (front_behind s content)
front_spelled s content = elim (cases_Bool (is_outside s.opened && not (gives_nothing s content))) [
  | inl begins ↦ rw begins (of_spelled content s.columns)
  | inr other ↦ rw other tt
]

front_events_spelled : (all : List ℕ) (s : State) (o : Option Front) → FrontSpelled o → Spelled all (front_events s o)
front_events_spelled all s None h = tt
front_events_spelled all s (Some f) h = laid_spelled all s.place f.0 h

-- ---- lines

end_spelled : (all : List ℕ) (s : State) (content : List ℕ) → Spelled all (end_events s content)
end_spelled all s content = elim (cases_Bool (is_outside (opened_behind_line s content) && not (gives_nothing s content))) [
  | inl is ↦ rw is (refl, tt)
  | inr other ↦ rw other tt
]

line_spelled : (all : List ℕ) (s : State) (content after : List ℕ) → drop s.place all ≡ content ++ after → Spelled all (line_events s content)
line_spelled all s content after is =
    then_spelled all (front_events s (front_behind s content)) (cut_events s.line s.place s.opened (cuts content) ++ end_events s content) (front_events_spelled all s (front_behind s content) (front_spelled s content))
    (then_spelled all (cut_events s.line s.place s.opened (cuts content)) (end_events s content) (cuts_spelled all s.line s.place s.opened 0 content after is) (end_spelled all s content))

last_spelled : (all : List ℕ) (s : State) (opened : List Open) → Spelled all (last_events s opened)
last_spelled all s [] = by s.place (filter (λ column. nat_lt 0 column) s.columns)
  where
    by : (place : ℕ) (columns : List ℕ) → Spelled all (map (λ column. laid place Dedent) columns)
    by place [] = tt
    by place (c ∷ columns) = (refl, by place columns)
last_spelled all s (o ∷ opened) = tt

events_spelled : (all : List ℕ) (s : State) (ls : List Line) (text : List ℕ) → Joined ls text → drop s.place all ≡ text → Spelled all (events s ls)
events_spelled all s [] text h is = last_spelled all s s.opened
events_spelled all s (line ∷ rest) text (ending, (after, (ends, h))) is =
    then_spelled all (line_events s line.content) (events (behind_line s line) rest) (line_spelled all s line.content (ending ++ after) (is ∙ ends.is))
    (events_spelled all (behind_line s line) rest after h (behind_ending all s.place line rest text ending after ends is))

-- ---- tokens

text_events_spelled : (text : List ℕ) → Spelled text (events_of text)
text_events_spelled [] = events_spelled [] (start 0) [] [] refl refl
text_events_spelled (c ∷ text) = elim (cases_Bool (c == byte_order_mark)) [
  | inl is ↦ rw is (events_spelled (c ∷ text) (start 1) (lines text) text (lines_joined text) refl)
  | inr other ↦ rw other (events_spelled (c ∷ text) (start 0) (lines (c ∷ text)) (c ∷ text) (lines_joined (c ∷ text)) refl)
]

no_part : (place : ℕ) (text : List ℕ) → part place place text ≡ []
no_part place text = let n : place - place ≡ 0 = omega arith in ap (λ k. take k (drop place text)) n

tokens_spelled : (all : List ℕ) (end line : ℕ) (es : List Event) (ts : List Token) → Spelled all es → tokens_behind end line es ≡ Ok ts → AreSpelled all ts
tokens_spelled all end line [] ts h e = let none : ts ≡ [] = cc in subst (AreSpelled all) (sym none) tt
tokens_spelled all end line (written t ∷ es) ts h e =
    let parts = first_parts t (tokens_behind t.to t.line es) ts e in
    subst (AreSpelled all) (sym parts.1.1) (h.0, tokens_spelled all t.to t.line es parts.0 h.1 parts.1.0)
tokens_spelled all end line (laid place kind ∷ es) ts h e =
    let t : Token = record { kind = kind; from = end; to = end; line = line } in
    let parts = first_parts t (tokens_behind end line es) ts e in
    subst (AreSpelled all) (sym parts.1.1) (subst (IsSpelling kind) (sym (no_part end all)) h.0, tokens_spelled all end line es parts.0 h.1 parts.1.0)
tokens_spelled all end line (fault place z ∷ es) ts h e = absurd (cc)

pub spelled : SpellingLaw
spelled text ts e = tokens_spelled text 0 1 (events_of text) ts (text_events_spelled text) e
