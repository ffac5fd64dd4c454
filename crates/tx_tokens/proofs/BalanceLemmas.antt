-- Indents and Dedents pair up.
use Rattle.std.proofs.Common.{◌≡◌, ◌∙◌, ◌==◌, ◌&&◌, ◌||◌, inl, inr, ℕ, zero, suc, ◌+◌, ◌-◌, ◌<◌, Bool, true, false, not, List, [], ◌∷◌, ◌++◌, Option, Some, None, Ok, length, drop, find, map, filter, nat_lt, pos, refl, sym, ap, subst, append_assoc, if◌then◌else◌, arith}
use Rattle.std.specs.List.{list_any, prefix_len}
use Rattle.std.proofs.lemmas.Bool.{cases_Bool, le-ltb, lt-ltb, ltb-true}
use Rattle.tx_base.specs.Width.{is_128_bit}
use Rattle.tx_text.specs.Text.{begins, is_ascii_digit}
use Rattle.tx_tokens.specs.Lines.{Line, lines}
use Rattle.tx_tokens.specs.Pieces.{Cut, cut, cuts, cuts_behind, first_cut, hash, integer_piece, is_blank, is_integer, is_letter, is_quote, is_word_char, mark_cut, marks, quoted, run, starts_with_dot, text_cut, value_of}
use Rattle.tx_tokens.specs.Layout.{Event, Front, State, behind_line, closing_one, closing_to, columns_behind, cut_events, end_events, events, front_at, front_behind, front_events, front_of, gives_nothing, is_outside, is_tab, last_events, opened_behind, opened_behind_cut, opened_behind_line, piece_events, token_event}
use Rattle.tx_tokens.specs.Layout.Event.{written, laid, fault}
use Rattle.tx_tokens.specs.Tokens.{byte_order_mark, events_of, start, tokens_behind}
use Rattle.tx_tokens.specs.Laws.{BalanceLaw, depth_at_end, depth_behind}
use Rattle.tx_tokens.specs.declared.nesting.Open.{Open}
use Rattle.tx_tokens.specs.declared.piece.Piece.{Piece}
use Rattle.tx_tokens.specs.declared.piece.Piece.TheVariants.{Passed, Written, Bad, TooWide}
use Rattle.tx_tokens.specs.declared.token.Token.{Token}
use Rattle.tx_tokens.specs.declared.token.TokenKind.{TokenKind}
use Rattle.tx_tokens.specs.declared.token.TokenKind.TheVariants.{Name, Int, Text, Mark, Newline, Indent, Dedent}
use Rattle.tx_tokens.proofs.OrderLemmas.{first_parts}

-- ---- what is open behind some events; behind a fault nothing is said

abbrev Levels : ℕ → ℕ → List Event → Type 0
Levels from to [] = from ≡ to
Levels from to (written t ∷ es) = (depth_behind t.kind from ≡ Some from) × Levels from to es
Levels from to (laid place kind ∷ es) = (mid : ℕ) × ((depth_behind kind from ≡ Some mid) × Levels mid to es)
Levels from to (fault place e ∷ es) = Unit {0}

then_levels : (from mid to : ℕ) (xs ys : List Event) → Levels from mid xs → Levels mid to ys → Levels from to (xs ++ ys)
then_levels from mid to [] ys h o = let P : ℕ → Type 0 = λ n. Levels n to ys in subst P (sym h) o
then_levels from mid to (written t ∷ xs) ys h o = (h.0, then_levels from mid to xs ys h.1 o)
then_levels from mid to (laid place kind ∷ xs) ys h o = (h.0, (h.1.0, then_levels h.0 mid to xs ys h.1.1 o))
then_levels from mid to (fault place e ∷ xs) ys h o = tt

go_on : (from next to : ℕ) (t : Token) (us : List Token) → depth_behind t.kind from ≡ Some next → depth_at_end next us ≡ Some to → depth_at_end from (t ∷ us) ≡ Some to
go_on from next to t us e h = rw e h

levels_hold : (from to end line : ℕ) (es : List Event) (ts : List Token) → Levels from to es → tokens_behind end line es ≡ Ok ts → depth_at_end from ts ≡ Some to
levels_hold from to end line [] ts h e = let none : ts ≡ [] = cc in ap (depth_at_end from) none ∙ ap Some h
levels_hold from to end line (written t ∷ es) ts h e =
    let parts = first_parts t (tokens_behind t.to t.line es) ts e in
    ap (depth_at_end from) parts.1.1 ∙ go_on from from to t parts.0 h.0 (levels_hold from to t.to t.line es parts.0 h.1 parts.1.0)
levels_hold from to end line (laid place kind ∷ es) ts h e =
    let t : Token = record { kind = kind; from = end; to = end; line = line } in
    let parts = first_parts t (tokens_behind end line es) ts e in
    ap (depth_at_end from) parts.1.1 ∙ go_on from h.0 to t parts.0 h.1.0 (levels_hold h.0 to end line es parts.0 h.1.1 parts.1.0)
levels_hold from to end line (fault place z ∷ es) ts h e = absurd (cc)

-- ---- tokens that are written open and close nothing

abbrev is_plain_kind : TokenKind → Bool
is_plain_kind Indent = false
is_plain_kind Dedent = false
is_plain_kind _ = true

abbrev is_plain : Piece → Bool
is_plain (Written kind) = is_plain_kind kind
is_plain _ = true

plain_depth : (kind : TokenKind) (depth : ℕ) → is_plain_kind kind ≡ true → depth_behind kind depth ≡ Some depth
plain_depth (Name n) depth e = refl
plain_depth (Int n) depth e = refl
plain_depth (Text n) depth e = refl
plain_depth (Mark n) depth e = refl
plain_depth Newline depth e = refl
plain_depth Indent depth e = absurd (cc)
plain_depth Dedent depth e = absurd (cc)

integer_plain : (digits behind : List ℕ) → is_plain (integer_piece digits behind) ≡ true
integer_plain digits behind = elim (cases_Bool (not (is_integer digits) || starts_with_dot behind)) [
  | inl bad ↦ rw bad refl
  | inr good ↦ rw good (elim (cases_Bool (is_128_bit (pos (value_of digits)))) [ inl fits ↦ rw fits refl | inr past ↦ rw past refl ])
]

text_plain : (o : Option (List ℕ × ℕ)) → is_plain (text_cut o).piece ≡ true
text_plain None = refl
text_plain (Some r) = refl

mark_plain : (o : Option (List ℕ)) → is_plain (mark_cut o).piece ≡ true
mark_plain None = refl
mark_plain (Some m) = refl

module _ (c : ℕ) (text : List ℕ) where
  by_cut : (k : Cut) → first_cut c text ≡ k → is_plain k.piece ≡ true → is_plain (first_cut c text).piece ≡ true
  by_cut k e h = ap (λ x. is_plain x.piece) e ∙ h

  first_plain : is_plain (first_cut c text).piece ≡ true
  first_plain = elim (cases_Bool (is_blank c)) [
    | inl blank ↦ by_cut (cut Passed (prefix_len is_blank (c ∷ text))) (rw blank refl) refl
    | inr a ↦ elim (cases_Bool (c == hash)) [
      | inl comment ↦ by_cut (cut Passed (length (c ∷ text))) (rw (a, comment) refl) refl
      | inr b ↦ elim (cases_Bool (is_letter c)) [
        | inl letter ↦ by_cut (cut (Written (Name (run is_word_char (c ∷ text)))) (prefix_len is_word_char (c ∷ text))) (rw (a, b, letter) refl) refl
        | inr d ↦ elim (cases_Bool (is_ascii_digit c)) [
          | inl digit ↦ by_cut (cut (integer_piece (run is_word_char (c ∷ text)) (drop (prefix_len is_word_char (c ∷ text)) (c ∷ text))) (prefix_len is_word_char (c ∷ text))) (rw (a, b, d, digit) refl)
              (integer_plain (run is_word_char (c ∷ text)) (drop (prefix_len is_word_char (c ∷ text)) (c ∷ text)))
          | inr e ↦ elim (cases_Bool (is_quote c)) [
            | inl quote ↦ by_cut (text_cut (quoted c text)) (rw (a, b, d, e, quote) refl) (text_plain (quoted c text))
            | inr f ↦ by_cut (mark_cut (find (λ mark. begins mark (c ∷ text)) marks)) (rw (a, b, d, e, f) refl) (mark_plain (find (λ mark. begins mark (c ∷ text)) marks))
          ]
        ]
      ]
    ]
  ]

abbrev Plain : List Cut → Type 0
Plain [] = Unit {0}
Plain (c ∷ cs) = (is_plain c.piece ≡ true) × Plain cs

cuts_plain : (skip : ℕ) (text : List ℕ) → Plain (cuts_behind skip text)
cuts_plain skip [] = tt
cuts_plain (suc skip) (c ∷ text) = cuts_plain skip text
cuts_plain zero (c ∷ text) = (first_plain c text, cuts_plain ((first_cut c text).size - 1) text)

token_levels : (depth : ℕ) (t : Token) (o : Option (List Open)) → is_plain_kind t.kind ≡ true → Levels depth depth (token_event t o ∷ [])
token_levels depth t None e = tt
token_levels depth t (Some opened) e = (plain_depth t.kind depth e, refl)

piece_levels : (depth line place size : ℕ) (opened : List Open) (piece : Piece) → is_plain piece ≡ true → Levels depth depth (piece_events line place size opened piece)
piece_levels depth line place size opened Passed e = refl
piece_levels depth line place size opened (Written kind) e = token_levels depth (record { kind = kind; from = place; to = place + size; line = line }) (opened_behind line opened kind) e
piece_levels depth line place size opened Bad e = tt
piece_levels depth line place size opened TooWide e = tt

cut_levels : (depth line place : ℕ) (opened : List Open) (cs : List Cut) → Plain cs → Levels depth depth (cut_events line place opened cs)
cut_levels depth line place opened [] p = refl
cut_levels depth line place opened (c ∷ cs) p =
    then_levels depth depth depth (piece_events line place c.size opened c.piece) (cut_events line (place + c.size) (opened_behind_cut line opened c.piece) cs)
    (piece_levels depth line place c.size opened c.piece p.0) (cut_levels depth line (place + c.size) (opened_behind_cut line opened c.piece) cs p.1)

-- ---- columns fall strictly to 0, and there is one more of them than is open

abbrev Depth : List ℕ → ℕ → Type 0
Depth [] depth = depth ≡ 0
Depth (c ∷ []) depth = (c ≡ 0) × (depth ≡ 0)
Depth (c ∷ k ∷ cs) depth = (k < c) × ((n : ℕ) × ((depth ≡ suc n) × Depth (k ∷ cs) n))

abbrev KindLevels : ℕ → ℕ → List TokenKind → Type 0
KindLevels from to [] = from ≡ to
KindLevels from to (k ∷ ks) = (mid : ℕ) × ((depth_behind k from ≡ Some mid) × KindLevels mid to ks)

laid_levels : (from to place : ℕ) (ks : List TokenKind) → KindLevels from to ks → Levels from to (map (laid place) ks)
laid_levels from to place [] h = h
laid_levels from to place (k ∷ ks) h = (h.0, (h.1.0, laid_levels h.0 to place ks h.1.1))

abbrev FrontLevels : ℕ → Option Front → Type 0
FrontLevels depth None = Unit {0}
FrontLevels depth (Some f) = (to : ℕ) × (KindLevels depth to f.0 × Depth f.1 to)

closing_levels : (depth n : ℕ) (o : Option Front) → depth ≡ suc n → FrontLevels n o → FrontLevels depth (closing_one o)
closing_levels depth n None e h = tt
closing_levels depth n (Some f) e h = (h.0, ((n, (rw e refl, h.1.0)), h.1.1))

same_levels : (column depth last : ℕ) (cs : List ℕ) → Depth (last ∷ cs) depth → FrontLevels depth (if column == last then Some ([], last ∷ cs) else None)
same_levels column depth last cs h = elim (cases_Bool (column == last)) [ inl is ↦ rw is (depth, (refl, h)) | inr other ↦ rw other tt ]

closed_levels : (column depth : ℕ) (cs : List ℕ) → Depth cs depth → FrontLevels depth (closing_to column cs)
closed_levels column depth [] h = tt
closed_levels column depth (c ∷ []) h = elim (cases_Bool (nat_lt column c)) [
  | inl below ↦ rw below tt
  | inr other ↦ rw other (same_levels column depth c [] h)
]
closed_levels column depth (c ∷ k ∷ cs) h = elim (cases_Bool (nat_lt column c)) [
  | inl below ↦ rw below (closing_levels depth h.1.0 (closing_to column (k ∷ cs)) h.1.1.0 (closed_levels column h.1.0 (k ∷ cs) h.1.1.1))
  | inr other ↦ rw other (same_levels column depth c (k ∷ cs) h)
]

at_levels : (column depth : ℕ) (cs : List ℕ) → Depth cs depth → FrontLevels depth (front_at column cs)
at_levels column depth [] h = elim (cases_Bool (column == 0)) [ inl is ↦ rw is (0, (h, (refl, refl))) | inr other ↦ rw other tt ]
at_levels column depth (c ∷ cs) h = elim (cases_Bool (nat_lt c column)) [
  | inl more ↦ rw more (suc depth, ((suc depth, (refl, refl)), (ltb-true c column more, (depth, (refl, h)))))
  | inr other ↦ rw other (closed_levels column depth (c ∷ cs) h)
]

of_levels : (content : List ℕ) (depth : ℕ) (cs : List ℕ) → Depth cs depth → FrontLevels depth (front_of content cs)
of_levels content depth cs h = elim (cases_Bool (list_any is_tab (run is_blank content))) [
  | inl tabs ↦ rw tabs tt
  | inr none ↦ rw none (at_levels (prefix_len is_blank content) depth cs h)
]

front_levels : (s : State) (content : List ℕ) (depth : ℕ) → Depth s.columns depth → FrontLevels depth (front_behind s content)
front_levels s content depth h = elim (cases_Bool (is_outside s.opened && not (gives_nothing s content))) [
  | inl begins ↦ rw begins (of_levels content depth s.columns h)
  | inr other ↦ rw other (depth, (refl, h))
]

-- ---- lines

end_levels : (s : State) (content : List ℕ) (depth : ℕ) → Levels depth depth (end_events s content)
end_levels s content depth = elim (cases_Bool (is_outside (opened_behind_line s content) && not (gives_nothing s content))) [
  | inl is ↦ rw is (depth, (refl, refl))
  | inr other ↦ rw other refl
]

line_levels : (s : State) (content : List ℕ) (depth : ℕ) (o : Option Front) (rest : List Event) → FrontLevels depth o
    → ((to : ℕ) → Depth (columns_behind s o) to → Levels to 0 rest)
    → Levels depth 0 (front_events s o ++ ((cut_events s.line s.place s.opened (cuts content) ++ end_events s content) ++ rest))
line_levels s content depth None rest h next = tt
line_levels s content depth (Some f) rest h next =
    then_levels depth h.0 0 (map (laid s.place) f.0) ((cut_events s.line s.place s.opened (cuts content) ++ end_events s content) ++ rest) (laid_levels depth h.0 s.place f.0 h.1.0)
    (then_levels h.0 h.0 0 (cut_events s.line s.place s.opened (cuts content) ++ end_events s content) rest
    (then_levels h.0 h.0 h.0 (cut_events s.line s.place s.opened (cuts content)) (end_events s content) (cut_levels h.0 s.line s.place s.opened (cuts content) (cuts_plain 0 content)) (end_levels s content h.0))
    (next h.0 h.1.1))

last_levels : (place depth : ℕ) (cs : List ℕ) → Depth cs depth → Levels depth 0 (map (λ column. laid place Dedent) (filter (λ column. nat_lt 0 column) cs))
last_levels place depth [] h = h
last_levels place depth (c ∷ []) h = let none : nat_lt 0 c ≡ false = le-ltb 0 c (omega (arith, h.0)) in rw none h.1
last_levels place depth (c ∷ k ∷ cs) h =
    let some : nat_lt 0 c ≡ true = lt-ltb 0 c (omega (arith, h.0)) in
    let one : depth_behind Dedent depth ≡ Some h.1.0 = rw h.1.1.0 refl in
    rw some (h.1.0, (one, last_levels place h.1.0 (k ∷ cs) h.1.1.1))

events_levels : (s : State) (ls : List Line) (depth : ℕ) → Depth s.columns depth → Levels depth 0 (events s ls)
events_levels s [] depth h = by s.opened
  where
    by : (opened : List Open) → Levels depth 0 (last_events s opened)
    by [] = last_levels s.place depth s.columns h
    by (o ∷ opened) = tt
events_levels s (line ∷ rest) depth h =
    let all = line_levels s line.content depth (front_behind s line.content) (events (behind_line s line) rest) (front_levels s line.content depth h) (λ to k. events_levels (behind_line s line) rest to k) in
    let P : List Event → Type 0 = λ es. Levels depth 0 es in
    subst P (sym (append_assoc (front_events s (front_behind s line.content)) (cut_events s.line s.place s.opened (cuts line.content) ++ end_events s line.content) (events (behind_line s line) rest))) all

text_levels : (text : List ℕ) → Levels 0 0 (events_of text)
text_levels [] = events_levels (start 0) [] 0 refl
text_levels (c ∷ text) = elim (cases_Bool (c == byte_order_mark)) [
  | inl is ↦ rw is (events_levels (start 1) (lines text) 0 refl)
  | inr other ↦ rw other (events_levels (start 0) (lines (c ∷ text)) 0 refl)
]

pub balanced : BalanceLaw
balanced text ts e = levels_hold 0 0 0 1 (events_of text) ts (text_levels text) e
