-- What one token more does to the answer.
use Rattle.std.proofs.Common.{◌≡◌, ◌∙◌, ℕ, ◌+◌, Bool, List, [], ◌∷◌, ◌++◌, Some, None, Ok, Err, length, refl, sym, ap, append_assoc, append-nil, arith, eq-eqb, subst, Result, IfErr, IsErrAnd}
use Rattle.std.specs.List.{last_or}
use Rattle.tx_tokens.specs.Pieces.{cut, cuts}
use Rattle.tx_tokens.specs.Layout.{Event, State, behind_line, columns_behind, cut_events, end_events, events, first_line, front_behind, front_events, gives_nothing, last_events, line_events, opened_behind_cut, opened_behind_cuts, opened_behind_line, piece_events}
use Rattle.tx_tokens.specs.Layout.Event.{written, laid}
use Rattle.std.proofs.lemmas.Bool.{ne_eqb}
use Rattle.tx_tokens.specs.Lines.{lines}
use Rattle.tx_tokens.specs.Tokens.{Tokens, byte_order_mark, events_of, start, tokens_behind, tokens_of, with_first}
use Rattle.tx_tokens.specs.Calls.Reading.{Failed, Gave, answer, newline_events, state_of, with_front}
use Rattle.tx_tokens.specs.declared.nesting.Open.{Open}
use Rattle.tx_tokens.specs.declared.piece.Piece.{Piece}
use Rattle.tx_tokens.specs.declared.reader.Reader.{Reader}
use Rattle.tx_tokens.specs.declared.token.Token.{Token}
use Rattle.tx_tokens.specs.declared.token.TokenError.{TokenError}
use Rattle.tx_tokens.specs.declared.token.TokenError.TheVariants.{BadToken}
use Rattle.tx_tokens.specs.declared.token.TokenKind.{TokenKind}

pub with_front_more : (front : List Token) (t : Token) (x : Tokens) → with_front (front ++ t ∷ []) x ≡ with_front front (with_first t x)
with_front_more front t (Ok ts) = ap Ok (append_assoc front (t ∷ []) ts)
with_front_more front t (Err e) = refl

pub with_front_none : (x : Tokens) → with_front [] x ≡ x
with_front_none (Ok ts) = refl
with_front_none (Err e) = refl

-- a token of the layout
pub laid_gives : (old new : Reader) (place : ℕ) (kind : TokenKind)
    → new ≡ record old { tokens = old.tokens ++ (record { kind = kind; from = old.end; to = old.end; line = old.end_line }) ∷ [] }
    → (es : List Event) → answer old (laid place kind ∷ es) ≡ answer new es
laid_gives old new place kind e es = rw e (sym (with_front_more old.tokens (record { kind = kind; from = old.end; to = old.end; line = old.end_line }) (tokens_behind old.end old.end_line es)))

-- a token that is written in the text
pub written_gives : (old mid new : Reader) (opened : List Open) (kind : TokenKind) (size : ℕ)
    → mid ≡ record old { opened = opened }
    → new ≡ record mid { tokens = mid.tokens ++ (record { kind = kind; from = mid.place; to = mid.place + size; line = mid.line }) ∷ []; place = mid.place + size; end = mid.place + size; end_line = mid.line }
    → (es : List Event) → answer old (written (record { kind = kind; from = old.place; to = old.place + size; line = old.line }) ∷ es) ≡ answer new es
written_gives old mid new opened kind size m e es =
    rw (e, m) (sym (with_front_more old.tokens (record { kind = kind; from = old.place; to = old.place + size; line = old.line }) (tokens_behind (old.place + size) old.line es)))

-- ---- events one behind another

pub gave_all : (a b c d : Reader) (xs ys zs : List Event) → Gave a b xs → Gave b c ys → Gave c d zs → Gave a d (xs ++ (ys ++ zs))
gave_all a b c d xs ys zs f g h rest =
    ap (answer a) (append_assoc xs (ys ++ zs) rest) ∙ (f ((ys ++ zs) ++ rest) ∙ (ap (answer b) (append_assoc ys zs rest) ∙ (g (zs ++ rest) ∙ h rest)))

pub failed_first : (a : Reader) (xs ys : List Event) (e : TokenError) → Failed a xs e → Failed a (xs ++ ys) e
failed_first a xs ys e f rest = ap (answer a) (append_assoc xs ys rest) ∙ f (ys ++ rest)

pub failed_second : (a b : Reader) (xs ys zs : List Event) (e : TokenError) → Gave a b xs → Failed b ys e → Failed a (xs ++ (ys ++ zs)) e
failed_second a b xs ys zs e f g rest =
    ap (answer a) (append_assoc xs (ys ++ zs) rest) ∙ (f ((ys ++ zs) ++ rest) ∙ (ap (answer b) (append_assoc ys zs rest) ∙ g (zs ++ rest)))

-- ---- a line

same_state : (l m p q : ℕ) (cs ds : List ℕ) (os qs : List Open) → l ≡ m → p ≡ q → cs ≡ ds → os ≡ qs
    → (let x : State = record { line = l; place = p; columns = cs; opened = os } in x) ≡ record { line = m; place = q; columns = ds; opened = qs }
same_state l m p q cs ds os qs a b c d = rw (a, b, c, d) refl

module _ (a b : Reader) (content : List ℕ)
    (begun : state_of b ≡ record (state_of a) { columns = columns_behind (state_of a) (front_behind (state_of a) content) }) where
  line_same : b.line ≡ a.line
  line_same = ap (λ s. s.line) begun

  place_same : b.place ≡ a.place
  place_same = ap (λ s. s.place) begun

  opened_same : b.opened ≡ a.opened
  opened_same = ap (λ s. s.opened) begun

  pieces_same : cut_events b.line b.place b.opened (cuts content) ≡ cut_events a.line a.place a.opened (cuts content)
  pieces_same = rw (line_same, place_same, opened_same) refl

  opened_after : opened_behind_cuts b.line b.opened (cuts content) ≡ opened_behind_line (state_of a) content
  opened_after = rw (line_same, opened_same) refl

  pub pieces_fail : (e : TokenError) → Gave a b (front_events (state_of a) (front_behind (state_of a) content)) → Failed b (cut_events b.line b.place b.opened (cuts content)) e
      → Failed a (line_events (state_of a) content) e
  pieces_fail e f g = failed_second a b (front_events (state_of a) (front_behind (state_of a) content)) (cut_events a.line a.place a.opened (cuts content)) (end_events (state_of a) content) e f (λ rest. ap (λ es. answer b (es ++ rest)) (sym pieces_same) ∙ g rest)

  module _ (c d e : Reader) (nothing : Bool) (ending : ℕ)
      (is : nothing ≡ gives_nothing (state_of a) content)
      (over : state_of c ≡ record (state_of b) { place = b.place + length content; opened = opened_behind_cuts b.line b.opened (cuts content) })
      (ended : state_of d ≡ state_of c)
      (last : e ≡ record d { place = d.place + ending; line = d.line + 1 }) where
    opened_is : c.opened ≡ opened_behind_line (state_of a) content
    opened_is = ap (λ s. s.opened) over ∙ opened_after

    pub line_gave : Gave a b (front_events (state_of a) (front_behind (state_of a) content)) → Gave b c (cut_events b.line b.place b.opened (cuts content))
        → ((place : ℕ) → Gave c d (newline_events place c.opened nothing)) → Gave a e (line_events (state_of a) content)
    line_gave f g h rest =
        let gs : Gave b c (cut_events a.line a.place a.opened (cuts content)) = λ r. ap (λ es. answer b (es ++ r)) (sym pieces_same) ∙ g r in
        let end : newline_events (a.place + length content) c.opened nothing ≡ end_events (state_of a) content = rw (opened_is, is) refl in
        let hs : Gave c d (end_events (state_of a) content) = λ r. ap (λ es. answer c (es ++ r)) (sym end) ∙ h (a.place + length content) r in
        gave_all a b c d (front_events (state_of a) (front_behind (state_of a) content)) (cut_events a.line a.place a.opened (cuts content)) (end_events (state_of a) content) f gs hs rest ∙ rw last refl

    pub line_state : state_of e ≡ behind_line (state_of a) (record { content = content; ending = ending })
    line_state =
        let l : d.line ≡ a.line = ap (λ s. s.line) (ended ∙ over) ∙ line_same in
        let p : d.place ≡ a.place + length content = ap (λ s. s.place) (ended ∙ over) ∙ ap (λ n. n + length content) place_same in
        let k : d.columns ≡ columns_behind (state_of a) (front_behind (state_of a) content) = ap (λ s. s.columns) (ended ∙ over) ∙ ap (λ s. s.columns) begun in
        let o : d.opened ≡ opened_behind_line (state_of a) content = ap (λ s. s.opened) ended ∙ opened_is in
        ap state_of last ∙ same_state (d.line + 1) (a.line + 1) (d.place + ending) (a.place + length content + ending) d.columns (columns_behind (state_of a) (front_behind (state_of a) content)) d.opened (opened_behind_line (state_of a) content)
        (ap (λ n. n + 1) l) (ap (λ n. n + ending) p) k o

-- ---- the end of the text

first_line_is : (o : Open) (os : List Open) (x : Open) → last_or (Some o) os ≡ Some x → first_line o.line os ≡ x.line
first_line_is o [] x e = let same : o ≡ x = cc in ap (λ z. z.line) same
first_line_is o (p ∷ os) x e = first_line_is p os x e

pub open_at_end : (r : Reader) (x : Open) → last_or None r.opened ≡ Some x → answer r (last_events (state_of r) r.opened) ≡ Err (BadToken x.line)
open_at_end r x e = by r.opened e
  where
    by : (os : List Open) → last_or None os ≡ Some x → answer r (last_events (state_of r) os) ≡ Err (BadToken x.line)
    by [] e = absurd (cc)
    by (o ∷ os) e = ap (λ l. Err (BadToken l)) (first_line_is o os x e)

pub none_open : (os : List Open) → last_or None os ≡ None → os ≡ []
none_open [] e = refl
none_open (o ∷ os) e = absurd (some o os e)
  where
    some : (o : Open) (os : List Open) → last_or (Some o) os ≡ None → ⊥
    some o [] e = cc
    some o (p ∷ os) e = some p os e

pub at_end : (old new : Reader) → Gave old new (last_events (state_of old) []) → old.opened ≡ [] → answer old (last_events (state_of old) old.opened) ≡ Ok new.tokens
at_end old new g none =
    rw none (ap (answer old) (sym (append-nil (last_events (state_of old) []))) ∙ (g [] ∙ ap Ok (append-nil new.tokens)))

-- ---- a piece

module _ (a b : Reader) (text rest : List ℕ) (piece : Piece) (size : ℕ)
    (is : cuts text ≡ cut piece size ∷ cuts rest)
    (moved : state_of b ≡ record (state_of a) { place = a.place + size; opened = opened_behind_cut a.line a.opened piece }) where
  events_same : cut_events b.line b.place b.opened (cuts rest) ≡ cut_events a.line (a.place + size) (opened_behind_cut a.line a.opened piece) (cuts rest)
  events_same = rw (ap (λ s. s.line) moved, ap (λ s. s.place) moved, ap (λ s. s.opened) moved) refl

  events_is : cut_events a.line a.place a.opened (cuts text) ≡ piece_events a.line a.place size a.opened piece ++ cut_events b.line b.place b.opened (cuts rest)
  events_is = ap (cut_events a.line a.place a.opened) is ∙ ap (λ es. piece_events a.line a.place size a.opened piece ++ es) (sym events_same)

  pub piece_gave : Gave a b (piece_events a.line a.place size a.opened piece)
      → (es : List Event) → answer a (cut_events a.line a.place a.opened (cuts text) ++ es) ≡ answer b (cut_events b.line b.place b.opened (cuts rest) ++ es)
  piece_gave g es =
      ap (λ x. answer a (x ++ es)) events_is ∙ (ap (answer a) (append_assoc (piece_events a.line a.place size a.opened piece) (cut_events b.line b.place b.opened (cuts rest)) es)
      ∙ g (cut_events b.line b.place b.opened (cuts rest) ++ es))

  pub opened_on : opened_behind_cuts a.line a.opened (cuts text) ≡ opened_behind_cuts b.line b.opened (cuts rest)
  opened_on = ap (opened_behind_cuts a.line a.opened) is ∙ sym (rw (ap (λ s. s.line) moved, ap (λ s. s.opened) moved) refl)

  pub state_on : size + length rest ≡ length text
      → record (state_of a) { place = a.place + length text; opened = opened_behind_cuts a.line a.opened (cuts text) } ≡ record (state_of b) { place = b.place + length rest; opened = opened_behind_cuts b.line b.opened (cuts rest) }
  state_on sizes =
      let p : b.place ≡ a.place + size = ap (λ s. s.place) moved in
      same_state a.line b.line (a.place + length text) (b.place + length rest) a.columns b.columns (opened_behind_cuts a.line a.opened (cuts text)) (opened_behind_cuts b.line b.opened (cuts rest))
      (sym (ap (λ s. s.line) moved)) (omega arith) (sym (ap (λ s. s.columns) moved)) opened_on

pub piece_failed : (a : Reader) (text rest : List ℕ) (piece : Piece) (size : ℕ) (e : TokenError) → cuts text ≡ cut piece size ∷ cuts rest
    → Failed a (piece_events a.line a.place size a.opened piece) e → (es : List Event) → answer a (cut_events a.line a.place a.opened (cuts text) ++ es) ≡ Err e
piece_failed a text rest piece size e is f es =
    ap (λ x. answer a (cut_events a.line a.place a.opened x ++ es)) is
    ∙ failed_first a (piece_events a.line a.place size a.opened piece) (cut_events a.line (a.place + size) (opened_behind_cut a.line a.opened piece) (cuts rest)) e f es

-- ---- the whole text

pub mark_dropped : (text rest : List ℕ) (c : ℕ) → text ≡ c ∷ rest → c ≡ byte_order_mark → events_of text ≡ events (start 1) (lines rest)
mark_dropped text rest c e is = rw (e, eq-eqb c byte_order_mark is) refl

pub none_dropped : (text rest : List ℕ) (c : ℕ) → text ≡ c ∷ rest → (c ≡ byte_order_mark → ⊥) → events_of text ≡ events (start 0) (lines text)
none_dropped text rest c e other = rw (e, ne_eqb c byte_order_mark other) refl

pub empty_text : (text : List ℕ) → text ≡ [] → events_of text ≡ events (start 0) (lines text)
empty_text text e = rw e refl

pub whole : (r : Reader) (text rest : List ℕ) (dropped : ℕ) → events_of text ≡ events (start dropped) (lines rest) → state_of r ≡ start dropped
    → ((es : List Event) → answer r es ≡ tokens_behind 0 1 es) → tokens_of text ≡ answer r (events (state_of r) (lines rest))
whole r text rest dropped e s h = ap (tokens_behind 0 1) (e ∙ ap (λ z. events z (lines rest)) (sym s)) ∙ sym (h (events (state_of r) (lines rest)))

-- ---- a line more

pub line_on : (a b : Reader) (text rest content : List ℕ) (ending : ℕ) → lines text ≡ (record { content = content; ending = ending }) ∷ lines rest
    → Gave a b (line_events (state_of a) content) → state_of b ≡ behind_line (state_of a) (record { content = content; ending = ending })
    → answer a (events (state_of a) (lines text)) ≡ answer b (events (state_of b) (lines rest))
line_on a b text rest content ending e g s =
    ap (λ ls. answer a (events (state_of a) ls)) e ∙ (g (events (behind_line (state_of a) (record { content = content; ending = ending })) (lines rest)) ∙ ap (λ z. answer b (events z (lines rest))) (sym s))

pub line_failed : (a : Reader) (text rest content : List ℕ) (ending : ℕ) (e : TokenError) → lines text ≡ (record { content = content; ending = ending }) ∷ lines rest
    → Failed a (line_events (state_of a) content) e → answer a (events (state_of a) (lines text)) ≡ Err e
line_failed a text rest content ending e is f =
    ap (λ ls. answer a (events (state_of a) ls)) is ∙ f (events (behind_line (state_of a) (record { content = content; ending = ending })) (lines rest))

pub text_ended : (r : Reader) (text : List ℕ) → text ≡ [] → answer r (events (state_of r) (lines text)) ≡ answer r (last_events (state_of r) r.opened)
text_ended r text e = rw e refl

-- an error that `?` hands on
pub handed_on : {A : Type 0} (r : Result A TokenError) (e : TokenError) (P : TokenError → Type 0) → IsErrAnd r (λ y. y ≡ e) → P e → IfErr r P
handed_on (Ok x) e P h p = tt
handed_on (Err y) e P h p = subst P (sym h) p
