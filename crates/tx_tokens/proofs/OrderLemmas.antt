-- What a text gives is in the order of the text.
use Rattle.std.proofs.Common.{◌≡◌, ◌==◌, ◌&&◌, inl, inr, ℕ, zero, suc, ◌+◌, ◌-◌, ◌≤◌, not, List, [], ◌∷◌, ◌++◌, Option, Some, None, length, map, filter, nat_lt, Ok, Err, refl, sym, subst, arith}
use Rattle.std.proofs.lemmas.Bool.{cases_Bool}
use Rattle.tx_tokens.specs.Lines.{Line, lines}
use Rattle.tx_tokens.specs.Pieces.{Cut, cuts, cuts_behind, first_cut}
use Rattle.tx_tokens.specs.Layout.{Event, Front, State, behind_line, cut_events, end_events, events, front_behind, front_events, gives_nothing, is_outside, last_events, line_events, opened_behind, opened_behind_cut, opened_behind_line, piece_events, token_event}
use Rattle.tx_tokens.specs.Layout.Event.{written, laid, fault}
use Rattle.tx_tokens.specs.Tokens.{Tokens, byte_order_mark, events_of, start, tokens_behind, with_first}
use Rattle.tx_tokens.specs.Laws.{AreInOrder, OrderLaw, SpansLaw, SpansRise, end_of, place_of}
use Rattle.tx_tokens.specs.declared.nesting.Open.{Open}
use Rattle.tx_tokens.specs.declared.piece.Piece.{Piece}
use Rattle.tx_tokens.specs.declared.piece.Piece.TheVariants.{Passed, Written, Bad, TooWide}
use Rattle.tx_tokens.specs.declared.token.Token.{Token}
use Rattle.tx_tokens.specs.declared.token.TokenKind.{TokenKind}
use Rattle.tx_tokens.specs.declared.token.TokenKind.TheVariants.{Dedent}
use Rattle.tx_tokens.proofs.CutLemmas.{cut_fits}

-- in order, between two places
abbrev Within : ℕ → ℕ → List Event → Type 0
Within from to [] = from ≤ to
Within from to (e ∷ es) = (from ≤ place_of e) × ((place_of e ≤ end_of e) × Within (end_of e) to es)

lower : (m n : ℕ) (es : List Event) → m ≤ n → AreInOrder n es → AreInOrder m es
lower m n [] le h = tt
lower m n (e ∷ es) le h = (omega (arith, h.0), h.1)

then_order : (from to : ℕ) (xs ys : List Event) → Within from to xs → AreInOrder to ys → AreInOrder from (xs ++ ys)
then_order from to [] ys h o = lower from to ys h o
then_order from to (e ∷ xs) ys h o = (h.0, (h.1.0, then_order (end_of e) to xs ys h.1.1 o))

then_within : (from mid to : ℕ) (xs ys : List Event) → Within from mid xs → Within mid to ys → Within from to (xs ++ ys)
then_within from mid to [] ys h o = raise from mid to ys h o
  where
    raise : (from mid to : ℕ) (ys : List Event) → from ≤ mid → Within mid to ys → Within from to ys
    raise from mid to [] le h = omega arith
    raise from mid to (e ∷ es) le h = (omega (arith, h.0), h.1)
then_within from mid to (e ∷ xs) ys h o = (h.0, (h.1.0, then_within (end_of e) mid to xs ys h.1.1 o))

-- ---- the pieces of a line

token_within : (t : Token) (to : ℕ) (o : Option (List Open)) → t.from ≤ t.to → t.to ≤ to → Within t.from to (token_event t o ∷ [])
token_within t to None a b = (omega arith, (omega arith, omega arith))
token_within t to (Some opened) a b = (omega arith, (a, b))

piece_within : (line place size : ℕ) (opened : List Open) (piece : Piece) → Within place (place + size) (piece_events line place size opened piece)
piece_within line place size opened Passed = omega arith
piece_within line place size opened (Written kind) = token_within (record { kind = kind; from = place; to = place + size; line = line }) (place + size) (opened_behind line opened kind) (omega arith) (omega arith)
piece_within line place size opened Bad = (omega arith, (omega arith, omega arith))
piece_within line place size opened TooWide = (omega arith, (omega arith, omega arith))

abbrev total : List Cut → ℕ
total [] = 0
total (c ∷ cs) = c.size + total cs

higher : (from m n : ℕ) (es : List Event) → m ≤ n → Within from m es → Within from n es
higher from m n [] le h = omega arith
higher from m n (e ∷ es) le h = (h.0, (h.1.0, higher (end_of e) m n es le h.1.1))

cuts_within : (line place : ℕ) (opened : List Open) (cs : List Cut) → Within place (place + total cs) (cut_events line place opened cs)
cuts_within line place opened [] = omega arith
cuts_within line place opened (c ∷ cs) =
    then_within place (place + c.size) (place + (c.size + total cs)) (piece_events line place c.size opened c.piece) (cut_events line (place + c.size) (opened_behind_cut line opened c.piece) cs)
    (piece_within line place c.size opened c.piece)
    (higher (place + c.size) (place + c.size + total cs) (place + (c.size + total cs)) _ (omega arith) (cuts_within line (place + c.size) (opened_behind_cut line opened c.piece) cs))

total_fits : (skip : ℕ) (text : List ℕ) → total (cuts_behind skip text) ≤ length text - skip
total_fits skip [] = omega arith
total_fits (suc skip) (c ∷ text) = omega (arith, total_fits skip text)
total_fits zero (c ∷ text) =
    let fits = cut_fits c text in
    omega (arith, total_fits ((first_cut c text).size - 1) text, fits.some, fits.within)

-- ---- lines

laid_within : (place : ℕ) (kinds : List TokenKind) → Within place place (map (laid place) kinds)
laid_within place [] = omega arith
laid_within place (k ∷ kinds) = (omega arith, (omega arith, laid_within place kinds))

front_within : (s : State) (f : Option Front) → Within s.place s.place (front_events s f)
front_within s None = (omega arith, (omega arith, omega arith))
front_within s (Some f) = laid_within s.place f.0

end_within : (s : State) (content : List ℕ) → Within (s.place + length content) (s.place + length content) (end_events s content)
end_within s content = elim (cases_Bool (is_outside (opened_behind_line s content) && not (gives_nothing s content))) [
  | inl is ↦ rw is (omega arith, (omega arith, omega arith))
  | inr other ↦ rw other (omega arith)
]

line_within : (s : State) (content : List ℕ) → Within s.place (s.place + length content) (line_events s content)
line_within s content =
    then_within s.place s.place (s.place + length content) (front_events s (front_behind s content)) _ (front_within s (front_behind s content))
    (then_within s.place (s.place + length content) (s.place + length content) (cut_events s.line s.place s.opened (cuts content)) (end_events s content)
    (higher s.place (s.place + total (cuts content)) (s.place + length content) _ (omega (arith, total_fits 0 content)) (cuts_within s.line s.place s.opened (cuts content)))
    (end_within s content))

last_order : (s : State) (opened : List Open) → AreInOrder s.place (last_events s opened)
last_order s [] = by s.place (filter (λ column. nat_lt 0 column) s.columns)
  where
    by : (place : ℕ) (columns : List ℕ) → AreInOrder place (map (λ column. laid place Dedent) columns)
    by place [] = tt
    by place (c ∷ columns) = (omega arith, (omega arith, by place columns))
last_order s (o ∷ opened) = (omega arith, (omega arith, tt))

events_order : (s : State) (ls : List Line) → AreInOrder s.place (events s ls)
events_order s [] = last_order s s.opened
events_order s (line ∷ rest) =
    then_order s.place (s.place + length line.content) (line_events s line.content) (events (behind_line s line) rest) (line_within s line.content)
    (lower (s.place + length line.content) (behind_line s line).place (events (behind_line s line) rest) (omega arith) (events_order (behind_line s line) rest))

pub in_order : OrderLaw
in_order [] = events_order (start 0) []
in_order (c ∷ text) = elim (cases_Bool (c == byte_order_mark)) [
  | inl is ↦ rw is (lower 0 1 (events (start 1) (lines text)) (omega arith) (events_order (start 1) (lines text)))
  | inr other ↦ rw other (events_order (start 0) (lines (c ∷ text)))
]

-- ---- spans

-- a token in front of a list of tokens
pub first_parts : (t : Token) (x : Tokens) (ts : List Token) → with_first t x ≡ Ok ts → (us : List Token) × ((x ≡ Ok us) × (ts ≡ t ∷ us))
first_parts t (Ok us) ts e = (us, (refl, (let same : t ∷ us ≡ ts = cc in sym same)))
first_parts t (Err z) ts e = absurd (cc)

rise : (end line behind : ℕ) (es : List Event) (ts : List Token) → end ≤ behind → AreInOrder behind es → tokens_behind end line es ≡ Ok ts → SpansRise end ts
rise end line behind [] ts le o e = let none : ts ≡ [] = sym (ok_same [] ts e) in subst (SpansRise end) (sym none) tt
  where
    ok_same : (xs ys : List Token) → (let x : Tokens = Ok xs in x) ≡ Ok ys → xs ≡ ys
    ok_same xs ys e = cc
rise end line behind (written t ∷ es) ts le o e =
    let parts = first_parts t (tokens_behind t.to t.line es) ts e in
    subst (SpansRise end) (sym parts.1.1) (omega (arith, o.0), (o.1.0, rise t.to t.line t.to es parts.0 (omega arith) o.1.1 parts.1.0))
rise end line behind (laid place kind ∷ es) ts le o e =
    let t : Token = record { kind = kind; from = end; to = end; line = line } in
    let parts = first_parts t (tokens_behind end line es) ts e in
    subst (SpansRise end) (sym parts.1.1) (omega arith, (omega arith, rise end line place es parts.0 (omega (arith, o.0)) o.1.1 parts.1.0))
rise end line behind (fault place z ∷ es) ts le o e = absurd (cc)

pub spans_rise : SpansLaw
spans_rise text ts e = rise 0 1 0 (events_of text) ts (omega arith) (in_order text) e
