-- Between two tokens stand only blanks, comments and line ends.
use Rattle.std.proofs.Common.{◌≡◌, ◌∙◌, ◌==◌, ◌&&◌, inl, inr, ℕ, zero, suc, ◌+◌, ◌-◌, ◌<◌, ◌≤◌, max, Bool, true, false, not, List, [], ◌∷◌, ◌++◌, Option, Some, None, Ok, length, take, drop, map, filter, nat_lt, refl, sym, ap, subst, arith, append_assoc, drop-drop}
use Rattle.std.specs.List.{prefix_len}
use Rattle.std.proofs.Math.Nat.{max-eq_left, max-eq_right}
use Rattle.std.proofs.Math.Seq.{take-append-add}
use Rattle.std.proofs.lemmas.Bool.{cases_Bool, eqb-true}
use Rattle.std.proofs.lemmas.List.{drop_all, drop-append-le, take-append-drop, length-take-le}
use Rattle.std.proofs.lemmas.List.Sums.{prefix_len-le-length}
use Rattle.tx_tokens.specs.Lines.{Line, line_feed, lines}
use Rattle.tx_tokens.specs.Pieces.{Cut, cut, cuts, cuts_behind, first_cut, hash, is_blank, is_passed_piece}
use Rattle.tx_tokens.specs.Layout.{Event, Front, State, behind_line, cut_events, end_events, events, front_behind, front_events, gives_nothing, is_outside, last_events, opened_behind, opened_behind_cut, opened_behind_line, piece_events, token_event}
use Rattle.tx_tokens.specs.Layout.Event.{written, laid, fault}
use Rattle.tx_tokens.specs.Tokens.{byte_order_mark, events_of, start, tokens_behind}
use Rattle.tx_tokens.specs.Laws.{AreApart, GapsLaw, dropped, is_gap, part}
use Rattle.tx_tokens.specs.declared.nesting.Open.{Open}
use Rattle.tx_tokens.specs.declared.piece.Piece.{Piece}
use Rattle.tx_tokens.specs.declared.piece.Piece.TheVariants.{Passed, Written, Bad, TooWide}
use Rattle.tx_tokens.specs.declared.token.Token.{Token}
use Rattle.tx_tokens.specs.declared.token.TokenKind.{TokenKind}
use Rattle.tx_tokens.specs.declared.token.TokenKind.TheVariants.{Dedent}
use Rattle.tx_tokens.proofs.CutLemmas.{cut_fits, cuts_skip, drop_less, other_written}
use Rattle.tx_tokens.proofs.JoinLemmas.{IsEnd, Joined, NoFeed, behind_content, behind_ending, drop_on, lines_joined}
use Rattle.tx_tokens.proofs.OrderLemmas.{first_parts}

-- ---- gaps in what a text gives, from a place on; the flag says that a comment has begun there

abbrev Gaps : List ℕ → Bool → ℕ → List Event → Type 0
Gaps all b p [] = is_gap b (drop p all) ≡ true
Gaps all b p (written t ∷ es) = (p ≤ t.from) × ((is_gap b (part p t.from all) ≡ true) × ((t.from ≤ t.to) × Gaps all false t.to es))
Gaps all b p (laid place kind ∷ es) = Gaps all b p es
Gaps all b p (fault place e ∷ es) = Unit {0}

-- a part of a text and a part behind it
part_split : (all xs rest : List ℕ) (p q : ℕ) → drop p all ≡ xs ++ rest → p + length xs ≤ q → part p q all ≡ xs ++ part (p + length xs) q all
part_split all xs rest p q is le =
    let n : q - p ≡ length xs + (q - (p + length xs)) = omega arith in
    let behind : drop (p + length xs) all ≡ rest = drop_on all xs rest p is in
    ap (λ k. take k (drop p all)) n ∙ (ap (take (length xs + (q - (p + length xs)))) is
    ∙ (take-append-add xs rest (q - (p + length xs)) ∙ ap (λ t. xs ++ take (q - (p + length xs)) t) (sym behind)))

-- characters in front of a gap
module _ (all xs rest : List ℕ) (p : ℕ) (b c : Bool) (is : drop p all ≡ xs ++ rest) (longer : (g : List ℕ) → is_gap c g ≡ true → is_gap b (xs ++ g) ≡ true) where
  extend : (es : List Event) → Gaps all c (p + length xs) es → Gaps all b p es
  extend [] h =
      let behind : drop (p + length xs) all ≡ rest = drop_on all xs rest p is in
      ap (is_gap b) is ∙ longer rest (ap (is_gap c) (sym behind) ∙ h)
  extend (written t ∷ es) h = (
    omega (arith, h.0),
    (ap (is_gap b) (part_split all xs rest p t.from is h.0) ∙ longer (part (p + length xs) t.from all) h.1.0, h.1.1),
  )
  extend (laid place kind ∷ es) h = extend es h
  extend (fault place e ∷ es) h = tt

at_place : (all : List ℕ) (b : Bool) (p q : ℕ) (es : List Event) → p ≡ q → Gaps all b p es → Gaps all b q es
at_place all b p q es e h = subst (λ (x : ℕ). Gaps all b x es) e h

-- ---- blanks and comments

blank_gap : (c : ℕ) (g : List ℕ) → is_blank c ≡ true → is_gap false (c ∷ g) ≡ is_gap false g
blank_gap c g blank = elim (cases_Bool (c == line_feed)) [ inl feed ↦ rw feed refl | inr other ↦ rw (other, blank) refl ]

blanks_gap : (text g : List ℕ) → is_gap false g ≡ true → is_gap false (take (prefix_len is_blank text) text ++ g) ≡ true
blanks_gap [] g h = h
blanks_gap (c ∷ text) g h = elim (cases_Bool (is_blank c)) [
  | inl blank ↦
      let one : prefix_len is_blank (c ∷ text) ≡ suc (prefix_len is_blank text) = rw blank (omega arith) in
      ap (λ n. is_gap false (take n (c ∷ text) ++ g)) one ∙ (blank_gap c (take (prefix_len is_blank text) text ++ g) blank ∙ blanks_gap text g h)
  | inr other ↦
      let none : prefix_len is_blank (c ∷ text) ≡ 0 = rw other refl in
      ap (λ n. is_gap false (take n (c ∷ text) ++ g)) none ∙ h
]

inside_gap : (text g : List ℕ) → NoFeed text → is_gap true g ≡ true → is_gap true (text ++ g) ≡ true
inside_gap [] g plain h = h
inside_gap (c ∷ text) g plain h = rw plain.0 (inside_gap text g plain.1 h)

comment_gap : (c : ℕ) (text g : List ℕ) → (c == hash) ≡ true → NoFeed text → is_gap true g ≡ true → is_gap false (c ∷ (text ++ g)) ≡ true
comment_gap c text g is plain h = rw (eqb-true c hash is) (inside_gap text g plain h)

-- ---- the pieces of a line

token_gaps : (all : List ℕ) (t : Token) (o : Option (List Open)) (es : List Event) → t.from ≤ t.to → Gaps all false t.to es → Gaps all false t.from (token_event t o ∷ es)
token_gaps all t None es le h = tt
token_gaps all t (Some opened) es le h =
    let n : t.from - t.from ≡ 0 = omega arith in (
      omega arith,
      (ap (λ k. is_gap false (take k (drop t.from all))) n, (le, h)),
    )

piece_gaps : (all : List ℕ) (line place size : ℕ) (opened : List Open) (piece : Piece) (es : List Event) → is_passed_piece piece ≡ false → Gaps all false (place + size) es
    → Gaps all false place (piece_events line place size opened piece ++ es)
piece_gaps all line place size opened Passed es e h = absurd (cc)
piece_gaps all line place size opened (Written kind) es e h = token_gaps all (record { kind = kind; from = place; to = place + size; line = line }) (opened_behind line opened kind) es (omega arith) h
piece_gaps all line place size opened Bad es e h = tt
piece_gaps all line place size opened TooWide es e h = tt

module _ (all : List ℕ) (line place : ℕ) (opened : List Open) (c : ℕ) (text : List ℕ) (es : List Event) where
  abbrev Behind : Cut → List Event
  Behind k = cut_events line (place + k.size) (opened_behind_cut line opened k.piece) (cuts_behind (k.size - 1) text) ++ es

  step : (k : Cut) → first_cut c text ≡ k → Gaps all false place (piece_events line place k.size opened k.piece ++ Behind k) → Gaps all false place (cut_events line place opened (cuts_behind 0 (c ∷ text)) ++ es)
  step k e h =
      let P : Cut → Type 0 = λ x. Gaps all false place (piece_events line place x.size opened x.piece ++ Behind x) in
      let first = first_cut c text in
      subst (Gaps all false place) (sym (append_assoc (piece_events line place first.size opened first.piece) (cut_events line (place + first.size) (opened_behind_cut line opened first.piece) (cuts_behind (first.size - 1) text)) es)) (subst P (sym e) h)

cuts_gaps : (all : List ℕ) (line place stop : ℕ) (opened : List Open) (skip : ℕ) (text after : List ℕ) (es : List Event) → drop place all ≡ drop skip text ++ after → NoFeed text
    → stop ≡ place + (length text - skip) → ((b : Bool) → Gaps all b stop es)
    → Gaps all false place (cut_events line place opened (cuts_behind skip text) ++ es)
cuts_gaps all line place stop opened skip [] after es is plain e h = at_place all false stop place es (omega arith) (h false)
cuts_gaps all line place stop opened (suc skip) (c ∷ text) after es is plain e h = cuts_gaps all line place stop opened skip text after es is plain.1 (omega arith) h
cuts_gaps all line place stop opened zero (c ∷ text) after es is plain e h =
    let fits = cut_fits c text in
    let next : (k : Cut) → first_cut c text ≡ k → Gaps all false (place + k.size) (cut_events line (place + k.size) (opened_behind_cut line opened k.piece) (cuts_behind (k.size - 1) text) ++ es) =
    λ k same.
    let some : 0 < k.size = subst (λ (x : Cut). 0 < x.size) same fits.some in
    let within : k.size ≤ length (c ∷ text) = subst (λ (x : Cut). x.size ≤ length (c ∷ text)) same fits.within in
    cuts_gaps all line (place + k.size) stop (opened_behind_cut line opened k.piece) (k.size - 1) text after es
    (sym (drop-drop k.size place all) ∙ (ap (drop k.size) is ∙ (drop-append-le k.size (c ∷ text) after within ∙ ap (λ t. t ++ after) (sym (drop_less k.size c text some)))))
    plain.1 (omega (arith, some, within)) h
    in
    elim (cases_Bool (is_blank c)) [
      | inl blank ↦
          let k : Cut = cut Passed (prefix_len is_blank (c ∷ text)) in
          let same : first_cut c text ≡ k = rw blank refl in
          let xs : List ℕ = take (prefix_len is_blank (c ∷ text)) (c ∷ text) in
          let n : length xs ≡ prefix_len is_blank (c ∷ text) = length-take-le (prefix_len is_blank (c ∷ text)) (c ∷ text) (prefix_len-le-length is_blank (c ∷ text)) in
          let apart : drop place all ≡ xs ++ (drop (prefix_len is_blank (c ∷ text)) (c ∷ text) ++ after) =
          is ∙ (ap (λ t. t ++ after) (sym (take-append-drop (prefix_len is_blank (c ∷ text)) (c ∷ text))) ∙ append_assoc xs (drop (prefix_len is_blank (c ∷ text)) (c ∷ text)) after) in
          step all line place opened c text es k same
          (extend all xs (drop (prefix_len is_blank (c ∷ text)) (c ∷ text) ++ after) place false false apart (λ g. blanks_gap (c ∷ text) g) (Behind all line place opened c text es k)
          (at_place all false (place + prefix_len is_blank (c ∷ text)) (place + length xs) (Behind all line place opened c text es k) (ap (λ m. place + m) (sym n)) (next k same)))
      | inr a ↦ elim (cases_Bool (c == hash)) [
        | inl comment ↦
            let k : Cut = cut Passed (length (c ∷ text)) in
            let same : first_cut c text ≡ k = rw (a, comment) refl in
            let none : cuts_behind (length (c ∷ text) - 1) text ≡ [] = cuts_skip (length (c ∷ text) - 1) text ∙ ap cuts (drop_all (length (c ∷ text) - 1) text (omega arith)) in
            let last : Gaps all true (place + length (c ∷ text)) es = at_place all true stop (place + length (c ∷ text)) es (omega arith) (h true) in
            let P : List Cut → Type 0 = λ cs. Gaps all true (place + length (c ∷ text)) (cut_events line (place + length (c ∷ text)) opened cs ++ es) in
            step all line place opened c text es k same
            (extend all (c ∷ text) after place false true is (λ g z. comment_gap c text g comment plain.1 z) (Behind all line place opened c text es k) (subst P (sym none) last))
        | inr b ↦
            step all line place opened c text es (first_cut c text) refl
            (piece_gaps all line place (first_cut c text).size opened (first_cut c text).piece (Behind all line place opened c text es (first_cut c text)) (other_written c text a b) (next (first_cut c text) refl))
      ]
    ]

-- ---- lines

laid_gaps : (all : List ℕ) (b : Bool) (p place : ℕ) (ks : List TokenKind) (es : List Event) → Gaps all b p es → Gaps all b p (map (laid place) ks ++ es)
laid_gaps all b p place [] es h = h
laid_gaps all b p place (k ∷ ks) es h = laid_gaps all b p place ks es h

front_gaps : (all : List ℕ) (s : State) (o : Option Front) (es : List Event) → Gaps all false s.place es → Gaps all false s.place (front_events s o ++ es)
front_gaps all s None es h = tt
front_gaps all s (Some f) es h = laid_gaps all false s.place s.place f.0 es h

end_gaps : (all : List ℕ) (b : Bool) (p : ℕ) (s : State) (content : List ℕ) (es : List Event) → Gaps all b p es → Gaps all b p (end_events s content ++ es)
end_gaps all b p s content es h = elim (cases_Bool (is_outside (opened_behind_line s content) && not (gives_nothing s content))) [
  | inl is ↦ rw is h
  | inr other ↦ rw other h
]

last_gaps : (all : List ℕ) (b : Bool) (p : ℕ) (s : State) (opened : List Open) → drop p all ≡ [] → Gaps all b p (last_events s opened)
last_gaps all b p s [] e = by s.place (filter (λ column. nat_lt 0 column) s.columns)
  where
    by : (place : ℕ) (columns : List ℕ) → Gaps all b p (map (λ column. laid place Dedent) columns)
    by place [] = ap (is_gap b) e
    by place (c ∷ columns) = by place columns
last_gaps all b p s (o ∷ opened) e = tt

both_gap : (b : Bool) (g : List ℕ) → is_gap false g ≡ true → is_gap b (13 ∷ 10 ∷ g) ≡ true
both_gap true g h = h
both_gap false g h = h

-- at the end of a line, whether a comment stands there or not
line_ends : (all : List ℕ) (b : Bool) (p : ℕ) (s : State) (ls : List Line) (ending after : List ℕ) → drop p all ≡ ending ++ after → IsEnd ending after ls
    → Gaps all false (p + length ending) (events s ls) → Gaps all b p (events s ls)
line_ends all b p s ls ending after is (inl feed) h = extend all ending after p b false is (λ g z. ap (λ t. is_gap b (t ++ g)) feed ∙ z) (events s ls) h
line_ends all b p s ls ending after is (inr (inl two)) h = extend all ending after p b false is (λ g z. ap (λ t. is_gap b (t ++ g)) two ∙ both_gap b g z) (events s ls) h
line_ends all b p s ls ending after is (inr (inr none)) h =
    let nothing : drop p all ≡ [] = is ∙ (ap (λ t. t ++ after) none.0 ∙ none.1.0) in
    subst (λ (x : List Line). Gaps all b p (events s x)) (sym none.1.1) (last_gaps all b p s s.opened nothing)

events_gaps : (all : List ℕ) (s : State) (ls : List Line) (text : List ℕ) → Joined ls text → drop s.place all ≡ text → Gaps all false s.place (events s ls)
events_gaps all s [] text h is = last_gaps all false s.place s s.opened (is ∙ h)
events_gaps all s (l ∷ ls) text (ending, (after, (ends, h))) is =
    let here : drop s.place all ≡ l.content ++ (ending ++ after) = is ∙ ends.is in
    let past : drop (s.place + length l.content) all ≡ ending ++ after = behind_content all s.place l ls text ending after ends is in
    let next : drop (s.place + length l.content + l.ending) all ≡ after = behind_ending all s.place l ls text ending after ends is in
    let rest : List Event = events (behind_line s l) ls in
    let behind : Gaps all false (s.place + length l.content + l.ending) rest = events_gaps all (behind_line s l) ls after h next in
    let stop : (b : Bool) → Gaps all b (s.place + length l.content) (end_events s l.content ++ rest) =
    λ b. end_gaps all b (s.place + length l.content) s l.content rest
    (line_ends all b (s.place + length l.content) (behind_line s l) ls ending after past ends.end
    (at_place all false (s.place + length l.content + l.ending) (s.place + length l.content + length ending) rest (ap (λ n. s.place + length l.content + n) (sym ends.size)) behind))
    in
    let pieces = cut_events s.line s.place s.opened (cuts l.content) in
    let front = front_events s (front_behind s l.content) in
    let content : Gaps all false s.place (pieces ++ (end_events s l.content ++ rest)) =
    cuts_gaps all s.line s.place (s.place + length l.content) s.opened 0 l.content (ending ++ after) (end_events s l.content ++ rest) here ends.plain (omega arith) stop in
    subst (Gaps all false s.place) (sym (append_assoc front (pieces ++ end_events s l.content) rest))
    (front_gaps all s (front_behind s l.content) ((pieces ++ end_events s l.content) ++ rest)
    (subst (Gaps all false s.place) (sym (append_assoc pieces (end_events s l.content) rest)) content))

-- ---- tokens

text_gaps : (text : List ℕ) → Gaps text false (dropped text) (events_of text)
text_gaps [] = events_gaps [] (start 0) [] [] refl refl
text_gaps (c ∷ text) = elim (cases_Bool (c == byte_order_mark)) [
  | inl is ↦ rw is (events_gaps (c ∷ text) (start 1) (lines text) text (lines_joined text) refl)
  | inr other ↦ rw other (events_gaps (c ∷ text) (start 0) (lines (c ∷ text)) (c ∷ text) (lines_joined (c ∷ text)) refl)
]

no_part_gap : (behind place : ℕ) (text : List ℕ) → place ≤ behind → is_gap false (part behind place text) ≡ true
no_part_gap behind place text le = let n : place - behind ≡ 0 = omega arith in ap (λ k. is_gap false (take k (drop behind text))) n

tokens_apart : (all : List ℕ) (end behind line : ℕ) (es : List Event) (ts : List Token) → end ≤ behind → Gaps all false behind es → tokens_behind end line es ≡ Ok ts → AreApart all behind ts
tokens_apart all end behind line [] ts le h e = let none : ts ≡ [] = cc in subst (AreApart all behind) (sym none) h
tokens_apart all end behind line (written t ∷ es) ts le h e =
    let parts = first_parts t (tokens_behind t.to t.line es) ts e in
    let far : max behind t.to ≡ t.to = max-eq_right (omega (arith, h.0, h.1.1.0)) in
    subst (AreApart all behind) (sym parts.1.1)
    (h.1.0, subst (λ (x : ℕ). AreApart all x parts.0) (sym far) (tokens_apart all t.to t.to t.line es parts.0 (omega arith) h.1.1.1 parts.1.0))
tokens_apart all end behind line (laid place kind ∷ es) ts le h e =
    let t : Token = record { kind = kind; from = end; to = end; line = line } in
    let parts = first_parts t (tokens_behind end line es) ts e in
    let far : max behind end ≡ behind = max-eq_left le in
    subst (AreApart all behind) (sym parts.1.1)
    (no_part_gap behind end all le, subst (λ (x : ℕ). AreApart all x parts.0) (sym far) (tokens_apart all end behind line es parts.0 le h parts.1.0))
tokens_apart all end behind line (fault place z ∷ es) ts le h e = absurd (cc)

pub apart : GapsLaw
apart text ts e = tokens_apart text 0 (dropped text) 1 (events_of text) ts (omega arith) (text_gaps text) e
