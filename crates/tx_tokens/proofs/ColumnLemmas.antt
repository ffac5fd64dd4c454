-- Columns that are opened and closed.
use Rattle.std.proofs.Common.{◌≡◌, ◌∙◌, ℕ, ◌<◌, ◌≤◌, List, [], ◌∷◌, ◌++◌, Option, Some, None, option_map, refl, sym, ap, arith, eq-eqb}
use Rattle.std.proofs.lemmas.Bool.{ne_eqb, le-ltb, lt-ltb}
use Rattle.tx_tokens.specs.Layout.{Event, Front, State, closing_one, closing_to, columns_behind, front_at, front_events}
use Rattle.tx_tokens.specs.Layout.Event.{laid}
use Rattle.tx_tokens.specs.Calls.Reading.{answer, state_of}
use Rattle.tx_tokens.specs.declared.reader.Reader.{Reader}
use Rattle.tx_tokens.specs.declared.token.TokenKind.TheVariants.{Indent, Dedent}

module _ (column last : ℕ) (cs columns : List ℕ) (e : cs ≡ last ∷ columns) where
  pub closed_here : column ≡ last → closing_to column cs ≡ Some ([], cs)
  closed_here is = rw (e, le-ltb column last (omega arith), eq-eqb column last is) refl

  pub closed_past : last < column → closing_to column cs ≡ None
  closed_past past = rw (e, le-ltb column last (omega arith), ne_eqb column last (λ z. absurd (omega arith))) refl

  pub closed_one : column < last → closing_to column cs ≡ closing_one (closing_to column columns)
  closed_one below = rw (e, lt-ltb column last below) refl

  pub front_more : last < column → front_at column cs ≡ Some (Indent ∷ [], column ∷ cs)
  front_more past = rw (e, lt-ltb last column past) refl

  pub front_less : column ≤ last → front_at column cs ≡ closing_to column cs
  front_less less = rw (e, le-ltb last column less) refl

pub closed_none : (column : ℕ) (cs : List ℕ) → cs ≡ [] → closing_to column cs ≡ None
closed_none column cs e = rw e refl

pub front_first : (column : ℕ) (cs : List ℕ) → cs ≡ [] → column ≡ 0 → front_at column cs ≡ Some ([], 0 ∷ [])
front_first column cs e is = rw (e, eq-eqb column 0 is) refl

pub front_none : (column : ℕ) (cs : List ℕ) → cs ≡ [] → (column ≡ 0 → ⊥) → front_at column cs ≡ None
front_none column cs e other = rw (e, ne_eqb column 0 other) refl

-- ---- closing one column

step_events : (a b : Reader) (s : State) (o : Option Front) → ((es : List Event) → answer a (laid s.place Dedent ∷ es) ≡ answer b es)
    → (rest : List Event) → answer a (front_events s (closing_one o) ++ rest) ≡ answer b (front_events s o ++ rest)
step_events a b s None g rest = refl
step_events a b s (Some f) g rest = g (front_events s (Some f) ++ rest)

step_columns : (o : Option Front) → option_map (λ f. f.1) (closing_one o) ≡ option_map (λ f. f.1) o
step_columns None = refl
step_columns (Some f) = refl

module _ (a b : Reader) (s : State) (column last : ℕ) (cs columns : List ℕ) (e : cs ≡ last ∷ columns) (below : column < last) where
  pub closed_events : ((es : List Event) → answer a (laid s.place Dedent ∷ es) ≡ answer b es)
      → (rest : List Event) → answer a (front_events s (closing_to column cs) ++ rest) ≡ answer b (front_events s (closing_to column columns) ++ rest)
  closed_events g rest =
      ap (λ o. answer a (front_events s o ++ rest)) (closed_one column last cs columns e below) ∙ step_events a b s (closing_to column columns) g rest

  pub closed_columns : option_map (λ f. f.1) (closing_to column cs) ≡ option_map (λ f. f.1) (closing_to column columns)
  closed_columns = ap (option_map (λ f. f.1)) (closed_one column last cs columns e below) ∙ step_columns (closing_to column columns)

pub columns_known : (s : State) (o : Option Front) (k : List ℕ) → option_map (λ f. f.1) o ≡ Some k → columns_behind s o ≡ k
columns_known s None k e = absurd (cc)
columns_known s (Some f) k e = cc

-- what is known where a column is closed to
pub closed_state : (old now : Reader) (column last : ℕ) (columns : List ℕ) → now.columns ≡ last ∷ columns → column ≡ last
    → option_map (λ f. f.1) (closing_to column old.columns) ≡ option_map (λ f. f.1) (closing_to column now.columns)
    → record (state_of now) { columns = old.columns } ≡ state_of old
    → state_of now ≡ record (state_of old) { columns = columns_behind (state_of old) (closing_to column old.columns) }
closed_state old now column last columns e is m s =
    let k : columns_behind (state_of old) (closing_to column old.columns) ≡ now.columns =
    columns_known (state_of old) (closing_to column old.columns) now.columns (m ∙ ap (option_map (λ f. f.1)) (closed_here column last now.columns columns e is)) in
    ap (λ (z : State). record z { columns = now.columns }) s ∙ ap (λ cs. record (state_of old) { columns = cs }) (sym k)
