-- Chains: a store ahead of a chain leaves it as it is, and an index takes one more row in front.
use Rattle.std.proofs.Common.{◌≡◌, ◌≢◌, ◌<◌, ◌≤◌, ◌+◌, ◌++◌, ◌&&◌, ℕ, suc, Bool, true, false, cond, List, [], ◌∷◌, Option, None, Some, if◌then◌else◌, drop, length, map, slice_set, take, refl, sym, ap, subst, ◌∙◌, arith}
use Rattle.std.proofs.lemmas.List.{length-set, get_or-set_same, get_or-set_other}
use Rattle.std.proofs.lemmas.Option.{unwrap_or-slice_get, none-some}
use Rattle.std.specs.Prelude.{◌↔◌}
use Rattle.std.specs.Option.{option_map}
use Rattle.tx_values.specs.declared.row.Row.{Row}
use Rattle.tx_values.specs.Keys.{key_of, same_key}
use Rattle.tx_joins.specs.Join.{cell_of, has_key}
use Rattle.tx_joins.specs.Calls.Chains.{KeyAtoms, has_this_key, places_of, behind, IsChain, IsIndex, head_of, row_key}

-- ---- chains

-- fewer places are excluded
lower : (next : List (Option ℕ)) (low from : ℕ) (start : Option ℕ) (places : List ℕ) → low ≤ from → IsChain next from start places → IsChain next low start places
lower next low from start [] h chain = chain
lower next low from start (place ∷ places) h chain = (chain.0, omega (arith, h, chain.1), chain.2, chain.3)

behind-other : (next : List (Option ℕ)) (at place : ℕ) (value : Option ℕ) → place ≢ at → behind (slice_set next at value) place ≡ behind next place
behind-other next at place value h =
    unwrap_or-slice_get (slice_set next at value) place None ∙ get_or-set_other next at place value None h ∙ sym (unwrap_or-slice_get next place None)

behind-same : (next : List (Option ℕ)) (at : ℕ) (value : Option ℕ) → at < length next → behind (slice_set next at value) at ≡ value
behind-same next at value h = unwrap_or-slice_get (slice_set next at value) at None ∙ get_or-set_same next at value None h

-- a store ahead of a chain leaves it as it is
kept : (next : List (Option ℕ)) (at from : ℕ) (value start : Option ℕ) (places : List ℕ) → at < from → IsChain next from start places → IsChain (slice_set next at value) from start places
kept next at from value start [] h chain = chain
kept next at from value start (place ∷ places) h chain =
    let other : place ≢ at = omega (arith, h, chain.1) in
    let rest : IsChain (slice_set next at value) (place + 1) (behind next place) places
    = kept next at (place + 1) value (behind next place) places (omega (arith, h, chain.1)) chain.3 in (
      chain.0,
      chain.1,
      subst (λ (n : ℕ). place < n) (sym (length-set next at value)) chain.2,
      subst (λ (s : Option ℕ). IsChain (slice_set next at value) (place + 1) s places) (sym (behind-other next at place value other)) rest,
    )

-- nothing stands behind the last place
pub ended : (next : List (Option ℕ)) (from : ℕ) (places : List ℕ) → IsChain next from None places → places ≡ []
ended next from [] chain = refl
ended next from (place ∷ places) chain = absurd (none-some place chain.0)

pub past : (next : List (Option ℕ)) (from : ℕ) (start : Option ℕ) (places : List ℕ) → length next ≤ from → IsChain next from start places → places ≡ []
past next from start [] h chain = refl
past next from start (place ∷ places) h chain = absurd (omega (arith, h, chain.1, chain.2))

-- a chain that begins at a place goes on behind it
pub record Begins (next : List (Option ℕ)) (from place : ℕ) (places : List ℕ) : Type 0 where
  pub rest : List ℕ
  pub same : places ≡ place ∷ rest
  pub chain : IsChain next (from + 1) (behind next place) rest

some-same : (a b : ℕ) → Some a ≡ Some b → b ≡ a
some-same a b e = cc

pub begins : (next : List (Option ℕ)) (from place : ℕ) (places : List ℕ) → IsChain next from (Some place) places → Begins next from place places
begins next from place [] chain = absurd (none-some place (sym chain))
begins next from place (first ∷ places) chain =
    let same : first ≡ place = some-same place first chain.0 in
    let low : IsChain next (from + 1) (behind next first) places
    = lower next (from + 1) (first + 1) (behind next first) places (omega (arith, chain.1)) chain.3 in
    record {
      rest = places;
      same = ap (λ (p : ℕ). p ∷ places) same;
      chain = subst (λ (p : ℕ). IsChain next (from + 1) (behind next p) places) same low;
    }

-- ---- places

pub places-take : (column : ℕ) (key : KeyAtoms) (at : ℕ) (row : Row) (rows : List Row) → has_this_key column key row ≡ true
    → places_of column key at (row ∷ rows) ≡ at ∷ places_of column key (at + 1) rows
places-take column key at row rows e = ap (λ (b : Bool). if b then at ∷ places_of column key (at + 1) rows else places_of column key (at + 1) rows) e

pub places-pass : (column : ℕ) (key : KeyAtoms) (at : ℕ) (row : Row) (rows : List Row) → has_this_key column key row ≡ false
    → places_of column key at (row ∷ rows) ≡ places_of column key (at + 1) rows
places-pass column key at row rows e = ap (λ (b : Bool). if b then at ∷ places_of column key (at + 1) rows else places_of column key (at + 1) rows) e

-- ---- an index with one more row in front

-- a row without a key changes nothing
pub keyless-in-front : (column : ℕ) (head : KeyAtoms → Option ℕ) (next : List (Option ℕ)) (at : ℕ) (row : Row) (rows : List Row)
    → has_key column row ≡ false → IsIndex column head next (at + 1) rows → IsIndex column head next at (row ∷ rows)
keyless-in-front column head next at row rows none index key =
    subst (λ (ps : List ℕ). IsChain next at (head key) ps)
    (sym (places-pass column key at row rows (ap (λ (b : Bool). b && same_key (key_of (cell_of column row)) key) none)))
    (lower next at (at + 1) (head key) (places_of column key (at + 1) rows) (omega arith) (index key))

-- a row with a key stands in front of the others with that key
module _ (same : (a b : KeyAtoms) → (same_key a b ≡ true) ↔ (a ≡ b)) where
  pub keyed-in-front : (column : ℕ) (old new : KeyAtoms → Option ℕ) (next : List (Option ℕ)) (at : ℕ) (row : Row) (rows : List Row)
      → has_key column row ≡ true → at < length next
      → ((key : KeyAtoms) → new key ≡ cond (same_key (key_of (cell_of column row)) key) (Some at) (old key))
      → IsIndex column old next (at + 1) rows
      → IsIndex column new (slice_set next at (old (key_of (cell_of column row)))) at (row ∷ rows)
  keyed-in-front column old new next at row rows some within head index key = by (same_key mine key) refl
    where
      mine : KeyAtoms
      mine = key_of (cell_of column row)

      stored : List (Option ℕ)
      stored = slice_set next at (old mine)

      rest : IsChain stored (at + 1) (old key) (places_of column key (at + 1) rows)
      rest = kept next at (at + 1) (old mine) (old key) (places_of column key (at + 1) rows) (omega arith) (index key)

      by : (b : Bool) → same_key mine key ≡ b → IsChain stored at (new key) (places_of column key at (row ∷ rows))
      by true e =
          let behind-it : behind stored at ≡ old key = behind-same next at (old mine) within ∙ ap old ((same mine key).0 e) in
          subst (λ (ps : List ℕ). IsChain stored at (new key) ps)
          (sym (places-take column key at row rows (ap (λ (b : Bool). b && same_key mine key) some ∙ e))) (
            head key ∙ ap (λ (b : Bool). cond b (Some at) (old key)) e,
            omega arith,
            subst (λ (n : ℕ). at < n) (sym (length-set next at (old mine))) within,
            subst (λ (s : Option ℕ). IsChain stored (at + 1) s (places_of column key (at + 1) rows)) (sym behind-it) rest,
          )
      by false e =
          subst (λ (ps : List ℕ). IsChain stored at (new key) ps)
          (sym (places-pass column key at row rows (ap (λ (b : Bool). b && same_key mine key) some ∙ e)))
          (subst (λ (s : Option ℕ). IsChain stored at s (places_of column key (at + 1) rows))
          (sym (head key ∙ ap (λ (b : Bool). cond b (Some at) (old key)) e))
          (lower stored at (at + 1) (old key) (places_of column key (at + 1) rows) (omega arith) rest))

-- ---- the key of a row, and what an index says of it

pub row_key-none : (column : ℕ) (row : Row) → None ≡ row_key column row → has_key column row ≡ false
row_key-none column row told = by (has_key column row) told
  where
    by : (b : Bool) → None ≡ (if b then Some (key_of (cell_of column row)) else None) → b ≡ false
    by true h = absurd (none-some (key_of (cell_of column row)) h)
    by false h = refl

pub row_key-some : (column : ℕ) (row : Row) (key : KeyAtoms) → Some key ≡ row_key column row
    → (has_key column row ≡ true) × (key ≡ key_of (cell_of column row))
row_key-some column row key told = by (has_key column row) told
  where
    by : (b : Bool) → Some key ≡ (if b then Some (key_of (cell_of column row)) else None) → (b ≡ true) × (key ≡ key_of (cell_of column row))
    by true h = (refl, cc)
    by false h = absurd (none-some key (sym h))

-- where it says something, the row has a key, and it says where the chain of that key begins
pub head_of-some : (column : ℕ) (head : KeyAtoms → Option ℕ) (row : Row) (first : Option ℕ) → Some first ≡ head_of column head row
    → (has_key column row ≡ true) × (first ≡ head (key_of (cell_of column row)))
head_of-some column head row first told = by (has_key column row) refl told
  where
    by : (b : Bool) → has_key column row ≡ b → Some first ≡ option_map head (if b then Some (key_of (cell_of column row)) else None)
        → (has_key column row ≡ true) × (first ≡ head (key_of (cell_of column row)))
    by true e h = (e, cc)
    by false e h = absurd (none-some first (sym h))

-- what it says of the keys is what it says of the rows
pub heads-of_keys : (column : ℕ) (head : KeyAtoms → Option ℕ) (rows : List Row)
    → map (option_map head) (map (row_key column) rows) ≡ map (head_of column head) rows
heads-of_keys column head [] = refl
heads-of_keys column head (row ∷ rows) = ap (λ (hs : List (Option (Option ℕ))). head_of column head row ∷ hs) (heads-of_keys column head rows)

-- the last of the keys of some rows is that of the row behind them
pub record IsLast (column : ℕ) (rows : List Row) (keys : List (Option KeyAtoms)) (key : Option KeyAtoms) : Type 0 where
  pub row : Row
  pub is : key ≡ row_key column row
  pub rest : drop (length keys) rows ≡ row ∷ drop (suc (length keys)) rows
  pub front : keys ≡ take (length keys) (map (row_key column) rows)

pub is_last : (column : ℕ) (rows : List Row) (keys : List (Option KeyAtoms)) (key : Option KeyAtoms)
    → keys ++ key ∷ [] ≡ take (length (keys ++ key ∷ [])) (map (row_key column) rows) → IsLast column rows keys key
is_last column [] [] key e = cc
is_last column (row ∷ rows) [] key e = record { row = row; is = cc; rest = refl; front = refl }
is_last column [] (first ∷ keys) key e = cc
is_last column (row ∷ rows) (first ∷ keys) key e =
    let same : first ≡ row_key column row = cc in
    let others : keys ++ key ∷ [] ≡ take (length (keys ++ key ∷ [])) (map (row_key column) rows) = cc in
    let last : IsLast column rows keys key = is_last column rows keys key others in
    record {
      row = last.row;
      is = last.is;
      rest = last.rest;
      front = ap (λ (k : Option KeyAtoms). k ∷ keys) same ∙ ap (λ (ks : List (Option KeyAtoms)). row_key column row ∷ ks) last.front;
    }
