-- The rows at the places of a key are the rows with that key, and so the pairs of a left row.
use Rattle.std.proofs.Common.{◌≡◌, ◌+◌, ◌++◌, ◌&&◌, ℕ, Bool, true, false, cond, List, [], ◌∷◌, Option, Some, filter, map, length, slice_get, refl, sym, ap, subst, ◌∙◌, append_assoc, append-nil, if◌then◌else◌}
use Rattle.std.proofs.lemmas.List.{length_push}
use Rattle.std.specs.Prelude.{◌↔◌}
use Rattle.tx_values.specs.Laws.{KeysLaw}
use Rattle.std.specs.List.{flat_map}
use Rattle.std.specs.Option.{option_map_or}
use Rattle.tx_values.specs.declared.row.Row.{Row}
use Rattle.tx_values.specs.Equality.{equal}
use Rattle.tx_values.specs.Keys.{key_of, same_key}
use Rattle.tx_joins.specs.Join.{alone, cell_of, has_key, joined_rows, or_alone, pair_of, pairs_of}
use Rattle.tx_joins.specs.Calls.Chains.{KeyAtoms, has_this_key, places_of, pair_at}
use Rattle.tx_joins.proofs.Chains.{places-take, places-pass}

at_front : (front : List Row) (row : Row) (rows : List Row) → slice_get (front ++ row ∷ rows) (length front) ≡ Some row
at_front [] row rows = refl
at_front (x ∷ front) row rows = at_front front row rows

module _ (right_key column : ℕ) (left : Row) (key : KeyAtoms) where
  -- a scan of the chain gives the pairs with the rows that have the key
  pub pairs_at-places : (front rows : List Row)
      → flat_map (pair_at right_key left (front ++ rows)) (places_of column key (length front) rows)
      ≡ map (pair_of right_key left) (filter (has_this_key column key) rows)
  pairs_at-places front [] = refl
  pairs_at-places front (row ∷ rows) = by (has_this_key column key row) refl (pairs_at-places (front ++ row ∷ []) rows)
    where
      whole : List Row
      whole = front ++ row ∷ rows

      places : List ℕ
      places = places_of column key (length front + 1) rows

      found : List Row
      found = filter (has_this_key column key) rows

      here : pair_at right_key left whole (length front) ≡ pair_of right_key left row ∷ []
      here = ap (λ (o : Option Row). option_map_or (λ (right : Row). pair_of right_key left right ∷ []) o []) (at_front front row rows)

      moved : flat_map (pair_at right_key left ((front ++ row ∷ []) ++ rows)) (places_of column key (length (front ++ row ∷ [])) rows)
          ≡ map (pair_of right_key left) found
          → flat_map (pair_at right_key left whole) places ≡ map (pair_of right_key left) found
      moved h =
          let e : flat_map (pair_at right_key left whole) (places_of column key (length (front ++ row ∷ [])) rows) ≡ map (pair_of right_key left) found
          = subst (λ (w : List Row). flat_map (pair_at right_key left w) (places_of column key (length (front ++ row ∷ [])) rows) ≡ map (pair_of right_key left) found)
          (append_assoc front (row ∷ []) rows) h in
          subst (λ (n : ℕ). flat_map (pair_at right_key left whole) (places_of column key n rows) ≡ map (pair_of right_key left) found) (length_push front row) e

      by : (b : Bool) → has_this_key column key row ≡ b
          → flat_map (pair_at right_key left ((front ++ row ∷ []) ++ rows)) (places_of column key (length (front ++ row ∷ [])) rows) ≡ map (pair_of right_key left) found
          → flat_map (pair_at right_key left whole) (places_of column key (length front) (row ∷ rows))
          ≡ map (pair_of right_key left) (filter (has_this_key column key) (row ∷ rows))
      by true e h =
          ap (flat_map (pair_at right_key left whole)) (places-take column key (length front) row rows e)
          ∙ ap (λ (rs : List Row). rs ++ flat_map (pair_at right_key left whole) places) here
          ∙ ap (λ (rs : List Row). pair_of right_key left row ∷ rs) (moved h)
          ∙ sym (ap (λ (b : Bool). map (pair_of right_key left) (cond b (row ∷ found) found)) e)
      by false e h =
          ap (flat_map (pair_at right_key left whole)) (places-pass column key (length front) row rows e)
          ∙ moved h
          ∙ sym (ap (λ (b : Bool). map (pair_of right_key left) (cond b (row ∷ found) found)) e)

-- the rows with a key are the rows whose cells are equal to the value that has it
module _ (column : ℕ) (key : KeyAtoms) (equal_to : Row → Bool)
    (same : (row : Row) → has_key column row ≡ true → same_key (key_of (cell_of column row)) key ≡ equal_to row) where
  pub filter-has_this_key : (rows : List Row) → filter (has_this_key column key) rows ≡ filter equal_to (filter (has_key column) rows)
  filter-has_this_key [] = refl
  filter-has_this_key (row ∷ rows) = by (has_key column row) refl (filter-has_this_key rows)
    where
      this : Bool
      this = same_key (key_of (cell_of column row)) key

      by : (b : Bool) → has_key column row ≡ b
          → filter (has_this_key column key) rows ≡ filter equal_to (filter (has_key column) rows)
          → filter (has_this_key column key) (row ∷ rows) ≡ filter equal_to (filter (has_key column) (row ∷ rows))
      by true e h =
          ap (λ (b : Bool). cond (b && this) (row ∷ filter (has_this_key column key) rows) (filter (has_this_key column key) rows)) e
          ∙ ap (λ (b : Bool). cond b (row ∷ filter (has_this_key column key) rows) (filter (has_this_key column key) rows)) (same row e)
          ∙ ap (λ (rs : List Row). cond (equal_to row) (row ∷ rs) rs) h
          ∙ sym (ap (λ (b : Bool). filter equal_to (cond b (row ∷ filter (has_key column) rows) (filter (has_key column) rows))) e)
      by false e h =
          ap (λ (b : Bool). cond (b && this) (row ∷ filter (has_this_key column key) rows) (filter (has_this_key column key) rows)) e
          ∙ h
          ∙ sym (ap (λ (b : Bool). filter equal_to (cond b (row ∷ filter (has_key column) rows) (filter (has_key column) rows))) e)

-- ---- which keys have places

module _ (column : ℕ) (key : KeyAtoms) where
  places-none : (at : ℕ) (rows : List Row) → filter (has_this_key column key) rows ≡ [] → places_of column key at rows ≡ []
  places-none at [] e = refl
  places-none at (row ∷ rows) e = by (has_this_key column key row) refl (places-none (at + 1) rows)
    where
      by : (b : Bool) → has_this_key column key row ≡ b
          → (filter (has_this_key column key) rows ≡ [] → places_of column key (at + 1) rows ≡ [])
          → places_of column key at (row ∷ rows) ≡ []
      by true t rest =
          let some : row ∷ filter (has_this_key column key) rows ≡ []
          = sym (ap (λ (b : Bool). cond b (row ∷ filter (has_this_key column key) rows) (filter (has_this_key column key) rows)) t) ∙ e in
          cc
      by false t rest =
          places-pass column key at row rows t
          ∙ rest (sym (ap (λ (b : Bool). cond b (row ∷ filter (has_this_key column key) rows) (filter (has_this_key column key) rows)) t) ∙ e)

-- ---- the pairs of a left row with a key

same_key-sym : ((a b : KeyAtoms) → (same_key a b ≡ true) ↔ (a ≡ b)) → (a b : KeyAtoms) → same_key a b ≡ same_key b a
same_key-sym same a b = by (same_key a b) (same_key b a) refl refl
  where
    by : (x y : Bool) → same_key a b ≡ x → same_key b a ≡ y → same_key a b ≡ same_key b a
    by true y p q = p ∙ sym ((same b a).1 (sym ((same a b).0 p)))
    by false true p q = (same a b).1 (sym ((same b a).0 q)) ∙ sym q
    by false false p q = p ∙ sym q

map-nothing : (f : Row → Row) (rows : List Row) → map f rows ≡ [] → rows ≡ []
map-nothing f [] e = refl
map-nothing f (row ∷ rows) e = cc

or_alone-some : (keep : Bool) (width : ℕ) (left : Row) (pairs : List Row) → (pairs ≡ [] → ⊥) → or_alone keep width left pairs ≡ pairs
or_alone-some keep width left [] h = absurd (h refl)
or_alone-some true width left (pair ∷ pairs) h = refl
or_alone-some false width left (pair ∷ pairs) h = refl

module _ (same : (a b : KeyAtoms) → (same_key a b ≡ true) ↔ (a ≡ b)) (law : KeysLaw)
    (left_key right_key : ℕ) (left : Row) (rights : List Row) (some : has_key left_key left ≡ true)
    (key : KeyAtoms) (mine : key ≡ key_of (cell_of left_key left)) where
  places : List ℕ
  places = places_of right_key key 0 rights

  pairs : List Row
  pairs = pairs_of left_key right_key (filter (has_key right_key) rights) left

  -- what a left row gives
  given : Bool → ℕ → List Row
  given keep width = if has_key left_key left then or_alone keep width left pairs else []

  told : (right : Row) → has_key right_key right ≡ true → same_key (key_of (cell_of right_key right)) key ≡ equal (cell_of left_key left) (cell_of right_key right)
  told right h =
      same_key-sym same (key_of (cell_of right_key right)) key
      ∙ ap (λ (k : KeyAtoms). same_key k (key_of (cell_of right_key right))) mine
      ∙ law (cell_of left_key left) (cell_of right_key right) some h

  scanned : flat_map (pair_at right_key left rights) places ≡ pairs
  unfolding places pairs
  scanned =
      pairs_at-places right_key right_key left key [] rights
      ∙ ap (map (pair_of right_key left)) (filter-has_this_key right_key key (λ right. equal (cell_of left_key left) (cell_of right_key right)) told rights)

  given-is : (keep : Bool) (width : ℕ) → given keep width ≡ or_alone keep width left pairs
  unfolding given
  given-is keep width = ap (λ (b : Bool). if b then or_alone keep width left pairs else []) some

  no_pairs : places ≡ [] → pairs ≡ []
  no_pairs e = sym scanned ∙ ap (flat_map (pair_at right_key left rights)) e

  some_pairs : (place : ℕ) (more : List ℕ) → places ≡ place ∷ more → pairs ≡ [] → ⊥
  unfolding places pairs
  some_pairs place more e none =
      let filtered : filter (has_this_key right_key key) rights ≡ []
      = map-nothing (pair_of right_key left) (filter (has_this_key right_key key) rights)
      (sym (pairs_at-places right_key right_key left key [] rights) ∙ scanned ∙ none) in
      let empty : place ∷ more ≡ [] = sym e ∙ places-none right_key key 0 rights filtered in
      cc

  -- the pairs that a chain gave, where it has a head
  pub given-pairs : (keep : Bool) (width place : ℕ) (more : List ℕ) (old new : List Row) → places_of right_key key 0 rights ≡ place ∷ more
      → new ≡ old ++ flat_map (pair_at right_key left rights) (places_of right_key key 0 rights)
      → new ≡ old ++ (if has_key left_key left then or_alone keep width left (pairs_of left_key right_key (filter (has_key right_key) rights) left) else [])
  unfolding places pairs given
  given-pairs keep width place more old new e h =
      h ∙ ap (λ (rs : List Row). old ++ rs) (scanned ∙ sym (or_alone-some keep width left pairs (some_pairs place more e)) ∙ sym (given-is keep width))

  -- a left row without a pair
  pub given-alone : (width : ℕ) (old new : List Row) → places_of right_key key 0 rights ≡ [] → new ≡ old ++ alone width left ∷ []
      → new ≡ old ++ (if has_key left_key left then or_alone true width left (pairs_of left_key right_key (filter (has_key right_key) rights) left) else [])
  unfolding places pairs given
  given-alone width old new e h = h ∙ ap (λ (rs : List Row). old ++ rs) (sym (given-is true width ∙ ap (or_alone true width left) (no_pairs e)))

  pub given-nothing : (width : ℕ) (old : List Row) → places_of right_key key 0 rights ≡ []
      → old ≡ old ++ (if has_key left_key left then or_alone false width left (pairs_of left_key right_key (filter (has_key right_key) rights) left) else [])
  unfolding places pairs given
  given-nothing width old e = sym (append-nil old) ∙ ap (λ (rs : List Row). old ++ rs) (sym (given-is false width ∙ ap (or_alone false width left) (no_pairs e)))

-- ---- a join, row by row

-- what the first left row gives, and then what the others give
pub joined_rows-front : (keep : Bool) (width left_key right_key : ℕ) (left : Row) (lefts rights : List Row)
    → (if has_key left_key left then or_alone keep width left (pairs_of left_key right_key (filter (has_key right_key) rights) left) else [])
    ++ joined_rows keep width left_key right_key lefts rights
    ≡ joined_rows keep width left_key right_key (left ∷ lefts) rights
joined_rows-front keep width left_key right_key left lefts rights = by (has_key left_key left)
  where
    gives : Row → List Row
    gives row = or_alone keep width row (pairs_of left_key right_key (filter (has_key right_key) rights) row)

    others : List Row
    others = filter (has_key left_key) lefts

    by : (b : Bool) → (if b then gives left else []) ++ flat_map gives others ≡ flat_map gives (cond b (left ∷ others) others)
    by true = refl
    by false = refl
