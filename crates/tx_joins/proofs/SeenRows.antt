-- The keys that were seen tell which rows are equal to one ahead.
use Rattle.std.proofs.Common.{◌≡◌, ◌++◌, ◌||◌, ◌&&◌, ℕ, Bool, true, false, List, [], ◌∷◌, Option, None, Some, is_some, if◌then◌else◌, refl, sym, ap, ◌∙◌, not, true≢false}
use Rattle.std.proofs.lemmas.List.Folds.{list_any-append}
use Rattle.std.specs.Prelude.{◌↔◌}
use Rattle.std.specs.List.{list_all, list_any}
use Rattle.std.specs.Map.{keys_of}
use Rattle.tx_values.specs.declared.key.Atom.{Atom}
use Rattle.tx_values.specs.declared.row.Row.{Row}
use Rattle.tx_values.specs.Keys.{key_of, same_key}
use Rattle.tx_values.specs.Laws.{KeysLaw}
use Rattle.tx_joins.specs.FirstPlaces.{FirstPlace, seen_at, was_seen}
use Rattle.tx_joins.specs.Unique.{cells_of, has_keys, same_cells}
use Rattle.tx_joins.specs.Calls.Seen.{AreSeen}

-- ---- tests and lists

pub none_of : {A : Type 0} (o : Option A) → false ≡ is_some o → o ≡ None
none_of None e = refl
none_of (Some a) e = absurd (true≢false (sym e))

first_holds : (a b : Bool) → (a && b) ≡ true → a ≡ true
first_holds true b e = refl
first_holds false b e = e

second_holds : (a b : Bool) → (a && b) ≡ true → b ≡ true
second_holds true b e = e
second_holds false b e = absurd (true≢false (sym e))

or-nothing : (a : Bool) → (a || (false || false)) ≡ a
or-nothing true = refl
or-nothing false = refl

list_all_push : (p : Row → Bool) (rows : List Row) (row : Row) → list_all p rows ≡ true → p row ≡ true → list_all p (rows ++ row ∷ []) ≡ true
list_all_push p [] row all here = ap (λ (b : Bool). b && true) here
list_all_push p (first ∷ rows) row all here =
    ap (λ (b : Bool). b && list_all p (rows ++ row ∷ [])) (first_holds (p first) (list_all p rows) all)
    ∙ list_all_push p rows row (second_holds (p first) (list_all p rows) all) here

keys_of_push : (places : List FirstPlace) (key : List Atom) (place : ℕ) → keys_of (places ++ (key, place) ∷ []) ≡ keys_of places ++ key ∷ []
keys_of_push [] key place = refl
keys_of_push (first ∷ places) key place = ap (λ (ks : List (List Atom)). first.0 ∷ ks) (keys_of_push places key place)

-- ---- a row with a key

module _ (same : (a b : List Atom) → (same_key a b ≡ true) ↔ (a ≡ b)) (law : KeysLaw) (row : Row) (keyed : has_keys row ≡ true)
    (key : List Atom) (mine : key ≡ key_of (cells_of row)) where
  -- a row ahead has the key exactly where it is equal cell by cell
  any_same : (ahead : List Row) → list_all has_keys ahead ≡ true
      → list_any (λ (other : Row). same_key key (key_of (cells_of other))) ahead ≡ list_any (same_cells row) ahead
  any_same [] all = refl
  any_same (other ∷ ahead) all =
      ap (λ (k : List Atom). same_key k (key_of (cells_of other)) || list_any (λ (o : Row). same_key key (key_of (cells_of o))) ahead) mine
      ∙ ap (λ (b : Bool). b || list_any (λ (o : Row). same_key key (key_of (cells_of o))) ahead)
      (law (cells_of row) (cells_of other) keyed (first_holds (has_keys other) (list_all has_keys ahead) all))
      ∙ ap (λ (b : Bool). same_cells row other || b) (any_same ahead (second_holds (has_keys other) (list_all has_keys ahead) all))

  pub seen-is : (places : List FirstPlace) (ahead : List Row) → AreSeen places ahead → was_seen places key ≡ list_any (same_cells row) ahead
  seen-is places ahead are = are.seen key ∙ any_same ahead are.keyed

  -- once it was seen, it is one of the rows
  pub seen-more : (places : List FirstPlace) (place : ℕ) (ahead : List Row) → AreSeen places ahead → AreSeen (seen_at places key place) (ahead ++ row ∷ [])
  seen-more places place ahead are = record { keyed = list_all_push has_keys ahead row are.keyed keyed; seen = seen }
    where
      has : List Atom → Row → Bool
      has q other = same_key q (key_of (cells_of other))

      pushed : (q : List Atom) → list_any (λ (other : Row). same_key q (key_of (cells_of other))) (ahead ++ row ∷ [])
          ≡ (was_seen places q || (same_key q key || false))
      pushed q =
          list_any-append (λ (other : Row). same_key q (key_of (cells_of other))) ahead (row ∷ [])
          ∙ ap (λ (b : Bool). b || (same_key q (key_of (cells_of row)) || false)) (sym (are.seen q))
          ∙ ap (λ (k : List Atom). was_seen places q || (same_key q k || false)) (sym mine)

      kept : (q : List Atom) (b : Bool) → was_seen places key ≡ true → same_key q key ≡ b → was_seen places q ≡ (was_seen places q || (same_key q key || false))
      kept q true there e =
          let here : was_seen places q ≡ true = ap (was_seen places) ((same q key).0 e) ∙ there in
          here ∙ sym (ap (λ (b : Bool). b || (same_key q key || false)) here)
      kept q false there e = sym (ap (λ (b : Bool). was_seen places q || (b || false)) e ∙ or-nothing (was_seen places q))

      by : (q : List Atom) (b : Bool) → was_seen places key ≡ b → was_seen (seen_at places key place) q ≡ (was_seen places q || (same_key q key || false))
      by q true e = ap (λ (b : Bool). was_seen (if b then places else places ++ (key, place) ∷ []) q) e ∙ kept q (same_key q key) e refl
      by q false e =
          ap (λ (b : Bool). was_seen (if b then places else places ++ (key, place) ∷ []) q) e
          ∙ ap (list_any (same_key q)) (keys_of_push places key place)
          ∙ list_any-append (same_key q) (keys_of places) (key ∷ [])

      seen : (q : List Atom) → was_seen (seen_at places key place) q ≡ list_any (λ (other : Row). same_key q (key_of (cells_of other))) (ahead ++ row ∷ [])
      seen q = by q (was_seen places key) refl ∙ sym (pushed q)

-- ---- what a test that is not new says

pub seen_of : (b : Bool) → not b ≡ false → b ≡ true
seen_of true e = refl
seen_of false e = absurd (true≢false e)

pub new_of : (b : Bool) → not b ≡ true → b ≡ false
new_of true e = absurd (true≢false (sym e))
new_of false e = refl
