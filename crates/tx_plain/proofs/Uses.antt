-- How often an operator is an input: in a lawful pipe it is none of a later one once it was taken.
use Rattle.std.proofs.Common.{◌≡◌, ℕ, zero, suc, ◌+◌, ◌<◌, ◌≤◌, ◌==◌, ◌&&◌, ◌++◌, Bool, true, cond, eqb, nat_le, nat_lt, not, ◌⊎◌, inl, inr, List, [], ◌∷◌, count_by, drop, flat_map, length, take, refl, sym, ap, subst, ◌∙◌, arith, eq-eqb, eqb-true, ltb-true, leb-true}
use Rattle.std.specs.List.{list_all}
use Rattle.std.specs.Option.{is_some}
use Rattle.std.proofs.lemmas.Grind.{flat_map-append}
use Rattle.std.proofs.lemmas.List.{take-append-drop}
use Rattle.std.proofs.lemmas.List.Sums.{sum_by-append, sum_by-cons}
use Rattle.tx_pipe.specs.Pipe.{Operation, csv, map_to, filter, with_column, map_column, select_columns, rename_column, join, left_join, unique, aggregate, to_csv, PipeNode, output_file, source_file}
use Rattle.tx_pipe.specs.Lawful.{are_fed, ends_once, inputs_by, inputs_of, is_earlier, is_fed, is_output, uses}
use Rattle.tx_plain.specs.Operators.{right_input}
use Rattle.tx_plain.specs.Laws.{follow, is_row_wise, is_run}
use Rattle.tx_plain.proofs.RunLemmas.{both}

pub uses-cons : {F : Type 0} (number : ℕ) (n : PipeNode F) (ns : List (PipeNode F)) → uses number (n ∷ ns) ≡ count_by (λ i. i == number) (inputs_of n) + uses number ns
uses-cons number n ns = sum_by-append (λ i. cond (i == number) 1 0) (inputs_of n) (flat_map inputs_of ns)

pub uses-append : {F : Type 0} (number : ℕ) (ns ms : List (PipeNode F)) → uses number (ns ++ ms) ≡ uses number ns + uses number ms
uses-append number ns ms =
    ap (count_by (λ i. i == number)) (flat_map-append inputs_of ns ms)
    ∙ sum_by-append (λ i. cond (i == number) 1 0) (flat_map inputs_of ns) (flat_map inputs_of ms)

-- an input that is the first
first_counts : (i : ℕ) (rest : List ℕ) → 1 ≤ count_by (λ x. x == i) (i ∷ rest)
first_counts i rest =
    let e : count_by (λ x. x == i) (i ∷ rest) ≡ cond (eqb i i) 1 0 + count_by (λ x. x == i) rest = sum_by-cons (λ x. cond (x == i) 1 0) i rest in
    let f : ◌≡◌ {A = ℕ} (cond (eqb i i) 1 0) 1 = ap (λ (b : Bool). cond b 1 0) (eq-eqb i i refl) in
    omega (arith, e, f)

second_counts : (i j : ℕ) → 1 ≤ count_by (λ x. x == j) (i ∷ j ∷ [])
second_counts i j =
    let e : count_by (λ x. x == j) (i ∷ j ∷ []) ≡ cond (eqb i j) 1 0 + count_by (λ x. x == j) (j ∷ []) = sum_by-cons (λ x. cond (x == j) 1 0) i (j ∷ []) in
    omega (arith, e, first_counts j [])

both_count : (i j : ℕ) → i ≡ j → 2 ≤ count_by (λ x. x == j) (i ∷ j ∷ [])
both_count i j same =
    let e : count_by (λ x. x == j) (i ∷ j ∷ []) ≡ cond (eqb i j) 1 0 + count_by (λ x. x == j) (j ∷ []) = sum_by-cons (λ x. cond (x == j) 1 0) i (j ∷ []) in
    let f : ◌≡◌ {A = ℕ} (cond (eqb i j) 1 0) 1 = ap (λ (b : Bool). cond b 1 0) (eq-eqb i j same) in
    omega (arith, e, f, first_counts j [])

-- ---- an operator's inputs

earlier : (number input : ℕ) → is_earlier number input ≡ true → (1 ≤ input) × (input < number)
earlier number input h =
    let tests = both (nat_le 1 input) (nat_lt input number) h in
    (leb-true 1 input tests.0, ltb-true input number tests.1)

-- the left input: there is none, or it is an earlier operator that is used here
pub left_by : {F : Type 0} (number : ℕ) (op : Operation F ℕ) (input : ℕ)
    → cond (is_some (source_file op)) (input == 0) (list_all (is_earlier number) (inputs_by op input)) ≡ true
    → (input ≡ 0) ⊎ ((1 ≤ input) × (input < number) × (1 ≤ count_by (λ i. i == input) (inputs_by op input)))
left_by number (csv file names) input h = inl (eqb-true input 0 h)
left_by number (join right l r) input h =
    let e = earlier number input (both (is_earlier number input) (is_earlier number right && true) h).0 in inr (e.0, e.1, first_counts input (right ∷ []))
left_by number (left_join right l r) input h =
    let e = earlier number input (both (is_earlier number input) (is_earlier number right && true) h).0 in inr (e.0, e.1, first_counts input (right ∷ []))
left_by number (map_to f results) input h = let e = earlier number input (both (is_earlier number input) true h).0 in inr (e.0, e.1, first_counts input [])
left_by number (filter f) input h = let e = earlier number input (both (is_earlier number input) true h).0 in inr (e.0, e.1, first_counts input [])
left_by number (with_column name f) input h = let e = earlier number input (both (is_earlier number input) true h).0 in inr (e.0, e.1, first_counts input [])
left_by number (map_column name f) input h = let e = earlier number input (both (is_earlier number input) true h).0 in inr (e.0, e.1, first_counts input [])
left_by number (select_columns names) input h = let e = earlier number input (both (is_earlier number input) true h).0 in inr (e.0, e.1, first_counts input [])
left_by number (rename_column old new) input h = let e = earlier number input (both (is_earlier number input) true h).0 in inr (e.0, e.1, first_counts input [])
left_by number unique input h = let e = earlier number input (both (is_earlier number input) true h).0 in inr (e.0, e.1, first_counts input [])
left_by number (aggregate f init name) input h = let e = earlier number input (both (is_earlier number input) true h).0 in inr (e.0, e.1, first_counts input [])
left_by number (to_csv file) input h = let e = earlier number input (both (is_earlier number input) true h).0 in inr (e.0, e.1, first_counts input [])

-- the right one: there is none, or it is another earlier operator
pub right_by : {F : Type 0} (number : ℕ) (op : Operation F ℕ) (input : ℕ)
    → cond (is_some (source_file op)) (input == 0) (list_all (is_earlier number) (inputs_by op input)) ≡ true
    → (right_input op ≡ 0) ⊎ ((1 ≤ right_input op) × (right_input op < number) × (1 ≤ count_by (λ i. i == right_input op) (inputs_by op input))
    × (input ≡ right_input op → 2 ≤ count_by (λ i. i == right_input op) (inputs_by op input)))
right_by number (join right l r) input h =
    let e = earlier number right (both (is_earlier number right) true (both (is_earlier number input) (is_earlier number right && true) h).1).0 in
    inr (e.0, e.1, second_counts input right, both_count input right)
right_by number (left_join right l r) input h =
    let e = earlier number right (both (is_earlier number right) true (both (is_earlier number input) (is_earlier number right && true) h).1).0 in
    inr (e.0, e.1, second_counts input right, both_count input right)
right_by number (csv file names) input h = inl refl
right_by number (map_to f results) input h = inl refl
right_by number (filter f) input h = inl refl
right_by number (with_column name f) input h = inl refl
right_by number (map_column name f) input h = inl refl
right_by number (select_columns names) input h = inl refl
right_by number (rename_column old new) input h = inl refl
right_by number unique input h = inl refl
right_by number (aggregate f init name) input h = inl refl
right_by number (to_csv file) input h = inl refl

no_drop : {X : Type 0} (at : ℕ) (x : X) (rest : List X) → drop at [] ≡ x ∷ rest → ⊥
no_drop zero x rest e = cc
no_drop (suc at) x rest e = cc

pub fed_at : {F : Type 0} (p : List (PipeNode F)) (from at : ℕ) (n : PipeNode F) (rest : List (PipeNode F)) → are_fed from p ≡ true → drop at p ≡ n ∷ rest → is_fed (from + at) n ≡ true
fed_at [] from at n rest h e = absurd (no_drop at n rest e)
fed_at {F} (x ∷ xs) from zero n rest h e =
    let same : x ≡ n = cc in
    let here : is_fed from x ≡ true = (both (is_fed from x) (are_fed (from + 1) xs) h).0 in
    ap (λ (k : ℕ). is_fed k n) (no_more from) ∙ ap (is_fed from) (sym same) ∙ here
  where
    no_more : (k : ℕ) → k + 0 ≡ k
    no_more k = omega arith
fed_at {F} (x ∷ xs) from (suc at) n rest h e =
    ap (λ (k : ℕ). is_fed k n) (moved from at) ∙ fed_at xs (from + 1) at n rest (both (is_fed from x) (are_fed (from + 1) xs) h).1 e
  where
    moved : (k l : ℕ) → k + suc l ≡ k + 1 + l
    moved k l = omega arith

module _ {F : Type 0} (p : List (PipeNode F)) (at : ℕ) where
  -- the uses up to a place and from there on
  pub uses_split : (number : ℕ) (here : List (PipeNode F)) → drop at p ≡ here → uses number p ≡ uses number (take at p) + uses number here
  uses_split number here e =
      ap (uses number) (sym (take-append-drop at p)) ∙ uses-append number (take at p) (drop at p) ∙ ap (λ (ns : List (PipeNode F)). uses number (take at p) + uses number ns) e

  -- what one takes that is used once is used by none behind it
  pub taken_once : (number : ℕ) (here rest : List (PipeNode F)) → drop at p ≡ here ++ rest → uses number p ≡ 1 → 1 ≤ uses number here → uses number rest ≡ 0
  taken_once number here rest e once used =
      let whole = uses_split number (here ++ rest) e in
      let parts = uses-append number here rest in
      omega (arith, whole, parts, once, used)

-- ---- a run

row_inputs : {F : Type 0} (op : Operation F ℕ) (input : ℕ) → is_row_wise op ≡ true → inputs_by op input ≡ input ∷ []
row_inputs (csv file names) input h = cc
row_inputs (map_to f results) input h = refl
row_inputs (filter f) input h = refl
row_inputs (with_column name f) input h = refl
row_inputs (map_column name f) input h = refl
row_inputs (select_columns names) input h = refl
row_inputs (rename_column old new) input h = refl
row_inputs (join right l r) input h = cc
row_inputs (left_join right l r) input h = cc
row_inputs unique input h = cc
row_inputs (aggregate f init name) input h = cc
row_inputs (to_csv file) input h = refl

-- each of them but the last is an input of the one behind it
pub follow_uses : {F : Type 0} (number : ℕ) (ns : List (PipeNode F)) → follow number ns ≡ true → (j : ℕ) → j < length ns → 1 ≤ uses (number + j) ns
follow_uses number [] h j less = absurd (omega (arith, less))
follow_uses number (n ∷ ns) h zero less =
    let tests = both (is_row_wise n.operation) (n.input == number && follow (number + 1) ns) h in
    let input : n.input ≡ number = eqb-true n.input number (both (n.input == number) (follow (number + 1) ns) tests.1).0 in
    let one : 1 ≤ count_by (λ i. i == n.input) (n.input ∷ []) = first_counts n.input [] in
    let mine : 1 ≤ count_by (λ i. i == n.input) (inputs_of n) = subst (λ (l : List ℕ). 1 ≤ count_by (λ i. i == n.input) l) (sym (row_inputs n.operation n.input tests.0)) one in
    let all : 1 ≤ uses n.input (n ∷ ns) = omega (arith, uses-cons n.input n ns, mine) in
    subst (λ (k : ℕ). 1 ≤ uses k (n ∷ ns)) (input ∙ none number) all
  where
    none : (k : ℕ) → k ≡ k + 0
    none k = omega arith
follow_uses number (n ∷ ns) h (suc j) less =
    let tests = both (is_row_wise n.operation) (n.input == number && follow (number + 1) ns) h in
    let later : follow (number + 1) ns ≡ true = (both (n.input == number) (follow (number + 1) ns) tests.1).1 in
    let ih : 1 ≤ uses (number + 1 + j) ns = follow_uses (number + 1) ns later j (omega (arith, less)) in
    let same : 1 ≤ uses (number + suc j) ns = subst (λ (k : ℕ). 1 ≤ uses k ns) (moved number j) ih in
    omega (arith, uses-cons (number + suc j) n ns, same)
  where
    moved : (k l : ℕ) → k + 1 + l ≡ k + suc l
    moved k l = omega arith

-- ---- the end

pub ends_behind : {F : Type 0} (p : List (PipeNode F)) (at : ℕ) → at < length p → ends_once p ≡ true → ends_once (drop at p) ≡ true
ends_behind [] at less h = absurd (omega (arith, less))
ends_behind (n ∷ []) zero less h = h
ends_behind (n ∷ []) (suc at) less h = absurd (omega (arith, less))
ends_behind (n ∷ m ∷ ns) zero less h = h
ends_behind (n ∷ m ∷ ns) (suc at) less h = ends_behind (m ∷ ns) at (omega (arith, less)) (both (not (is_output n)) (ends_once (m ∷ ns)) h).1

pub ends_some : {F : Type 0} (p : List (PipeNode F)) → ends_once p ≡ true → 1 ≤ length p
ends_some [] h = cc
ends_some (n ∷ ns) h = omega arith

output_rows : {F : Type 0} (op : Operation F ℕ) → is_some (output_file op) ≡ true → is_row_wise op ≡ true
output_rows (csv file names) h = cc
output_rows (map_to f results) h = cc
output_rows (filter f) h = cc
output_rows (with_column name f) h = cc
output_rows (map_column name f) h = cc
output_rows (select_columns names) h = cc
output_rows (rename_column old new) h = cc
output_rows (join right l r) h = cc
output_rows (left_join right l r) h = cc
output_rows unique h = cc
output_rows (aggregate f init name) h = cc
output_rows (to_csv file) h = refl

-- the last operator is a run
pub last_alone : {F : Type 0} (p : List (PipeNode F)) (k number : ℕ) → ends_once p ≡ true → length p ≡ suc k → is_run number (drop k p) ≡ true
last_alone [] k number h e = absurd (omega (arith, e))
last_alone (n ∷ []) zero number h e = ap (λ (b : Bool). b && true) (output_rows n.operation h)
last_alone (n ∷ []) (suc k) number h e = absurd (omega (arith, e))
last_alone (n ∷ m ∷ ns) zero number h e = absurd (omega (arith, e))
last_alone (n ∷ m ∷ ns) (suc k) number h e = last_alone (m ∷ ns) k number (both (not (is_output n)) (ends_once (m ∷ ns)) h).1 (omega (arith, e))

-- a run with one more in front
pub run_more : {F : Type 0} (k start : ℕ) (b n : PipeNode F) (rest : List (PipeNode F)) → start ≡ k + 1 → is_row_wise b.operation ≡ true → n.input ≡ start
    → is_run (start + 1) (n ∷ rest) ≡ true → is_run (k + 1) (b ∷ n ∷ rest) ≡ true
run_more k start b n rest e goes input h =
    let tests = both (is_row_wise n.operation) (follow (start + 1) rest) h in
    let later : follow (k + 1 + 1) rest ≡ true = ap (λ (j : ℕ). follow (j + 1) rest) (sym e) ∙ tests.1 in
    let here : (n.input == k + 1) ≡ true = eq-eqb n.input (k + 1) (input ∙ e) in
    ap (λ (t : Bool). t && (is_row_wise n.operation && (n.input == k + 1 && follow (k + 1 + 1) rest))) goes
    ∙ ap (λ (t : Bool). t && (n.input == k + 1 && follow (k + 1 + 1) rest)) tests.0
    ∙ ap (λ (t : Bool). t && follow (k + 1 + 1) rest) here
    ∙ later
