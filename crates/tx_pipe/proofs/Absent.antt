-- The first name that is absent: among the names of columns, each of them once, and of all that is asked for.
use Rattle.std.proofs.Common.{◌≡◌, ℕ, ◌+◌, ◌++◌, ◌||◌, Bool, true, false, not, if◌then◌else◌, List, [], ◌∷◌, Option, Some, None, option_map, find, refl, sym, ap, ◌∙◌}
use Rattle.std.specs.Cmp.Lexicographic.{bytes_decides}
use Rattle.tx_tree.specs.Words.{same_text}
use Rattle.tx_name_set.specs.NameSet.{is_in, add, add_all}
use Rattle.tx_names.specs.Scope.{Text}
use Rattle.tx_names.specs.Faults.{first_some}
use Rattle.tx_names.specs.Function.{Function}
use Rattle.tx_names.specs.Parts.{columns_of}
use Rattle.tx_pipe.specs.Pipe.{Operation, csv, map_to, filter, with_column, map_column, select_columns, rename_column, join, left_join, unique, aggregate, to_csv, Handling, resolve, ignore, PipeNode}
use Rattle.tx_pipe.specs.Column.{Schema, Asked, bytes_of, schema_at, asked_among, asked_by, asked, is_absent, first_absent_from}
use Rattle.tx_pipe.specs.Calls.Asking.{absent_among, first_name, handlers_asked, handlers_absent, operation_absent}

-- ---- each name once

or_assoc : (a b c : Bool) → ((a || b) || c) ≡ (a || (b || c))
or_assoc true b c = refl
or_assoc false b c = refl

or_false : (a : Bool) → (a || false) ≡ a
or_false true = refl
or_false false = refl

-- a name that is among them already
or_among : (ks : List Text) (k n : Text) → is_in ks k ≡ true → is_in ks n ≡ (is_in ks n || same_text n k)
or_among ks k n e = by_test (same_text n k) refl
  where
    by_test : (b : Bool) → same_text n k ≡ b → is_in ks n ≡ (is_in ks n || b)
    by_test true h = let here : is_in ks n ≡ true = ap (is_in ks) ((bytes_decides n k).0 h) ∙ e in here ∙ ap (λ b. b || true) (sym here)
    by_test false h = sym (or_false (is_in ks n))

one_more : (ks : List Text) (k n : Text) → is_in (ks ++ k ∷ []) n ≡ (is_in ks n || same_text n k)
one_more [] k n = or_false (same_text n k)
one_more (x ∷ ks) k n = ap (λ b. same_text n x || b) (one_more ks k n) ∙ sym (or_assoc (same_text n x) (is_in ks n) (same_text n k))

is_in-add : (ks : List Text) (k n : Text) → is_in (add ks k) n ≡ (is_in ks n || same_text n k)
is_in-add ks k n = by_test (is_in ks k) refl
  where
    by_test : (b : Bool) → is_in ks k ≡ b → is_in (if b then ks else ks ++ k ∷ []) n ≡ (is_in ks n || same_text n k)
    by_test true h = or_among ks k n h
    by_test false h = one_more ks k n

is_in-add_all : (ks ns : List Text) (n : Text) → is_in (add_all ks ns) n ≡ (is_in ks n || is_in ns n)
is_in-add_all ks [] n = sym (or_false (is_in ks n))
is_in-add_all ks (k ∷ ns) n =
    is_in-add_all (add ks k) ns n ∙ ap (λ b. b || is_in ns n) (is_in-add ks k n) ∙ or_assoc (is_in ks n) (same_text n k) (is_in ns n)

absent-once : (schema : Schema) (ns : List Text) → absent_among (add_all [] schema) ns ≡ absent_among schema ns
absent-once schema [] = refl
absent-once schema (n ∷ ns) =
    ap (λ b. if not b then Some n else absent_among (add_all [] schema) ns) (is_in-add_all [] schema (bytes_of n))
    ∙ ap (λ o. if not (is_in schema (bytes_of n)) then Some n else o) (absent-once schema ns)

-- the same, from the answer on the names of the columns
pub absent-among : (schema names : Schema) (ns : List Text) (o : Option Text) → names ≡ add_all [] schema → o ≡ absent_among names ns → o ≡ absent_among schema ns
absent-among schema names ns o e h = h ∙ ap (λ ks. absent_among ks ns) e ∙ absent-once schema ns

-- ---- names that are asked for

first_name-append : (as' bs : List Asked) → first_name (as' ++ bs) ≡ first_some (first_name as') (first_name bs)
first_name-append [] bs = refl
first_name-append (a ∷ as') bs = by_test (is_absent a) (first_name-append as' bs)
  where
    by_test : (b : Bool) → first_name (as' ++ bs) ≡ first_some (first_name as') (first_name bs)
        → option_map (λ (x : Asked). x.0) (if b then Some a else find is_absent (as' ++ bs)) ≡ first_some (option_map (λ (x : Asked). x.0) (if b then Some a else find is_absent as')) (first_name bs)
    by_test true h = refl
    by_test false h = h

first_name-among : (schema : Schema) (ns : List Text) → first_name (asked_among schema ns) ≡ absent_among schema ns
first_name-among schema [] = refl
first_name-among schema (n ∷ ns) = by_test (is_in schema (bytes_of n)) (first_name-among schema ns)
  where
    by_test : (b : Bool) → first_name (asked_among schema ns) ≡ absent_among schema ns
        → option_map (λ (x : Asked). x.0) (if not b then Some (n, schema) else find is_absent (asked_among schema ns)) ≡ (if not b then Some n else absent_among schema ns)
    by_test true h = h
    by_test false h = refl

first_name-one : (schema : Schema) (n : Text) → first_name ((n, schema) ∷ []) ≡ absent_among schema (n ∷ [])
first_name-one schema n = first_name-among schema (n ∷ [])

-- by one name, and then by others
first_name-cons : (schema : Schema) (n : Text) (as' : List Asked) → first_name ((n, schema) ∷ as') ≡ first_some (absent_among schema (n ∷ [])) (first_name as')
first_name-cons schema n as' = first_name-append ((n, schema) ∷ []) as' ∙ ap (λ o. first_some o (first_name as')) (first_name-one schema n)

by_operation : (all : List Schema) (left : Schema) (op : Operation (Function ℕ) ℕ) → first_name (asked_by all left op) ≡ operation_absent all left op
by_operation all left (csv file names) = refl
by_operation all left (map_to f results) = first_name-among left (columns_of f)
by_operation all left (filter f) = first_name-among left (columns_of f)
by_operation all left (with_column name f) = first_name-among left (columns_of f)
by_operation all left (map_column name f) = first_name-cons left name (asked_among left (columns_of f)) ∙ ap (first_some (absent_among left (name ∷ []))) (first_name-among left (columns_of f))
by_operation all left (select_columns names) = first_name-among left names
by_operation all left (rename_column old new) = first_name-one left old
by_operation all left (join right l r) = first_name-cons left l ((r, schema_at all right) ∷ []) ∙ ap (first_some (absent_among left (l ∷ []))) (first_name-one (schema_at all right) r)
by_operation all left (left_join right l r) = first_name-cons left l ((r, schema_at all right) ∷ []) ∙ ap (first_some (absent_among left (l ∷ []))) (first_name-one (schema_at all right) r)
by_operation all left unique = refl
by_operation all left (aggregate f init name) = first_name-among left (columns_of f)
by_operation all left (to_csv file) = refl

by_handlers : (left : Schema) (hs : List (Handling (Function ℕ))) → first_name (handlers_asked left hs) ≡ handlers_absent left hs
by_handlers left [] = refl
by_handlers left (ignore class ∷ hs) = by_handlers left hs
by_handlers left (resolve class f ∷ hs) =
    first_name-append (asked_among left (columns_of f)) (handlers_asked left hs)
    ∙ ap (λ o. first_some o (first_name (handlers_asked left hs))) (first_name-among left (columns_of f))
    ∙ ap (first_some (absent_among left (columns_of f))) (by_handlers left hs)

-- ---- among the names of the input, each of them once

operation-once : (all : List Schema) (left : Schema) (op : Operation (Function ℕ) ℕ) → operation_absent all (add_all [] left) op ≡ operation_absent all left op
operation-once all left (csv file names) = refl
operation-once all left (map_to f results) = absent-once left (columns_of f)
operation-once all left (filter f) = absent-once left (columns_of f)
operation-once all left (with_column name f) = absent-once left (columns_of f)
operation-once all left (map_column name f) = ap (λ o. first_some o (absent_among (add_all [] left) (columns_of f))) (absent-once left (name ∷ [])) ∙ ap (first_some (absent_among left (name ∷ []))) (absent-once left (columns_of f))
operation-once all left (select_columns names) = absent-once left names
operation-once all left (rename_column old new) = absent-once left (old ∷ [])
operation-once all left (join right l r) = ap (λ o. first_some o (absent_among (schema_at all right) (r ∷ []))) (absent-once left (l ∷ []))
operation-once all left (left_join right l r) = ap (λ o. first_some o (absent_among (schema_at all right) (r ∷ []))) (absent-once left (l ∷ []))
operation-once all left unique = refl
operation-once all left (aggregate f init name) = absent-once left (columns_of f)
operation-once all left (to_csv file) = refl

handlers-once : (left : Schema) (hs : List (Handling (Function ℕ))) → handlers_absent (add_all [] left) hs ≡ handlers_absent left hs
handlers-once left [] = refl
handlers-once left (ignore class ∷ hs) = handlers-once left hs
handlers-once left (resolve class f ∷ hs) = ap (λ o. first_some o (handlers_absent (add_all [] left) hs)) (absent-once left (columns_of f)) ∙ ap (first_some (absent_among left (columns_of f))) (handlers-once left hs)

-- all that an operator and its handlers ask for
absent-whole : (all : List Schema) (left : Schema) (op : Operation (Function ℕ) ℕ) (hs : List (Handling (Function ℕ)))
    → first_some (operation_absent all (add_all [] left) op) (handlers_absent (add_all [] left) hs) ≡ first_name (asked_by all left op ++ handlers_asked left hs)
absent-whole all left op hs =
    ap (λ o. first_some o (handlers_absent (add_all [] left) hs)) (operation-once all left op ∙ sym (by_operation all left op))
    ∙ ap (first_some (first_name (asked_by all left op))) (handlers-once left hs ∙ sym (by_handlers left hs))
    ∙ sym (first_name-append (asked_by all left op) (handlers_asked left hs))

-- the same, of the names of the input's columns
pub absent-found : (all : List Schema) (left names : Schema) (op : Operation (Function ℕ) ℕ) (hs : List (Handling (Function ℕ))) → names ≡ add_all [] left
    → first_some (operation_absent all names op) (handlers_absent names hs) ≡ first_name (asked_by all left op ++ handlers_asked left hs)
absent-found all left names op hs e = ap (λ ns. first_some (operation_absent all ns op) (handlers_absent ns hs)) e ∙ absent-whole all left op hs

-- ---- from operator to operator

-- the first name of an operator, with its number, and else that of those behind it
pub first_absent-step : (number : ℕ) (all : List Schema) (n : PipeNode (Function ℕ)) (ns : List (PipeNode (Function ℕ)))
    → first_absent_from number all (n ∷ ns) ≡ first_some (option_map (λ x. (number, x)) (first_name (asked all n))) (first_absent_from (number + 1) all ns)
first_absent-step number all n ns = by_first (find is_absent (asked all n))
  where
    by_first : (o : Option Asked)
        → first_some (option_map (λ (a : Asked). (number, a.0)) o) (first_absent_from (number + 1) all ns)
        ≡ first_some (option_map (λ x. (number, x)) (option_map (λ (a : Asked). a.0) o)) (first_absent_from (number + 1) all ns)
    by_first None = refl
    by_first (Some a) = refl

-- an operator asks for a name that is absent
pub first_absent-met : (number : ℕ) (all : List Schema) (n : PipeNode (Function ℕ)) (ns : List (PipeNode (Function ℕ))) (x : Text)
    → Some x ≡ first_name (asked all n) → first_absent_from number all (n ∷ ns) ≡ Some (number, x)
first_absent-met number all n ns x h =
    first_absent-step number all n ns ∙ ap (λ o. first_some (option_map (λ y. (number, y)) o) (first_absent_from (number + 1) all ns)) (sym h)

-- it asks for none
pub first_absent-passed : (number : ℕ) (all : List Schema) (n : PipeNode (Function ℕ)) (ns : List (PipeNode (Function ℕ)))
    → None ≡ first_name (asked all n) → first_absent_from number all (n ∷ ns) ≡ first_absent_from (number + 1) all ns
first_absent-passed number all n ns h =
    first_absent-step number all n ns ∙ ap (λ o. first_some (option_map (λ y. (number, y)) o) (first_absent_from (number + 1) all ns)) (sym h)

pub ruleset firsts = (first_absent-met, first_absent-passed)
