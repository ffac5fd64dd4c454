-- A run of operators in a pipe.
use Rattle.std.proofs.Common.{◌≡◌, ℕ, ◌+◌, ◌==◌, ◌&&◌, ◌++◌, Bool, true, false, List, [], ◌∷◌, Option, Some, length, option_map, slice_get, refl, ap, ◌∙◌, add-one, append_assoc, eqb-true}
use Rattle.std.specs.Option.{unwrap_or}
use Rattle.std.proofs.lemmas.List.{length_push}
use Rattle.tx_values.specs.declared.row.Row.{Row}
use Rattle.tx_values.specs.declared.value.Value.{Value}
use Rattle.tx_values.specs.Answer.{Answer}
use Rattle.tx_records.specs.declared.csv_source.CsvSource.{CsvSource}
use Rattle.tx_pipe.specs.Pipe.{Operation, csv, map_to, filter, with_column, map_column, select_columns, rename_column, join, left_join, unique, aggregate, to_csv, PipeNode}
use Rattle.tx_pipe.specs.Column.{Schema}
use Rattle.tx_plain.specs.Handlers.{Input}
use Rattle.tx_plain.specs.Operators.{Made, made_behind, made_next, operated, right_input, row_wise, rows_at}
use Rattle.tx_plain.specs.Pipeline.{evaluate}
use Rattle.tx_plain.specs.Laws.{follow, is_row_wise, is_run, one_by_one, RunLaw}

-- ---- the last of some

at_length : {X : Type 0} (xs : List X) (x : X) → slice_get (xs ++ x ∷ []) (length xs) ≡ Some x
at_length [] x = refl
at_length (y ∷ xs) x = at_length xs x

pub rows_at-last : (made : List Made) (m : Made) → rows_at (made ++ m ∷ []) (length made + 1) ≡ m.rows
rows_at-last made m =
    ap (rows_at (made ++ m ∷ [])) (add-one (length made))
    ∙ ap (λ (o : Option Made). unwrap_or (option_map (λ (p : Made). p.rows) o) []) (at_length made m)

-- ---- both of two tests

pub both : (a b : Bool) → (a && b) ≡ true → (a ≡ true) × (b ≡ true)
both true true h = (refl, refl)
both true false h = cc
both false b h = cc

module _ {F : Type 0} (evaluate : F → Input → Answer Value) where
  -- an operator that goes row by row
  goes_by_rows : (sources : List (Option CsvSource)) (schemas : List Schema) (number : ℕ) (n : PipeNode F) (op : Operation F ℕ) (lefts rights : List Row)
      → is_row_wise op ≡ true → operated evaluate sources schemas number n op lefts rights ≡ row_wise evaluate schemas number n lefts
  goes_by_rows sources schemas number n (csv file names) lefts rights h = cc
  goes_by_rows sources schemas number n (map_to f results) lefts rights h = refl
  goes_by_rows sources schemas number n (filter f) lefts rights h = refl
  goes_by_rows sources schemas number n (with_column name f) lefts rights h = refl
  goes_by_rows sources schemas number n (map_column name f) lefts rights h = refl
  goes_by_rows sources schemas number n (select_columns names) lefts rights h = refl
  goes_by_rows sources schemas number n (rename_column old new) lefts rights h = refl
  goes_by_rows sources schemas number n (join right l r) lefts rights h = cc
  goes_by_rows sources schemas number n (left_join right l r) lefts rights h = cc
  goes_by_rows sources schemas number n unique lefts rights h = cc
  goes_by_rows sources schemas number n (aggregate f init name) lefts rights h = cc
  goes_by_rows sources schemas number n (to_csv file) lefts rights h = refl

  pub run-lists : (sources : List (Option CsvSource)) (schemas : List Schema) (before : List Made) (n : PipeNode F) (ns behind : List (PipeNode F))
      → is_run (length before + 1) (n ∷ ns) ≡ true
      → made_behind evaluate sources schemas before ((n ∷ ns) ++ behind)
      ≡ made_behind evaluate sources schemas (before ++ one_by_one evaluate schemas (length before + 1) (n ∷ ns) (rows_at before n.input)) behind
  run-lists sources schemas before n [] behind h =
      let tests = both (is_row_wise n.operation) true h in
      ap (λ (m : Made). made_behind evaluate sources schemas (before ++ m ∷ []) behind) (first tests.0)
    where
      first : is_row_wise n.operation ≡ true → made_next evaluate sources schemas before n ≡ row_wise evaluate schemas (length before + 1) n (rows_at before n.input)
      first e = goes_by_rows sources schemas (length before + 1) n n.operation (rows_at before n.input) (rows_at before (right_input n.operation)) e
  run-lists sources schemas before n (k ∷ ns) behind h =
      let tests = both (is_row_wise n.operation) (follow (length before + 1) (k ∷ ns)) h in
      let later = both (is_row_wise k.operation) (k.input == length before + 1 && follow (length before + 1 + 1) ns) tests.1 in
      let last = both (k.input == length before + 1) (follow (length before + 1 + 1) ns) later.1 in
      let input : k.input ≡ length before + 1 = eqb-true k.input (length before + 1) last.0 in
      ap (λ (m : Made). made_behind evaluate sources schemas (before ++ m ∷ []) ((k ∷ ns) ++ behind)) (first tests.0)
      ∙ going (λ e f. run-lists sources schemas (before ++ row_wise evaluate schemas (length before + 1) n (rows_at before n.input) ∷ []) k ns behind (run e f)) later.0 last.1 input
    where
      m : Made
      m = row_wise evaluate schemas (length before + 1) n (rows_at before n.input)

      first : is_row_wise n.operation ≡ true → made_next evaluate sources schemas before n ≡ m
      first e = goes_by_rows sources schemas (length before + 1) n n.operation (rows_at before n.input) (rows_at before (right_input n.operation)) e

      size : length (before ++ m ∷ []) ≡ length before + 1
      size = length_push before m

      run : is_row_wise k.operation ≡ true → follow (length before + 1 + 1) ns ≡ true → is_run (length (before ++ m ∷ []) + 1) (k ∷ ns) ≡ true
      run e f = ap (λ (b : Bool). b && follow (length (before ++ m ∷ []) + 1) ns) e ∙ ap (λ (l : ℕ). follow (l + 1) ns) size ∙ f

      going : (is_row_wise k.operation ≡ true → follow (length before + 1 + 1) ns ≡ true
          → made_behind evaluate sources schemas (before ++ m ∷ []) ((k ∷ ns) ++ behind)
          ≡ made_behind evaluate sources schemas ((before ++ m ∷ []) ++ one_by_one evaluate schemas (length (before ++ m ∷ []) + 1) (k ∷ ns) (rows_at (before ++ m ∷ []) k.input)) behind)
          → is_row_wise k.operation ≡ true → follow (length before + 1 + 1) ns ≡ true → k.input ≡ length before + 1
          → made_behind evaluate sources schemas (before ++ m ∷ []) ((k ∷ ns) ++ behind)
          ≡ made_behind evaluate sources schemas (before ++ m ∷ one_by_one evaluate schemas (length before + 1 + 1) (k ∷ ns) m.rows) behind
      going ih e f input =
          ih e f
          ∙ ap (λ (l : ℕ). made_behind evaluate sources schemas ((before ++ m ∷ []) ++ one_by_one evaluate schemas (l + 1) (k ∷ ns) (rows_at (before ++ m ∷ []) k.input)) behind) size
          ∙ ap (λ (l : ℕ). made_behind evaluate sources schemas ((before ++ m ∷ []) ++ one_by_one evaluate schemas (length before + 1 + 1) (k ∷ ns) (rows_at (before ++ m ∷ []) l)) behind) input
          ∙ ap (λ (rows : List Row). made_behind evaluate sources schemas ((before ++ m ∷ []) ++ one_by_one evaluate schemas (length before + 1 + 1) (k ∷ ns) rows) behind) (rows_at-last before m)
          ∙ ap (λ (all : List Made). made_behind evaluate sources schemas all behind) (append_assoc before (m ∷ []) (one_by_one evaluate schemas (length before + 1 + 1) (k ∷ ns) m.rows))

pub runs : RunLaw
runs sources schemas before n ns behind h = run-lists evaluate sources schemas before n ns behind h
