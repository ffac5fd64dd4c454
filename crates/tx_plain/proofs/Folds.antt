-- A fold over rows, one row more.
use Rattle.std.proofs.Common.{◌≡◌, ℕ, ◌+◌, ◌≤◌, List, Some, drop, length, slice_get, sym, ap, ◌∙◌, arith}
use Rattle.std.proofs.lemmas.List.{drop_all}
use Rattle.tx_values.specs.declared.row.Row.{Row}
use Rattle.tx_names.specs.Function.{Function}
use Rattle.tx_pipe.specs.Pipe.{Handling}
use Rattle.tx_pipe.specs.Column.{Schema}
use Rattle.tx_plain.specs.declared.handling.Want.TheVariants as want
use Rattle.tx_plain.specs.Handlers.{evaluations}
use Rattle.tx_plain.specs.RowWise.{of_acc_and_row}
use Rattle.tx_plain.specs.Operators.{Folded, fold_evaluations, fold_row, folded}
use Rattle.tx_plain.specs.Pipeline.{evaluate}
use Rattle.tx_plain.proofs.Walks.{split_there}

module _ (number : ℕ) (f : Function ℕ) (handlers : List (Handling (Function ℕ))) (schema : Schema) (all : List Row) where
  pub fold-next : (place : ℕ) (row : Row) (now later total : Folded) → slice_get all place ≡ Some row
      → later ≡ fold_row evaluate number f handlers schema now row
      → folded evaluate number f handlers schema now (drop place all) ≡ total
      → folded evaluate number f handlers schema later (drop (place + 1) all) ≡ total
  fold-next place row now later total at e h =
      ap (λ (s : Folded). folded evaluate number f handlers schema s (drop (place + 1) all)) e
      ∙ sym (ap (folded evaluate number f handlers schema now) (split_there all place row at))
      ∙ h

  count_there : (place : ℕ) (row : Row) (now : Folded) → slice_get all place ≡ Some row
      → fold_evaluations evaluate number f handlers schema now (drop place all)
      ≡ evaluations evaluate want.Any (of_acc_and_row now.acc schema row) f handlers + fold_evaluations evaluate number f handlers schema (fold_row evaluate number f handlers schema now row) (drop (place + 1) all)
  count_there place row now at = ap (fold_evaluations evaluate number f handlers schema now) (split_there all place row at)

  pub fold-count : (place : ℕ) (row : Row) (now later : Folded) (was after total : ℕ) → slice_get all place ≡ Some row
      → later ≡ fold_row evaluate number f handlers schema now row
      → after ≡ was + evaluations evaluate want.Any (of_acc_and_row now.acc schema row) f handlers
      → was + fold_evaluations evaluate number f handlers schema now (drop place all) ≡ total
      → after + fold_evaluations evaluate number f handlers schema later (drop (place + 1) all) ≡ total
  fold-count place row now later was after total at e steps h =
      let a = count_there place row now at in
      let b : fold_evaluations evaluate number f handlers schema later (drop (place + 1) all) ≡ fold_evaluations evaluate number f handlers schema (fold_row evaluate number f handlers schema now row) (drop (place + 1) all)
      = ap (λ (s : Folded). fold_evaluations evaluate number f handlers schema s (drop (place + 1) all)) e in
      omega (arith, a, b, steps, h)

  pub fold-most : (place : ℕ) (row : Row) (now : Folded) (was after total : ℕ) → slice_get all place ≡ Some row
      → after ≤ was + evaluations evaluate want.Any (of_acc_and_row now.acc schema row) f handlers
      → was + fold_evaluations evaluate number f handlers schema now (drop place all) ≡ total
      → after ≤ total
  fold-most place row now was after total at steps h = let a = count_there place row now at in omega (arith, a, steps, h)

  pub fold-end : (place : ℕ) (now total : Folded) → length all ≤ place → folded evaluate number f handlers schema now (drop place all) ≡ total → now ≡ total
  fold-end place now total past h = sym (ap (folded evaluate number f handlers schema now) (drop_all place all past)) ∙ h

  pub fold-count_end : (place : ℕ) (now : Folded) (was total : ℕ) → length all ≤ place
      → was + fold_evaluations evaluate number f handlers schema now (drop place all) ≡ total → was ≡ total
  fold-count_end place now was total past h =
      let a : fold_evaluations evaluate number f handlers schema now (drop place all) ≡ 0 = ap (fold_evaluations evaluate number f handlers schema now) (drop_all place all past) in
      omega (arith, a, h)
