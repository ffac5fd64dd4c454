use Rattle.std.proofs.Common.{◌≡◌, ◌+◌, ℕ, List, ap, map, ◌∙◌, arith}
use Rattle.tx_values.specs.declared.row.Row.{Row}
use Rattle.tx_names.specs.Bind.{function_of}
use Rattle.tx_names.specs.Function.{Function}
use Rattle.tx_pipe.specs.Pipe.{Handling, handling_of}
use Rattle.tx_plain.specs.declared.handling.Want.TheVariants as want
use Rattle.tx_plain.specs.Handlers.{evaluations}
use Rattle.tx_plain.specs.RowWise.{of_acc_and_row}
use Rattle.tx_plain.specs.Operators.{Folded, fold_evaluations, fold_row, folded}
use Rattle.tx_plain.specs.Pipeline.{evaluate}
use Rattle.tx_plain.specs.Calls.Holding.{row_held, rows_stored}
use Rattle.tx_plain.proofs.Counting.{tracks_on}
use Rattle.tx_plain.proofs.Folds.{fold-count, fold-most, fold-next}
use Rattle.tx_plain.proofs.folding.fold.Goals as goal

pub loop-place-preserved : goal.loop-place-preserved
loop-place-preserved g c =
    let all : List Row = rows_stored c.args.stored.now in
    let place : ℕ = c.loop-place.place in
    let row : Row = row_held c.in_ok-held.held in
    let f : Function ℕ = function_of c.args.f.now in
    let hs : List (Handling (Function ℕ)) = map handling_of c.args.handlers.now in
    let now : Folded = record { acc = c.loop-place.acc; entries = c.loop-place.entries } in
    let later : Folded = record { acc = c.in_ok-acc.acc; entries = c.fold_row.new.entries } in
    let start : Folded = record { acc = c.args.init; entries = c.args.entries.now } in
    let told : later ≡ fold_row evaluate c.args.number f hs c.args.schema.now now row
    = c.in_ok-acc.ensures.acc ∙ ap (fold_row evaluate c.args.number f hs c.args.schema.now now) c.seen.ensures in
    let steps : c.fold_row.new.steps ≡ c.loop-place.steps + evaluations evaluate want.Any (of_acc_and_row c.loop-place.acc c.args.schema.now row) f hs
    = c.in_ok-acc.ensures.steps ∙ ap (λ (r : Row). c.loop-place.steps + evaluations evaluate want.Any (of_acc_and_row c.loop-place.acc c.args.schema.now r) f hs) c.seen.ensures in (
      fold-next c.args.number f hs c.args.schema.now all place row now later (folded evaluate c.args.number f hs c.args.schema.now start all) c.in_ok-held.ensures told c.loop-place.invariant.0,
      fold-count c.args.number f hs c.args.schema.now all place row now later c.loop-place.steps c.fold_row.new.steps
          (c.args.steps.now + fold_evaluations evaluate c.args.number f hs c.args.schema.now start all) c.in_ok-held.ensures told steps c.loop-place.invariant.1,
      tracks_on c.args.steps.now c.loop-place.steps c.fold_row.new.steps c.args.meter.now c.loop-place.meter c.fold_row.new.meter c.loop-place.invariant.2 c.fold_row.ensures.counts,
    )

pub returns-in_err-acc-clause-most : goal.returns-in_err-acc-clause-most
returns-in_err-acc-clause-most g c =
    let all : List Row = rows_stored c.args.stored.now in
    let row : Row = row_held c.in_ok-held.held in
    let f : Function ℕ = function_of c.args.f.now in
    let hs : List (Handling (Function ℕ)) = map handling_of c.args.handlers.now in
    let now : Folded = record { acc = c.loop-place.acc; entries = c.loop-place.entries } in
    let start : Folded = record { acc = c.args.init; entries = c.args.entries.now } in
    let same : evaluations evaluate want.Any (of_acc_and_row c.loop-place.acc c.args.schema.now c.seen.result.now) f hs ≡ evaluations evaluate want.Any (of_acc_and_row c.loop-place.acc c.args.schema.now row) f hs
    = ap (λ (r : Row). evaluations evaluate want.Any (of_acc_and_row c.loop-place.acc c.args.schema.now r) f hs) c.seen.ensures in
    fold-most c.args.number f hs c.args.schema.now all c.loop-place.place row now c.loop-place.steps c.fold_row.new.steps
    (c.args.steps.now + fold_evaluations evaluate c.args.number f hs c.args.schema.now start all) c.in_ok-held.ensures
    (omega (arith, same, c.fold_row.ensures.most)) c.loop-place.invariant.1
