use Rattle.std.proofs.Common.{◌≡◌, ◌+◌, drop, map}
use Rattle.tx_names.specs.Bind.{function_of}
use Rattle.tx_pipe.specs.Pipe.{handling_of}
use Rattle.tx_plain.specs.Operators.{Folded, fold_evaluations, folded}
use Rattle.tx_plain.specs.Pipeline.{evaluate}
use Rattle.tx_plain.specs.Calls.Holding.{rows_stored}
use Rattle.tx_plain.specs.Calls.Tracking.{Tracks}
use Rattle.tx_plain.proofs.folding.fold.Given as goal

abbrev pub invariant-loop-place : goal.invariant-loop-place
invariant-loop-place g l =
    let all = rows_stored l.stored in
    let now : Folded = record { acc = l.acc; entries = l.entries } in
    let start : Folded = record { acc = l.fn.init; entries = l.initial.entries } in
    (folded evaluate l.number (function_of l.f) (map handling_of l.handlers) l.schema now (drop l.place all)
    ≡ folded evaluate l.number (function_of l.f) (map handling_of l.handlers) l.schema start all)
    × (l.steps + fold_evaluations evaluate l.number (function_of l.f) (map handling_of l.handlers) l.schema now (drop l.place all)
    ≡ l.initial.steps + fold_evaluations evaluate l.number (function_of l.f) (map handling_of l.handlers) l.schema start all)
    × Tracks l.initial.steps l.steps l.initial.meter l.meter
