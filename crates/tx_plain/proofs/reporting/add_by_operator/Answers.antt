use Rattle.std.proofs.Common.{◌+◌, ◌-◌, ◌==◌, ◌++◌, List, filter, ap, ◌∙◌, append_assoc}
use Rattle.tx_report.specs.declared.report.Entry.{Entry}
use Rattle.tx_plain.specs.Laws.{by_operator}
use Rattle.tx_plain.proofs.Ordering.{by_operator-next}
use Rattle.tx_plain.proofs.reporting.add_by_operator.Goals as goal

pub loop-turn-preserved : goal.loop-turn-preserved
loop-turn-preserved c =
    let all : List Entry = c.args.all.now in
    let here : List Entry = filter (λ (entry : Entry). entry.operator == c.args.number + c.loop-turn.turn) all in
    let rest : List Entry = by_operator (c.args.number + (c.loop-turn.turn + 1)) (c.args.count - (c.loop-turn.turn + 1)) all in
    ap (λ (l : List Entry). l ++ rest) c.in_ok-add_of.ensures
    ∙ append_assoc c.loop-turn.entries here rest
    ∙ ap (λ (l : List Entry). c.loop-turn.entries ++ l) (by_operator-next c.args.number c.loop-turn.turn c.args.count all c.loop-turn-test.true)
    ∙ c.loop-turn.invariant
