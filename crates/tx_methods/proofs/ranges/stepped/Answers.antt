use Rattle.std.proofs.Common.{◌≡◌, ◌∙◌, ap, map, arith}
use Rattle.std.specs.Int.{w128}
use Rattle.std.proofs.lemmas.Int.{to_z-of_z}
use Rattle.tx_num.specs.Range.{items_from}
use Rattle.tx_values.specs.declared.value.Value.TheVariants as value
use Rattle.tx_methods.proofs.RangeItems.{next_is, pushed}
use Rattle.tx_methods.proofs.ranges.stepped.Goals as goal

pub loop-turn-preserved : goal.loop-turn-preserved
loop-turn-preserved c =
    let first = to_z-of_z w128 c.args.first c.ranges.first in
    let step = to_z-of_z w128 c.args.step c.ranges.step in
    let next = to_z-of_z w128 c.next_of-item.result (record { sfits = c.next_of-item.type_inv }) in
    let stood = simp (first, step) at (c.loop-turn.invariant.0 c.loop-turn-test.true) in
    simp (first, step, next) (
      (λ less. next_is c.ranges_stop_before_the_end.ensures.end c.args.first c.args.end c.args.step _ c.next_of-item.result c.loop-turn._turn c.args.count c.ranges.first c.ranges.end c.requires.some c.requires.within
          stood (simp step at c.next_of-item.ensures) less),
      pushed c.args.first c.args.step _ c.loop-turn._turn _ _ (simp (first, step) at c.loop-turn.invariant.1) stood c.in_ok-push.ensures.items,
    )

pub returns : goal.returns
returns c =
    let first = to_z-of_z w128 c.args.first c.ranges.first in
    let step = to_z-of_z w128 c.args.step c.ranges.step in
    let all : c.loop-turn._turn ≡ c.args.count = omega arith in
    c.from_vec.ensures ∙ (simp (first, step) at c.loop-turn.invariant.1) ∙ ap (λ n. map value.Int (items_from c.args.first c.args.step n)) all
