use Rattle.std.proofs.Common.{sym}
use Rattle.std.specs.Int.{w128}
use Rattle.std.proofs.lemmas.Int.{to_z-of_z}
use Rattle.tx_methods.proofs.RangeItems.{counts}
use Rattle.tx_methods.proofs.ranges.range_of.Goals as goal

pub stepped-requires-clause-some : goal.stepped-requires-clause-some
stepped-requires-clause-some c =
    let first = to_z-of_z w128 c.args.first c.ranges.first in
    let end = to_z-of_z w128 c.args.end c.ranges.end in
    let step = to_z-of_z w128 c.args.step c.ranges.step in
    simp step (counts c.args.first c.args.end c.args.step c.in-Count.count (simp (first, end, step) at (sym c.in-Count.ensures))).1

pub stepped-requires-clause-within : goal.stepped-requires-clause-within
stepped-requires-clause-within c =
    let first = to_z-of_z w128 c.args.first c.ranges.first in
    let end = to_z-of_z w128 c.args.end c.ranges.end in
    let step = to_z-of_z w128 c.args.step c.ranges.step in
    simp (first, end, step) (counts c.args.first c.args.end c.args.step c.in-Count.count (simp (first, end, step) at (sym c.in-Count.ensures))).0
