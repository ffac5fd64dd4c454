use Rattle.std.proofs.Common.{◌∙◌}
use Rattle.tx_ops.proofs.Repeats.{copies_step, empty_copies}
use Rattle.tx_ops.proofs.copies.copies_of.Goals as goal

pub copies-preserved : goal.copies-preserved
copies-preserved c = copies_step _ _ _ _ c.copies.invariant c.in_ok-add_copies.ensures

pub returns-then-is_empty : goal.returns-then-is_empty
returns-then-is_empty c = c.new.ensures ∙ empty_copies c.args.times c.args.items.now c.if-is_empty.ensures
