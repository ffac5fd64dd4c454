use Rattle.std.proofs.Common.{refl}
use Rattle.tx_ops.proofs.SliceLemmas.{part_is}
use Rattle.tx_ops.proofs.part.items_between.Goals as goal

pub returns-in_ok-copy_items-clause-value : goal.returns-in_ok-copy_items-clause-value
returns-in_ok-copy_items-clause-value c =
    part_is c.args.items.now c.in_ok-copy_items.field-0 _ _ _ _ _ _ _ _ c.in_ok-bound_of.ensures.value c.in_ok-bound_of-2.ensures.value refl refl
    c.slice_start-start.ensures.place c.slice_stop-stop.ensures.place c.in_ok-copy_items.ensures
