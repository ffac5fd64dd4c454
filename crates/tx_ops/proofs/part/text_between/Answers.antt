use Rattle.tx_ops.proofs.SliceLemmas.{part_is}
use Rattle.tx_ops.proofs.part.text_between.Goals as goal

pub returns-clause-value : goal.returns-clause-value
returns-clause-value c =
    part_is c.args.text.now c.in_ok-slice.field-0 _ _ _ _ _ _ _ _ c.in_ok-bound_of.ensures.value c.in_ok-bound_of-2.ensures.value c.len.ensures c.len-2.ensures
    c.slice_start-start.ensures.place c.slice_stop-stop.ensures.place c.in_ok-slice.ensures
