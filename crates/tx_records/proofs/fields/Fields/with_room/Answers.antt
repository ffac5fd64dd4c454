use Rattle.std.proofs.Common.{arith, refl}
use Rattle.csv.specs.Records.{Rising, cut_from, last_end}
use Rattle.tx_records.proofs.fields.Fields.with_room.Goals as goal

pub returns : goal.returns
unfolding cut_from
returns c = rw c.in_ok-with_capacity-2.ensures.items refl

pub invariant_of-result : goal.invariant_of-result
unfolding Rising last_end
invariant_of-result c = rw (c.in_ok-with_capacity.ensures.items, c.in_ok-with_capacity-2.ensures.items) (omega arith, refl)
