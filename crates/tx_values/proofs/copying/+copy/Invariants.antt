use Rattle.std.proofs.Common.{◌≡◌, length, take}
use Rattle.std.specs.Vec.{vec_capacity, vec_len}
use Rattle.tx_values.proofs.copying.+copy.Given as goal

abbrev pub invariant-copies_of-loop-item : goal.invariant-copies_of-loop-item
invariant-copies_of-loop-item l = (l.copies.items ≡ take l.item-index l.items) × (vec_len l.copies ≡ l.item-index) × (vec_capacity l.copies ≡ length l.items)

abbrev pub invariant-copies_of_pairs-loop-pair : goal.invariant-copies_of_pairs-loop-pair
invariant-copies_of_pairs-loop-pair l = (l.copies.items ≡ take l.pair-index l.pairs) × (vec_len l.copies ≡ l.pair-index) × (vec_capacity l.copies ≡ length l.pairs)
