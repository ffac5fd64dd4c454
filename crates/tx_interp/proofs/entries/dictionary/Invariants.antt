use Rattle.std.proofs.Common.{◌≡◌, [], drop}
use Rattle.tx_meaning.specs.Containers.{entered}
use Rattle.tx_interp.proofs.entries.dictionary.Given as goal

abbrev pub invariant-loop-pair : goal.invariant-loop-pair
invariant-loop-pair l = entered l.entries.items (drop l.pair-index l.pairs) ≡ entered [] l.pairs
