use Rattle.std.proofs.Common.{◌≡◌, map, drop}
use Rattle.tx_tree.specs.Tree.{pair_of, pair_trees}
use Rattle.tx_tree.specs.Form.{fits_pairs}
use Rattle.tx_tree.proofs.form.fits_pairs.Given as goal

abbrev pub invariant-loop-pair : goal.invariant-loop-pair
invariant-loop-pair l = fits_pairs (pair_trees (map pair_of (drop l.pair-index l.pairs))) ≡ fits_pairs (pair_trees (map pair_of l.pairs))
