use Rattle.std.proofs.Common.{◌≡◌, map, drop}
use Rattle.tx_tree.specs.Tree.{tree_of, trees}
use Rattle.tx_tree.specs.Form.{fits_each}
use Rattle.tx_tree.proofs.form.fits_each.Given as goal

abbrev pub invariant-loop-item : goal.invariant-loop-item
invariant-loop-item l = fits_each l.place (trees (map tree_of (drop l.item-index l.items))) ≡ fits_each l.place (trees (map tree_of l.items))
