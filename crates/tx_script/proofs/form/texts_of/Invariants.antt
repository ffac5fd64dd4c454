use Rattle.std.proofs.Common.{◌≡◌, ◌++◌, map, drop, option_map}
use Rattle.tx_tree.specs.Tree.{tree_of, trees}
use Rattle.tx_script.specs.Forms as forms
use Rattle.tx_script.proofs.form.texts_of.Given as goal

abbrev pub invariant-loop-item : goal.invariant-loop-item
invariant-loop-item l = option_map (λ ts. l.done ++ ts) (forms.texts_of (trees (map tree_of (drop l.item-index l.items)))) ≡ forms.texts_of (trees (map tree_of l.items))
