use Rattle.std.proofs.Common.{◌≡◌, ◌++◌, map, drop, option_map}
use Rattle.tx_tree.specs.Tree.{tree_of, trees}
use Rattle.tx_script.specs.Forms as forms
use Rattle.tx_script.proofs.literal.+literal.Given as goal

abbrev pub invariant-literals-loop-item : goal.invariant-literals-loop-item
invariant-literals-loop-item l = option_map (λ vs. l.done ++ vs) (forms.literals (trees (map tree_of (drop l.item-index l.items)))) ≡ forms.literals (trees (map tree_of l.items))
