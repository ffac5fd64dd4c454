use Rattle.std.proofs.Common.{◌+◌, ◌++◌, map, drop, option_map, sym, ap, ◌∙◌}
use Rattle.tx_tree.specs.Tree.{tree_of, trees}
use Rattle.tx_script.specs.Forms as forms
use Rattle.tx_script.proofs.Items.{item_next}
use Rattle.tx_script.proofs.Literals.{with_more}
use Rattle.tx_script.proofs.literal.+literal.Goals as goal

pub literals-loop-item-preserved : goal.literals-loop-item-preserved
literals-loop-item-preserved t c =
    ap (λ d. option_map (λ vs. d ++ vs) (forms.literals (trees (map tree_of (drop (c.loop-item.item-index + 1) c.args.items.now))))) c.in_ok-push.ensures.ok
    ∙ with_more c.loop-item.done c.in-Some.value (forms.literal (tree_of c.item-item.result)) (forms.literals (trees (map tree_of (drop (c.loop-item.item-index + 1) c.args.items.now)))) (sym c.in_ok-value.ensures ∙ c.in-Some.is)
    ∙ ap (λ l. option_map (λ vs. c.loop-item.done ++ vs) (forms.literals (trees (map tree_of l)))) (sym (item_next c.args.items.now c.loop-item.item-index c.item-item.result c.loop-item-test.true c.item-item.is))
    ∙ c.loop-item.invariant
