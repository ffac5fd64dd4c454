use Rattle.std.proofs.Common.{◌≡◌, ◌<◌, ◌+◌, ◌-◌, Some, map, option_map, drop, length, get_or, subst, sym, ap, ◌∙◌, arith}
use Rattle.std.specs.Prelude.{slice_get}
use Rattle.std.specs.List.{flat_map}
use Rattle.std.proofs.lemmas.List.{length-map}
use Rattle.tx_script.specs.declared.fault.ScriptKind.TheVariants as kind
use Rattle.tx_script.specs.Linked.{at}
use Rattle.tx_script.specs.Calls.View.{link_of, entry_view}
use Rattle.tx_script.proofs.Items.{item_next}
use Rattle.tx_script.proofs.Nth.{nth_in_front, nth_behind, nth_of}
use Rattle.tx_script.proofs.check.too_many_operators.Goals as goal

pub loop-entry-preserved : goal.loop-entry-preserved
loop-entry-preserved c =
    let e = ap length c.as_slice-links.ensures ∙ sym (length-map c.entry-item.result.links link_of) in
    ap (λ n. slice_get (flat_map (λ e. e.links) (map entry_view (drop (c.loop-entry.entry-index + 1) c.args.entries.now))) (c.loop-entry.left - n)) e
    ∙ sym (nth_behind (map link_of c.entry-item.result.links) (flat_map (λ e. e.links) (map entry_view (drop (c.loop-entry.entry-index + 1) c.args.entries.now))) c.loop-entry.left (omega (arith, e, c.if-left-links.false)))
    ∙ ap (λ l. slice_get (flat_map (λ e. e.links) (map entry_view l)) c.loop-entry.left) (sym (item_next c.args.entries.now c.loop-entry.entry-index c.entry-item.result c.loop-entry-test.true c.entry-item.is))
    ∙ c.loop-entry.invariant

pub returns-then-left-links : goal.returns-then-left-links
returns-then-left-links c =
    let e = ap length c.as_slice-links.ensures ∙ sym (length-map c.entry-item.result.links link_of) in
    ap Some (c.fault.ensures ∙ ap (λ x. at kind.TooManyOperators x.line) (sym c.index-links-left.is))
    ∙ ap (λ o. option_map (λ x. at kind.TooManyOperators x.line) o)
    (sym (nth_of link_of c.entry-item.result.links c.loop-entry.left c.index-links-left.result
    (subst (λ l. c.loop-entry.left < length l) c.as_slice-links.ensures c.if-left-links.true)
    (subst (λ l. c.index-links-left.result ≡ get_or l c.loop-entry.left c.index-links-left.result) c.as_slice-links.ensures c.index-links-left.is))
    ∙ sym (nth_in_front (map link_of c.entry-item.result.links) (flat_map (λ e. e.links) (map entry_view (drop (c.loop-entry.entry-index + 1) c.args.entries.now))) c.loop-entry.left (omega (arith, e, c.if-left-links.true)))
    ∙ ap (λ l. slice_get (flat_map (λ e. e.links) (map entry_view l)) c.loop-entry.left) (sym (item_next c.args.entries.now c.loop-entry.entry-index c.entry-item.result c.loop-entry-test.true c.entry-item.is))
    ∙ c.loop-entry.invariant)
