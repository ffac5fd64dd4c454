use Rattle.std.proofs.Common.{◌+◌, ◌++◌, map, drop, sym, ap, ◌∙◌}
use Rattle.std.specs.List.{flat_map}
use Rattle.tx_name_set.specs.NameSet.{add_all}
use Rattle.tx_script.specs.Calls.View.{link_of, entry_view}
use Rattle.tx_script.specs.Calls.Files.{sources_in, entry_sources}
use Rattle.tx_script.proofs.Items.{item_next}
use Rattle.tx_script.proofs.Added.{add_each}
use Rattle.tx_script.proofs.files.files_read.Goals as goal

pub loop-entry-preserved : goal.loop-entry-preserved
loop-entry-preserved c =
    ap (λ fs. add_all fs (flat_map entry_sources (map entry_view (drop (c.loop-entry.entry-index + 1) c.args.entries.now)))) c.in_ok-add_sources.ensures
    ∙ sym (add_each c.loop-entry.files (sources_in (map link_of c.as_slice.result.now)) (flat_map entry_sources (map entry_view (drop (c.loop-entry.entry-index + 1) c.args.entries.now))))
    ∙ ap (λ ls. add_all c.loop-entry.files (sources_in (map link_of ls) ++ flat_map entry_sources (map entry_view (drop (c.loop-entry.entry-index + 1) c.args.entries.now)))) c.as_slice.ensures
    ∙ ap (λ l. add_all c.loop-entry.files (flat_map entry_sources (map entry_view l))) (sym (item_next c.args.entries.now c.loop-entry.entry-index c.entry-item.result c.loop-entry-test.true c.entry-item.is))
    ∙ c.loop-entry.invariant
