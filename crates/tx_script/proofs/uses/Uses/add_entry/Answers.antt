use Rattle.std.proofs.Common.{◌++◌, map, subst}
use Rattle.std.specs.List.{flat_map}
use Rattle.tx_tree.specs.Tree.{block_of}
use Rattle.tx_script.specs.Calls.Counts.{Counts, link_names, head_names}
use Rattle.tx_script.specs.Calls.View.{link_of, entry_view}
use Rattle.tx_script.proofs.UsesLemmas.{counts_entry}
use Rattle.tx_script.proofs.uses.Uses.add_entry.Goals as goal

pub returns : goal.returns
returns c names counts =
    counts_entry _ _ names (entry_view c.args.entry.now)
    (subst (λ ls. Counts c.add_links.new.self.once c.add_links.new.self.twice (flat_map link_names (map link_of ls) ++ (head_names (block_of c.args.entry.now.block.now) ++ names))) c.as_slice.ensures
    (c.in_ok-add_links.ensures _ (c.in_ok-add_head.ensures names counts)))
