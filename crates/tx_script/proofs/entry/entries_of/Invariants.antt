use Rattle.std.proofs.Common.{◌≡◌, map, drop, []}
use Rattle.tx_tree.specs.Tree.{block_of}
use Rattle.tx_script.specs.Calls.View.{entry_view}
use Rattle.tx_script.specs.Calls.Formed.{entries_behind}
use Rattle.tx_script.proofs.entry.entries_of.Given as goal

abbrev pub invariant-loop-block : goal.invariant-loop-block
invariant-loop-block l = entries_behind (map entry_view l.done) (map block_of (drop l.block-index l.blocks)) ≡ entries_behind [] (map block_of l.blocks)
