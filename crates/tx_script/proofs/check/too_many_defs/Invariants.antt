use Rattle.std.proofs.Common.{◌≡◌, map, drop}
use Rattle.std.specs.Prelude.{slice_get, filter_map}
use Rattle.tx_tree.specs.Tree.{block_of}
use Rattle.tx_script.specs.Checks.{def_line, most_defs}
use Rattle.tx_script.proofs.check.too_many_defs.Given as goal

abbrev pub invariant-loop-block : goal.invariant-loop-block
invariant-loop-block l = slice_get (filter_map def_line (map block_of (drop l.block-index l.blocks))) l.left ≡ slice_get (filter_map def_line (map block_of l.blocks)) most_defs
