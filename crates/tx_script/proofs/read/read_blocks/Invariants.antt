use Rattle.std.proofs.Common.{◌++◌, List, Option, map, drop}
use Rattle.tx_tree.specs.Tree.{BlockTree, block_of}
use Rattle.tx_script.specs.declared.fault.ScriptFault.{ScriptFault}
use Rattle.tx_script.specs.Accepted.{AreRead}
use Rattle.tx_script.specs.Calls.Reading.{AreWithin, parts_of}
use Rattle.tx_script.proofs.read.read_blocks.Given as goal

abbrev pub invariant-loop-span : goal.invariant-loop-span
invariant-loop-span l =
    AreWithin l.list (drop l.span-index l.spans)
    × ((bs : List BlockTree) (u : Option ScriptFault) → AreRead (parts_of l.list (drop l.span-index l.spans)) bs u → AreRead (parts_of l.list l.spans) (map block_of l.done ++ bs) u)
