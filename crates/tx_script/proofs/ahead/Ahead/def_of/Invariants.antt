use Rattle.std.proofs.Common.{◌≡◌, map, drop}
use Rattle.std.specs.Prelude.{find}
use Rattle.tx_script.specs.Linked.{is_def_of}
use Rattle.tx_script.specs.Calls.Behind.{block_in}
use Rattle.tx_script.proofs.ahead.Ahead.def_of.Given as goal

abbrev pub invariant-loop-def : goal.invariant-loop-def
invariant-loop-def l = find (is_def_of l.name) (map block_in (drop l.def-index l.self.blocks)) ≡ find (is_def_of l.name) (map block_in l.self.blocks)
