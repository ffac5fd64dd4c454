use Rattle.std.proofs.Common.{◌≡◌, drop}
use Rattle.tx_names.specs.Linked.{def_named}
use Rattle.tx_names.specs.Bind.{defs_of}
use Rattle.tx_names.proofs.called.def_named.Given as goal

abbrev pub invariant-loop-def : goal.invariant-loop-def
invariant-loop-def l = def_named (defs_of (drop l.def-index l.defs)) l.name ≡ def_named (defs_of l.defs) l.name
