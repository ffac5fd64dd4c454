-- The end of a script, by its last block and those ahead of it.
use Rattle.std.specs.Prelude.{List, [], ◌∷◌, Option, None}
use Rattle.tx_names.specs.Faults.{first_some}
use Rattle.tx_script.specs.declared.fault.ScriptFault.{ScriptFault}
use Rattle.tx_script.specs.Written.{Entry}
use Rattle.tx_script.specs.Checks.{inner_fault}

-- the first fault of blocks that are not the last one
abbrev pub inner_faults : List Entry → Option ScriptFault
inner_faults [] = None
inner_faults (e ∷ es) = first_some (inner_fault e) (inner_faults es)
