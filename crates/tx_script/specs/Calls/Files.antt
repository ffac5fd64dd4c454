-- The files of links and of blocks.
use Rattle.std.specs.Prelude.{List, [], ◌∷◌, Option, None, filter_map}
use Rattle.tx_names.specs.Scope.{Text}
use Rattle.tx_names.specs.Faults.{first_some}
use Rattle.tx_script.specs.declared.fault.ScriptFault.{ScriptFault}
use Rattle.tx_script.specs.Written.{Link, Entry}
use Rattle.tx_script.specs.Checks.{source_in, overwriting}

-- those that are read
abbrev pub sources_in : List Link → List Text
sources_in = filter_map (λ x. source_in x.part)

abbrev pub entry_sources : Entry → List Text
entry_sources e = sources_in e.links

-- the first output of blocks that has one of these names
abbrev pub overwriting_each : List Text → List Entry → Option ScriptFault
overwriting_each files [] = None
overwriting_each files (e ∷ es) = first_some (overwriting files e.links) (overwriting_each files es)
