-- Links and entries as they are read from the front: those so far, and then those of the places and blocks that follow.
use Rattle.std.specs.Prelude.{ℕ, List, [], ◌∷◌, ◌++◌, Option, Some, None, Result, Ok, Err}
use Rattle.tx_tree.specs.Tree.{BlockTree}
use Rattle.tx_script.specs.declared.fault.ScriptFault.{ScriptFault}
use Rattle.tx_script.specs.declared.fault.ScriptKind.TheVariants as kind
use Rattle.tx_script.specs.Written.{Part, Link, Entry}
use Rattle.tx_script.specs.Forms.{Place, places_of}
use Rattle.tx_script.specs.Linked.{◌>>=◌, at}

abbrev pub with_link : List Link → ℕ → Option Part → Result (List Link) ScriptFault
with_link done line None = Err (at kind.Operator line)
with_link done line (Some part) = Ok (done ++ (record { line = line; part = part }) ∷ [])

abbrev pub formed_behind : List Link → List Place → Result (List Link) ScriptFault
formed_behind done [] = Ok done
formed_behind done (p ∷ ps) = do
  links ← with_link done p.0 p.1
  formed_behind links ps

abbrev pub with_entry : List Entry → BlockTree → Result (List Entry) ScriptFault
with_entry done b = do
  links ← formed_behind [] (places_of b)
  Ok (done ++ (record { block = b; links = links }) ∷ [])

abbrev pub entries_behind : List Entry → List BlockTree → Result (List Entry) ScriptFault
entries_behind done [] = Ok done
entries_behind done (b ∷ bs) = do
  es ← with_entry done b
  entries_behind es bs
