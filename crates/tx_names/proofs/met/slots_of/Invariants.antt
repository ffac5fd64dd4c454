use Rattle.std.proofs.Common.{◌≡◌, ◌++◌, map, drop}
use Rattle.tx_name_set.specs.NameSet.{place_in}
use Rattle.tx_names.proofs.met.slots_of.Given as goal

abbrev pub invariant-loop-param : goal.invariant-loop-param
invariant-loop-param l = l.slots ++ map (place_in l.names) (drop l.param-index l.params) ≡ map (place_in l.names) l.params
