use Rattle.std.proofs.Common.{◌≡◌, ◌++◌, true, drop}
use Rattle.tx_tree.specs.Form.{distinct}
use Rattle.tx_name_set.proofs.distinct.are_distinct.Given as goal

abbrev pub invariant-loop-name : goal.invariant-loop-name
invariant-loop-name l = record {
  all : l.met ++ drop l.name-index l.names ≡ l.names;
  so_far : distinct l.met ≡ true;
}
