use Rattle.std.proofs.Common.{◌≡◌, drop}
use Rattle.tx_tree.specs.Form.{are_names}
use Rattle.tx_tree.proofs.form.are_names.Given as goal

abbrev pub invariant-loop-name : goal.invariant-loop-name
invariant-loop-name l = are_names (drop l.name-index l.names) ≡ are_names l.names
