use Rattle.std.proofs.Common.{◌≡◌, map, drop}
use Rattle.tx_tree.specs.Tree.{operand_of, operands}
use Rattle.tx_tree.specs.Form.{identities_with_none}
use Rattle.tx_tree.proofs.form.are_identities_with_none.Given as goal

abbrev pub invariant-loop-operand : goal.invariant-loop-operand
invariant-loop-operand l = identities_with_none (operands (map operand_of (drop l.operand-index l.others))) ≡ identities_with_none (operands (map operand_of l.others))
