use Rattle.std.proofs.Common.{◌≡◌, map, drop}
use Rattle.tx_tree.specs.Tree.{operand_of, operands}
use Rattle.tx_tree.specs.Form.{fits_operands}
use Rattle.tx_tree.proofs.form.fits_operands.Given as goal

abbrev pub invariant-loop-operand : goal.invariant-loop-operand
invariant-loop-operand l = fits_operands (operands (map operand_of (drop l.operand-index l.others))) ≡ fits_operands (operands (map operand_of l.others))
