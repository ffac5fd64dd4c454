use Rattle.std.proofs.Common.{◌≡◌, map, drop}
use Rattle.tx_tree.specs.Tree.{arm_of, tail, nothing}
use Rattle.tx_tree.specs.Form.{derived_tail}
use Rattle.tx_tree.proofs.form.are_derived_arms.Given as goal

abbrev pub invariant-loop-arm : goal.invariant-loop-arm
invariant-loop-arm l = derived_tail (tail (map arm_of (drop l.arm-index l.arms)) nothing) ≡ derived_tail (tail (map arm_of l.arms) nothing)
