use Rattle.std.proofs.Common.{◌≡◌, map, drop}
use Rattle.std.specs.List.{list_all}
use Rattle.tx_tree.specs.Tree.{arg_of}
use Rattle.tx_tree.specs.Form.{fine_arg}
use Rattle.tx_tree.proofs.form.are_fine_arg_list.Given as goal

abbrev pub invariant-loop-arg : goal.invariant-loop-arg
invariant-loop-arg l = list_all fine_arg (map arg_of (drop l.arg-index l.args)) ≡ list_all fine_arg (map arg_of l.args)
