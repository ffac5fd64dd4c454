use Rattle.tx_tree.specs.Tree.{tree_of}
use Rattle.tx_script.proofs.Literals.{values_are_literal}
use Rattle.tx_script.proofs.form.value_in.Goals as goal

pub returns-in-Plain-clause-literal : goal.returns-in-Plain-clause-literal
returns-in-Plain-clause-literal c = values_are_literal c.literal.result (tree_of c.in-Plain.a) c.literal.ensures
