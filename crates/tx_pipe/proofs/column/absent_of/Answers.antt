use Rattle.std.proofs.Common.{◌≡◌, map, IfOk, subst}
use Rattle.std.specs.Option.{option_copied}
use Rattle.tx_pipe.specs.Pipe.{operator_of, handling_of}
use Rattle.tx_pipe.specs.Column.{schema_at}
use Rattle.tx_pipe.proofs.Absent.{absent-found}
use Rattle.tx_pipe.proofs.column.absent_of.Goals as goal

pub returns : goal.returns
returns c =
    subst (λ x. IfOk c.absent_by_node.result (λ o. option_copied o ≡ x))
    (absent-found c.args.all.now (schema_at c.args.all.now c.args.node.now.input) c.in_ok-left.left (operator_of c.args.node.now.operator) (map handling_of c.args.node.now.handlers) c.in_ok-left.ensures)
    c.absent_by_node.ensures
