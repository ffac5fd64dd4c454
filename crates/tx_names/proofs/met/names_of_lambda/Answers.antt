use Rattle.std.proofs.Common.{◌≡◌, length, take}
use Rattle.tx_tree.specs.Tree.{tree_of}
use Rattle.tx_names.specs.Scope.{locals_of_lambda, names_of_lambda}
use Rattle.tx_names.proofs.Meeting.{lambda_front}
use Rattle.tx_names.proofs.met.names_of_lambda.Goals as goal

pub returns-clause-locals : goal.returns-clause-locals
returns-clause-locals c =
    let f : take (length (locals_of_lambda c.args.role c.args.params.now)) (names_of_lambda c.args.role c.args.params.now (tree_of c.args.body.now)) ≡ locals_of_lambda c.args.role c.args.params.now
    = lambda_front c.args.role c.args.params.now (tree_of c.args.body.now) in
    cc (f, c.in_ok-add_texts.ensures, c.in_ok-add_inner.ensures)
