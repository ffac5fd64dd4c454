use Rattle.std.proofs.Common.{◌≡◌, length, take}
use Rattle.tx_tree.specs.Tree.{body_of}
use Rattle.tx_names.specs.Scope.{locals_of_def, names_of_def}
use Rattle.tx_names.proofs.Meeting.{def_front}
use Rattle.tx_names.proofs.met.names_of_def.Goals as goal

pub returns-clause-locals : goal.returns-clause-locals
returns-clause-locals c =
    let f : take (length (locals_of_def c.args.role c.args.params.now (body_of c.args.suite.now))) (names_of_def c.args.role c.args.params.now (body_of c.args.suite.now)) ≡ locals_of_def c.args.role c.args.params.now (body_of c.args.suite.now)
    = def_front c.args.role c.args.params.now (body_of c.args.suite.now) in
    cc (f, c.in_ok-add_texts.ensures, c.in_ok-add_assigned_in.ensures, c.in_ok-add_inner_in.ensures)
