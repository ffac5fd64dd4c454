use Rattle.std.proofs.Common.{rules, ◌≡◌, true}
use Rattle.tx_tree.specs.Form.{distinct}
use Rattle.tx_parse.proofs.Params.{params_found}
use Rattle.tx_parse.proofs.chain.params.Goals as goal

pub returns-clause-ok : goal.returns-clause-ok
returns-clause-ok c =
    let good : distinct c.in_ok-params.params ≡ true = search rules in
    params_found c.args.end c.args.cursor.now (c.in_ok-params.params, c.in_ok-params.comma) c.names.new.cursor c.in_ok-params.ensures.ok good
