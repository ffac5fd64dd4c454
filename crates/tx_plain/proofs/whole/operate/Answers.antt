use Rattle.std.proofs.Common.{◌≡◌, ◌++◌, IfOk, OnOk, sym, subst}
use Rattle.tx_pipe.specs.declared.pipe.Operator.{Operator}
use Rattle.tx_pipe.specs.Pipe.{node_of, operator_of}
use Rattle.tx_plain.specs.Operators.{operated}
use Rattle.tx_plain.specs.Pipeline.{evaluate}
use Rattle.tx_plain.specs.Calls.Holding.{rows_stored}
use Rattle.tx_plain.proofs.whole.operate.Goals as goal

pub returns-in-Join-clause-rows : goal.returns-in-Join-clause-rows
returns-in-Join-clause-rows g c =
    subst (λ (o : Operator). IfOk c.join_stored.result (λ r. rows_stored r ≡ (operated evaluate c.args.sources.now c.args.s.now c.args.number (node_of c.args.node.now) (operator_of o) (rows_stored c.args.lefts) (rows_stored c.args.rights)).rows))
    (sym c.in-Join.is) c.join_stored.ensures.rows

pub returns-in-Join-clause-entries : goal.returns-in-Join-clause-entries
returns-in-Join-clause-entries g c =
    subst (λ (o : Operator). OnOk c.join_stored.result (c.join_stored.new.entries ≡ c.args.entries.now ++ (operated evaluate c.args.sources.now c.args.s.now c.args.number (node_of c.args.node.now) (operator_of o) (rows_stored c.args.lefts) (rows_stored c.args.rights)).entries))
    (sym c.in-Join.is) c.join_stored.ensures.entries

pub returns-in-LeftJoin-clause-rows : goal.returns-in-LeftJoin-clause-rows
returns-in-LeftJoin-clause-rows g c =
    subst (λ (o : Operator). IfOk c.join_stored-in-LeftJoin.result (λ r. rows_stored r ≡ (operated evaluate c.args.sources.now c.args.s.now c.args.number (node_of c.args.node.now) (operator_of o) (rows_stored c.args.lefts) (rows_stored c.args.rights)).rows))
    (sym c.in-LeftJoin.is) c.join_stored-in-LeftJoin.ensures.rows

pub returns-in-LeftJoin-clause-entries : goal.returns-in-LeftJoin-clause-entries
returns-in-LeftJoin-clause-entries g c =
    subst (λ (o : Operator). OnOk c.join_stored-in-LeftJoin.result (c.join_stored-in-LeftJoin.new.entries ≡ c.args.entries.now ++ (operated evaluate c.args.sources.now c.args.s.now c.args.number (node_of c.args.node.now) (operator_of o) (rows_stored c.args.lefts) (rows_stored c.args.rights)).entries))
    (sym c.in-LeftJoin.is) c.join_stored-in-LeftJoin.ensures.entries
