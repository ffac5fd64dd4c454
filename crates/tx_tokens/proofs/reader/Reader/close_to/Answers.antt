use Rattle.std.proofs.Common.{◌∙◌, ◌++◌, ap, drop}
use Rattle.tx_tokens.specs.Layout.{front_events}
use Rattle.tx_tokens.specs.Calls.Reading.{answer, state_of}
use Rattle.tx_tokens.proofs.ColumnLemmas.{closed_here, closed_state}
use Rattle.tx_tokens.proofs.reader.Reader.close_to.Goals as goal

pub returns-then-column-last-clause-gave : goal.returns-then-column-last-clause-gave
returns-then-column-last-clause-gave c = λ rest.
    c.columns.invariant.0 rest
    ∙ ap (λ o. answer c.columns.self (front_events (state_of c.args.self.now) o ++ rest)) (closed_here c.args.column c.in-Some.last c.columns.self.columns (drop 1 c.columns.self.columns) c.in-Some.ensures c.if-column-last.true)

pub returns-then-column-last-clause-state : goal.returns-then-column-last-clause-state
returns-then-column-last-clause-state c =
    closed_state c.args.self.now c.columns.self c.args.column c.in-Some.last (drop 1 c.columns.self.columns) c.in-Some.ensures c.if-column-last.true c.columns.invariant.1 c.columns.invariant.2
