use Rattle.std.proofs.Common.{sym}
use Rattle.tx_tokens.proofs.EventLemmas.{at_end, none_open, open_at_end}
use Rattle.tx_tokens.proofs.reader.Reader.finish.Goals as goal

pub returns-in-Some-clause-err : goal.returns-in-Some-clause-err
returns-in-Some-clause-err c = λ _. open_at_end c.args.self c.in-Some.open (sym c.in-Some.ensures)

pub returns-clause-ok : goal.returns-clause-ok
returns-clause-ok c = at_end c.args.self c.close_columns.new.self c.in_ok-close_columns.ensures (none_open c.args.self.opened (sym c.in_default.ensures))
