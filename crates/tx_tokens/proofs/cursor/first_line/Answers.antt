use Rattle.std.specs.Str.{chars}
use Rattle.tx_tokens.proofs.LineLemmas.{line_is, line_sizes, line_some}
use Rattle.tx_tokens.proofs.cursor.first_line.Goals as goal

pub returns-clause-value : goal.returns-clause-value
returns-clause-value c =
    line_is (chars c.args.text.now) (chars c.in-Some.line.now) (chars c.in-Some.behind.now) (chars c.fed-ending.result.0.now) c.fed-ending.result.1
    c.in-Some.ensures.some c.fed-ending.ensures c.in-Some.ensures.before

pub returns-clause-sizes : goal.returns-clause-sizes
returns-clause-sizes c =
    line_sizes (chars c.args.text.now) (chars c.in-Some.line.now) (chars c.in-Some.behind.now) (chars c.fed-ending.result.0.now) c.fed-ending.result.1
    c.in-Some.ensures.some c.fed-ending.ensures

pub returns-clause-some : goal.returns-clause-some
returns-clause-some c =
    line_some (chars c.args.text.now) (chars c.in-Some.line.now) (chars c.in-Some.behind.now) (chars c.fed-ending.result.0.now) c.fed-ending.result.1
    c.in-Some.ensures.some c.fed-ending.ensures
