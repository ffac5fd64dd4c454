use Rattle.std.proofs.Common.{◌∙◌, ap, arith}
use Rattle.tx_tokens.specs.Calls.Walking.{fed}
use Rattle.std.specs.Str.{chars}
use Rattle.tx_tokens.proofs.LineLemmas.{fed_plain, fed_return}
use Rattle.tx_tokens.proofs.SplitLemmas.{closed_none, closed_some}
use Rattle.tx_tokens.proofs.cursor.fed.Goals as goal

pub returns-in-Some : goal.returns-in-Some
returns-in-Some c = ap fed (closed_some 13 c.args.line.now c.in-Some.content c.utf8.line (omega arith) c.in-Some.ensures.cases) ∙ fed_return (chars c.in-Some.content.now)

pub returns-in-None : goal.returns-in-None
returns-in-None c = fed_plain (chars c.args.line.now) (closed_none 13 c.args.line.now c.utf8.line c.in-None.ensures.cases)
