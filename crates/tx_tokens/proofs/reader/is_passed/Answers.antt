use Rattle.std.proofs.Common.{◌∙◌}
use Rattle.std.specs.Str.{chars}
use Rattle.tx_tokens.proofs.PieceLemmas.{passed_by}
use Rattle.tx_tokens.proofs.reader.is_passed.Goals as goal

pub returns : goal.returns
returns c = c.starts_nothing.ensures ∙ passed_by (chars c.args.content.now) (chars c.blanks.result.1.now) c.blanks.result.0 c.blanks.ensures.count c.blanks.ensures.rest
