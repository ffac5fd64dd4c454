use Rattle.std.proofs.Common.{◌∙◌, sym, arith}
use Rattle.std.specs.Str.{chars}
use Rattle.tx_text.proofs.Counting.{count_of-empty, count_of-pieces, not_empty}
use Rattle.tx_text.proofs.OneByte.{length-chars-le}
use Rattle.tx_text.proofs.Pieces.{chars-some}
use Rattle.tx_text.proofs.search.count_parts.Goals as goal

pub overflow_add-result : goal.overflow_add-result
overflow_add-result c = omega (arith, length-chars-le c.args.text.now c.utf8.text)

pub returns-then-is_empty : goal.returns-then-is_empty
returns-then-is_empty c = count_of-empty c.args.part.now c.args.text.now c.args.count (sym c.is_empty.ensures ∙ c.if-is_empty.true) c.requires

pub returns : goal.returns
returns c =
    count_of-pieces (chars c.args.part.now) (chars c.args.text.now) c.occurrences.result (chars-some c.args.part.now c.utf8.part (not_empty c.args.part.now (sym c.is_empty.ensures ∙ c.if-is_empty.false))) c.occurrences.ensures
