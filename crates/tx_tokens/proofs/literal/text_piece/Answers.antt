use Rattle.std.specs.Str.{chars}
use Rattle.tx_tokens.proofs.PieceLemmas.{text_some}
use Rattle.tx_tokens.proofs.literal.text_piece.Goals as goal

pub returns-in-Some : goal.returns-in-Some
returns-in-Some c =
    text_some c.args.quote (chars c.args.behind.now) c.in-Some.value (chars c.in-Some.rest.now) c.in-Some.size (rw c.in-Some.is at c.in_ok-quoted.ensures.some) (rw c.in-Some.is at c.in_ok-quoted.ensures.rest)
