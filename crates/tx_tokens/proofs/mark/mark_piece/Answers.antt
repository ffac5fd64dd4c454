use Rattle.std.specs.Str.{chars}
use Rattle.tx_tokens.proofs.PieceLemmas.{mark_some}
use Rattle.tx_tokens.proofs.mark.mark_piece.Goals as goal

pub returns : goal.returns
returns c =
    mark_some c.args.first c.mark_size-size.result (chars c.args.behind.now) (chars c.args.text.now) c.requires c.mark_size-size.ensures
    c.in_ok-mark.mark (chars c.in_ok-mark.rest.now) c.if-size-eq0.false c.in_ok-mark.ensures.front c.in_ok-mark.ensures.rest
