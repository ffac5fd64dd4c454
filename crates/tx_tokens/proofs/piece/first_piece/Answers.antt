use Rattle.std.proofs.Common.{◌∙◌, [], sym}
use Rattle.std.specs.Str.{chars}
use Rattle.std.proofs.lemmas.Str.{chars-nil}
use Rattle.tx_tokens.proofs.PieceLemmas.{comment_piece, quote_low}
use Rattle.tx_tokens.proofs.piece.first_piece.Goals as goal

pub returns-then-first-eq35 : goal.returns-then-first-eq35
returns-then-first-eq35 c =
    comment_piece c.args.first (chars c.args.behind.now) (chars c.args.text.now) (chars []) c.to_end.result c.requires (sym c.is_blank.ensures ∙ c.if-is_blank.false) c.if-first-eq35.true c.to_end.ensures chars-nil

pub text_piece-requires : goal.text_piece-requires
text_piece-requires c = quote_low c.args.first (sym c.is_quote.ensures ∙ c.if-is_quote.true)
