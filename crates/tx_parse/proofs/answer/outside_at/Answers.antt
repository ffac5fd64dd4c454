use Rattle.std.proofs.Common.{sym, ap, ◌∙◌}
use Rattle.tx_parse.specs.Lexemes.{kind_of}
use Rattle.tx_parse.specs.Calls.Front.{symbol_outside, placed}
use Rattle.tx_parse.proofs.Steps.{outside_of_symbol}
use Rattle.tx_parse.proofs.answer.outside_at.Goals as goal

pub returns : goal.returns
returns c = λ line later. outside_of_symbol (kind_of c.args.kind.now) line later ∙ ap (λ o. placed line o later) (sym (c.outside_word.ensures ∙ ap symbol_outside c.symbol_of.ensures))
