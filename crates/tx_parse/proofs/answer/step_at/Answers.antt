use Rattle.std.proofs.Common.{ap, ◌∙◌}
use Rattle.tx_parse.specs.Lexemes.{kind_of}
use Rattle.tx_parse.specs.Calls.Front.{symbol_step}
use Rattle.tx_parse.proofs.Steps.{step_of_symbol}
use Rattle.tx_parse.proofs.answer.step_at.Goals as goal

pub returns : goal.returns
returns c = c.step_of.ensures ∙ ap symbol_step c.symbol_of.ensures ∙ step_of_symbol (kind_of c.args.kind.now)
