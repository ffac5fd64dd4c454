use Rattle.std.proofs.Common.{◌≡◌, drop}
use Rattle.tx_parse.specs.Lexemes.{lexemes}
use Rattle.tx_parse.specs.Faults.{first_outside}
use Rattle.tx_parse.proofs.answer.first_outside.Given as goal

abbrev pub invariant-loop-token : goal.invariant-loop-token
invariant-loop-token l = first_outside (lexemes (drop l.token-index l.tokens)) ≡ first_outside (lexemes l.tokens)
