use Rattle.std.proofs.Common.{◌≡◌, ◌≤◌, drop}
use Rattle.tx_parse.specs.Lexemes.{lexemes}
use Rattle.tx_parse.specs.Faults.{stands_deep}
use Rattle.tx_parse.proofs.answer.stands_deep.Given as goal

abbrev pub invariant-loop-token : goal.invariant-loop-token
invariant-loop-token l = (l.count ≤ 65) × (stands_deep l.count (lexemes (drop l.token-index l.tokens)) ≡ stands_deep 0 (lexemes l.tokens))
