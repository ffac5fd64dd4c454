use Rattle.std.proofs.Common.{◌≡◌, drop}
use Rattle.tx_parse.specs.Lexemes.{lexemes}
use Rattle.tx_parse.specs.Calls.Front.{assigns_at}
use Rattle.tx_parse.proofs.cursor.first_assigns.Given as goal

abbrev pub invariant-loop-token : goal.invariant-loop-token
invariant-loop-token l = assigns_at (lexemes (drop l.token-index l.tokens)) ≡ assigns_at (lexemes l.tokens)
