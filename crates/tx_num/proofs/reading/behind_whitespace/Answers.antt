use Rattle.std.proofs.Common.{sym}
use Rattle.tx_num.proofs.ByCharacter.{minus_first, plus_first}
use Rattle.tx_num.proofs.reading.behind_whitespace.Goals as goal

pub returns-then-c-eq45 : goal.returns-then-c-eq45
returns-then-c-eq45 c = λ rest. sym (minus_first c.args.c rest c.if-c-eq45.true)

pub returns-then-c-eq43 : goal.returns-then-c-eq43
returns-then-c-eq43 c = λ rest. sym (plus_first c.args.c rest c.if-c-eq43.true)
