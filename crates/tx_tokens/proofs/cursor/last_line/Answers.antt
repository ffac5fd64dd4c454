use Rattle.std.proofs.Common.{◌≡◌, ◌∙◌, List, ℕ, [], ◌∷◌, ap, sym, length, arith}
use Rattle.std.specs.Str.{chars}
use Rattle.std.proofs.lemmas.Str.{chars-nil}
use Rattle.tx_tokens.specs.Lines.{lines}
use Rattle.tx_tokens.proofs.LineLemmas.{last_is}
use Rattle.tx_tokens.proofs.cursor.last_line.Goals as goal

pub returns-clause-value : goal.returns-clause-value
returns-clause-value c =
    last_is (chars c.args.text.now) (chars c.in_ok-first_char.field-0.1.now) c.in_ok-first_char.field-0.0 c.in_ok-first_char.ensures.value c.requires
    ∙ ap (λ t. (record { content = chars c.args.text.now; ending = 0 }) ∷ lines t) (sym chars-nil)

pub returns-clause-sizes : goal.returns-clause-sizes
returns-clause-sizes c = omega (arith, ap length chars-nil)
