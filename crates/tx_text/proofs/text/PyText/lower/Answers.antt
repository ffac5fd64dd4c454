use Rattle.tx_text.proofs.Cases.{lower_ascii}
use Rattle.tx_text.proofs.text.PyText.lower.Goals as goal

pub returns-then-is_ascii : goal.returns-then-is_ascii
returns-then-is_ascii c =
    lower_ascii c.as_str.result.now _ c.args.self.now _ c.if-is_ascii.ensures.cases c.as_str.ensures.chars c.as_str-then-is_ascii.ensures.chars c.in_ok-small_ascii.ensures
