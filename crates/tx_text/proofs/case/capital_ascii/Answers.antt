use Rattle.std.proofs.Common.{◌∙◌, ap, map}
use Rattle.std.specs.Char.{to_ascii_uppercase}
use Rattle.tx_text.proofs.Cases.{capital_text}
use Rattle.tx_text.proofs.case.capital_ascii.Goals as goal

pub returns : goal.returns
returns c =
    c.of_string.ensures ∙ capital_text c.args.text.now _ c.requires (c.make_ascii_uppercase.ensures.bytes ∙ ap (map to_ascii_uppercase) c.in_ok-made.ensures.ok)
