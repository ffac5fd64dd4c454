use Rattle.std.proofs.Common.{◌∙◌, ap, map}
use Rattle.std.specs.Char.{to_ascii_lowercase}
use Rattle.tx_text.proofs.Cases.{small_text}
use Rattle.tx_text.proofs.case.small_ascii.Goals as goal

pub returns : goal.returns
returns c =
    c.of_string.ensures ∙ small_text c.args.text.now _ c.requires (c.make_ascii_lowercase.ensures.bytes ∙ ap (map to_ascii_lowercase) c.in_ok-made.ensures.ok)
