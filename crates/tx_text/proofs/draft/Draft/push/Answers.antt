use Rattle.std.proofs.Common.{◌∙◌, ap, string_bytes}
use Rattle.std.specs.Str.{chars}
use Rattle.std.proofs.lemmas.Str.{IsUtf8-string_bytes}
use Rattle.tx_text.proofs.Chars.{chars-push}
use Rattle.tx_text.proofs.draft.Draft.push.Goals as goal

pub returns : goal.returns
returns c = rw (← c.self.view_is)
    (ap chars c.in_ok-push.ensures.bytes ∙ chars-push (string_bytes c.self.inside.text) c.args.item (IsUtf8-string_bytes c.self.inside.text) c.ranges.item.0)
