use Rattle.std.proofs.Common.{◌∙◌, ap, string_bytes}
use Rattle.std.specs.Str.{chars}
use Rattle.std.proofs.lemmas.Str.{IsUtf8-string_bytes, chars-append}
use Rattle.tx_text.proofs.draft.Draft.push_str.Goals as goal

pub returns : goal.returns
returns c = rw (← c.self.view_is)
    (ap chars c.in_ok-push_str.ensures.bytes ∙ chars-append (string_bytes c.self.inside.text) c.args.more.now (IsUtf8-string_bytes c.self.inside.text))
