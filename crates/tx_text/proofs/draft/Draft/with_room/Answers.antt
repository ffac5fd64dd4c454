use Rattle.std.proofs.Common.{◌∙◌, ap}
use Rattle.std.specs.Str.{chars}
use Rattle.std.proofs.lemmas.Str.{chars-nil}
use Rattle.tx_text.proofs.draft.Draft.with_room.Goals as goal

pub returns : goal.returns
returns c = ap chars c.in_ok-text.ensures.bytes ∙ chars-nil
