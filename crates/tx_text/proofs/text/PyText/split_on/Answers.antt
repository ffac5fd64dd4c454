use Rattle.std.proofs.Common.{◌∙◌, ap, sym}
use Rattle.std.specs.Str.{chars}
use Rattle.std.proofs.lemmas.Str.{chars-nil}
use Rattle.tx_text.proofs.text.PyText.split_on.Goals as goal

pub pieces_of-requires : goal.pieces_of-requires
pieces_of-requires c = λ e. c.requires (sym c.as_str-2.ensures.chars ∙ ap chars e ∙ chars-nil)
