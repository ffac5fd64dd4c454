use Rattle.std.proofs.Common.{◌∙◌, ap, length, sym}
use Rattle.std.specs.List.{count_by}
use Rattle.std.proofs.lemmas.Str.{chars-IsAscii}
use Rattle.tx_text.specs.Calls.Store.{is_first_byte}
use Rattle.tx_text.proofs.FirstBytes.{count-chars}
use Rattle.tx_text.proofs.points.char_count.Goals as goal

pub returns-then-is_ascii : goal.returns-then-is_ascii
returns-then-is_ascii c = ap length (sym (chars-IsAscii c.args.text.now c.if-is_ascii.ensures.cases))

pub returns : goal.returns
returns c = c.first_bytes.ensures ∙ (ap (λ t. count_by is_first_byte t) c.as_bytes.ensures.value ∙ count-chars c.args.text.now c.utf8.text)
