use Rattle.std.proofs.Common.{◌∙◌, sym}
use Rattle.tx_records.proofs.PackedLemmas.{length_rows}
use Rattle.tx_records.proofs.raw.RawRows.len.Goals as goal

pub returns : goal.returns
returns c = rw (← c.self.view_is) (c.len.ensures ∙ c.self.inside.numbers.ok.0 ∙ sym (length_rows c.self.inside.width c.self.inside.numbers.items c.self.inside.fields))
