use Rattle.std.proofs.Common.{◌≡◌, ◌<◌, ◌∙◌, length, sym, arith}
use Rattle.tx_records.proofs.PackedLemmas.{length_rows, number_at}
use Rattle.tx_records.proofs.raw.RawRows.number_of.Goals as goal

pub index-requires : goal.index-requires
index-requires c =
    let a = c.self.inside in
    let size : length c.args.self.now.records ≡ length a.numbers.items = rw (← c.self.view_is) (length_rows a.width a.numbers.items a.fields) in
    omega (arith, c.requires, a.numbers.ok.0)

pub returns : goal.returns
returns c =
    let a = c.self.inside in
    let size : length c.args.self.now.records ≡ length a.numbers.items = rw (← c.self.view_is) (length_rows a.width a.numbers.items a.fields) in
    let within : c.args.row < length a.numbers.items = omega (arith, c.requires) in
    rw (← c.self.view_is) (c.index.ensures ∙ sym (number_at a.width a.numbers.items a.fields c.args.row c.index.result.now within))
