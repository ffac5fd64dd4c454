use Rattle.std.proofs.Common.{◌≡◌, ◌++◌, ◌∷◌, []}
use Rattle.csv.specs.Records.{fields_of}
use Rattle.tx_records.proofs.PackedLemmas.{held_more, rows_more}
use Rattle.tx_records.proofs.SourceLemmas.{text, wide}
use Rattle.tx_records.proofs.csv_source.keep_good.Goals as goal

pub returns-clause-holds : goal.returns-clause-holds
returns-clause-holds c =
    let f = fields_of c.args.row.now in
    let numbers : c.push.new.self.items ≡ c.args.kept.now.numbers.items ++ c.args.number ∷ [] = c.in_ok-push.ensures.items in
    rw (c.in_ok-push_fields.ensures, numbers)
    (held_more c.args.kept.now.fields f c.args.kept.now.numbers.items c.args.number c.args.width c.requires.holds (wide c.args.width f c.requires.good) (text c.args.width f c.requires.good))

pub returns-clause-good : goal.returns-clause-good
returns-clause-good c =
    let numbers : c.push.new.self.items ≡ c.args.kept.now.numbers.items ++ c.args.number ∷ [] = c.in_ok-push.ensures.items in
    rw (c.in_ok-push_fields.ensures, numbers) (rows_more c.args.width c.args.number c.args.kept.now.numbers.items c.args.kept.now.fields (fields_of c.args.row.now) c.requires.holds.count (wide c.args.width (fields_of c.args.row.now) c.requires.good))
