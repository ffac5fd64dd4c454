use Rattle.std.proofs.Common.{◌≡◌, ◌∙◌, ◌<◌, Some, [], ap, sym, rules, length}
use Rattle.std.specs.Option.{option_map}
use Rattle.csv.specs.Records.{field_at, fields_of}
use Rattle.csv.proofs.RecordFacts.{field-there}
use Rattle.tx_records.proofs.FieldsLemmas.{field_more}
use Rattle.tx_records.proofs.csv_source.header_of.Goals.{in-Some+in_ok-push_name, in_default}
use Rattle.tx_records.proofs.csv_source.header_of.Goals as goal

pub fields-preserved : goal.fields-preserved
fields-preserved c =
    let fs = fields_of c.args.row.now in
    let within : c.fields.i < length fs = search rules in
    elim c.match-get.branch [
      | in-Some+in_ok-push_name w ↦
          let at : field_at fs c.fields.i ≡ Some w.in-Some.field.now = sym c.get.ensures.value ∙ ap (option_map (λ s. s.now)) w.in-Some.is in
          rw w.names-is (field_more c.fields.names w.push_name.new.names [] fs w.in-Some.field.now c.fields.i within at c.fields.invariant w.in_ok-push_name.ensures)
      | in_default w ↦
          absurd (field-there fs c.fields.i within (sym c.get.ensures.value ∙ ap (option_map (λ s. s.now)) w.in_default.is))
    ]
