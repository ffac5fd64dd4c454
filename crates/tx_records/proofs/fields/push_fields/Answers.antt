use Rattle.std.proofs.Common.{◌≡◌, ◌∙◌, ◌<◌, Some, ap, sym, rules, length}
use Rattle.std.specs.Option.{option_map}
use Rattle.csv.specs.Records.{field_at, fields_of}
use Rattle.csv.proofs.RecordFacts.{field-there}
use Rattle.tx_records.proofs.FieldsLemmas.{field_more}
use Rattle.tx_records.proofs.fields.push_fields.Goals.{in-Some+in_ok-push, in_default}
use Rattle.tx_records.proofs.fields.push_fields.Goals as goal

pub columns-preserved : goal.columns-preserved
columns-preserved c =
    let fs = fields_of c.args.row.now in
    let within : c.columns.i < length fs = search rules in
    elim c.match-get.branch [
      | in-Some+in_ok-push w ↦
          let at : field_at fs c.columns.i ≡ Some w.in-Some.field.now = sym c.get.ensures.value ∙ ap (option_map (λ s. s.now)) w.in-Some.is in
          rw w.fields-is (field_more c.columns.fields w.push.new.self c.args.fields.now fs w.in-Some.field.now c.columns.i within at c.columns.invariant w.in_ok-push.ensures.ok)
      | in_default w ↦
          absurd (field-there fs c.columns.i within (sym c.get.ensures.value ∙ ap (option_map (λ s. s.now)) w.in_default.is))
    ]
