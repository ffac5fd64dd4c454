use Rattle.std.proofs.Common.{◌≡◌, ◌<◌, ◌∙◌, Some, ap, sym, length, rules, true, false}
use Rattle.std.specs.Option.{option_map}
use Rattle.csv.specs.Records.{field_at, fields_of}
use Rattle.csv.proofs.RecordFacts.{field-there}
use Rattle.tx_records.specs.Records.{is_no_text}
use Rattle.tx_records.proofs.FieldsLemmas.{any_at, any_more}
use Rattle.tx_records.proofs.faulty.has_no_text.Goals.{in-Some+else-is_no_text, in_default}
use Rattle.tx_records.proofs.faulty.has_no_text.Goals as goal

pub returns-then-is_no_text : goal.returns-then-is_no_text
returns-then-is_no_text c =
    let fs = fields_of c.args.row.now in
    let within : c.fields.i < length fs = search rules in
    let at : field_at fs c.fields.i ≡ Some c.in-Some.field.now = sym c.get.ensures.value ∙ ap (option_map (λ s. s.now)) c.in-Some.is in
    let test : is_no_text c.in-Some.field.now ≡ true = search rules in
    sym (any_at is_no_text fs c.in-Some.field.now c.fields.i within at test)

pub fields-preserved : goal.fields-preserved
fields-preserved c =
    let fs = fields_of c.args.row.now in
    let within : c.fields.i < length fs = search rules in
    elim c.match-get.branch [
      | in-Some+else-is_no_text w ↦
          let at : field_at fs c.fields.i ≡ Some w.in-Some.field.now = sym c.get.ensures.value ∙ ap (option_map (λ s. s.now)) w.in-Some.is in
          let test : is_no_text w.in-Some.field.now ≡ false = search rules in
          any_more is_no_text fs w.in-Some.field.now c.fields.i within at c.fields.invariant test
      | in_default w ↦
          absurd (field-there fs c.fields.i within (sym c.get.ensures.value ∙ ap (option_map (λ s. s.now)) w.in_default.is))
    ]
