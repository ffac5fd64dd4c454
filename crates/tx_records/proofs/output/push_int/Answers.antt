use Rattle.std.proofs.Common.{◌≡◌, ◌∙◌, ◌++◌, ◌∷◌, [], sym, ap, rules}
use Rattle.std.specs.Fmt.{signed_decimal}
use Rattle.std.specs.Prelude.{encode_utf8_all}
use Rattle.csv.specs.Records.{fields_of}
use Rattle.tx_records.proofs.CellLemmas.{ascii_encoded}
use Rattle.tx_records.proofs.output.push_int.Goals as goal

pub returns-clause-fields : goal.returns-clause-fields
returns-clause-fields c =
    let pushed : fields_of c.push_field.new.self ≡ fields_of c.args.line.now ++ c.format.result.now ∷ [] = rw (c.requires, c.as_bytes.ensures.value) at c.in_ok-push_field.ensures.fields in
    let text : c.format.result.now ≡ signed_decimal c.args.n = search rules in
    let encoded : c.format.result.now ≡ encode_utf8_all (signed_decimal c.args.n) = sym (ascii_encoded c.format.result.now c.format.ensures.ascii) ∙ ap encode_utf8_all text in
    pushed ∙ ap (λ f. fields_of c.args.line.now ++ f ∷ []) encoded
