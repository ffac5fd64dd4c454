use Rattle.std.proofs.Common.{◌≡◌, refl, rules, true}
use Rattle.tx_records.proofs.CellLemmas.{integer_parsed}
use Rattle.tx_records.specs.Cell.{is_numeral}
use Rattle.tx_records.proofs.cell.integer_of.Goals as goal

pub returns-in-Err : goal.returns-in-Err
returns-in-Err c =
    let numeral : is_numeral c.args.field.now ≡ true = search rules in
    integer_parsed c.args.field.now c.args.field.now _ _ numeral refl c.parse-in-Err.ensures.value.0 c.ok.ensures.value
