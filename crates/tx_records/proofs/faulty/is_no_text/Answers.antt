use Rattle.std.proofs.Common.{ap, not, sym}
use Rattle.std.proofs.lemmas.Str.{is_utf8-from_IsUtf8}
use Rattle.tx_records.proofs.CellLemmas.{not_utf8}
use Rattle.tx_records.proofs.faulty.is_no_text.Goals as goal

pub returns-in-Ok : goal.returns-in-Ok
returns-in-Ok c = sym (ap not (is_utf8-from_IsUtf8 c.args.field.now c.in-Ok.ensures.cases.1))

pub returns-in-Err : goal.returns-in-Err
returns-in-Err c = sym (ap not (not_utf8 c.args.field.now c.in-Err.ensures.cases.0))
