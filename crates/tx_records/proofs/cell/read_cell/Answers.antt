use Rattle.std.proofs.Common.{[]}
use Rattle.tx_records.proofs.CellLemmas.{read_none, read_some}
use Rattle.tx_records.proofs.cell.read_cell.Goals as goal

pub returns-in_default-clause-fault : goal.returns-in_default-clause-fault
returns-in_default-clause-fault c = λ t. read_none [] c.args.f.now c.in_default.ensures.cases.0

pub returns-in-Ok-value_of-clause-value : goal.returns-in-Ok-value_of-clause-value
returns-in-Ok-value_of-clause-value c =
    read_some [] c.new.result c.args.f.now c.in-Ok.field.now c.in-Ok-value_of.value c.in-Ok.ensures.cases.1 c.in-Ok.ensures.cases.0 c.new.ensures c.in-Ok-value_of.ensures
