use Rattle.std.proofs.Common.{◌∙◌, [], length}
use Rattle.tx_records.proofs.PackedLemmas.{none_from}
use Rattle.tx_records.proofs.SourceLemmas.{same_source}
use Rattle.tx_records.proofs.csv_source.no_columns.Goals as goal

pub returns : goal.returns
returns c =
    let kept = c.in_ok-kept.kept in
    c.finished.ensures
    ∙ same_source c.args.dialect c.args.operator c.new.result [] _ [] kept.faults [] c.new.ensures (none_from (length c.new.result) kept.numbers.items kept.fields c.in_ok-kept.ensures.numbers) c.in_ok-kept.ensures.faults
