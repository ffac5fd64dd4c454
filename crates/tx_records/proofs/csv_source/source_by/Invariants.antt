use Rattle.std.proofs.Common.{◌≡◌, ◌++◌}
use Rattle.std.specs.List.{enumerate_from}
use Rattle.tx_records.specs.Records.{faults_in, good_in}
use Rattle.tx_records.specs.Calls.Packed.{HoldsRecords, rows_from}
use Rattle.tx_records.specs.Calls.Reading.{Stands, left_of}
use Rattle.tx_records.proofs.csv_source.source_by.Given as goal

-- what is kept, and what the records that are left give, is what all give
abbrev pub invariant-records : goal.invariant-records
invariant-records l = record {
  names : l.names ≡ l.fn.names;
  stands : Stands l.reader;
  holds : HoldsRecords l.width l.kept.numbers.items l.kept.fields;
  good : good_in l.width (enumerate_from 1 (left_of l.fn.reader)) ≡ rows_from l.width l.kept.numbers.items l.kept.fields ++ good_in l.width (enumerate_from l.number (left_of l.reader));
  faults : faults_in l.operator l.width (enumerate_from 1 (left_of l.fn.reader)) ≡ l.kept.faults ++ faults_in l.operator l.width (enumerate_from l.number (left_of l.reader));
}
