-- The source rule: what the records of a file give to an operator.
use Rattle.std.specs.Prelude.{ℕ, List, [], ◌∷◌, Option, Some, None, length}
use Rattle.std.specs.List.{enumerate_from}
use Rattle.tx_report.specs.declared.report.Entry.{Entry}
use Rattle.tx_values.specs.declared.row.Naming.{Naming}
use Rattle.tx_records.specs.Records.{Numbered, Record, faults_in, good_in}
use Rattle.tx_records.specs.declared.dialect.Dialect.{Dialect}
use Rattle.tx_records.specs.declared.csv_source.CsvSource.{CsvSource}

-- under these names, of these good and faulty records
abbrev pub kept_source : Dialect → ℕ → Record → List Numbered → List Entry → CsvSource
kept_source dialect operator names good faults =
    record { names = names; rows = record { dialect = dialect; operator = operator; records = good }; faults = faults }

-- under these names: the data records are numbered from 1, and every column counts, used or not
abbrev pub source_by : Dialect → ℕ → Record → List Record → CsvSource
source_by dialect operator names behind =
    kept_source dialect operator names (good_in (length names) (enumerate_from 1 behind)) (faults_in operator (length names) (enumerate_from 1 behind))

-- without names in the script the first record names the columns, and a file without a record has none
abbrev pub source_headed : Dialect → ℕ → List Record → CsvSource
source_headed dialect operator [] = source_by dialect operator [] []
source_headed dialect operator (header ∷ behind) = source_by dialect operator header behind

-- with names every record is data
abbrev pub source_named : Dialect → ℕ → Option Record → List Record → CsvSource
source_named dialect operator None records = source_headed dialect operator records
source_named dialect operator (Some names) records = source_by dialect operator names records

abbrev pub source_of : Dialect → ℕ → Naming → List Record → CsvSource
source_of dialect operator naming records = source_named dialect operator naming.names records
