-- The records of a file: which are good and which are faulty, over the whole list of them.
use Rattle.std.specs.Prelude.{ℕ, ◌==◌, Bool, not, nat_lt, List, [], ◌∷◌, Option, Some, None, if◌then◌else◌, filter, get_or, length, map, slice_get}
use Rattle.std.specs.List.{flat_map, list_any}
use Rattle.std.specs.Option.{is_some, option_and_then}
use Rattle.std.specs.Str.{is_utf8}
use Rattle.csv.specs.Reading.{default_config, records, strip_bom}
use Rattle.csv.specs.declared.parser.Config.{Config}
use Rattle.tx_base.specs.declared.class.Class.{Class}
use Rattle.tx_base.specs.declared.class.Class.TheVariants.{RecordError, UnicodeDecodeError}
use Rattle.tx_values.specs.declared.row.Mark.{Mark}
use Rattle.tx_values.specs.declared.row.Row.{Row}
use Rattle.tx_report.specs.declared.report.Entry.{Entry}
use Rattle.tx_records.specs.Cell.{value_of}
use Rattle.tx_records.specs.declared.dialect.Dialect.{Dialect}

-- a record is its fields
abbrev pub Record : Type 0
Record = List (List ℕ)

-- ---- the records of a file

abbrev pub comma : ℕ
comma = 44

-- how a file is read where a script says nothing else: commas, and no word but the empty field stands for None
abbrev pub plain : Dialect
plain = record { delimiter = comma; null = [] }

abbrev pub config_of : ℕ → Config
config_of delimiter = record default_config { delimiter = delimiter }

-- the records that csv reads of the bytes behind one UTF-8 mark
abbrev pub records_of : Dialect → List ℕ → List Record
records_of dialect bytes = records (config_of dialect.delimiter) (strip_bom bytes)

-- ---- faulty records

abbrev pub most_bytes : ℕ
most_bytes = 1048576

abbrev pub is_too_long : List ℕ → Bool
is_too_long field = nat_lt most_bytes (length field)

abbrev pub is_no_text : List ℕ → Bool
is_no_text field = not (is_utf8 field)

-- what a record raises under so many columns: another number of fields, then a field too long, then one that is no UTF-8
abbrev pub raised_by : ℕ → Record → Option Class
raised_by width fields =
    if not (length fields == width) then Some RecordError
    else if list_any is_too_long fields then Some RecordError
    else if list_any is_no_text fields then Some UnicodeDecodeError
    else None

-- a data record with its number, from 1
abbrev pub Numbered : Type 0
Numbered = ℕ × Record

-- record 3 of operator 1 is `1:3`
abbrev pub origin_of : ℕ → ℕ → List Mark
origin_of operator number = record { operator = operator; number = number } ∷ []

abbrev pub entry_of : ℕ → ℕ → Class → Entry
entry_of operator number class = record { operator = operator; class = class; origin = origin_of operator number }

-- the entry of a faulty record
abbrev pub fault_of : ℕ → ℕ → Option Class → List Entry
fault_of operator number None = []
fault_of operator number (Some class) = entry_of operator number class ∷ []

-- the entries of the faulty records, in order
abbrev pub faults_in : ℕ → ℕ → List Numbered → List Entry
faults_in operator width numbered = flat_map (λ r. fault_of operator r.0 (raised_by width r.1)) numbered

-- ---- good records

-- all others are good
abbrev pub is_good : ℕ → Numbered → Bool
is_good width numbered = not (is_some (raised_by width numbered.1))

abbrev pub good_in : ℕ → List Numbered → List Numbered
good_in width numbered = filter (is_good width) numbered

-- the good records of a file, as fields, with what makes them rows: the dialect and the operator of their source
pub record Raw : Type 0 where
  pub dialect : Dialect
  pub operator : ℕ
  pub records : List Numbered

-- the row of a good record: its cells by the cell rule, and where it comes from
abbrev pub row_of : Raw → Numbered → Row
row_of raw numbered = record { cells = map (value_of raw.dialect.null) numbered.1; origin = origin_of raw.operator numbered.0 }

abbrev pub rows_of : Raw → List Row
rows_of raw = map (row_of raw) raw.records

-- the field of a good record
abbrev pub field_in : Raw → ℕ → ℕ → Option (List ℕ)
field_in raw row column = option_and_then (λ numbered. slice_get numbered.1 column) (slice_get raw.records row)

-- the good record at a place
abbrev pub numbered_at : Raw → ℕ → Numbered
numbered_at raw row = get_or raw.records row (0, [])
