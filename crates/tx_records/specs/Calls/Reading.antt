-- What a reader of csv has left.
use Rattle.std.specs.Prelude.{◌≡◌, ℕ, ◌+◌, List, [], Option, Some, None, IsSome, length}
use Rattle.std.specs.Borrow.{Bor}
use Rattle.csv.specs.Reading.{Ready, reader_config, reader_state, reader_trim, records_from, source_of}
use Rattle.csv.specs.declared.parser.Config.{Config}
use Rattle.csv.specs.declared.parser.State.{State}
use Rattle.csv.specs.declared.reader.Reader.{Reader}
use Rattle.csv.specs.declared.reader.Trim.TheVariants as trim
use Rattle.tx_records.specs.Records.{Record}

-- a reader of a slice
abbrev pub SliceReader : Type 0
SliceReader = Reader (Bor (List ℕ))

-- the bytes that it has left
abbrev pub bytes_left : SliceReader → Option (List ℕ)
bytes_left reader = source_of (λ s. Some s.now) reader

abbrev pub records_left : Config → State → Option (List ℕ) → List Record
records_left cfg state None = []
records_left cfg state (Some bytes) = records_from cfg (length bytes + 1) state bytes

-- the records that it gives from now on
abbrev pub left_of : SliceReader → List Record
left_of reader = records_left (reader_config reader) (reader_state reader) (bytes_left reader)

-- it gives records as they are, and has not failed
pub record Stands (reader : SliceReader) : Type 0 where
  pub no_trim : reader_trim reader ≡ trim.None
  pub ready : Ready reader
  pub known : IsSome (bytes_left reader)
