-- What a writer of csv has written.
use Rattle.std.specs.Prelude.{◌≡◌, ℕ, ◌++◌, false, List}
use Rattle.csv.specs.Writing.{fields_written, has_written, writer_pending, writer_setup, writer_under}
use Rattle.csv.specs.declared.writer.Writer.{Writer}
use Rattle.tx_records.specs.Output.{csv_writer}

-- what the writer underneath holds, and what is still to go there
abbrev pub written_by : {W : Type 0} → (W → List ℕ) → Writer W → List ℕ
written_by items w = items (writer_under w) ++ writer_pending w

-- it stands between two lines
pub record IsClean {W : Type 0} (w : Writer W) : Type 0 where
  pub fields : fields_written w ≡ 0
  pub wrote : has_written w ≡ false
  pub setup : writer_setup w ≡ csv_writer
