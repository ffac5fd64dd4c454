-- Rows that are lent or owned, and lists of rows that are read of a file or were made.
use Rattle.std.specs.Prelude.{ℕ, zero, suc, List, [], option_map, slice_get, unwrap_or}
use Rattle.tx_values.specs.declared.row.Row.{Row}
use Rattle.tx_records.specs.Records.{rows_of}
use Rattle.tx_plain.specs.declared.held.Held.{Held}
use Rattle.tx_plain.specs.declared.held.Held.TheVariants as held
use Rattle.tx_plain.specs.declared.held.Passed.{Passed}
use Rattle.tx_plain.specs.declared.held.Passed.TheVariants as passed
use Rattle.tx_plain.specs.declared.stored.Stored.{Stored}
use Rattle.tx_plain.specs.declared.stored.Stored.TheVariants as stored
use Rattle.tx_plain.specs.declared.outcome.RowOutcome.{RowOutcome}
use Rattle.tx_plain.specs.declared.outcome.RowOutcome.TheVariants as outcome

-- the row that is lent or owned
abbrev pub row_held : Held → Row
row_held (held.Lent row) = row.now
row_held (held.Own row) = row

abbrev pub outcome_in : Passed → RowOutcome
outcome_in (passed.Out row) = outcome.Out (row_held row)
outcome_in passed.Dropped = outcome.Dropped
outcome_in (passed.Reported number class) = outcome.Reported number class

-- the rows of a file, or those that were made
abbrev pub rows_stored : Stored → List Row
rows_stored (stored.Raw raw) = rows_of raw.now
rows_stored (stored.Made rows) = rows

-- those of the operator of a number
abbrev pub rows_stored_at : List Stored → ℕ → List Row
rows_stored_at all zero = []
rows_stored_at all (suc place) = unwrap_or (option_map rows_stored (slice_get all place)) []
