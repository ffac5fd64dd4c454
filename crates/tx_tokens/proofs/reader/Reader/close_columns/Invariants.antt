use Rattle.std.proofs.Common.{◌≡◌, ◌++◌, [], List, length}
use Rattle.tx_tokens.specs.Layout.{Event, last_events}
use Rattle.tx_tokens.specs.Calls.Reading.{answer, state_of}
use Rattle.tx_tokens.proofs.reader.Reader.close_columns.Given as goal

abbrev pub invariant-columns : goal.invariant-columns
invariant-columns l =
    (rest : List Event) → answer l.fn.self (last_events (state_of l.fn.self) [] ++ rest) ≡ answer l.self (last_events (state_of l.self) [] ++ rest)

abbrev pub decreases-columns : goal.decreases-columns
decreases-columns l = length l.self.columns
