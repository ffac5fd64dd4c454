use Rattle.std.proofs.Common.{◌≡◌, ◌++◌, List, length, option_map}
use Rattle.tx_tokens.specs.Layout.{Event, closing_to, front_events}
use Rattle.tx_tokens.specs.Calls.Reading.{answer, state_of}
use Rattle.tx_tokens.proofs.reader.Reader.close_to.Given as goal

abbrev pub invariant-columns : goal.invariant-columns
invariant-columns l =
    ((rest : List Event) → answer l.fn.self (front_events (state_of l.fn.self) (closing_to l.column l.fn.self.columns) ++ rest) ≡ answer l.self (front_events (state_of l.fn.self) (closing_to l.column l.self.columns) ++ rest))
    × (option_map (λ f. f.1) (closing_to l.column l.fn.self.columns) ≡ option_map (λ f. f.1) (closing_to l.column l.self.columns))
    × (record (state_of l.self) { columns = l.fn.self.columns } ≡ state_of l.fn.self)

abbrev pub decreases-columns : goal.decreases-columns
decreases-columns l = length l.self.columns
