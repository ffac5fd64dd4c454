use Rattle.std.proofs.Common.{◌≡◌, ◌++◌, drop, map}
use Rattle.tx_pipe.specs.Pipe.{handling_of}
use Rattle.tx_plain.specs.Operators.{without_keys}
use Rattle.tx_plain.proofs.reporting.add_without_keys.Given as goal

abbrev pub invariant-loop-origin : goal.invariant-loop-origin
invariant-loop-origin l = l.entries ++ without_keys l.number (map handling_of l.handlers) (drop l.origin-index l.origin-items) ≡ l.initial.entries ++ without_keys l.number (map handling_of l.handlers) l.origin-items
