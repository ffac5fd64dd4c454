use Rattle.std.proofs.Common.{◌≡◌, drop, map}
use Rattle.tx_pipe.specs.Pipe.{handling_of}
use Rattle.tx_plain.specs.Handlers.{is_ignored}
use Rattle.tx_plain.proofs.row_wise.is_ignored.Given as goal

abbrev pub invariant-loop-handler : goal.invariant-loop-handler
invariant-loop-handler l = is_ignored (map handling_of (drop l.handler-index l.handlers)) l.class ≡ is_ignored (map handling_of l.handlers) l.class
