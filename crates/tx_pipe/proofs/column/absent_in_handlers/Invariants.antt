use Rattle.std.proofs.Common.{◌≡◌, map, drop}
use Rattle.tx_pipe.specs.Pipe.{handling_of}
use Rattle.tx_pipe.specs.Calls.Asking.{handlers_absent}
use Rattle.tx_pipe.proofs.column.absent_in_handlers.Given as goal

abbrev pub invariant-loop-handler : goal.invariant-loop-handler
invariant-loop-handler l = handlers_absent l.left (map handling_of (drop l.handler-index l.handlers)) ≡ handlers_absent l.left (map handling_of l.handlers)
