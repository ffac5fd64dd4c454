use Rattle.std.proofs.Common.{◌≤◌, ◌-◌}
use Rattle.tx_pipe.specs.Pipe.{pipe_of}
use Rattle.tx_plain.specs.Calls.Standing.{Worked}
use Rattle.tx_plain.specs.Calls.Tracking.{Tracks}
use Rattle.tx_plain.proofs.plain.work_through.Given as goal

abbrev pub invariant-operators : goal.invariant-operators
invariant-operators g l =
    (l.at ≤ l.end)
    × Worked l.sources l.s (pipe_of l.nodes) l.at l.initial.steps l.steps l.work.stored.items l.work.entries
    × Tracks l.initial.steps l.steps l.initial.meter l.meter

abbrev pub decreases-operators : goal.decreases-operators
decreases-operators g l = l.end - l.at
