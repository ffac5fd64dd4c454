use Rattle.std.proofs.Common.{◌≡◌, ◌-◌, ◌≤◌}
use Rattle.tx_parse.specs.Calls.Reader.{a_name, and_read, more_items, items_behind}
use Rattle.tx_parse.proofs.target.names_behind.Given as goal

abbrev pub invariant-loop-turn : goal.invariant-loop-turn
invariant-loop-turn l = (l._turn ≤ l.most) × (more_items a_name l.end (l.most - l._turn) l.done l.cursor ≡ and_read (a_name l.fn.cursor) (items_behind a_name l.end))
