use Rattle.std.proofs.Common.{◌≡◌, ◌-◌, ◌≤◌}
use Rattle.tx_parse.specs.Calls.Reader.{a_word, and_read, more_items, items_behind}
use Rattle.tx_parse.proofs.target.words_behind.Given as goal

abbrev pub invariant-loop-turn : goal.invariant-loop-turn
invariant-loop-turn l = (l._turn ≤ l.most) × (more_items a_word l.end (l.most - l._turn) l.done l.cursor ≡ and_read (a_word l.fn.cursor) (items_behind a_word l.end))
