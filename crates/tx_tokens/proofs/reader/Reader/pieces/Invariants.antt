use Rattle.std.proofs.Common.{◌≡◌, ◌++◌, ◌+◌, List, length}
use denote.Shadow.{shadow}
use denote.Text.{Utf8}
use Rattle.std.specs.Str.{chars}
use Rattle.tx_tokens.specs.Pieces.{cuts}
use Rattle.tx_tokens.specs.Layout.{Event, cut_events, opened_behind_cuts}
use Rattle.tx_tokens.specs.Calls.Reading.{answer, state_of}
use Rattle.tx_tokens.proofs.reader.Reader.pieces.Given as goal

abbrev pub invariant-pieces : goal.invariant-pieces
invariant-pieces l =
    shadow (Utf8 l.rest)
    × ((rest : List Event) → answer l.fn.self (cut_events l.fn.self.line l.fn.self.place l.fn.self.opened (cuts (chars l.content)) ++ rest) ≡ answer l.self (cut_events l.self.line l.self.place l.self.opened (cuts (chars l.rest)) ++ rest))
    × (record (state_of l.fn.self) { place = l.fn.self.place + length (chars l.content); opened = opened_behind_cuts l.fn.self.line l.fn.self.opened (cuts (chars l.content)) } ≡ record (state_of l.self) { place = l.self.place + length (chars l.rest); opened = opened_behind_cuts l.self.line l.self.opened (cuts (chars l.rest)) })
    × (l.self.place + length (chars l.rest) ≡ l.fn.self.place + length (chars l.content))

abbrev pub decreases-pieces : goal.decreases-pieces
decreases-pieces l = length (chars l.rest)
