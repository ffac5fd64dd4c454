use Rattle.std.proofs.Common.{◌≡◌, ◌+◌, ◌≤◌, drop, length}
use denote.Shadow.{shadow}
use denote.Text.{Utf8}
use Rattle.std.specs.Str.{chars}
use Rattle.tx_tokens.specs.Pieces.{quoted}
use Rattle.tx_tokens.specs.Calls.Walking.{quoted_behind}
use Rattle.tx_tokens.proofs.literal.quoted_items.Given as goal

abbrev pub invariant-items : goal.invariant-items
invariant-items l =
    shadow (Utf8 l.rest) × (quoted_behind l.value l.size (quoted l.quote (chars l.rest)) ≡ quoted l.quote (chars l.text)) × (chars l.rest ≡ drop l.size (chars l.text)) × (l.size + length l.rest ≤ length l.text)

abbrev pub decreases-items : goal.decreases-items
decreases-items l = length l.rest
