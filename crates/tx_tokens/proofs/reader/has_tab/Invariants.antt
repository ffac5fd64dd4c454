use Rattle.std.proofs.Common.{◌≡◌, length}
use denote.Shadow.{shadow}
use denote.Text.{Utf8}
use Rattle.std.specs.List.{list_any}
use Rattle.std.specs.Str.{chars}
use Rattle.tx_tokens.specs.Pieces.{is_blank, run}
use Rattle.tx_tokens.specs.Layout.{is_tab}
use Rattle.tx_tokens.proofs.reader.has_tab.Given as goal

abbrev pub invariant-blanks : goal.invariant-blanks
invariant-blanks l = shadow (Utf8 l.rest) × (list_any is_tab (run is_blank (chars l.rest)) ≡ list_any is_tab (run is_blank (chars l.content)))

abbrev pub decreases-blanks : goal.decreases-blanks
decreases-blanks l = length l.rest
