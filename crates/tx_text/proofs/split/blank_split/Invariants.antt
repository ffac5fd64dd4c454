use Rattle.std.proofs.Common.{◌≡◌, ◌++◌, ◌≤◌, List, ℕ, length}
use denote.Shadow.{shadow}
use denote.Text.{Utf8}
use Rattle.std.specs.Str.{chars}
use Rattle.tx_text.specs.Text.{is_blank, split_where}
use Rattle.tx_text.proofs.Words.{onto_word}
use Rattle.tx_text.proofs.split.blank_split.Given as goal

abbrev pub invariant-characters : goal.invariant-characters
invariant-characters l = shadow (Utf8 l.rest) × (length l.rest ≤ length l.text) × (front : List ℕ) × (chars l.text ≡ front ++ chars l.rest)
    × (split_where is_blank (chars l.text) ≡ onto_word front (split_where is_blank (chars l.rest)))

abbrev pub decreases-characters : goal.decreases-characters
decreases-characters l = length l.rest
