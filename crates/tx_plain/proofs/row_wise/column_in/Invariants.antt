use Rattle.std.proofs.Common.{◌≡◌, ◌<◌, ℕ, List, false, get_or}
use Rattle.tx_tree.specs.Words.{same_text}
use Rattle.tx_pipe.specs.Column.{bytes_of}
use Rattle.tx_plain.proofs.row_wise.column_in.Given as goal

abbrev pub invariant-loop-place : goal.invariant-loop-place
invariant-loop-place l = (k : ℕ) (d : List ℕ) → k < l.place → same_text (bytes_of l.name) (get_or l.schema k d) ≡ false
