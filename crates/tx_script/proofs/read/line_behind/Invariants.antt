use Rattle.std.proofs.Common.{◌≡◌, ◌+◌, ◌≤◌, drop}
use Rattle.std.specs.Prelude.{count_by, ◌==◌}
use Rattle.tx_tokens.specs.Lines.{line_feed}
use Rattle.tx_script.proofs.read.line_behind.Given as goal

abbrev pub invariant-loop-byte : goal.invariant-loop-byte
invariant-loop-byte l = (l.line + count_by (λ b. b == line_feed) (drop l.byte-index l.ahead) ≡ count_by (λ b. b == line_feed) l.ahead + 1) × (l.line ≤ l.byte-index + 1)
