use Rattle.std.proofs.Common.{◌≡◌, ◌+◌, ◌≤◌, drop, length}
use Rattle.tx_text.specs.Text.{joined}
use Rattle.tx_text.proofs.Builds.{behind_each}
use Rattle.tx_text.proofs.build.joined_fits.Given as goal

abbrev pub invariant-parts : goal.invariant-parts
invariant-parts l = (l.total ≤ l.most) × (length (joined l.sep l.parts) ≡ l.total + length (behind_each l.sep (drop l.part-index l.more)))
