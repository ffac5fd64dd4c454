use Rattle.std.proofs.Common.{◌≡◌, ◌++◌}
use Rattle.std.specs.Str.{chars}
use Rattle.tx_text.specs.Text.{repeated}
use Rattle.tx_text.proofs.build.push_copies.Given as goal

abbrev pub invariant-copies : goal.invariant-copies
invariant-copies l = l.made ≡ l.fn.made ++ repeated l.counter (chars l.text)
