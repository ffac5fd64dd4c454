use Rattle.std.proofs.Common.{◌≡◌, ◌++◌, drop}
use Rattle.std.specs.Str.{chars}
use Rattle.tx_text.specs.Text.{joined}
use Rattle.tx_text.proofs.Builds.{behind_each}
use Rattle.tx_text.proofs.build.joined_with.Given as goal

abbrev pub invariant-parts : goal.invariant-parts
invariant-parts l = joined (chars l.sep) l.parts ≡ l.made ++ behind_each (chars l.sep) (drop l.part-index l.more)
