use Rattle.std.proofs.Common.{◌≡◌, flat_map}
use Rattle.tx_text.specs.Text.{upper_char}
use Rattle.tx_text.proofs.case.in_capitals.Given as goal

abbrev pub invariant-loop-c : goal.invariant-loop-c
invariant-loop-c l = l.made ≡ flat_map upper_char l.yielded
