use Rattle.std.proofs.Common.{◌≡◌, ◌∙◌, arith, length}
use Rattle.std.proofs.lemmas.Bool.Decides.{nat_tests}
use Rattle.tx_text.proofs.Builds.{repeated_empty}
use Rattle.tx_text.proofs.build.copies_of.Goals as goal

pub returns-then-is_empty : goal.returns-then-is_empty
returns-then-is_empty c =
    let none : length c.args.text.now ≡ 0 = grind (arith, nat_tests) in
    c.new.ensures ∙ repeated_empty c.args.times c.args.text.now none
