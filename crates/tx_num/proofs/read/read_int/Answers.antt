use Rattle.std.proofs.Common.{◌≡◌, ◌∙◌, ap, arith, rules, ℤ, FitsSigned, to_z, of_z}
use Rattle.std.specs.Int.{w64, w128}
use Rattle.std.proofs.lemmas.Int.{ints}
use Rattle.tx_num.specs.ReadInt.{read_int}
use Rattle.tx_num.specs.declared.read.IntRead.TheVariants.{Value}
use Rattle.tx_num.proofs.Plain.{parsed_read}
use Rattle.tx_num.proofs.read.read_int.Goals as goal

pub returns-in-Ok : goal.returns-in-Ok
returns-in-Ok c =
    let n : ℤ = c.in-Ok.n in
    let fits : FitsSigned w64 n = search rules in
    let wide : to_z w128 (of_z w128 (to_z w64 (of_z w64 n))) ≡ n = omega (arith, ints) in
    ap Value wide ∙ (parsed_read c.as_str-text.result.now c.parse.result n c.parse.ensures.value.0 c.in-Ok.is ∙ ap read_int c.as_str-text.ensures.chars)
