use Rattle.std.proofs.Common.{◌≡◌, ◌∙◌, ap, arith, rules, ℤ, pos, FitsSigned, to_z, of_z}
use Rattle.std.specs.Int.{w128}
use Rattle.std.specs.Prelude.{◌-ℤ◌, ◌<ℤ◌, int_rem}
use Rattle.std.proofs.lemmas.Int.{ints, rem_is}
use Rattle.tx_num.proofs.Floors.{low_rest, mod_down}
use Rattle.tx_num.proofs.division.floor_mod.Goals as goal

pub returns-then-b-lt0 : goal.returns-then-b-lt0
returns-then-b-lt0 c =
    let a : ℤ = c.args.a in
    let b : ℤ = c.args.b in
    let less : ℤ = to_z w128 (of_z w128 a) -ℤ pos 1 in
    let rest : ℤ = to_z w128 (of_z w128 (int_rem (to_z w128 (of_z w128 less)) (to_z w128 (of_z w128 b)))) in
    let up : pos 0 <ℤ a = grind (arith, ints) in
    let down : b <ℤ pos 0 = grind (arith, ints) in
    let near : FitsSigned w128 less = search rules in
    let next : less ≡ a -ℤ pos 1 = omega (arith, ints) in
    let is : rest ≡ int_rem (a -ℤ pos 1) b = rem_is w128 less b near c.ranges.b ∙ ap (λ z. int_rem z b) next in
    let low = low_rest a b rest up down is in
    mod_down a b rest _ up down is (omega (arith, ints, low.0, low.1))
