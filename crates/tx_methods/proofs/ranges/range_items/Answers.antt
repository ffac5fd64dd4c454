use Rattle.std.proofs.Common.{◌≡◌, ◌∙◌, Err, ap, arith}
use Rattle.tx_base.specs.declared.class.Class.TheVariants.{TypeError}
use Rattle.tx_methods.specs.Walks.{range_items}
use Rattle.tx_methods.proofs.RangeArguments.{other_numbers}
use Rattle.tx_methods.proofs.ranges.range_items.Goals as goal

pub returns-in_default-clause-raise : goal.returns-in_default-clause-raise
returns-in_default-clause-raise c =
    let told : range_items c.args.args.now ≡ Err TypeError = other_numbers c.args.args.now (λ k. omega arith) (λ k. omega arith) (λ k. omega arith) in
    λ class is. let same : TypeError ≡ class = cc in told ∙ ap Err same
