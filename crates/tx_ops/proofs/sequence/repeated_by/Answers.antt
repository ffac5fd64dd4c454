use Rattle.std.proofs.Common.{◌≡◌, Ok, Err, IfOk, subst, sym, rules, ℤ, to_z, of_z}
use Rattle.std.specs.Int.{w128}
use Rattle.tx_base.specs.declared.class.Class.{Class}
use Rattle.tx_values.specs.declared.value.Value.{Value}
use Rattle.tx_values.specs.declared.value.OpError.TheVariants.{Raise}
use Rattle.tx_values.specs.Answer.{Answer}
use Rattle.tx_ops.proofs.Tables.{of_list, of_tuple}
use Rattle.tx_ops.proofs.sequence.repeated_by.Goals as goal

pub returns-in-Tuple-clause-value : goal.returns-in-Tuple-clause-value
returns-in-Tuple-clause-value c =
    let factor : ℤ = to_z w128 (of_z w128 c.args.factor) in
    let same : factor ≡ c.args.factor = search rules in
    subst (λ (o : Answer Value). IfOk c.repeated_tuple.result (λ v. o ≡ Ok v))
    (sym (of_tuple c.args.a.now _ _ factor c.args.factor c.in-Tuple.is c.as_slice.ensures same))
    c.repeated_tuple.ensures.value

pub returns-in-Tuple-clause-raise : goal.returns-in-Tuple-clause-raise
returns-in-Tuple-clause-raise c =
    let factor : ℤ = to_z w128 (of_z w128 c.args.factor) in
    let same : factor ≡ c.args.factor = search rules in
    subst (λ (o : Answer Value). (d : Class) → c.repeated_tuple.result ≡ Err (Raise d) → o ≡ Err d)
    (sym (of_tuple c.args.a.now _ _ factor c.args.factor c.in-Tuple.is c.as_slice.ensures same))
    c.repeated_tuple.ensures.raise

pub returns-in-List-clause-value : goal.returns-in-List-clause-value
returns-in-List-clause-value c =
    let factor : ℤ = to_z w128 (of_z w128 c.args.factor) in
    let same : factor ≡ c.args.factor = search rules in
    subst (λ (o : Answer Value). IfOk c.repeated_list.result (λ v. o ≡ Ok v))
    (sym (of_list c.args.a.now _ _ factor c.args.factor c.in-List.is c.as_slice-in-List.ensures same))
    c.repeated_list.ensures.value

pub returns-in-List-clause-raise : goal.returns-in-List-clause-raise
returns-in-List-clause-raise c =
    let factor : ℤ = to_z w128 (of_z w128 c.args.factor) in
    let same : factor ≡ c.args.factor = search rules in
    subst (λ (o : Answer Value). (d : Class) → c.repeated_list.result ≡ Err (Raise d) → o ≡ Err d)
    (sym (of_list c.args.a.now _ _ factor c.args.factor c.in-List.is c.as_slice-in-List.ensures same))
    c.repeated_list.ensures.raise
