use Rattle.std.proofs.Common.{◌≡◌, ◌++◌, Ok, Err, IfOk, subst, sym}
use Rattle.tx_base.specs.declared.class.Class.{Class}
use Rattle.tx_values.specs.declared.value.Value.{Value}
use Rattle.tx_values.specs.declared.value.OpError.TheVariants.{Raise}
use Rattle.tx_values.specs.Answer.{Answer}
use Rattle.tx_ops.proofs.Tables.{of_lists, of_texts, of_tuples}
use Rattle.tx_ops.proofs.sequence.joined.Goals as goal

pub returns-in-Text-Text-clause-value : goal.returns-in-Text-Text-clause-value
returns-in-Text-Text-clause-value c =
    subst (λ (o : Answer Value). IfOk c.text_or_class.result (λ v. o ≡ Ok v))
    (sym (of_texts c.args.a.now c.args.b.now c.in-Text-Text.s c.in-Text-Text.t c.in-Text-Text.is-0 c.in-Text-Text.is-1))
    (c.text_or_class.ensures.value (c.in-Text-Text.s ++ c.in-Text-Text.t) c.concat.ensures)

pub returns-in-Text-Text-clause-raise : goal.returns-in-Text-Text-clause-raise
returns-in-Text-Text-clause-raise c =
    subst (λ (o : Answer Value). (d : Class) → c.text_or_class.result ≡ Err (Raise d) → o ≡ Err d)
    (sym (of_texts c.args.a.now c.args.b.now c.in-Text-Text.s c.in-Text-Text.t c.in-Text-Text.is-0 c.in-Text-Text.is-1))
    (c.text_or_class.ensures.raise (c.in-Text-Text.s ++ c.in-Text-Text.t) c.concat.ensures)

pub returns-in-Tuple-Tuple-clause-value : goal.returns-in-Tuple-Tuple-clause-value
returns-in-Tuple-Tuple-clause-value c =
    subst (λ (o : Answer Value). IfOk c.joined_tuple.result (λ v. o ≡ Ok v))
    (sym (of_tuples c.args.a.now c.args.b.now _ _ _ _ c.in-Tuple-Tuple.is-0 c.in-Tuple-Tuple.is-1 c.as_slice.ensures c.as_slice-in-Tuple-Tuple.ensures))
    c.joined_tuple.ensures.value

pub returns-in-Tuple-Tuple-clause-raise : goal.returns-in-Tuple-Tuple-clause-raise
returns-in-Tuple-Tuple-clause-raise c =
    subst (λ (o : Answer Value). (d : Class) → c.joined_tuple.result ≡ Err (Raise d) → o ≡ Err d)
    (sym (of_tuples c.args.a.now c.args.b.now _ _ _ _ c.in-Tuple-Tuple.is-0 c.in-Tuple-Tuple.is-1 c.as_slice.ensures c.as_slice-in-Tuple-Tuple.ensures))
    c.joined_tuple.ensures.raise

pub returns-in-List-List-clause-value : goal.returns-in-List-List-clause-value
returns-in-List-List-clause-value c =
    subst (λ (o : Answer Value). IfOk c.joined_list.result (λ v. o ≡ Ok v))
    (sym (of_lists c.args.a.now c.args.b.now _ _ _ _ c.in-List-List.is-0 c.in-List-List.is-1 c.as_slice-in-List-List.ensures c.as_slice-in-List-List-2.ensures))
    c.joined_list.ensures.value

pub returns-in-List-List-clause-raise : goal.returns-in-List-List-clause-raise
returns-in-List-List-clause-raise c =
    subst (λ (o : Answer Value). (d : Class) → c.joined_list.result ≡ Err (Raise d) → o ≡ Err d)
    (sym (of_lists c.args.a.now c.args.b.now _ _ _ _ c.in-List-List.is-0 c.in-List-List.is-1 c.as_slice-in-List-List.ensures c.as_slice-in-List-List-2.ensures))
    c.joined_list.ensures.raise
