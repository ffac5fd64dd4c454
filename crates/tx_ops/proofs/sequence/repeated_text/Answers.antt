use Rattle.std.proofs.Common.{◌≡◌, ℕ, Option, Ok, Err, IfOk, subst, sym}
use Rattle.tx_base.specs.declared.class.Class.{Class}
use Rattle.tx_values.specs.declared.value.Value.{Text}
use Rattle.tx_values.specs.declared.value.OpError.TheVariants.{Raise}
use Rattle.tx_text.specs.Text.{repeated}
use Rattle.tx_ops.specs.Binary.{repetition}
use Rattle.tx_ops.proofs.sequence.repeated_text.Goals as goal

pub returns-in-Some-clause-value : goal.returns-in-Some-clause-value
returns-in-Some-clause-value c =
    subst (λ (o : Option ℕ). IfOk c.text_or_class.result (λ v. repetition o (λ n. Text (repeated n c.args.text.now)) ≡ Ok v))
    (sym c.in-Some.is) (c.text_or_class.ensures.value (repeated c.in-Some.times c.args.text.now) c.repeat.ensures)

pub returns-in-Some-clause-raise : goal.returns-in-Some-clause-raise
returns-in-Some-clause-raise c =
    subst (λ (o : Option ℕ). (d : Class) → c.text_or_class.result ≡ Err (Raise d) → repetition o (λ n. Text (repeated n c.args.text.now)) ≡ Err d)
    (sym c.in-Some.is) (c.text_or_class.ensures.raise (repeated c.in-Some.times c.args.text.now) c.repeat.ensures)
