-- Signs (Language Reference 6.6, "Unary arithmetic and bitwise operations"): of a number, an integer; all else is a TypeError.
use Rattle.std.specs.Prelude.{Ok, Err, neg_ℤ}
use Rattle.tx_base.specs.declared.class.Class.TheVariants.{TypeError}
use Rattle.tx_num.specs.Number.{kept}
use Rattle.tx_tree.specs.declared.operator.UnaryOp.{UnaryOp}
use Rattle.tx_tree.specs.declared.operator.UnaryOp.TheVariants.{Minus, Plus}
use Rattle.tx_values.specs.declared.value.Value.{Value}
use Rattle.tx_values.specs.declared.value.Value as value
use Rattle.tx_values.specs.Answer.{Answer}
use Rattle.tx_values.specs.Operand.{Operand, number, operand}
use Rattle.tx_ops.specs.Overflow.{int_or_overflow}

-- `-a`: the least number has no negation of 128 bits
abbrev pub negation : Operand → Answer Value
negation (number n) = int_or_overflow (kept (neg_ℤ n))
negation _ = Err TypeError

-- `+a`
abbrev pub itself : Operand → Answer Value
itself (number n) = Ok (value.Int n)
itself _ = Err TypeError

abbrev pub unary_of : UnaryOp → Value → Answer Value
unary_of Minus a = negation (operand a)
unary_of Plus a = itself (operand a)
