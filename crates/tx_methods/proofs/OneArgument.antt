-- A built-in function of one argument.
use Rattle.std.proofs.Common.{◌≡◌, [], ◌∷◌, refl}
use Rattle.tx_tree.specs.declared.function.Builtin.{Builtin}
use Rattle.tx_tree.specs.declared.function.Builtin.TheVariants as builtin
use Rattle.tx_values.specs.declared.value.Value.{Value}
use Rattle.tx_methods.specs.Builtins.{builtin_of, of_value}

pub one_argument : (b : Builtin) (a : Value) → builtin_of b (a ∷ []) ≡ of_value b a
one_argument builtin.Len a = refl
one_argument builtin.Int a = refl
one_argument builtin.Str a = refl
one_argument builtin.Bool a = refl
one_argument builtin.Abs a = refl
one_argument builtin.Ord a = refl
one_argument builtin.List a = refl
one_argument builtin.Tuple a = refl
one_argument builtin.Min a = refl
one_argument builtin.Max a = refl
one_argument builtin.Sum a = refl
one_argument builtin.Any a = refl
one_argument builtin.All a = refl
