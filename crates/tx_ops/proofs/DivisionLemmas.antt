-- Quotient and remainder of values.
use Rattle.std.proofs.Common.{◌≡◌, ◌≢◌, zero, suc, ℤ, pos, negsuc, Bool, true, false, Some, None, Ok, if◌then◌else◌, refl, sym, ap, subst, ◌∙◌}
use Rattle.std.specs.Prelude.{◌+ℤ◌, ◌*ℤ◌}
use Rattle.std.specs.Ordering.{int_eq}
use Rattle.std.proofs.lemmas.Bool.Decides.{Decides-int_eq}
use Rattle.tx_base.specs.Width.{is_128_bit}
use Rattle.tx_num.specs.Number.{floor_quotient, floor_remainder, kept, value_or_past}
use Rattle.tx_num.specs.Laws.{FloorLaw}
use Rattle.tx_num.specs.declared.division.Division.TheVariants as division
use Rattle.tx_values.specs.declared.value.Value.{Value, Int, out-Value, roll-out-Value, map-Value, fold-roll-Value}
use Rattle.tx_values.specs.declared.value.Value.TheVariants.{outs-Int}
use Rattle.tx_values.specs.declared.value.Value.TheOpen.{Value-F}
use Rattle.tx_values.specs.declared.value.Value.TheOpen as v
use Rattle.tx_values.specs.Equality.{Test, equal, equal_open}
use Rattle.tx_values.specs.Operand.{Operand, number, operand, operand_open}
use Rattle.tx_ops.specs.Overflow.{int_or_overflow}
use Rattle.tx_ops.specs.Binary.{divided, product, quotient, remainder, sum}
use Rattle.tx_ops.specs.Laws.{DivisionLaw, IdentityLaw, IsDivision}
use Rattle.tx_ops.proofs.ValidityLemmas.{ok_same}

-- an integer that has a value is that value
kept_same : (z : ℤ) (r : Value) → int_or_overflow (kept z) ≡ Ok r → r ≡ Int z
kept_same z r e = go (is_128_bit z) e
  where
    go : (b : Bool) → int_or_overflow (if b then Some z else None) ≡ Ok r → r ≡ Int z
    go true e = sym (ok_same (Int z) r e)
    go false e = cc

past_same : (z : ℤ) (r : Value) → divided (value_or_past z) ≡ Ok r → r ≡ Int z
past_same z r e = go (is_128_bit z) e
  where
    go : (b : Bool) → divided (if b then division.Value z else division.Past) ≡ Ok r → r ≡ Int z
    go true e = sym (ok_same (Int z) r e)
    go false e = cc

module _ (floors : FloorLaw) (a b q r : Value) where
  by_numbers : (m n : ℤ) → operand a ≡ number m → operand b ≡ number n → n ≢ pos 0 → q ≡ Int (floor_quotient m n) → r ≡ Int (floor_remainder m n) → IsDivision a b q r
  by_numbers m n x y some d e = record {
    dividend = m;
    divisor = n;
    quotient = floor_quotient m n;
    rest = floor_remainder m n;
    dividend_is = x;
    divisor_is = y;
    quotient_is = d;
    rest_is = e;
    whole = (floors m n some).0;
  }

  by_operands : (x y : Operand) → operand a ≡ x → operand b ≡ y → quotient x y ≡ Ok q → remainder x y ≡ Ok r → IsDivision a b q r
  by_operands (number m) (number (pos zero)) x y d e = absurd (cc)
  by_operands (number m) (number (pos (suc n))) x y d e = by_numbers m (pos (suc n)) x y (λ z. cc) (past_same (floor_quotient m (pos (suc n))) q d) (sym (ok_same (Int (floor_remainder m (pos (suc n)))) r e))
  by_operands (number m) (number (negsuc n)) x y d e = by_numbers m (negsuc n) x y (λ z. cc) (past_same (floor_quotient m (negsuc n)) q d) (sym (ok_same (Int (floor_remainder m (negsuc n))) r e))
  by_operands _ _ x y d e = absurd (cc)

pub divisions : FloorLaw → DivisionLaw
divisions floors a b q r d e = by_operands floors a b q r (operand a) (operand b) refl refl d e

-- ---- a number is equal to its integer

abbrev int_test : Operand → ℤ → Bool
int_test (number n) m = int_eq n m
int_test _ m = false

equal_layer : (x : Value-F Value) (m : ℤ) → operand_open x ≡ number m → equal_open (map-Value Value Test equal x) (v.Int m) ≡ true
equal_layer (v.Truth b) m e = ap (λ (o : Operand). int_test o m) e ∙ (Decides-int_eq m m).1 refl
equal_layer (v.Int n) m e = ap (λ (o : Operand). int_test o m) e ∙ (Decides-int_eq m m).1 refl
equal_layer _ m e = cc

equal_int : (a : Value) (m : ℤ) → operand a ≡ number m → equal a (Int m) ≡ true
equal_int a m e =
    ap (λ (c : Value). equal c (Int m)) (sym (roll-out-Value a))
    ∙ (ap (λ (t : Test). t (Int m)) (fold-roll-Value Test (λ x b. equal_open x (out-Value b)) (out-Value a))
    ∙ (ap (equal_open (map-Value Value Test equal (out-Value a))) (outs-Int m) ∙ equal_layer (out-Value a) m e))

operand_int : (n : ℤ) → operand (Int n) ≡ number n
operand_int n = ap operand_open (outs-Int n)

-- ---- by the operators alone

product_same : (q b p : Value) (x n : ℤ) → q ≡ Int x → operand b ≡ number n → product (operand q) (operand b) ≡ Ok p → p ≡ Int (x *ℤ n)
product_same q b p x n d y e = kept_same (x *ℤ n) p (sym (ap (λ (o : Operand). product o (operand b)) (ap operand d ∙ operand_int x) ∙ ap (product (number x)) y) ∙ e)

sum_same : (p r s : Value) (x y : ℤ) → p ≡ Int x → r ≡ Int y → sum (operand p) (operand r) ≡ Ok s → s ≡ Int (x +ℤ y)
sum_same p r s x y d f e = kept_same (x +ℤ y) s (sym (ap (λ (o : Operand). sum o (operand r)) (ap operand d ∙ operand_int x) ∙ ap (sum (number x)) (ap operand f ∙ operand_int y)) ∙ e)

pub identities : FloorLaw → IdentityLaw
identities floors a b q r p s d e f g =
    let told : IsDivision a b q r = divisions floors a b q r d e in
    let here : p ≡ Int (told.quotient *ℤ told.divisor) = product_same q b p told.quotient told.divisor told.quotient_is told.divisor_is f in
    let whole : s ≡ Int (told.quotient *ℤ told.divisor +ℤ told.rest) = sum_same p r s (told.quotient *ℤ told.divisor) told.rest here told.rest_is g in
    subst (λ (c : Value). equal a c ≡ true) (sym (whole ∙ ap Int (sym told.whole.0))) (equal_int a told.dividend told.dividend_is)
