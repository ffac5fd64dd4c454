-- Numbers of 128 bits.
use Rattle.std.proofs.Common.{◌≡◌, ◌^◌, true, false, Option, Some, None, ℤ, pos, negsuc, refl, ap}
use Rattle.std.specs.Int.{w128}
use Rattle.std.specs.Prelude.{FitsSigned, SomeIff}
use Rattle.std.proofs.lemmas.Bool.{false_from_ne_true, lt-ltb, ltb-true}
use Rattle.tx_base.specs.Width.{is_128_bit}
use Rattle.tx_num.specs.Number.{kept}

pub fits_from : (n : ℤ) → is_128_bit n ≡ true → FitsSigned w128 n
fits_from (pos n) e = record { sfits = ltb-true n (2 ^ 127) e }
fits_from (negsuc n) e = record { sfits = ltb-true n (2 ^ 127) e }

pub fits_is : (n : ℤ) → FitsSigned w128 n → is_128_bit n ≡ true
fits_is (pos n) fits = lt-ltb n (2 ^ 127) fits.sfits
fits_is (negsuc n) fits = lt-ltb n (2 ^ 127) fits.sfits

-- what the `checked_` calls answer
pub kept_is : (n : ℤ) (r : Option ℤ) → SomeIff r (FitsSigned w128 n) n → r ≡ kept n
kept_is n None past = let wide : is_128_bit n ≡ false = false_from_ne_true _ (λ e. past (fits_from n e)) in rw wide refl
kept_is n (Some m) fits = let e : is_128_bit n ≡ true = fits_is n fits.0 in rw e (ap Some fits.1)
