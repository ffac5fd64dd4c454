-- Weight and depth of sequences that are joined and repeated.
use Rattle.std.proofs.Common.{◌≡◌, ◌+◌, ◌*◌, ◌≤◌, ◌++◌, ◌&&◌, ℕ, zero, suc, max, Bool, true, false, List, [], ◌∷◌, Ok, Err, map, length, nat_le, if◌then◌else◌, refl, sym, ap, ◌∙◌, arith}
use Rattle.std.proofs.lemmas.Bool.Decides.{nat_tests}
use Rattle.tx_base.specs.declared.class.Class.TheVariants.{ProfileError}
use Rattle.tx_values.specs.declared.value.Value.{Value, Text, Tuple, List as Listed, fold-roll-Value}
use Rattle.tx_values.specs.declared.value.Value.TheVariants.{rolls-Text, rolls-Tuple, rolls-List}
use Rattle.tx_values.specs.declared.value.Value.TheOpen as v
use Rattle.tx_values.specs.Limits.{depth, depth_step, greatest_of, in_limits, made, weight, weight_of_items, weight_step}
use Rattle.tx_ops.specs.Binary.{copies}
use Rattle.tx_ops.specs.Calls.Fits.{both_fit, copies_fit}

-- ---- a layer

pub weight_text : (s : List ℕ) → weight (Text s) ≡ length s
weight_text s = ap weight (sym (rolls-Text s)) ∙ fold-roll-Value ℕ weight_step (v.Text s)

pub depth_text : (s : List ℕ) → depth (Text s) ≡ 0
depth_text s = ap depth (sym (rolls-Text s)) ∙ fold-roll-Value ℕ depth_step (v.Text s)

abbrev pub weights : List Value → ℕ
weights xs = weight_of_items (map weight xs)

abbrev pub depths : List Value → ℕ
depths xs = greatest_of (map depth xs)

pub weight_tuple : (xs : List Value) → weight (Tuple xs) ≡ weights xs
weight_tuple xs = ap weight (sym (rolls-Tuple xs)) ∙ fold-roll-Value ℕ weight_step (v.Tuple xs)

pub depth_tuple : (xs : List Value) → depth (Tuple xs) ≡ 1 + depths xs
depth_tuple xs = ap depth (sym (rolls-Tuple xs)) ∙ fold-roll-Value ℕ depth_step (v.Tuple xs)

pub weight_list : (xs : List Value) → weight (Listed xs) ≡ weights xs
weight_list xs = ap weight (sym (rolls-List xs)) ∙ fold-roll-Value ℕ weight_step (v.List xs)

pub depth_list : (xs : List Value) → depth (Listed xs) ≡ 1 + depths xs
depth_list xs = ap depth (sym (rolls-List xs)) ∙ fold-roll-Value ℕ depth_step (v.List xs)

-- ---- lists of items

pub weights-append : (xs ys : List Value) → weights (xs ++ ys) ≡ weights xs + weights ys
weights-append [] ys = omega arith
weights-append (x ∷ xs) ys = omega (arith, weights-append xs ys)

pub depths-append : (xs ys : List Value) → depths (xs ++ ys) ≡ max (depths xs) (depths ys)
depths-append [] ys = omega arith
depths-append (x ∷ xs) ys = omega (arith, depths-append xs ys)

pub weights-copies : (times : ℕ) (xs : List Value) → weights (copies times xs) ≡ times * weights xs
weights-copies zero xs = omega arith
weights-copies (suc times) xs = omega (arith, weights-append xs (copies times xs), weights-copies times xs)

pub depths-copies : (times : ℕ) (xs : List Value) → depths (copies times xs) ≤ depths xs
depths-copies zero xs = omega arith
depths-copies (suc times) xs = omega (arith, depths-append xs (copies times xs), depths-copies times xs)

pub depths-more : (times : ℕ) (xs : List Value) → depths (copies (suc times) xs) ≡ depths xs
depths-more times xs = omega (arith, depths-append xs (copies times xs), depths-copies times xs)

-- ---- what the tests ahead of the copying say

sum_within : (w u d e : ℕ) → (nat_le (w + u) 1048576 && nat_le (1 + max d e) 16) ≡ (nat_le (w + u) 1048576 && (nat_le (1 + d) 16 && nat_le (1 + e) 16))
sum_within w u d e = grind (arith, nat_tests)

pub both_fit_tuple : (xs ys : List Value) → both_fit (Tuple xs) (Tuple ys) ≡ in_limits (Tuple (xs ++ ys))
both_fit_tuple xs ys =
    rw (weight_tuple xs, weight_tuple ys, depth_tuple xs, depth_tuple ys, weight_tuple (xs ++ ys), depth_tuple (xs ++ ys), weights-append xs ys, depths-append xs ys)
    (sym (sum_within (weights xs) (weights ys) (depths xs) (depths ys)))

pub both_fit_list : (xs ys : List Value) → both_fit (Listed xs) (Listed ys) ≡ in_limits (Listed (xs ++ ys))
both_fit_list xs ys =
    rw (weight_list xs, weight_list ys, depth_list xs, depth_list ys, weight_list (xs ++ ys), depth_list (xs ++ ys), weights-append xs ys, depths-append xs ys)
    (sym (sum_within (weights xs) (weights ys) (depths xs) (depths ys)))

pub copies_fit_tuple : (times : ℕ) (xs : List Value) → copies_fit times (Tuple xs) ≡ in_limits (Tuple (copies times xs))
copies_fit_tuple zero xs = rw (weight_tuple [], depth_tuple []) refl
copies_fit_tuple (suc times) xs =
    rw (weight_tuple xs, depth_tuple xs, weight_tuple (copies (suc times) xs), depth_tuple (copies (suc times) xs), weights-copies (suc times) xs, depths-more times xs) refl

pub copies_fit_list : (times : ℕ) (xs : List Value) → copies_fit times (Listed xs) ≡ in_limits (Listed (copies times xs))
copies_fit_list zero xs = rw (weight_list [], depth_list []) refl
copies_fit_list (suc times) xs =
    rw (weight_list xs, depth_list xs, weight_list (copies (suc times) xs), depth_list (copies (suc times) xs), weights-copies (suc times) xs, depths-more times xs) refl

-- a text is made where it has no more characters than the greatest weight
pub made_text : (s : List ℕ) → made (Text s) ≡ (if nat_le (length s) 1048576 then Ok (Text s) else Err ProfileError)
made_text s = rw (weight_text s, depth_text s) (go (nat_le (length s) 1048576))
  where
    go : (b : Bool) → (if b && true then Ok (Text s) else Err ProfileError) ≡ (if b then Ok (Text s) else Err ProfileError)
    go true = refl
    go false = refl
