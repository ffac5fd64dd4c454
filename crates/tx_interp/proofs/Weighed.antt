-- A list that grows item by item: its weight and its limits.
use Rattle.std.proofs.Common.{◌≡◌, ℕ, ◌+◌, ◌≤◌, ◌<◌, ◌++◌, ◌&&◌, max, Bool, true, false, List, [], ◌∷◌, Option, Some, None, Ok, Err, map, nat_le, if◌then◌else◌, refl, sym, ap, ◌∙◌, subst, arith}
use Rattle.std.specs.Prelude.{nat_lt}
use Rattle.std.proofs.lemmas.Bool.Decides.{nat_tests}
use Rattle.tx_base.specs.declared.class.Class.TheVariants.{ProfileError}
use Rattle.tx_values.specs.declared.value.Value.{Value, List as Listed, fold-roll-Value}
use Rattle.tx_values.specs.declared.value.Value.TheVariants.{rolls-List}
use Rattle.tx_values.specs.declared.value.Value.TheOpen as v
use Rattle.tx_values.specs.Answer.{Answer, ◌>>=◌}
use Rattle.tx_values.specs.Limits.{depth, depth_step, greatest_of, in_limits, made, weight, weight_of_items, weight_step}
use Rattle.tx_meaning.specs.Containers.{longer}
use Rattle.tx_interp.specs.Weighed.{IsGrowing, weight_with}

abbrev weights : List Value → ℕ
weights xs = weight_of_items (map weight xs)

abbrev depths : List Value → ℕ
depths xs = greatest_of (map depth xs)

weight_list : (xs : List Value) → weight (Listed xs) ≡ weights xs
weight_list xs = ap weight (sym (rolls-List xs)) ∙ fold-roll-Value ℕ weight_step (v.List xs)

depth_list : (xs : List Value) → depth (Listed xs) ≡ 1 + depths xs
depth_list xs = ap depth (sym (rolls-List xs)) ∙ fold-roll-Value ℕ depth_step (v.List xs)

weights-more : (xs : List Value) (x : Value) → weights (xs ++ x ∷ []) ≡ weights xs + (1 + weight x)
weights-more [] x = omega arith
weights-more (y ∷ xs) x = omega (arith, weights-more xs x)

depths-more : (xs : List Value) (x : Value) → depths (xs ++ x ∷ []) ≡ max (depths xs) (depth x)
depths-more [] x = omega arith
depths-more (y ∷ xs) x = omega (arith, depths-more xs x)

pub weight-longer : (xs : List Value) (x : Value) → weight (Listed (xs ++ x ∷ [])) ≡ weight (Listed xs) + (1 + weight x)
weight-longer xs x = rw (weight_list xs, weight_list (xs ++ x ∷ [])) (weights-more xs x)

depth-longer : (xs : List Value) (x : Value) → depth (Listed (xs ++ x ∷ [])) ≡ max (depth (Listed xs)) (1 + depth x)
depth-longer xs x = rw (depth_list xs, depth_list (xs ++ x ∷ []), depths-more xs x) (omega arith)

by_numbers : (w u d e : ℕ) → (nat_le w 1048576 && nat_le d 16) ≡ true → (nat_le (w + (1 + u)) 1048576 && nat_le (max d (1 + e)) 16) ≡ (nat_le (w + (1 + u)) 1048576 && nat_lt e 16)
by_numbers w u d e h = grind (arith, nat_tests)

-- whether one more item is within the limits
fits : (xs : List Value) (x : Value) → in_limits (Listed xs) ≡ true → in_limits (Listed (xs ++ x ∷ [])) ≡ (nat_le (weight (Listed xs) + (1 + weight x)) 1048576 && nat_lt (depth x) 16)
fits xs x h = rw (weight-longer xs x, depth-longer xs x) (by_numbers (weight (Listed xs)) (weight x) (depth (Listed xs)) (depth x) h)

pub longer_by : (xs : List Value) (sum : ℕ) (x : Value) → IsGrowing xs sum → longer xs x ≡ (if nat_le (sum + (1 + weight x)) 1048576 && nat_lt (depth x) 16 then Ok (xs ++ x ∷ []) else Err ProfileError)
unfolding longer
longer_by xs sum x g = ap (λ b. (if b then Ok (Listed (xs ++ x ∷ [])) else Err ProfileError) >>= (λ all. Ok (xs ++ x ∷ []))) (fits xs x g.within ∙ ap (λ w. nat_le (w + (1 + weight x)) 1048576 && nat_lt (depth x) 16) g.weight)
    ∙ by_test (nat_le (sum + (1 + weight x)) 1048576 && nat_lt (depth x) 16)
  where
    by_test : (b : Bool) → ((if b then Ok (Listed (xs ++ x ∷ [])) else Err ProfileError) >>= (λ all. Ok (xs ++ x ∷ []))) ≡ (if b then Ok (xs ++ x ∷ []) else Err ProfileError)
    by_test true = refl
    by_test false = refl

pub grows : (xs : List Value) (sum : ℕ) (x : Value) → IsGrowing xs sum → (nat_le (sum + (1 + weight x)) 1048576 && nat_lt (depth x) 16) ≡ true → IsGrowing (xs ++ x ∷ []) (sum + (1 + weight x))
grows xs sum x g h = record {
  weight = weight-longer xs x ∙ ap (λ w. w + (1 + weight x)) g.weight;
  within = fits xs x g.within ∙ ap (λ w. nat_le (w + (1 + weight x)) 1048576 && nat_lt (depth x) 16) g.weight ∙ h;
}

pub none_yet : IsGrowing [] 0
none_yet = record { weight = weight_list []; within = rw (weight_list [], depth_list []) refl }

pub light : (xs : List Value) (sum : ℕ) → IsGrowing xs sum → sum ≤ 1048576
light xs sum g = by_weight (sym g.weight) g.within
  where
    by_weight : sum ≡ weight (Listed xs) → (nat_le (weight (Listed xs)) 1048576 && nat_le (depth (Listed xs)) 16) ≡ true → sum ≤ 1048576
    by_weight e h = grind (arith, nat_tests)

some_one : {A : Type 0} {x y : A} → Some x ≡ Some y → x ≡ y
some_one h = cc

none_some : {A : Type 0} {x : A} → None ≡ Some x → ⊥
none_some h = cc

pub longer_with : (xs : List Value) (sum : ℕ) (x : Value) (w : ℕ) → IsGrowing xs sum → Some w ≡ weight_with sum x → longer xs x ≡ Ok (xs ++ x ∷ [])
longer_with xs sum x w g h = longer_by xs sum x g ∙ by_test (nat_le (sum + (1 + weight x)) 1048576 && nat_lt (depth x) 16) h
  where
    by_test : (b : Bool) → Some w ≡ (if b then Some (sum + (1 + weight x)) else None) → ◌≡◌ {A = Answer (List Value)} (if b then Ok (xs ++ x ∷ []) else Err ProfileError) (Ok (xs ++ x ∷ []))
    by_test true e = refl
    by_test false e = absurd (none_some (sym e))

pub grows_with : (xs : List Value) (sum : ℕ) (x : Value) (w : ℕ) → IsGrowing xs sum → Some w ≡ weight_with sum x → IsGrowing (xs ++ x ∷ []) w
grows_with xs sum x w g h = by_test (nat_le (sum + (1 + weight x)) 1048576 && nat_lt (depth x) 16) refl h
  where
    by_test : (b : Bool) → (nat_le (sum + (1 + weight x)) 1048576 && nat_lt (depth x) 16) ≡ b → Some w ≡ (if b then Some (sum + (1 + weight x)) else None) → IsGrowing (xs ++ x ∷ []) w
    by_test true e k = subst (IsGrowing (xs ++ x ∷ [])) (sym (some_one k)) (grows xs sum x g e)
    by_test false e k = absurd (none_some (sym k))

pub refused_with : (xs : List Value) (sum : ℕ) (x : Value) → IsGrowing xs sum → None ≡ weight_with sum x → longer xs x ≡ Err ProfileError
refused_with xs sum x g h = longer_by xs sum x g ∙ by_test (nat_le (sum + (1 + weight x)) 1048576 && nat_lt (depth x) 16) h
  where
    by_test : (b : Bool) → None ≡ (if b then Some (sum + (1 + weight x)) else None) → ◌≡◌ {A = Answer (List Value)} (if b then Ok (xs ++ x ∷ []) else Err ProfileError) (Err ProfileError)
    by_test true e = absurd (none_some e)
    by_test false e = refl

pub ruleset growing = (longer_with, grows_with, refused_with, none_yet, light)
