-- Calls of defs, and the usual rewritings: by cases on what the parts give.
use Rattle.std.proofs.Common.{◌≡◌, List, [], ◌∷◌, Some, Ok, Err, refl, sym, ap, ◌∙◌, subst, Bool, true, false, not, if◌then◌else◌}
use Rattle.tx_base.specs.declared.class.Class.TheVariants.{ProfileError}
use Rattle.tx_tree.specs.declared.operator.BinaryOp.{BinaryOp}
use Rattle.tx_tree.specs.declared.operator.CompareOp.{CompareOp}
use Rattle.tx_values.specs.declared.value.Value.{Value, out-Value}
use Rattle.tx_values.specs.declared.value.Value.TheVariants as v
use Rattle.tx_values.specs.Answer.{Answer, ◌>>=◌}
use Rattle.tx_values.specs.Equality.{truthy}
use Rattle.tx_ops.specs.Binary.{binary_of}
use Rattle.tx_ops.specs.Compare.{compare_of}
use Rattle.tx_names.specs.Function.{one, Expr, truth, name, paren, call, binary, compare, negation, conjunction, disjunction, conditional, Exprs, none, more, Comparisons, no_operand, operand, present, Statement, return, assign, augment, branch, Statements, finish, next, Arms, no_arm, arm, Body, gives, does, Function}
use Rattle.tx_meaning.specs.Maps.{Row, Map, no_row, read_local, put, take}
use Rattle.tx_meaning.specs.Meaning
use Rattle.tx_meaning.specs.Meaning.{Course, goes_on, breaks, continues, gives_back, and_then, is_list, means, means_each, means_chain, means_and, means_or, runs, runs_all, chooses, yields, applied}
use Rattle.tx_meaning.specs.Laws.{CallLaw, Means, Runs, Rewritings}
use Rattle.tx_meaning.proofs.TwoEvaluations.{go}

-- an answer, and its value once more
pub twice : {A B : Type 0} (o : Answer A) (f : A → A → Answer B) (g : A → Answer B) → ((x : A) → f x x ≡ g x) → (o >>= (λ x. o >>= f x)) ≡ (o >>= g)
twice (Ok x) f g h = h x
twice (Err c) f g h = refl

-- where nothing follows
pub alone : {A : Type 0} (o : Answer A) → (o >>= (λ x. Ok x)) ≡ o
alone (Ok x) = refl
alone (Err c) = refl

pub in_turn : {A B C : Type 0} (o : Answer A) (f : A → Answer B) (g : B → Answer C) → ((o >>= f) >>= g) ≡ (o >>= (λ x. f x >>= g))
in_turn (Ok x) f g = refl
in_turn (Err c) f g = refl

by_truth : {A : Type 0} {x y z w : A} (b : Bool) → (b ≡ true → x ≡ z) → (b ≡ false → y ≡ w) → (if b then x else y) ≡ (if b then z else w)
by_truth true h k = h refl
by_truth false h k = k refl

module _ {N : Type 0} (same : N → N → Bool) where
  pub calls : CallLaw same
  calls = record {
    value = λ g es r m xs e. ap (λ o. o >>= applied same g no_row) e;
    around = λ g es r s m q e. ap (λ o. o >>= applied same g no_row) e;
  }

  and_is : (a b : Expr N) → Means same (conjunction a (more b none)) (conditional b a a)
  and_is a b r m = after (means same a r m)
    where
      after : (o : Answer Value) → (o >>= (λ x. means_and same (more b none) x r m)) ≡ (o >>= (λ x. if truthy x then means same b r m else o))
      after (Ok x) = by_truth (truthy x) (λ e. alone (means same b r m)) (λ e. refl)
      after (Err c) = refl

  or_is : (a b : Expr N) → Means same (disjunction a (more b none)) (conditional a a b)
  or_is a b r m = after (means same a r m)
    where
      after : (o : Answer Value) → (o >>= (λ x. means_or same (more b none) x r m)) ≡ (o >>= (λ x. if truthy x then o else means same b r m))
      after (Ok x) = by_truth (truthy x) (λ e. refl) (λ e. alone (means same b r m))
      after (Err c) = refl

  not_is : (a : Expr N) → Means same (negation a) (conditional (truth false) a (truth true))
  not_is a r m = go {o = means same a r m} refl λ x. turned (truthy x)
    where
      turned : (b : Bool) → ◌≡◌ {A = Answer Value} (Ok (v.Truth (not b))) (if b then Ok (v.Truth false) else Ok (v.Truth true))
      turned true = refl
      turned false = refl

  more_and_is : (a b : Expr N) (es : Exprs N) → Means same (conjunction a (more b es)) (conjunction a (more (conjunction b es) none))
  more_and_is a b es r m = go {o = means same a r m} refl λ x. by_truth (truthy x) (λ e. sym (alone (means same b r m >>= (λ y. means_and same es y r m)))) (λ e. refl)

  more_or_is : (a b : Expr N) (es : Exprs N) → Means same (disjunction a (more b es)) (disjunction a (more (disjunction b es) none))
  more_or_is a b es r m = go {o = means same a r m} refl λ x. by_truth (truthy x) (λ e. refl) (λ e. sym (alone (means same b r m >>= (λ y. means_or same es y r m))))

  not_and_is : (a b : Expr N) → Means same (negation (conjunction a (more b none))) (disjunction (negation a) (more (negation b) none))
  unfolding out-Value denote.Hole.Carrier.out
  not_and_is a b r m = after (means same a r m)
    where
      second : (o : Answer Value) → ((o >>= (λ y. Ok y)) >>= (λ x. ◌>>=◌ {A = Value} (Ok x) (λ z. Ok (v.Truth (not (truthy z)))))) ≡ ((o >>= (λ y. Ok (v.Truth (not (truthy y))))) >>= (λ y. Ok y))
      second (Ok y) = refl
      second (Err c) = refl

      first : (x : Value) (b : Bool) → (o : Answer Value) → truthy x ≡ b
          → ((if b then (o >>= (λ y. Ok y)) else Ok x) >>= (λ z. Ok (v.Truth (not (truthy z))))) ≡ (if not b then Ok (v.Truth (not b)) else ((o >>= (λ y. Ok (v.Truth (not (truthy y))))) >>= (λ y. Ok y)))
      first x true o e = second o
      first x false o e = ap (λ t. Ok (v.Truth (not t))) e

      after : (o : Answer Value) → ((o >>= (λ x. means_and same (more b none) x r m)) >>= (λ z. Ok (v.Truth (not (truthy z))))) ≡ ((o >>= (λ x. Ok (v.Truth (not (truthy x))))) >>= (λ x. means_or same (more (negation b) none) x r m))
      after (Ok x) = first x (truthy x) (means same b r m) refl
      after (Err c) = refl

  not_or_is : (a b : Expr N) → Means same (negation (disjunction a (more b none))) (conjunction (negation a) (more (negation b) none))
  unfolding out-Value denote.Hole.Carrier.out
  not_or_is a b r m = after (means same a r m)
    where
      second : (o : Answer Value) → ((o >>= (λ y. Ok y)) >>= (λ x. ◌>>=◌ {A = Value} (Ok x) (λ z. Ok (v.Truth (not (truthy z)))))) ≡ ((o >>= (λ y. Ok (v.Truth (not (truthy y))))) >>= (λ y. Ok y))
      second (Ok y) = refl
      second (Err c) = refl

      first : (x : Value) (b : Bool) → (o : Answer Value) → truthy x ≡ b
          → ((if b then Ok x else (o >>= (λ y. Ok y))) >>= (λ z. Ok (v.Truth (not (truthy z))))) ≡ (if not b then ((o >>= (λ y. Ok (v.Truth (not (truthy y))))) >>= (λ y. Ok y)) else Ok (v.Truth (not b)))
      first x false o e = second o
      first x true o e = ap (λ t. Ok (v.Truth (not t))) e

      after : (o : Answer Value) → ((o >>= (λ x. means_or same (more b none) x r m)) >>= (λ z. Ok (v.Truth (not (truthy z))))) ≡ ((o >>= (λ x. Ok (v.Truth (not (truthy x))))) >>= (λ x. means_and same (more (negation b) none) x r m))
      after (Ok x) = first x (truthy x) (means same b r m) refl
      after (Err c) = refl

  other_arm_is : (a t b : Expr N) → Means same (conditional a t b) (conditional b (negation t) a)
  unfolding out-Value denote.Hole.Carrier.out
  other_arm_is a t b r m = after (means same t r m)
    where
      turned : (w : Bool) → (if w then means same a r m else means same b r m) ≡ (if not w then means same b r m else means same a r m)
      turned true = refl
      turned false = refl

      after : (o : Answer Value) → (o >>= (λ x. if truthy x then means same a r m else means same b r m)) ≡ ((o >>= (λ x. Ok (v.Truth (not (truthy x))))) >>= (λ x. if truthy x then means same b r m else means same a r m))
      after (Ok x) = turned (truthy x)
      after (Err c) = refl

  chain_is : (a b c : Expr N) (o p : CompareOp) (cs : Comparisons N)
      → Means same (compare a (operand o b (operand p c cs))) (conjunction (compare a (operand o b no_operand)) (more (compare b (operand p c cs)) none))
  unfolding out-Value denote.Hole.Carrier.out
  chain_is a b c o p cs r m = first (means same a r m)
    where
      rest : Value → Answer Value
      rest y = means_chain same (operand p c cs) y r m

      third : (is : Bool) (u : Answer Value) → (if is then u else Ok (v.Truth false)) ≡ ((if is then Ok (v.Truth true) else Ok (v.Truth false)) >>= (λ x. if truthy x then (u >>= (λ z. Ok z)) else Ok x))
      third true u = sym (alone u)
      third false u = refl

      compared : (w : Answer Bool) (u : Answer Value) → (w >>= (λ is. if is then u else Ok (v.Truth false))) ≡ ((w >>= (λ is. if is then Ok (v.Truth true) else Ok (v.Truth false))) >>= (λ x. if truthy x then (u >>= (λ z. Ok z)) else Ok x))
      compared (Ok is) u = third is u
      compared (Err d) u = refl

      second : (x : Value) (u : Answer Value) → (u >>= (λ y. compare_of o x y >>= (λ is. if is then rest y else Ok (v.Truth false))))
          ≡ ((u >>= (λ y. compare_of o x y >>= (λ is. if is then Ok (v.Truth true) else Ok (v.Truth false)))) >>= (λ z. if truthy z then ((u >>= rest) >>= (λ w. Ok w)) else Ok z))
      second x (Ok y) = compared (compare_of o x y) (rest y)
      second x (Err d) = refl

      first : (u : Answer Value) → (u >>= (λ x. means_chain same (operand o b (operand p c cs)) x r m)) ≡ ((u >>= (λ x. means_chain same (operand o b no_operand) x r m)) >>= (λ x. means_and same (more (compare b (operand p c cs)) none) x r m))
      first (Ok x) = second x (means same b r m)
      first (Err d) = refl

  nothing_follows : (o : Answer (Course (Map same))) (r : Row) → o ≡ (o >>= and_then (runs_all same finish r))
  nothing_follows (Ok (goes_on m)) r = refl
  nothing_follows (Ok (breaks m)) r = refl
  nothing_follows (Ok (continues m)) r = refl
  nothing_follows (Ok (gives_back x)) r = refl
  nothing_follows (Err c) r = refl

  elif_is : (a b : Expr N) (ss ts other : Statements N) (arms : Arms N)
      → Runs same (branch (arm a ss (arm b ts arms)) other) (branch (arm a ss no_arm) (next (branch (arm b ts arms) other) finish))
  elif_is a b ss ts other arms r m = go {o = means same a r m} refl λ x. by_truth (truthy x) (λ e. refl) (λ e. nothing_follows (runs same (branch (arm b ts arms) other) r m) r)

  augmented_is : (n : N) (op : BinaryOp) (a : Expr N) (r : Row) (m : Map same) (x : Value) → m n ≡ Some x → is_list (out-Value x) ≡ false
      → runs same (augment n op a) r m ≡ runs same (assign (one n) (binary (name n) op a)) r m
  unfolding take
  augmented_is n op a r m x e l = ap (λ o. read_local o >>= left_side) e ∙ second (means same a r m) ∙ sym (ap (λ o. (read_local o >>= (λ x. means same a r m >>= (λ y. binary_of op x y))) >>= (λ z. take same (one n) z m >>= (λ after. Ok (goes_on after)))) e)
    where
      left_side : Value → Answer (Course (Map same))
      left_side x = means same a r m >>= (λ y. (if is_list (out-Value x) then Err ProfileError else binary_of op x y) >>= (λ z. Ok (goes_on (put same n z m))))

      third : (o : Answer Value) → (o >>= (λ z. Ok (goes_on (put same n z m)))) ≡ (o >>= (λ z. take same (one n) z m >>= (λ after. Ok (goes_on after))))
      third (Ok z) = refl
      third (Err c) = refl

      second : (u : Answer Value) → (u >>= (λ y. (if is_list (out-Value x) then Err ProfileError else binary_of op x y) >>= (λ z. Ok (goes_on (put same n z m)))))
          ≡ ((u >>= (λ y. binary_of op x y)) >>= (λ z. take same (one n) z m >>= (λ after. Ok (goes_on after))))
      second (Ok y) = ap (λ w. (if w then Err ProfileError else binary_of op x y) >>= (λ z. Ok (goes_on (put same n z m)))) l ∙ third (binary_of op x y)
      second (Err c) = refl

  lambda_is : (a : Expr N) (r : Row) (m : Map same) → yields same (gives a) r m ≡ yields same (does (next (return (present a)) finish)) r m
  lambda_is a r m = after (means same a r m)
    where
      after : (o : Answer Value) → o ≡ ((((o >>= (λ x. Ok (Some x))) >>= (λ x. Ok (gives_back (Meaning.or_nil x)))) >>= and_then (runs_all same finish r)) >>= (λ course. Ok (Meaning.result_of course)))
      after (Ok x) = refl
      after (Err c) = refl

  pub rewritings : Rewritings same
  rewritings = record {
    brackets = λ a r m. refl;
    and = and_is;
    or = or_is;
    not = not_is;
    more_and = more_and_is;
    more_or = more_or_is;
    not_and = not_and_is;
    not_or = not_or_is;
    other_arm = other_arm_is;
    chain = chain_is;
    elif = elif_is;
    augmented = augmented_is;
    lambda = lambda_is;
  }
