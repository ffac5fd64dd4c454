-- First accumulators are literals, and what is read from the front of a list is what the whole list gives.
use Rattle.std.specs.Prelude.{⊤, Result, Ok, Err, IfOk, IfSome}
use Rattle.tx_text.specs.declared.memory.NoMemory.{NoMemory}
use Rattle.std.proofs.Common.{◌≡◌, ℕ, ℤ, neg_ℤ, Bool, true, false, ◌&&◌, if◌then◌else◌, List, [], ◌∷◌, ◌++◌, map, Option, Some, None, option_map, refl, sym, ap, ◌∙◌, subst, append_assoc}
use Rattle.std.specs.List.{list_all}
use Rattle.tx_values.specs.declared.value.Value.{Value, fold-roll-Value}
use Rattle.tx_values.specs.declared.value.Value.TheVariants.{rolls-Nil, rolls-Truth, rolls-Int, rolls-Text, rolls-Tuple, rolls-List}
use Rattle.tx_values.specs.declared.value.Value.TheOpen as v
use Rattle.tx_values.specs.declared.value.Value as value
use Rattle.tx_tree.specs.declared.operator.UnaryOp.{UnaryOp}
use Rattle.tx_tree.specs.declared.operator.UnaryOp.TheVariants as sign
use Rattle.tx_tree.specs.Tree.{Tree, nil, truth, int, text, tuple, list, unary, Trees, none, more}
use Rattle.tx_pipe.specs.Lawful.{is_signed_literal, literal_step, is_literal}
use Rattle.tx_script.specs.Forms.{integer, number_of, negative, tuple_of, list_of, literal, literals, ◌>>=◌}

abbrev IsGood : Option Value → Type 0
IsGood None = ⊤
IsGood (Some v) = is_literal v ≡ true

abbrev AreGood : Option (List Value) → Type 0
AreGood None = ⊤
AreGood (Some vs) = list_all (λ b. b) (map is_literal vs) ≡ true

nil_is : is_literal value.Nil ≡ true
nil_is = ap is_literal (sym rolls-Nil) ∙ fold-roll-Value Bool literal_step v.Nil

truth_is : (b : Bool) → is_literal (value.Truth b) ≡ true
truth_is b = ap is_literal (sym (rolls-Truth b)) ∙ fold-roll-Value Bool literal_step (v.Truth b)

int_is : (n : ℤ) → is_literal (value.Int n) ≡ is_signed_literal n
int_is n = ap is_literal (sym (rolls-Int n)) ∙ fold-roll-Value Bool literal_step (v.Int n)

text_is : (t : List ℕ) → is_literal (value.Text t) ≡ true
text_is t = ap is_literal (sym (rolls-Text t)) ∙ fold-roll-Value Bool literal_step (v.Text t)

tuple_is : (vs : List Value) → is_literal (value.Tuple vs) ≡ list_all (λ b. b) (map is_literal vs)
tuple_is vs = ap is_literal (sym (rolls-Tuple vs)) ∙ fold-roll-Value Bool literal_step (v.Tuple vs)

list_is : (vs : List Value) → is_literal (value.List vs) ≡ list_all (λ b. b) (map is_literal vs)
list_is vs = ap is_literal (sym (rolls-List vs)) ∙ fold-roll-Value Bool literal_step (v.List vs)

integer_test : (b : Bool) (n : ℤ) → is_signed_literal n ≡ b → IsGood (if b then Some (value.Int n) else None)
integer_test true n e = int_is n ∙ e
integer_test false n e = tt

integer_good : (n : ℤ) → IsGood (integer n)
integer_good n = integer_test _ n refl

negative_by : (o : Option ℤ) → IsGood (o >>= (λ n. integer (neg_ℤ n)))
negative_by None = tt
negative_by (Some n) = integer_good (neg_ℤ n)

negative_good : (op : UnaryOp) (a : Tree) → IsGood (negative op a)
negative_good sign.Minus a = negative_by (number_of a)
negative_good sign.Plus a = tt

tuple_good : (o : Option (List Value)) → AreGood o → IsGood (tuple_of o)
tuple_good None g = tt
tuple_good (Some vs) g = tuple_is vs ∙ g

list_good : (o : Option (List Value)) → AreGood o → IsGood (list_of o)
list_good None g = tt
list_good (Some vs) g = list_is vs ∙ g

both_true : (a b : Bool) → a ≡ true → b ≡ true → (a && b) ≡ true
both_true a b e f = rw (e, f) refl

more_good : (o : Option Value) (os : Option (List Value)) → IsGood o → AreGood os → AreGood (o >>= (λ v. os >>= (λ vs. Some (v ∷ vs))))
more_good None os g h = tt
more_good (Some v) None g h = tt
more_good (Some v) (Some vs) g h = both_true _ _ g h

mutual
  literal_good : (a : Tree) → IsGood (literal a)
  literal_good (nil l) = nil_is
  literal_good (truth l b) = truth_is b
  literal_good (int l n) = integer_good n
  literal_good (unary l op a) = negative_good op a
  literal_good (text l t) = text_is t
  literal_good (tuple l es comma) = tuple_good (literals es) (literals_good es)
  literal_good (list l es comma) = list_good (literals es) (literals_good es)
  literal_good _ = tt

  literals_good : (es : Trees) → AreGood (literals es)
  literals_good none = refl
  literals_good (more a es) = more_good (literal a) (literals es) (literal_good a) (literals_good es)

-- one value more is read from the front
pub with_more : (done : List Value) (v : Value) (o : Option Value) (rest : Option (List Value)) → o ≡ Some v
    → option_map (λ vs. (done ++ v ∷ []) ++ vs) rest ≡ option_map (λ vs. done ++ vs) (o >>= (λ w. rest >>= (λ vs. Some (w ∷ vs))))
with_more done v o None e = rw e refl
with_more done v o (Some vs) e = rw e (ap Some (append_assoc done (v ∷ []) vs))

some_literal : (a : Tree) (o : Option Value) → o ≡ literal a → IfSome o (λ v. is_literal v ≡ true)
some_literal a None e = tt
some_literal a (Some v) e = subst IsGood (sym e) (literal_good a)

pub values_are_literal : (r : Result (Option Value) NoMemory) (a : Tree) → IfOk r (λ o. o ≡ literal a) → IfOk r (λ o. IfSome o (λ v. is_literal v ≡ true))
values_are_literal (Ok o) a h = some_literal a o h
values_are_literal (Err e) a h = tt
