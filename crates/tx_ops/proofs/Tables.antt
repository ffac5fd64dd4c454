-- Sequences that are joined and repeated, with the test ahead of the copying.
use Rattle.std.proofs.Common.{◌≡◌, ℤ, Bool, true, false, Option, Some, None, List, ◌++◌, Ok, Err, if◌then◌else◌, refl, sym, ap, ◌∙◌}
use Rattle.std.specs.Prelude.{ok_or, ℕ}
use Rattle.tx_base.specs.declared.class.Class.TheVariants.{OverflowError, ProfileError}
use Rattle.tx_num.specs.Place.{times_of}
use Rattle.tx_values.specs.declared.value.Value.{Value, Text, Tuple, List as Listed}
use Rattle.tx_values.specs.declared.value.Value.TheVariants.{outs-Text, outs-Tuple, outs-List}
use Rattle.tx_values.specs.Limits.{in_limits, made}
use Rattle.tx_values.specs.Answer.{Answer, ◌>>=◌}
use Rattle.tx_values.specs.Operand.{Operand, text, tuple, list, operand, operand_open}
use Rattle.tx_ops.specs.Binary.{copies, repetition}
use Rattle.tx_ops.specs.Calls.Sequences.{joined, repeated_by}
use Rattle.tx_ops.specs.Calls.Fits.{both_items, copies_fit, repeated_items}
use Rattle.tx_ops.proofs.LimitLemmas.{both_fit_tuple, both_fit_list, copies_fit_tuple, copies_fit_list}

-- ---- sequences of items, with the test ahead of the copying

pub joined_tuples : (xs ys : List Value) → made (Tuple (xs ++ ys)) ≡ (both_items (Tuple xs) (Tuple ys) xs ys >>= (λ zs. Ok (Tuple zs)))
joined_tuples xs ys = go (in_limits (Tuple (xs ++ ys))) ∙ ap (λ (b : Bool). (if b then Ok (xs ++ ys) else Err ProfileError) >>= (λ zs. Ok (Tuple zs))) (sym (both_fit_tuple xs ys))
  where
    go : (b : Bool) → (if b then Ok (Tuple (xs ++ ys)) else Err ProfileError) ≡ ((if b then Ok (xs ++ ys) else Err ProfileError) >>= (λ zs. Ok (Tuple zs)))
    go true = refl
    go false = refl

pub joined_lists : (xs ys : List Value) → made (Listed (xs ++ ys)) ≡ (both_items (Listed xs) (Listed ys) xs ys >>= (λ zs. Ok (Listed zs)))
joined_lists xs ys = go (in_limits (Listed (xs ++ ys))) ∙ ap (λ (b : Bool). (if b then Ok (xs ++ ys) else Err ProfileError) >>= (λ zs. Ok (Listed zs))) (sym (both_fit_list xs ys))
  where
    go : (b : Bool) → (if b then Ok (Listed (xs ++ ys)) else Err ProfileError) ≡ ((if b then Ok (xs ++ ys) else Err ProfileError) >>= (λ zs. Ok (Listed zs)))
    go true = refl
    go false = refl

pub repeated_tuples : (xs : List Value) (n : ℤ) → repeated_by (tuple xs) n ≡ (repeated_items (Tuple xs) xs n >>= (λ zs. Ok (Tuple zs)))
repeated_tuples xs n = by_times (times_of n)
  where
    go : (times : ℕ) (b : Bool) → (if b then Ok (Tuple (copies times xs)) else Err ProfileError) ≡ ((if b then Ok (copies times xs) else Err ProfileError) >>= (λ zs. Ok (Tuple zs)))
    go times true = refl
    go times false = refl

    by_times : (o : Option ℕ) → repetition o (λ times. Tuple (copies times xs)) ≡ ((ok_or o OverflowError >>= (λ times. if copies_fit times (Tuple xs) then Ok (copies times xs) else Err ProfileError)) >>= (λ zs. Ok (Tuple zs)))
    by_times None = refl
    by_times (Some times) = go times (in_limits (Tuple (copies times xs))) ∙ ap (λ (b : Bool). (if b then Ok (copies times xs) else Err ProfileError) >>= (λ zs. Ok (Tuple zs))) (sym (copies_fit_tuple times xs))

pub repeated_lists : (xs : List Value) (n : ℤ) → repeated_by (list xs) n ≡ (repeated_items (Listed xs) xs n >>= (λ zs. Ok (Listed zs)))
repeated_lists xs n = by_times (times_of n)
  where
    go : (times : ℕ) (b : Bool) → (if b then Ok (Listed (copies times xs)) else Err ProfileError) ≡ ((if b then Ok (copies times xs) else Err ProfileError) >>= (λ zs. Ok (Listed zs)))
    go times true = refl
    go times false = refl

    by_times : (o : Option ℕ) → repetition o (λ times. Listed (copies times xs)) ≡ ((ok_or o OverflowError >>= (λ times. if copies_fit times (Listed xs) then Ok (copies times xs) else Err ProfileError)) >>= (λ zs. Ok (Listed zs)))
    by_times None = refl
    by_times (Some times) = go times (in_limits (Listed (copies times xs))) ∙ ap (λ (b : Bool). (if b then Ok (copies times xs) else Err ProfileError) >>= (λ zs. Ok (Listed zs))) (sym (copies_fit_list times xs))

-- ---- the same, as the code comes to them

pub out_text : (s : List ℕ) → operand (Text s) ≡ text s
out_text s = ap operand_open (outs-Text s)

pub out_tuple : (xs : List Value) → operand (Tuple xs) ≡ tuple xs
out_tuple xs = ap operand_open (outs-Tuple xs)

pub out_list : (xs : List Value) → operand (Listed xs) ≡ list xs
out_list xs = ap operand_open (outs-List xs)

both_operands : (a b : Value) (x y : Operand) → operand a ≡ x → operand b ≡ y → joined (operand a) (operand b) ≡ joined x y
both_operands a b x y d e = ap (λ (o : Operand). joined o (operand b)) d ∙ ap (joined x) e

pub of_texts : (a b : Value) (s t : List ℕ) → a ≡ Text s → b ≡ Text t → joined (operand a) (operand b) ≡ made (Text (s ++ t))
of_texts a b s t d e = both_operands a b (text s) (text t) (ap operand d ∙ out_text s) (ap operand e ∙ out_text t)

same_both : (a b c d : Value) (xs ys us ws : List Value) → a ≡ c → b ≡ d → us ≡ xs → ws ≡ ys → both_items c d xs ys ≡ both_items a b us ws
same_both a b c d xs ys us ws p q r s =
    ap (λ (v : Value). both_items v d xs ys) (sym p)
    ∙ (ap (λ (v : Value). both_items a v xs ys) (sym q)
    ∙ (ap (λ (l : List Value). both_items a b l ys) (sym r) ∙ ap (λ (l : List Value). both_items a b us l) (sym s)))

pub of_tuples : (a b : Value) (xs ys us ws : List Value) → a ≡ Tuple xs → b ≡ Tuple ys → us ≡ xs → ws ≡ ys → joined (operand a) (operand b) ≡ (both_items a b us ws >>= (λ zs. Ok (Tuple zs)))
of_tuples a b xs ys us ws d e f g =
    both_operands a b (tuple xs) (tuple ys) (ap operand d ∙ out_tuple xs) (ap operand e ∙ out_tuple ys)
    ∙ (joined_tuples xs ys ∙ ap (λ (o : Answer (List Value)). o >>= (λ zs. Ok (Tuple zs))) (same_both a b (Tuple xs) (Tuple ys) xs ys us ws d e f g))

pub of_lists : (a b : Value) (xs ys us ws : List Value) → a ≡ Listed xs → b ≡ Listed ys → us ≡ xs → ws ≡ ys → joined (operand a) (operand b) ≡ (both_items a b us ws >>= (λ zs. Ok (Listed zs)))
of_lists a b xs ys us ws d e f g =
    both_operands a b (list xs) (list ys) (ap operand d ∙ out_list xs) (ap operand e ∙ out_list ys)
    ∙ (joined_lists xs ys ∙ ap (λ (o : Answer (List Value)). o >>= (λ zs. Ok (Listed zs))) (same_both a b (Listed xs) (Listed ys) xs ys us ws d e f g))

same_repeated : (a c : Value) (xs us : List Value) (n : ℤ) → a ≡ c → us ≡ xs → repeated_items c xs n ≡ repeated_items a us n
same_repeated a c xs us n p r = ap (λ (v : Value). repeated_items v xs n) (sym p) ∙ ap (λ (l : List Value). repeated_items a l n) (sym r)

pub of_tuple : (a : Value) (xs us : List Value) (m n : ℤ) → a ≡ Tuple xs → us ≡ xs → m ≡ n → repeated_by (operand a) n ≡ (repeated_items a us m >>= (λ zs. Ok (Tuple zs)))
of_tuple a xs us m n d f e =
    ap (λ (o : Operand). repeated_by o n) (ap operand d ∙ out_tuple xs)
    ∙ (repeated_tuples xs n ∙ ap (λ (o : Answer (List Value)). o >>= (λ zs. Ok (Tuple zs))) (same_repeated a (Tuple xs) xs us n d f ∙ ap (repeated_items a us) (sym e)))

pub of_list : (a : Value) (xs us : List Value) (m n : ℤ) → a ≡ Listed xs → us ≡ xs → m ≡ n → repeated_by (operand a) n ≡ (repeated_items a us m >>= (λ zs. Ok (Listed zs)))
of_list a xs us m n d f e =
    ap (λ (o : Operand). repeated_by o n) (ap operand d ∙ out_list xs)
    ∙ (repeated_lists xs n ∙ ap (λ (o : Answer (List Value)). o >>= (λ zs. Ok (Listed zs))) (same_repeated a (Listed xs) xs us n d f ∙ ap (repeated_items a us) (sym e)))
