-- Sequences that come apart, parts of texts, and `<=`.
use Rattle.std.proofs.Common.{◌≡◌, inl, inr, ◌≤◌, ◌-◌, ◌++◌, ◌||◌, ℕ, ℤ, pos, Bool, true, false, not, List, [], ◌∷◌, Option, Some, None, Ok, Err, length, take, drop, is_some, unwrap_or, refl, sym, ap, subst, ◌∙◌, arith, length-append}
use Rattle.std.specs.Prelude.{◌↔◌, int_lt}
use Rattle.std.specs.Int.{int_min}
use Rattle.std.proofs.lemmas.Bool.{true≢false}
use Rattle.std.proofs.lemmas.Bool.Decides.{nat_tests}
use Rattle.tx_num.specs.Place.{sliced}
use Rattle.tx_text.specs.Text.{first_place}
use Rattle.tx_text.specs.Laws.{IsLeastPlace, PlacesLaw, StandsAt, StandsNot}
use Rattle.tx_tree.specs.declared.operator.CompareOp.TheVariants.{In}
use Rattle.tx_values.specs.declared.value.Value.{Value, Text, Tuple, List as Listed, out-Value, roll-Value, roll-out-Value}
use Rattle.tx_values.specs.declared.value.Value.TheVariants.{outs-Int, rolls-Text, rolls-Tuple, rolls-List}
use Rattle.tx_values.specs.declared.value.Value.TheOpen.{Value-F}
use Rattle.tx_values.specs.declared.value.Value.TheOpen as v
use Rattle.tx_values.specs.Answer.{Answer, ◌>>=◌}
use Rattle.tx_values.specs.Equality.{equal}
use Rattle.tx_values.specs.Laws.{Compared, OneOf, TrichotomyLaw}
use Rattle.tx_values.specs.Operand.{Operand, number, text, tuple, list, dictionary, none, operand, operand_open}
use Rattle.tx_ops.specs.Binary.{sum}
use Rattle.tx_ops.specs.Compare.{compare_of, holds, is_part, opposite}
use Rattle.tx_ops.specs.Slice.{bound_in, bound_of, part_between, slice_in, slice_of}
use Rattle.tx_ops.specs.Laws.{ComesApart, JoinedLaw, LessEqualLaw, PartLaw, bound, count_of}
use Rattle.tx_ops.proofs.SliceLemmas.{sliced_is}
use Rattle.tx_ops.proofs.Tables.{out_list, out_text, out_tuple}
use Rattle.tx_ops.proofs.ValidityLemmas.{made_is}

-- ---- a sequence is told by its operand

layer_text : (x : Value-F Value) (s : List ℕ) → operand_open x ≡ text s → x ≡ v.Text s
layer_text (v.Text t) s e = ap back e
  where
    back : Operand → Value-F Value
    back (text u) = v.Text u
    back _ = v.Nil
layer_text _ s e = cc

layer_tuple : (x : Value-F Value) (xs : List Value) → operand_open x ≡ tuple xs → x ≡ v.Tuple xs
layer_tuple (v.Tuple ys) xs e = ap back e
  where
    back : Operand → Value-F Value
    back (tuple u) = v.Tuple u
    back _ = v.Nil
layer_tuple _ xs e = cc

layer_list : (x : Value-F Value) (xs : List Value) → operand_open x ≡ list xs → x ≡ v.List xs
layer_list (v.List ys) xs e = ap back e
  where
    back : Operand → Value-F Value
    back (list u) = v.List u
    back _ = v.Nil
layer_list _ xs e = cc

is_text : (a : Value) (s : List ℕ) → operand a ≡ text s → Text s ≡ a
is_text a s e = sym (rolls-Text s) ∙ (ap roll-Value (sym (layer_text (out-Value a) s e)) ∙ roll-out-Value a)

is_tuple : (a : Value) (xs : List Value) → operand a ≡ tuple xs → Tuple xs ≡ a
is_tuple a xs e = sym (rolls-Tuple xs) ∙ (ap roll-Value (sym (layer_tuple (out-Value a) xs e)) ∙ roll-out-Value a)

is_list : (a : Value) (xs : List Value) → operand a ≡ list xs → Listed xs ≡ a
is_list a xs e = sym (rolls-List xs) ∙ (ap roll-Value (sym (layer_list (out-Value a) xs e)) ∙ roll-out-Value a)

-- ---- the front and the back of what was joined

least : (m n : ℕ) → m ≤ n → int_min (pos m) (pos n) ≡ pos m
least m n h = let no : int_lt (pos n) (pos m) ≡ false = grind (arith, nat_tests) in rw no refl

take_front : {A : Type 0} (xs ys : List A) (n : ℕ) → n ≡ length xs → take n (xs ++ ys) ≡ xs
take_front {A = A} xs ys n e = rw e (go xs)
  where
    go : (zs : List A) → take (length zs) (zs ++ ys) ≡ zs
    go [] = refl
    go (z ∷ zs) = ap (λ us. z ∷ us) (go zs)

drop_front : {A : Type 0} (xs ys : List A) → drop (length xs) (xs ++ ys) ≡ ys
drop_front [] ys = refl
drop_front (x ∷ xs) ys = drop_front xs ys

take_all : {A : Type 0} (xs : List A) (n : ℕ) → n ≡ length xs → take n xs ≡ xs
take_all {A = A} xs n e = rw e (go xs)
  where
    go : (zs : List A) → take (length zs) zs ≡ zs
    go [] = refl
    go (z ∷ zs) = ap (λ us. z ∷ us) (go zs)

module _ {A : Type 0} (xs ys : List A) where
  long : length xs ≤ length (xs ++ ys)
  long = omega (arith, length-append xs ys)

  front_is : sliced (pos 1) (Some (pos 0)) (Some (pos (length xs))) (xs ++ ys) ≡ xs
  front_is =
      sliced_is (xs ++ ys) (Some (pos 0)) (Some (pos (length xs))) 0 (length xs) (sym (least 0 (length (xs ++ ys)) (omega arith))) (sym (least (length xs) (length (xs ++ ys)) long))
      ∙ take_front xs ys (length xs - 0) (omega arith)

  back_is : sliced (pos 1) (Some (pos (length xs))) None (xs ++ ys) ≡ ys
  back_is =
      sliced_is (xs ++ ys) (Some (pos (length xs))) None (length xs) (length (xs ++ ys)) (sym (least (length xs) (length (xs ++ ys)) long)) refl
      ∙ (ap (take (length (xs ++ ys) - length xs)) (drop_front xs ys) ∙ take_all ys (length (xs ++ ys) - length xs) (omega (arith, length-append xs ys)))

bound_is : (n : ℕ) → bound_of (bound n) ≡ Ok (Some (pos n))
bound_is n = ap (λ (x : Value-F Value). bound_in (operand_open x)) (outs-Int (pos n))

module _ {A : Type 0} (items : List A) where
  between_is : (m n : ℕ) → part_between items (bound m) (bound n) ≡ Ok (sliced (pos 1) (Some (pos m)) (Some (pos n)) items)
  between_is m n =
      ap (λ (o : Answer (Option ℤ)). o >>= (λ i. bound_of (bound n) >>= (λ j. Ok (sliced (pos 1) i j items)))) (bound_is m)
      ∙ ap (λ (o : Answer (Option ℤ)). o >>= (λ j. Ok (sliced (pos 1) (Some (pos m)) j items))) (bound_is n)

  behind_is : (m : ℕ) → part_between items (bound m) None ≡ Ok (sliced (pos 1) (Some (pos m)) None items)
  behind_is m = ap (λ (o : Answer (Option ℤ)). o >>= (λ i. Ok (sliced (pos 1) i None items))) (bound_is m)

-- two lists in one value
module _ {A : Type 0} (as_value : List A → Value) (as_operand : List A → Operand)
    (out : (items : List A) → operand (as_value items) ≡ as_operand items)
    (slices : (items : List A) (from to : Option Value) → slice_in (as_operand items) from to ≡ (part_between items from to >>= (λ part. Ok (as_value part)))) where
  abbrev of_part : Answer (List A) → Answer Value
  of_part o = o >>= (λ part. Ok (as_value part))

  slice_is : (items : List A) (from to : Option Value) (part : List A) → part_between items from to ≡ Ok part → slice_of (as_value items) from to ≡ Ok (as_value part)
  slice_is items from to part e = ap (λ (o : Operand). slice_in o from to) (out items) ∙ (slices items from to ∙ ap of_part e)

  comes_apart : (xs ys : List A) (a b c : Value) → as_value xs ≡ a → as_value ys ≡ b → as_value (xs ++ ys) ≡ c → ComesApart a b c (length xs)
  comes_apart xs ys a b c d e f = subst (λ (w : Value). ComesApart a b w (length xs)) f (record {
    front = slice_is (xs ++ ys) (bound 0) (bound (length xs)) xs (between_is (xs ++ ys) 0 (length xs) ∙ ap (λ (p : List A). Ok p) (front_is xs ys)) ∙ ap (λ (w : Value). Ok w) d;
    back = slice_is (xs ++ ys) (bound (length xs)) None ys (behind_is (xs ++ ys) (length xs) ∙ ap (λ (p : List A). Ok p) (back_is xs ys)) ∙ ap (λ (w : Value). Ok w) e;
  })

some_same : (m n : ℕ) → Some m ≡ Some n → m ≡ n
some_same m n e = ap (λ (o : Option ℕ). unwrap_or o m) e

module _ (a b c : Value) (count : ℕ) where
  apart : (x y : Operand) → operand a ≡ x → operand b ≡ y → count_of x ≡ Some count → sum x y ≡ Ok c → ComesApart a b c count
  apart (text s) (text t) d e n f = subst (ComesApart a b c) (some_same (length s) count n) (comes_apart Text text out_text (λ items from to. refl) s t a b c (is_text a s d) (is_text b t e) (made_is (Text (s ++ t)) c f).1)
  apart (tuple xs) (tuple ys) d e n f = subst (ComesApart a b c) (some_same (length xs) count n) (comes_apart Tuple tuple out_tuple (λ items from to. refl) xs ys a b c (is_tuple a xs d) (is_tuple b ys e) (made_is (Tuple (xs ++ ys)) c f).1)
  apart (list xs) (list ys) d e n f = subst (ComesApart a b c) (some_same (length xs) count n) (comes_apart Listed list out_list (λ items from to. refl) xs ys a b c (is_list a xs d) (is_list b ys e) (made_is (Listed (xs ++ ys)) c f).1)
  apart (number m) y d e n f = absurd (cc)
  apart (dictionary ps) y d e n f = absurd (cc)
  apart none y d e n f = absurd (cc)
  apart _ _ d e n f = absurd (cc)

pub joined_apart : JoinedLaw
joined_apart a b c count n f = apart a b c count (operand a) (operand b) refl refl n f

-- ---- parts of texts

in_texts : (part whole : List ℕ) → compare_of In (Text part) (Text whole) ≡ Ok (is_some (first_place part whole))
in_texts part whole = ap (λ (o : Operand). holds o (Text part)) (out_text whole) ∙ ap (λ (o : Operand). is_part o whole) (out_text part)

abbrev told : Answer Bool → Bool
told (Ok b) = b
told (Err c) = false

module _ (part whole : List ℕ) where
  abbrev Stands : Type 0
  Stands = (place : ℕ) × (place ≤ length whole) × StandsAt part whole place

  abbrev StandsNowhere : Type 0
  StandsNowhere = (place : ℕ) → place ≤ length whole → StandsNot part whole place

  found_by : (o : Option ℕ) → IsLeastPlace part whole o → (◌≡◌ {A = Answer Bool} (Ok (is_some o)) (Ok true)) ↔ Stands
  found_by None h = ((λ e. absurd (cc)), (λ s. absurd (true≢false (sym s.2 ∙ h s.0 s.1))))
  found_by (Some place) h = ((λ e. (place, h.0, h.1.0)), (λ s. refl))

  missing_by : (o : Option ℕ) → IsLeastPlace part whole o → (◌≡◌ {A = Answer Bool} (Ok (is_some o)) (Ok false)) ↔ StandsNowhere
  missing_by None h = ((λ e. h), (λ s. refl))
  missing_by (Some place) h = ((λ e. absurd (cc)), (λ s. absurd (true≢false (sym h.1.0 ∙ s place h.0))))

pub parts_stand : PlacesLaw → PartLaw
parts_stand places part whole =
    let least : IsLeastPlace part whole (first_place part whole) = (places part whole).0 in
    let P : Answer Bool → Type 0 = λ o. ((o ≡ Ok true) ↔ Stands part whole) × ((o ≡ Ok false) ↔ StandsNowhere part whole) in
    let both : P (compare_of In (Text part) (Text whole)) = subst P (sym (in_texts part whole)) (found_by part whole (first_place part whole) least, missing_by part whole (first_place part whole) least) in
    record { found = both.0; missing = both.1 }

-- ---- `<=`

or_equal : (before same behind : Bool) → OneOf before same behind → not behind ≡ (before || same)
or_equal before same behind (inl h) = ap not h.2 ∙ sym (ap (λ (b : Bool). b || same) h.0)
or_equal before same behind (inr (inl h)) = ap not h.2 ∙ sym (ap (λ (b : Bool). b || same) h.0 ∙ h.1)
or_equal before same behind (inr (inr h)) = ap not h.2 ∙ sym (ap (λ (b : Bool). b || same) h.0 ∙ h.1)

pub less_or_equal : (Is : Value → Type 0) → TrichotomyLaw Is → LessEqualLaw Is
less_or_equal Is law a b h k =
    let told : Compared a b = law a b h k in
    (told.0, told.2, ap opposite told.3 ∙ ap (λ (t : Bool). Ok t) (or_equal told.0 (equal a b) told.1 told.4))
