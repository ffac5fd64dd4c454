-- What methods give of valid values is valid.
use Rattle.std.proofs.Common.{◌≡◌, ℕ, zero, suc, ◌+◌, ◌-◌, ◌<◌, ◌≤◌, Bool, true, false, nat_le, nat_lt, List, [], ◌∷◌, length, map, Option, Some, None, Ok, Err, negsuc, refl, ap, subst, arith}
use Rattle.std.specs.Prelude.{count_by, if◌then◌else◌, IfOk, IfSome, ok_or, position, unwrap_or}
use Rattle.std.specs.List.{AllByRecursion, flat_map, list_all, position_or_len, prefix_len, suffix_len}
use Rattle.std.proofs.lemmas.Bool.Decides.{nat_tests}
use Rattle.std.proofs.lemmas.List.{length-drop, length-take}
use Rattle.std.proofs.lemmas.List.Sums.{count_by-le-length}
use Rattle.tx_base.specs.declared.class.Class.{Class}
use Rattle.tx_base.specs.declared.class.Class.TheVariants.{TypeError, ValueError, ProfileError}
use Rattle.tx_text.specs.Laws.{IsGreatestPlace, IsLeastPlace, PlacesLaw}
use Rattle.tx_text.specs.Text.{begins, count_of, digits_of, filled, first_place, is_latin, is_some_text, is_taken, joined, last_place, lower_char, onto_first, pieces, pieces_from, replaced, stripped, upper_of, without_back, without_front}
use Rattle.tx_text.specs.declared.strip.Side.{Side}
use Rattle.tx_text.specs.declared.strip.Side.TheVariants.{Both, Left, Right}
use Rattle.tx_tree.specs.declared.function.Method.{Method}
use Rattle.tx_tree.specs.declared.function.Method.TheVariants as method
use Rattle.tx_values.specs.declared.value.Value.{Value, out-Value}
use Rattle.tx_values.specs.declared.value.Value.TheVariants as value
use Rattle.tx_values.specs.declared.value.Value.TheOpen.{Value-F}
use Rattle.tx_values.specs.declared.value.Value.TheOpen as v
use Rattle.tx_values.specs.Answer.{Answer, ◌>>=◌}
use Rattle.tx_values.specs.Equality.{equal}
use Rattle.tx_values.specs.Laws.{PartsLaw, ValidLaw, is_sound}
use Rattle.tx_values.specs.Limits.{depth, in_limits, made, most_weight, weight}
use Rattle.tx_values.specs.Lookup.{value_under}
use Rattle.tx_values.specs.Valid.{Parts, hashable}
use Rattle.tx_methods.specs.Arguments.{a_text, both, one_number, one_or_two, one_text, only, optional_text, two_texts, without}
use Rattle.tx_methods.specs.Builtins.{natural}
use Rattle.tx_methods.specs.DictMethods.{dict_method}
use Rattle.tx_methods.specs.Laws.{AreValid, IsValid, MethodsLaw}
use Rattle.tx_methods.specs.Methods.{method_in}
use Rattle.tx_methods.specs.SequenceMethods.{sequence_method}
use Rattle.tx_methods.specs.TextMethods.{digit_test, ends, find_of, fit_of, fits_in, index_of, join_items, join_of, join_value, lower_text, made_text, pieces_at, pieces_list, place_or_minus_one, replace_of, split_of, strip_of, text_count_of, text_method, texts_in, upper_text, width_of, zfill_of}
use Rattle.tx_methods.specs.Walks.{iterate_of}
use Rattle.tx_methods.proofs.Characters.{All-filled, All-joined, All-replaced, All-stripped, EachOf, EachOf-pieces, EachOf-words}
use Rattle.tx_methods.proofs.CodePoints.{ArePoints, IsPoint, lower_of-points, points_of, upper_of-points}
use Rattle.tx_methods.proofs.Layers.{opened, weight_text}
use Rattle.tx_methods.proofs.ValidItems.{a_text-points, both_valid, iterate_valid, only_valid}
use Rattle.tx_methods.proofs.ValidValues.{either, first, goes_on, int_valid, layer_weight, light, list_valid, made_text_valid, none_valid, parts_of, small_valid, sound_of, text_valid, truth_valid, weighs_items}
use Rattle.tx_values.specs.declared.value.Value.TheVariants.{rolls-List}

module _ (law : ValidLaw) where
  -- what says nothing of a value
  abbrev Any : {A : Type 0} → A → Type 0
  Any a = Unit {0}

  any : {A : Type 0} (o : Answer A) → IfOk o Any
  any (Ok a) = tt
  any (Err c) = tt

  told : {A : Type 0} (P : A → Type 0) (c : Class) (o : Option A) → IfSome o P → IfOk (ok_or o c) P
  told P c (Some a) h = h
  told P c None h = tt

  -- ---- arguments that are texts

  abbrev TwoPoints : List ℕ × List ℕ → Type 0
  TwoPoints pair = ArePoints pair.0 × ArePoints pair.1

  two_texts-points : (args : List Value) → AreValid args → IfOk (two_texts args) TwoPoints
  two_texts-points args h =
      goes_on (λ p. IsValid p.0 × IsValid p.1) TwoPoints (both args) (λ p. a_text p.0 >>= (λ old. a_text p.1 >>= (λ new. Ok (old, new)))) (both_valid law args h)
      (λ p k. goes_on ArePoints TwoPoints (a_text p.0) (λ old. a_text p.1 >>= (λ new. Ok (old, new))) (a_text-points law p.0 k.0)
      (λ old o. goes_on ArePoints TwoPoints (a_text p.1) (λ new. Ok (old, new)) (a_text-points law p.1 k.1) (λ new n. (o, n))))

  texts_in-points : (items : List Value) → AreValid items → IfOk (texts_in items) (EachOf IsPoint)
  texts_in-points [] h = tt
  texts_in-points (item ∷ items) h =
      goes_on ArePoints (EachOf IsPoint) (a_text item) (λ text. texts_in items >>= (λ texts. Ok (text ∷ texts))) (a_text-points law item h.0)
      (λ text p. goes_on (EachOf IsPoint) (EachOf IsPoint) (texts_in items) (λ texts. Ok (text ∷ texts)) (texts_in-points items h.1) (λ texts ps. (p, ps)))

  -- ---- lengths

  as_long : (f : ℕ → ℕ) (text : List ℕ) → length (flat_map (λ c. f c ∷ []) text) ≡ length text
  as_long f [] = refl
  as_long f (c ∷ text) = ap suc (as_long f text)

  front_less : (p : ℕ → Bool) (text : List ℕ) → length (without_front p text) ≤ length text
  front_less p text = omega (arith, length-drop (prefix_len p text) text)

  back_less : (p : ℕ → Bool) (text : List ℕ) → length (without_back p text) ≤ length text
  back_less p text = omega (arith, length-take (length text - suffix_len p text) text)

  stripped_less : (side : Side) (p : ℕ → Bool) (text : List ℕ) → length (stripped side p text) ≤ length text
  stripped_less Left p text = front_less p text
  stripped_less Right p text = back_less p text
  stripped_less Both p text = omega (arith, front_less p text, back_less p (without_front p text))

  onto_many : (c : ℕ) (texts : List (List ℕ)) → length (onto_first c texts) ≤ length texts + 1
  onto_many c [] = omega arith
  onto_many c (text ∷ texts) = omega arith

  few_pieces : (sep : List ℕ) (skip : ℕ) (text : List ℕ) → length (pieces_from sep skip text) ≤ length text + 1
  few_pieces sep skip [] = omega arith
  few_pieces sep (suc skip) (x ∷ text) = let h : length (pieces_from sep skip text) ≤ length text + 1 = few_pieces sep skip text in omega (arith, h)
  few_pieces sep zero (x ∷ text) = by_test (few_pieces sep (length sep - 1) text) (few_pieces sep zero text) (begins sep (x ∷ text))
    where
      by_test : length (pieces_from sep (length sep - 1) text) ≤ length text + 1 → length (pieces_from sep zero text) ≤ length text + 1 → (b : Bool) → length (if b then [] ∷ pieces_from sep (length sep - 1) text else onto_first x (pieces_from sep zero text)) ≤ length (x ∷ text) + 1
      by_test behind here true = omega (arith, behind)
      by_test behind here false = omega (arith, here, onto_many x (pieces_from sep zero text))

  few_parts : (part text : List ℕ) → count_of part text ≤ length text + 1
  few_parts [] text = omega arith
  few_parts (c ∷ part) text = omega (arith, few_pieces (c ∷ part) 0 text)

  -- ---- texts

  module _ (text : List ℕ) (points : ArePoints text) (light : length text ≤ most_weight) where
    lower_valid : IfOk (lower_text text) IsValid
    lower_valid = by_test (list_all is_latin text) (lower_of-points text)
      where
        by_test : (b : Bool) → IfSome (if b then Some (flat_map (λ c. lower_char c ∷ []) text) else None) ArePoints → IfOk (ok_or (if b then Some (flat_map (λ c. lower_char c ∷ []) text) else None) ProfileError >>= (λ changed. Ok (value.Text changed))) IsValid
        by_test true p = text_valid law (flat_map (λ c. lower_char c ∷ []) text) p (let e = as_long lower_char text in omega (arith, e))
        by_test false p = tt

    upper_valid : IfOk (upper_text text) IsValid
    upper_valid = goes_on ArePoints IsValid (ok_or (upper_of text) ProfileError) made_text (told ArePoints ProfileError (upper_of text) (upper_of-points text)) (made_text_valid law)

    digits_valid : IfOk (digit_test text) IsValid
    digits_valid = goes_on Any IsValid (ok_or (digits_of text) ProfileError) (λ b. Ok (value.Truth b)) (any (ok_or (digits_of text) ProfileError)) (λ b u. truth_valid law b)

    without_valid : (args : List Value) (answer : Answer Value) → IfOk answer IsValid → IfOk (without args answer) IsValid
    without_valid [] answer h = h
    without_valid (a ∷ args) answer h = tt

    strip_valid : (side : Side) (args : List Value) → IfOk (strip_of side text args) IsValid
    strip_valid side args =
        goes_on Any IsValid (optional_text args) (λ those. Ok (value.Text (stripped side (is_taken those) text))) (any (optional_text args))
        (λ those u. text_valid law (stripped side (is_taken those) text) (All-stripped IsPoint side (is_taken those) text points) (let h : length (stripped side (is_taken those) text) ≤ length text = stripped_less side (is_taken those) text in omega (arith, h, light)))

    replace_valid : (args : List Value) → AreValid args → IfOk (replace_of text args) IsValid
    replace_valid args h =
        goes_on TwoPoints IsValid (two_texts args) (λ pair. made_text (replaced pair.0 pair.1 text)) (two_texts-points args h)
        (λ pair p. made_text_valid law (replaced pair.0 pair.1 text) (All-replaced IsPoint pair.0 pair.1 text p.1 points))

    place_valid : (o : Option ℕ) → IfSome o (λ place. place ≤ length text) → IsValid (value.Int (place_or_minus_one o))
    place_valid None h = int_valid law (negsuc 0) refl
    place_valid (Some place) h = small_valid law place (omega (arith, h, light))

    find_valid : (search : List ℕ → List ℕ → Option ℕ) → ((part : List ℕ) → IfSome (search part text) (λ place. place ≤ length text)) → (args : List Value) → IfOk (find_of search text args) IsValid
    find_valid search within args =
        goes_on Any IsValid (one_text args) (λ part. Ok (value.Int (place_or_minus_one (search part text)))) (any (one_text args)) (λ part u. place_valid (search part text) (within part))

    index_valid : ((part : List ℕ) → IfSome (first_place part text) (λ place. place ≤ length text)) → (args : List Value) → IfOk (index_of text args) IsValid
    index_valid within args =
        goes_on Any IsValid (one_text args) (λ part. ok_or (first_place part text) ValueError >>= natural) (any (one_text args)) (λ part u. by_place (first_place part text) (within part))
      where
        by_place : (o : Option ℕ) → IfSome o (λ place. place ≤ length text) → IfOk (ok_or o ValueError >>= natural) IsValid
        by_place None h = tt
        by_place (Some place) h = small_valid law place (omega (arith, h, light))

    count_valid : (args : List Value) → IfOk (text_count_of text args) IsValid
    count_valid args =
        goes_on Any IsValid (one_text args) (λ part. natural (count_of part text)) (any (one_text args)) (λ part u. small_valid law (count_of part text) (omega (arith, few_parts part text, light)))

    fit_valid : (fits : List ℕ → Bool) (args : List Value) → IfOk (fit_of fits args) IsValid
    fit_valid fits args =
        goes_on Any IsValid (only args) (λ arg. fits_in fits (out-Value arg) >>= (λ answer. Ok (value.Truth answer))) (any (only args))
        (λ arg u. goes_on Any IsValid (fits_in fits (out-Value arg)) (λ answer. Ok (value.Truth answer)) (any (fits_in fits (out-Value arg))) (λ answer w. truth_valid law answer))

    join_valid : (args : List Value) → AreValid args → IfOk (join_of text args) IsValid
    join_valid args h =
        goes_on IsValid IsValid (only args) (λ arg. join_value text arg) (only_valid law args h)
        (λ arg a. goes_on AreValid IsValid (iterate_of arg) (λ items. join_items text items) (iterate_valid law arg a)
        (λ items k. goes_on (EachOf IsPoint) IsValid (texts_in items) (λ texts. made_text (joined text texts)) (texts_in-points items k)
        (λ texts p. made_text_valid law (joined text texts) (All-joined IsPoint text texts points p))))

    zfill_valid : (args : List Value) → IfOk (zfill_of text args) IsValid
    zfill_valid args =
        goes_on Any IsValid (one_number args) (λ n. width_of n >>= (λ width. made_text (filled width text))) (any (one_number args))
        (λ n u. goes_on Any IsValid (width_of n) (λ width. made_text (filled width text)) (any (width_of n)) (λ width w. made_text_valid law (filled width text) (All-filled IsPoint width text refl points)))

  least_within : (part text : List ℕ) (o : Option ℕ) → IsLeastPlace part text o → IfSome o (λ place. place ≤ length text)
  least_within part text None h = tt
  least_within part text (Some place) h = h.0

  greatest_within : (part text : List ℕ) (o : Option ℕ) → IsGreatestPlace part text o → IfSome o (λ place. place ≤ length text)
  greatest_within part text None h = tt
  greatest_within part text (Some place) h = h.0

  -- ---- `split`: each text weighs less than the list

  module _ (within : PartsLaw) where
    texts_valid : (texts : List (List ℕ)) (n : ℕ) → n ≤ most_weight → EachOf IsPoint texts → AllByRecursion (λ x. (weight x < n) × (depth x < depth (value.List (map value.Text texts)))) (map value.Text texts) → AreValid (map value.Text texts)
    texts_valid texts n h p k = each texts p k
      where
        each : (ts : List (List ℕ)) → EachOf IsPoint ts → AllByRecursion (λ x. (weight x < n) × (depth x < depth (value.List (map value.Text texts)))) (map value.Text ts) → AreValid (map value.Text ts)
        each [] p k = tt
        each (t ∷ ts) p k = (text_valid law t p.0 (let w : weight (value.Text t) < n = k.0.0 in omega (arith, w, h, weight_text t)), each ts p.1 k.1)

    made_texts : (texts : List (List ℕ)) → EachOf IsPoint texts → IfOk (made (value.List (map value.Text texts))) IsValid
    made_texts texts p = by_limits (in_limits (value.List (map value.Text texts))) refl
      where
        by_limits : (b : Bool) → in_limits (value.List (map value.Text texts)) ≡ b → IfOk (if b then Ok (value.List (map value.Text texts)) else Err ProfileError) IsValid
        by_limits true e =
            list_valid law (map value.Text texts) e
            (texts_valid texts (weight (value.List (map value.Text texts)))
            (let l = first (nat_le (weight (value.List (map value.Text texts))) most_weight) (nat_le (depth (value.List (map value.Text texts))) 16) e in grind (arith, nat_tests))
            p
            (subst (λ (y : Value-F Value). Parts (λ x. (weight x < weight (value.List (map value.Text texts))) × (depth x < depth (value.List (map value.Text texts)))) y) (opened (v.List (map value.Text texts)) (value.List (map value.Text texts)) (rolls-List (map value.Text texts))) (within (value.List (map value.Text texts)))))
        by_limits false e = tt

    pieces_at-points : (text : List ℕ) (sep : Option (List ℕ)) → ArePoints text → IfOk (pieces_at text sep) (EachOf IsPoint)
    pieces_at-points text None p = EachOf-words IsPoint text p
    pieces_at-points text (Some sep) p = either (EachOf IsPoint) (is_some_text sep) (Ok (pieces sep text)) (Err ValueError) (EachOf-pieces IsPoint sep text p) tt

    split_valid : (text : List ℕ) (args : List Value) → ArePoints text → IfOk (split_of text args) IsValid
    split_valid text args p =
        goes_on Any IsValid (optional_text args) (λ sep. pieces_list text sep) (any (optional_text args))
        (λ sep u. goes_on (EachOf IsPoint) IsValid (pieces_at text sep) (λ found. made (value.List (map value.Text found))) (pieces_at-points text sep p) made_texts)

    -- ---- tuples, lists and dictionaries

    sequence_valid : (m : Method) (items args : List Value) → length items ≤ most_weight → IfOk (sequence_method m items args) IsValid
    sequence_valid method.Count items args l =
        goes_on Any IsValid (only args) (λ arg. natural (count_by (λ item. equal item arg) items)) (any (only args))
        (λ arg u. small_valid law (count_by (λ item. equal item arg) items) (omega (arith, count_by-le-length (λ item. equal item arg) items, l)))
    sequence_valid method.Index items args l =
        goes_on Any IsValid (only args) (λ arg. ok_or (position (λ item. equal item arg) items) ValueError >>= natural) (any (only args))
        (λ arg u. by_place (λ item. equal item arg) (nat_lt (position_or_len (λ item. equal item arg) items) (length items)) refl)
      where
        by_place : (p : Value → Bool) (b : Bool) → nat_lt (position_or_len p items) (length items) ≡ b
            → IfOk (ok_or (if b then Some (position_or_len p items) else None) ValueError >>= natural) IsValid
        by_place p true e = small_valid law (position_or_len p items) (let less : position_or_len p items < length items = grind (arith, nat_tests) in omega (arith, less, l))
        by_place p false e = tt
    sequence_valid _ items args l = tt

    under_valid : (key : Value) (pairs : List (Value × Value)) (other : Value) → AllByRecursion {X = Value × Value} (λ p. IsValid p.0 × IsValid p.1) pairs → IsValid other
        → IsValid (unwrap_or (value_under key pairs) other)
    under_valid key [] other h k = k
    under_valid key (p ∷ pairs) other h k = by_test (under_valid key pairs other h.1 k) (equal key p.0)
      where
        by_test : IsValid (unwrap_or (value_under key pairs) other) → (b : Bool) → IsValid (unwrap_or (if b then Some p.1 else value_under key pairs) other)
        by_test rest true = h.0.1
        by_test rest false = rest

    given_valid : (args : List Value) → AreValid args → IfOk (one_or_two args) (λ g. IsValid (unwrap_or g.1 value.Nil))
    given_valid [] h = tt
    given_valid (a ∷ []) h = none_valid law
    given_valid (a ∷ b ∷ []) h = h.1.0
    given_valid (a ∷ b ∷ c ∷ args) h = tt

    dict_valid : (m : Method) (pairs : List (Value × Value)) (args : List Value) → AllByRecursion {X = Value × Value} (λ p. IsValid p.0 × IsValid p.1) pairs → AreValid args
        → IfOk (dict_method m pairs args) IsValid
    dict_valid method.Get pairs args h k =
        goes_on (λ g. IsValid (unwrap_or g.1 value.Nil)) IsValid (one_or_two args)
        (λ given. if hashable given.0 then Ok (unwrap_or (value_under given.0 pairs) (unwrap_or given.1 value.Nil)) else Err TypeError) (given_valid args k)
        (λ given g. either IsValid (hashable given.0) (Ok (unwrap_or (value_under given.0 pairs) (unwrap_or given.1 value.Nil))) (Err TypeError)
        (under_valid given.0 pairs (unwrap_or given.1 value.Nil) h g) tt)
    dict_valid _ pairs args h k = tt

    -- ---- the tables

    text_methods_valid : PlacesLaw → (m : Method) (text : List ℕ) (args : List Value) → ArePoints text → length text ≤ most_weight → AreValid args → IfOk (text_method m text args) IsValid
    text_methods_valid places method.Lower text args p l k = without_valid text p l args (lower_text text) (lower_valid text p l)
    text_methods_valid places method.Upper text args p l k = without_valid text p l args (upper_text text) (upper_valid text p l)
    text_methods_valid places method.Strip text args p l k = strip_valid text p l Both args
    text_methods_valid places method.Lstrip text args p l k = strip_valid text p l Left args
    text_methods_valid places method.Rstrip text args p l k = strip_valid text p l Right args
    text_methods_valid places method.Split text args p l k = split_valid text args p
    text_methods_valid places method.Replace text args p l k = replace_valid text p l args k
    text_methods_valid places method.Find text args p l k = find_valid text p l first_place (λ part. least_within part text (first_place part text) (places part text).0) args
    text_methods_valid places method.Rfind text args p l k = find_valid text p l last_place (λ part. greatest_within part text (last_place part text) (places part text).1) args
    text_methods_valid places method.Index text args p l k = index_valid text p l (λ part. least_within part text (first_place part text) (places part text).0) args
    text_methods_valid places method.Count text args p l k = count_valid text p l args
    text_methods_valid places method.StartsWith text args p l k = fit_valid text p l (λ part. begins part text) args
    text_methods_valid places method.EndsWith text args p l k = fit_valid text p l (λ part. ends part text) args
    text_methods_valid places method.Join text args p l k = join_valid text p l args k
    text_methods_valid places method.Zfill text args p l k = zfill_valid text p l args
    text_methods_valid places method.IsDigit text args p l k = without_valid text p l args (digit_test text) (digits_valid text p l)
    text_methods_valid places method.Get text args p l k = tt

    in_valid : PlacesLaw → (m : Method) (x : Value-F Value) (args : List Value) → is_sound x ≡ true → Parts IsValid x → nat_le (layer_weight x) most_weight ≡ true → AreValid args
        → IfOk (method_in m x args) IsValid
    in_valid places m (v.Text text) args s h l k = text_methods_valid places m text args (points_of text s) (grind (arith, nat_tests)) k
    in_valid places m (v.Tuple items) args s h l k = sequence_valid m items args (let w = weighs_items items in grind (arith, nat_tests))
    in_valid places m (v.List items) args s h l k = sequence_valid m items args (let w = weighs_items items in grind (arith, nat_tests))
    in_valid places m (v.Dict pairs) args s h l k = dict_valid m pairs args h k
    in_valid places m v.Nil args s h l k = tt
    in_valid places m (v.Truth b) args s h l k = tt
    in_valid places m (v.Int n) args s h l k = tt

    pub methods_valid : PlacesLaw → MethodsLaw
    methods_valid places m a args h k = in_valid places m (out-Value a) args (sound_of law a h) (parts_of law a h) (light law a h) k
