-- Lists of texts: their weight, and what it is of a text's characters, words and pieces.
use Rattle.std.proofs.Common.{◌≡◌, ◌≢◌, ◌∙◌, ℕ, suc, ◌+◌, ◌-◌, ◌*◌, ◌^◌, ◌≤◌, ◌++◌, ◌&&◌, min, max, Bool, true, false, nat_le, List, [], ◌∷◌, length, map, filter, zero-add, refl, sym, ap, arith, length-append}
use Rattle.std.specs.Prelude.{◌==◌, codes, count_by, if◌then◌else◌}
use Rattle.std.specs.List.{flat_map}
use Rattle.std.proofs.lemmas.List.Sums.{sum_by-cons}
use Rattle.std.proofs.lemmas.Bool.{eqb-true, true≢false}
use Rattle.std.proofs.lemmas.Bool.Decides.{nat_tests}
use Rattle.tx_text.specs.Laws.{CountLaw, PiecesLaw}
use Rattle.tx_text.specs.Text.{count_of, is_blank, is_lower, is_some_text, joined, onto_first, pieces, split_where, upper_char, words}
use Rattle.tx_values.specs.declared.value.Value.TheVariants as value
use Rattle.tx_values.specs.Limits.{depth, greatest_of, in_limits, most_weight, weight, weight_of_items}
use Rattle.tx_methods.specs.Calls.{words_weight}
use Rattle.tx_methods.specs.Walks.{character}
use Rattle.tx_methods.proofs.Layers.{depth_list, depth_text, weight_list, weight_text}

-- ---- the weight of a list of texts

abbrev pub texts_weight : List (List ℕ) → ℕ
texts_weight [] = 0
texts_weight (text ∷ texts) = (1 + length text) + texts_weight texts

weighs : (texts : List (List ℕ)) → weight_of_items (map weight (map value.Text texts)) ≡ texts_weight texts
weighs [] = refl
weighs (text ∷ texts) = ap (λ n. (1 + n) + weight_of_items (map weight (map value.Text texts))) (weight_text text) ∙ ap (λ n. (1 + length text) + n) (weighs texts)

flat : (texts : List (List ℕ)) → greatest_of (map depth (map value.Text texts)) ≡ 0
flat [] = refl
flat (text ∷ texts) = ap (λ n. max n (greatest_of (map depth (map value.Text texts)))) (depth_text text) ∙ ap (λ n. max 0 n) (flat texts)

pub texts_fit : (texts : List (List ℕ)) → in_limits (value.List (map value.Text texts)) ≡ nat_le (texts_weight texts) most_weight
texts_fit texts =
    ap (λ n. nat_le n most_weight && nat_le (depth (value.List (map value.Text texts))) 16) (weight_list (map value.Text texts) ∙ weighs texts)
    ∙ ap (λ n. nat_le (texts_weight texts) most_weight && nat_le n 16) (depth_list (map value.Text texts))
    ∙ ap (λ n. nat_le (texts_weight texts) most_weight && nat_le (1 + n) 16) (flat texts)
    ∙ and_true (nat_le (texts_weight texts) most_weight)
  where
    and_true : (b : Bool) → (b && true) ≡ b
    and_true true = refl
    and_true false = refl

-- ---- characters

characters_are : (text : List ℕ) → map character text ≡ map value.Text (map (λ c. c ∷ []) text)
characters_are [] = refl
characters_are (c ∷ text) = ap (λ items. character c ∷ items) (characters_are text)

singles_weigh : (text : List ℕ) → texts_weight (map (λ c. c ∷ []) text) ≡ 2 * length text
singles_weigh [] = refl
singles_weigh (c ∷ text) = let h : texts_weight (map (λ c. c ∷ []) text) ≡ 2 * length text = singles_weigh text in omega (arith, h)

pub characters_fit : (text : List ℕ) (half : ℕ) → half ≡ 524288 → nat_le (length text) half ≡ in_limits (value.List (map character text))
characters_fit text half e =
    (rw e (let both : nat_le (length text) 524288 ≡ nat_le (texts_weight (map (λ c. c ∷ []) text)) most_weight = (let h : texts_weight (map (λ c. c ∷ []) text) ≡ 2 * length text = singles_weigh text in rw h (halved (length text))) in both))
    ∙ sym (texts_fit (map (λ c. c ∷ []) text))
    ∙ ap (λ items. in_limits (value.List items)) (sym (characters_are text))
  where
    halved : (n : ℕ) → nat_le n 524288 ≡ nat_le (2 * n) 1048576
    halved n = grind (arith, nat_tests)

-- ---- words

abbrev first_weight : List (List ℕ) → ℕ
first_weight [] = 0
first_weight (text ∷ texts) = length text + texts_weight (filter is_some_text texts)

both_weights : (text : List ℕ) → (words_weight false text ≡ texts_weight (filter is_some_text (split_where is_blank text))) × (words_weight true text ≡ first_weight (split_where is_blank text))
both_weights [] = (refl, refl)
both_weights (x ∷ text) = by_test (is_blank x) (both_weights text)
  where
    onto : (texts : List (List ℕ)) → first_weight (onto_first x texts) ≡ 1 + first_weight texts
    onto [] = refl
    onto (t ∷ texts) = omega arith

    onto_words : (texts : List (List ℕ)) → texts_weight (filter is_some_text (onto_first x texts)) ≡ 2 + first_weight texts
    onto_words [] = refl
    onto_words (t ∷ texts) = omega arith

    by_test : (b : Bool) → (words_weight false text ≡ texts_weight (filter is_some_text (split_where is_blank text))) × (words_weight true text ≡ first_weight (split_where is_blank text))
        → ((if b then words_weight false text else (if false then 1 else 2) + words_weight true text) ≡ texts_weight (filter is_some_text (if b then [] ∷ split_where is_blank text else onto_first x (split_where is_blank text))))
        × ((if b then words_weight false text else (if true then 1 else 2) + words_weight true text) ≡ first_weight (if b then [] ∷ split_where is_blank text else onto_first x (split_where is_blank text)))
    by_test true h = (h.0, h.0 ∙ sym (zero-add (texts_weight (filter is_some_text (split_where is_blank text)))))
    by_test false h = (ap (λ n. 2 + n) h.1 ∙ sym (onto_words (split_where is_blank text)), ap (λ n. 1 + n) h.1 ∙ sym (onto (split_where is_blank text)))

pub words_fit : (text : List ℕ) (n : ℕ) → n ≡ min (words_weight false text) (2 ^ 64 - 1) → nat_le n most_weight ≡ in_limits (value.List (map value.Text (words text)))
words_fit text n e =
    capped (words_weight false text) n e ∙ ap (λ w. nat_le w most_weight) (both_weights text).0 ∙ sym (texts_fit (words text))
  where
    capped : (w n : ℕ) → n ≡ min w (2 ^ 64 - 1) → nat_le n most_weight ≡ nat_le w most_weight
    capped w n e = grind (arith, nat_tests)

-- ---- pieces

abbrev pub lengths : List (List ℕ) → ℕ
lengths [] = 0
lengths (text ∷ texts) = length text + lengths texts

texts_weigh : (texts : List (List ℕ)) → texts_weight texts ≡ length texts + lengths texts
texts_weigh [] = refl
texts_weigh (text ∷ texts) = let h : texts_weight texts ≡ length texts + lengths texts = texts_weigh texts in omega (arith, h)

pub joined_long : (sep text : List ℕ) (texts : List (List ℕ)) → length (joined sep (text ∷ texts)) ≡ lengths (text ∷ texts) + length texts * length sep
joined_long sep text [] = omega arith
joined_long sep text (next ∷ texts) =
    let h : length (joined sep (next ∷ texts)) ≡ lengths (next ∷ texts) + length texts * length sep = joined_long sep next texts in
    let e : length (text ++ (sep ++ joined sep (next ∷ texts))) ≡ length text + length (sep ++ joined sep (next ∷ texts)) = length-append text (sep ++ joined sep (next ∷ texts)) in
    let f : length (sep ++ joined sep (next ∷ texts)) ≡ length sep + length (joined sep (next ∷ texts)) = length-append sep (joined sep (next ∷ texts)) in
    omega (arith, h, e, f)

-- the characters of the pieces are those of the text but for the separators
pieces_long : (sep text : List ℕ) (texts : List (List ℕ)) (cuts : ℕ) → joined sep texts ≡ text → cuts + 1 ≡ length texts → lengths texts + cuts * length sep ≡ length text
pieces_long sep text [] cuts e n = absurd (omega arith)
pieces_long sep text (t ∷ texts) cuts e n =
    let many : cuts ≡ length texts = omega arith in
    sym (sym (ap length e) ∙ joined_long sep t texts ∙ ap (λ k. lengths (t ∷ texts) + k * length sep) (sym many))

pub pieces_within : PiecesLaw → CountLaw → (sep text : List ℕ) → sep ≢ [] → lengths (pieces sep text) + count_of sep text * length sep ≡ length text
pieces_within law counts sep text some =
    pieces_long sep text (pieces sep text) (count_of sep text) (law sep text some).0 ((counts sep text).0 some)

pub cuts_within : PiecesLaw → CountLaw → (sep text : List ℕ) → sep ≢ [] → count_of sep text * length sep ≤ length text
cuts_within law counts sep text some = let e : lengths (pieces sep text) + count_of sep text * length sep ≡ length text = pieces_within law counts sep text some in omega (arith, e)

pub pieces_fit : PiecesLaw → CountLaw → (sep text : List ℕ) → sep ≢ [] → (cuts characters : ℕ) → cuts ≡ count_of sep text → characters + cuts * length sep ≡ length text
    → in_limits (value.List (map value.Text (pieces sep text))) ≡ nat_le (cuts + 1 + characters) most_weight
pieces_fit law counts sep text some cuts characters e f =
    let long : lengths (pieces sep text) + count_of sep text * length sep ≡ length text = pieces_within law counts sep text some in
    let many : count_of sep text + 1 ≡ length (pieces sep text) = (counts sep text).0 some in
    let times : cuts * length sep ≡ count_of sep text * length sep = ap (λ k. k * length sep) e in
    let same : texts_weight (pieces sep text) ≡ cuts + 1 + characters = (let w : texts_weight (pieces sep text) ≡ length (pieces sep text) + lengths (pieces sep text) = texts_weigh (pieces sep text) in omega (arith, w, long, many, times, e, f)) in
    texts_fit (pieces sep text) ∙ ap (λ n. nat_le n most_weight) same

pub pieces_told : PiecesLaw → CountLaw → (sep text : List ℕ) → sep ≢ [] → (cuts each length' n : ℕ) → cuts ≡ count_of sep text → each ≡ length sep → length' ≡ length text
    → n ≡ min (min (cuts + 1) (2 ^ 64 - 1) + (length' - cuts * each)) (2 ^ 64 - 1) → nat_le n most_weight ≡ in_limits (value.List (map value.Text (pieces sep text)))
pieces_told law counts sep text some cuts each length' n e f g is =
    let within : count_of sep text * length sep ≤ length text = cuts_within law counts sep text some in
    let times : cuts * each ≡ count_of sep text * length sep = ap (λ k. k * each) e ∙ ap (λ k. count_of sep text * k) f in
    let times' : cuts * length sep ≡ count_of sep text * length sep = ap (λ k. k * length sep) e in
    let left : (length' - cuts * each) + cuts * length sep ≡ length text = omega arith in
    capped (cuts + 1) (length' - cuts * each) n is ∙ sym (pieces_fit law counts sep text some cuts (length' - cuts * each) e left)
  where
    capped : (a b n : ℕ) → n ≡ min (min a (2 ^ 64 - 1) + b) (2 ^ 64 - 1) → nat_le n most_weight ≡ nat_le (a + b) most_weight
    capped a b n e = grind (arith, nat_tests)

-- ---- capitals

one_more : (c : ℕ) → length (upper_char c) ≡ 1 + (if c == 0xDF then 1 else 0)
one_more c = by_tests (is_lower c) (c == 0xDF) refl refl
  where
    small : (b : Bool) → (c == 0xDF) ≡ b → is_lower c ≡ true → b ≡ false
    small true e l = let is : c ≡ 0xDF = eqb-true c 0xDF e in absurd (true≢false (sym l ∙ ap is_lower is))
    small false e l = refl

    rest : (b d : Bool) → length (if b then 0x178 ∷ [] else if d then 0x39C ∷ [] else c ∷ []) ≡ 1
    rest true d = refl
    rest false true = refl
    rest false false = refl

    by_tests : (b d : Bool) → is_lower c ≡ b → (c == 0xDF) ≡ d
        → length (if b then (c - 32) ∷ [] else if d then codes "SS" else if c == 0xFF then 0x178 ∷ [] else if c == 0xB5 then 0x39C ∷ [] else c ∷ []) ≡ 1 + (if d then 1 else 0)
    by_tests true d e f = let none : d ≡ false = small d f e in rw none refl
    by_tests false true e f = refl
    by_tests false false e f = rest (c == 0xFF) (c == 0xB5)

pub capitals_long : (text : List ℕ) → length (flat_map upper_char text) ≡ length text + count_by (λ c. c == 0xDF) text
capitals_long [] = refl
capitals_long (c ∷ text) =
    let h : length (flat_map upper_char text) ≡ length text + count_by (λ d. d == 0xDF) text = capitals_long text in
    let one : length (upper_char c) ≡ 1 + (if c == 0xDF then 1 else 0) = one_more c in
    let e : length (upper_char c ++ flat_map upper_char text) ≡ length (upper_char c) + length (flat_map upper_char text) = length-append (upper_char c) (flat_map upper_char text) in
    e ∙ ap (λ n. n + length (flat_map upper_char text)) one ∙ ap (λ n. (1 + (if c == 0xDF then 1 else 0)) + n) h ∙ shuffled (if c == 0xDF then 1 else 0) (length text) (count_by (λ d. d == 0xDF) text)
    ∙ ap (λ n. suc (length text) + n) (sym (sum_by-cons (λ d. if d == 0xDF then 1 else 0) c text))
  where
    shuffled : (b l k : ℕ) → (1 + b) + (l + k) ≡ suc l + (b + k)
    shuffled b l k = omega arith

pub capitals_told : (text : List ℕ) (n len more : ℕ) → len ≡ length text → more ≡ count_by (λ c. c == 0xDF) text → n ≡ min (len + more) (2 ^ 64 - 1)
    → nat_le n most_weight ≡ nat_le (length (flat_map upper_char text)) most_weight
capitals_told text n len more e f is = capped (len + more) n is ∙ ap (λ k. nat_le k most_weight) (ap (λ l. l + more) e ∙ ap (λ m. length text + m) f ∙ sym (capitals_long text))
  where
    capped : (a n : ℕ) → n ≡ min a (2 ^ 64 - 1) → nat_le n most_weight ≡ nat_le a most_weight
    capped a n e = grind (arith, nat_tests)
