-- The weight of texts that are to be joined.
use Rattle.std.proofs.Common.{◌≡◌, ◌∙◌, ℕ, suc, ◌+◌, ◌-◌, ◌^◌, ◌<◌, ◌≤◌, min, Bool, true, false, nat_le, List, [], ◌∷◌, length, map, ◌*◌, Ok, Err, refl, ap, arith}
use Rattle.std.specs.Prelude.{if◌then◌else◌, ◌&&◌}
use Rattle.std.proofs.Math.Nat.{mul-le-mul_left, mul-suc, suc-mul}
use Rattle.std.proofs.lemmas.List.{length-map}
use Rattle.std.proofs.lemmas.Bool.Decides.{nat_tests}
use Rattle.tx_base.specs.declared.class.Class.{Class}
use Rattle.tx_base.specs.declared.class.Class.TheVariants.{ProfileError}
use Rattle.tx_text.specs.Text.{joined}
use Rattle.tx_values.specs.declared.value.Value.{Value}
use Rattle.tx_values.specs.declared.value.Value.TheVariants as value
use Rattle.tx_values.specs.declared.value.Value.TheVariants.{rolls-Text}
use Rattle.tx_values.specs.declared.value.Value.TheOpen.{Value-F}
use Rattle.tx_values.specs.declared.value.Value.TheOpen as v
use Rattle.tx_values.specs.Answer.{Answer, ◌>>=◌}
use Rattle.tx_values.specs.Limits.{depth, most_weight, weight}
use Rattle.tx_methods.specs.Arguments.{a_text, text_in}
use Rattle.tx_methods.specs.Calls.{joined_weight}
use Rattle.tx_methods.specs.Walks.{character}
use Rattle.tx_methods.specs.TextMethods.{join_items, made_text, texts_in}
use Rattle.tx_methods.proofs.Layers.{opened, weight_text}
use Rattle.tx_methods.proofs.TextLists.{joined_long, lengths}

-- what is summed is no more than there is; where the items are no texts, the sum is that class
abbrev Agrees : ℕ → ℕ → Answer (List (List ℕ)) → Answer ℕ → Type 0
Agrees sum each (Ok texts) r = (n : ℕ) × (r ≡ Ok n) × (n ≤ sum + (lengths texts + length texts * each))
Agrees sum each (Err c) r = r ≡ Err c

agrees : (sum each : ℕ) (items : List Value) → Agrees sum each (texts_in items) (joined_weight sum each items)
agrees sum each [] = (sum, refl, omega arith)
agrees sum each (item ∷ items) = by_text (a_text item) (texts_in items) (λ s. joined_weight s each items) (λ s. agrees s each items)
  where
    by_text : (o : Answer (List ℕ)) (r : Answer (List (List ℕ))) (f : ℕ → Answer ℕ) → ((s : ℕ) → Agrees s each r (f s))
        → Agrees sum each (o >>= (λ text. r >>= (λ texts. Ok (text ∷ texts)))) (o >>= (λ text. f (min (min (sum + length text) (2 ^ 64 - 1) + each) (2 ^ 64 - 1))))
    by_text (Err c) r f h = refl
    by_text (Ok text) (Err c) f h = h (min (min (sum + length text) (2 ^ 64 - 1) + each) (2 ^ 64 - 1))
    by_text (Ok text) (Ok texts) f h =
        let t = h (min (min (sum + length text) (2 ^ 64 - 1) + each) (2 ^ 64 - 1)) in
        (t.0, t.1, (let within : t.0 ≤ min (min (sum + length text) (2 ^ 64 - 1) + each) (2 ^ 64 - 1) + (lengths texts + length texts * each) = t.2 in let more : suc (length texts) * each ≡ length texts * each + each = suc-mul (length texts) each in omega arith))

pub join_stops : (sep : List ℕ) (each : ℕ) (items : List Value) (c : Class) → each ≡ length sep → joined_weight 0 each items ≡ Err c → join_items sep items ≡ Err c
join_stops sep each items c e f = by_texts (texts_in items) (joined_weight 0 each items) (agrees 0 each items) f
  where
    by_texts : (r : Answer (List (List ℕ))) (w : Answer ℕ) → Agrees 0 each r w → w ≡ Err c → (r >>= (λ texts. made_text (joined sep texts))) ≡ Err c
    by_texts (Err d) w h f = let same : w ≡ Err d = h in cc
    by_texts (Ok texts) w h f = let same : w ≡ Ok h.0 = h.1 in cc

heavy : (text : List ℕ) → most_weight < length text → made_text text ≡ Err ProfileError
heavy text h = by_test (nat_le (weight (value.Text text)) most_weight) (nat_le (depth (value.Text text)) 16) (ap (λ n. nat_le n most_weight) (weight_text text) ∙ over (length text) h)
  where
    over : (n : ℕ) → most_weight < n → nat_le n most_weight ≡ false
    over n h = grind (arith, nat_tests)

    by_test : (b d : Bool) → b ≡ false → (if b && d then Ok (value.Text text) else Err ProfileError) ≡ Err ProfileError
    by_test true d e = cc
    by_test false d e = refl

pub join_is_heavy : (sep : List ℕ) (each n : ℕ) (items : List Value) → each ≡ length sep → joined_weight 0 each items ≡ Ok n → min (most_weight + each) (2 ^ 64 - 1) < n → n < 2 ^ 64 → join_items sep items ≡ Err ProfileError
join_is_heavy sep each n items e f g k = by_texts (texts_in items) (joined_weight 0 each items) (agrees 0 each items) f
  where
    by_texts : (r : Answer (List (List ℕ))) (w : Answer ℕ) → Agrees 0 each r w → w ≡ Ok n → (r >>= (λ texts. made_text (joined sep texts))) ≡ Err ProfileError
    by_texts (Err c) w h f = let same : w ≡ Err c = h in cc
    by_texts (Ok []) w h f =
        let same : h.0 ≡ n = (let is : w ≡ Ok h.0 = h.1 in cc) in
        let within : h.0 ≤ 0 + (0 + 0 * each) = h.2 in
        absurd (omega arith)
    by_texts (Ok (text ∷ texts)) w h f =
        let same : h.0 ≡ n = (let is : w ≡ Ok h.0 = h.1 in cc) in
        let within : h.0 ≤ 0 + (lengths (text ∷ texts) + suc (length texts) * each) = h.2 in
        let more : suc (length texts) * each ≡ length texts * each + each = suc-mul (length texts) each in
        let long : length (joined sep (text ∷ texts)) ≡ lengths (text ∷ texts) + length texts * length sep = joined_long sep text texts in
        let alike : length texts * each ≡ length texts * length sep = ap (λ m. length texts * m) e in
        heavy (joined sep (text ∷ texts)) (omega arith)

-- ---- the characters of a text

characters_told : (text : List ℕ) → texts_in (map character text) ≡ Ok (map (λ c. c ∷ []) text)
characters_told [] = refl
characters_told (c ∷ text) =
    ap (λ (x : Value-F Value). text_in x >>= (λ t. texts_in (map character text) >>= (λ texts. Ok (t ∷ texts)))) (opened (v.Text (c ∷ [])) (character c) (rolls-Text (c ∷ [])))
    ∙ ap (λ r. r >>= (λ texts. Ok ((c ∷ []) ∷ texts))) (characters_told text)

singles_long : (text : List ℕ) → lengths (map (λ c. c ∷ []) text) ≡ length text
singles_long [] = refl
singles_long (c ∷ text) = let h : lengths (map (λ c. c ∷ []) text) ≡ length text = singles_long text in omega arith

pub characters_are_heavy : (sep text : List ℕ) (each step n : ℕ) → each ≡ length sep → step ≤ each + 1 → n ≤ length text * step → most_weight + each < n
    → join_items sep (map character text) ≡ Err ProfileError
characters_are_heavy sep [] each step n e f g h = absurd (omega arith)
characters_are_heavy sep (c ∷ text) each step n e f g h =
    ap (λ r. r >>= (λ texts. made_text (joined sep texts))) (characters_told (c ∷ text))
    ∙ heavy (joined sep (map (λ c. c ∷ []) (c ∷ text)))
    (let long : length (joined sep ((c ∷ []) ∷ map (λ c. c ∷ []) text)) ≡ lengths ((c ∷ []) ∷ map (λ c. c ∷ []) text) + length (map (λ c. c ∷ []) text) * length sep = joined_long sep (c ∷ []) (map (λ c. c ∷ []) text) in
    let ones : lengths (map (λ c. c ∷ []) text) ≡ length text = singles_long text in
    let times : length (map (λ c. c ∷ []) text) * length sep ≡ length text * length sep = ap (λ m. m * length sep) (length-map text (λ c. c ∷ [])) in
    let most : suc (length text) * step ≤ suc (length text) * suc (length sep) = mul-le-mul_left (suc (length text)) (let fits : step ≤ suc (length sep) = omega arith in fits) in
    let more : suc (length text) * suc (length sep) ≡ suc (length text) * length sep + suc (length text) = mul-suc (suc (length text)) (length sep) in
    let last : suc (length text) * length sep ≡ length text * length sep + length sep = suc-mul (length text) (length sep) in
    omega arith)

pub ruleset weight_rules = (join_stops, join_is_heavy, characters_are_heavy)
