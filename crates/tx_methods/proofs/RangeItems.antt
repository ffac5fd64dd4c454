-- The items of a range have 128 bits, one after the other.
use Rattle.std.proofs.Common.{◌≡◌, ◌≢◌, ◌∙◌, ℕ, zero, suc, ◌+◌, ◌*◌, ◌<◌, ◌≤◌, ◌^◌, ◌++◌, Bool, true, false, nat_le, add-one, map, List, [], ◌∷◌, ℤ, pos, negsuc, refl, sym, ap, arith}
use Rattle.std.specs.Prelude.{◌+ℤ◌, ◌*ℤ◌, ◌≤ℤ◌, neg_ℤ, FitsSigned}
use Rattle.std.specs.Prelude.{if◌then◌else◌}
use Rattle.std.specs.Int.{w128}
use Rattle.std.proofs.Math.IntN.{*ℤ-negsuc, suc_ℤ-*ℤ, zero-*ℤ}
use Rattle.std.proofs.lemmas.Bool.{lt-ltb}
use Rattle.std.proofs.lemmas.Bool.Decides.{nat_tests}
use Rattle.std.proofs.lemmas.Int.{ints}
use Rattle.std.proofs.lemmas.List.{map-append}
use Rattle.tx_base.specs.Width.{is_128_bit}
use Rattle.tx_num.specs.Range.{IsBefore, RangeEndLaw, count_between, items_from, range_length, count_up_to_most}
use Rattle.tx_values.specs.declared.value.Value.{Value}
use Rattle.tx_values.specs.declared.value.Value.TheVariants as value
use Rattle.tx_num.specs.declared.range.RangeLength.TheVariants.{Count, Past}

between : (a b x : ℤ) → is_128_bit a ≡ true → is_128_bit b ≡ true → a ≤ℤ x → x ≤ℤ b → is_128_bit x ≡ true
between a (pos b) (pos x) h l low high = let less : x ≤ b = omega (arith, ints) in grind (arith, nat_tests)
between a (negsuc b) (pos x) h l low high = absurd (omega (arith, ints))
between (pos a) b (negsuc x) h l low high = absurd (omega (arith, ints))
between (negsuc a) b (negsuc x) h l low high = let less : x ≤ a = omega (arith, ints) in grind (arith, nat_tests)

pub item_fits : (first end step : ℤ) (k : ℕ) → is_128_bit first ≡ true → is_128_bit end ≡ true → IsBefore end step (first +ℤ pos k *ℤ step) → is_128_bit (first +ℤ pos k *ℤ step) ≡ true
item_fits first end (pos s) k h l before = between first end (first +ℤ pos k *ℤ pos s) h l (omega (arith, ints)) (omega (arith, ints, before))
item_fits first end (negsuc s) k h l before =
    let turned : pos k *ℤ negsuc s ≡ neg_ℤ (pos (k * suc s)) = *ℤ-negsuc (pos k) s in
    between end first (first +ℤ pos k *ℤ negsuc s) l h (omega (arith, ints, before)) (omega (arith, ints))

fits : (n : ℤ) → FitsSigned w128 n → is_128_bit n ≡ true
fits (pos n) h = lt-ltb n (2 ^ 127) h.sfits
fits (negsuc n) h = lt-ltb n (2 ^ 127) h.sfits

one_more : (first step : ℤ) (k : ℕ) → first +ℤ pos (suc k) *ℤ step ≡ (first +ℤ pos k *ℤ step) +ℤ step
one_more first step k = let more : pos (suc k) *ℤ step ≡ pos k *ℤ step +ℤ step = suc_ℤ-*ℤ (pos k) step in omega (arith, ints)

-- the item behind the one at a place, where it is one of the range
pub next_is : RangeEndLaw → (first end step item next : ℤ) (k count : ℕ) → FitsSigned w128 first → FitsSigned w128 end → step ≢ pos 0 → count ≤ count_between first end step
    → item ≡ first +ℤ pos k *ℤ step → (is_128_bit (item +ℤ step) ≡ true → next ≡ item +ℤ step) → k + 1 < count → next ≡ first +ℤ pos (k + 1) *ℤ step
next_is law first end step item next k count f g some within e given less =
    let before : IsBefore end step (first +ℤ pos (suc k) *ℤ step) = (law first end step (suc k) some).0 (omega arith) in
    let wide : is_128_bit (first +ℤ pos (suc k) *ℤ step) ≡ true = item_fits first end step (suc k) (fits first f) (fits end g) before in
    let is : item +ℤ step ≡ first +ℤ pos (suc k) *ℤ step = ap (λ (n : ℤ). n +ℤ step) e ∙ sym (one_more first step k) in
    given (ap is_128_bit is ∙ wide) ∙ is ∙ rw add-one refl

-- one item more is that at the end
pub items_more : (first step : ℤ) (n : ℕ) → items_from first step (suc n) ≡ items_from first step n ++ (first +ℤ pos n *ℤ step) ∷ []
items_more first step zero =
    let none : pos zero *ℤ step ≡ pos zero = zero-*ℤ step in
    ap (λ n. n ∷ []) (let e : first ≡ first +ℤ pos zero *ℤ step = omega (arith, ints) in e)
items_more first step (suc n) =
    let more : pos (suc n) *ℤ step ≡ pos n *ℤ step +ℤ step = suc_ℤ-*ℤ (pos n) step in
    ap (λ ns. first ∷ ns)
    (items_more (first +ℤ step) step n
    ∙ ap (λ m. items_from (first +ℤ step) step n ++ m ∷ []) (let e : (first +ℤ step) +ℤ pos n *ℤ step ≡ first +ℤ pos (suc n) *ℤ step = omega (arith, ints) in e))

pub pushed : (first step item : ℤ) (n : ℕ) (made new : List Value) → made ≡ map value.Int (items_from first step n) → item ≡ first +ℤ pos n *ℤ step → new ≡ made ++ value.Int item ∷ []
    → new ≡ map value.Int (items_from first step (n + 1))
pushed first step item n made new e f g =
    g ∙ ap (λ (ms : List Value). ms ++ value.Int item ∷ []) e ∙ ap (λ (m : ℤ). map value.Int (items_from first step n) ++ value.Int m ∷ []) f
    ∙ sym (map-append value.Int (items_from first step n) ((first +ℤ pos n *ℤ step) ∷ []))
    ∙ sym (ap (map value.Int) (items_more first step n)) ∙ rw add-one refl

up_to : (m n : ℕ) → count_up_to_most m ≡ Count n → n ≤ m
up_to m n e = by_test (nat_le m 1048576) e
  where
    by_test : (b : Bool) → (if b then Count m else Past) ≡ Count n → n ≤ m
    by_test true e = let same : m ≡ n = cc in omega arith
    by_test false e = cc

-- a length is told of a step that is not 0
pub counts : (first end step : ℤ) (n : ℕ) → range_length first end step ≡ Count n → (n ≤ count_between first end step) × (step ≢ pos 0)
counts first end (pos zero) n e = cc
counts first end (pos (suc s)) n e = (up_to (count_between first end (pos (suc s))) n e, (λ f. cc))
counts first end (negsuc s) n e = (up_to (count_between first end (negsuc s)) n e, (λ f. cc))
