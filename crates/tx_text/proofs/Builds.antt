-- What texts made of other texts are, and how long they are.
use Rattle.std.proofs.Common.{◌≡◌, ◌≢◌, ◌↔◌, ◌∙◌, ◌+◌, ◌-◌, ◌*◌, ◌<◌, ◌≤◌, ℕ, zero, suc, Bool, true, false, List, [], ◌∷◌, ◌++◌, None, if◌then◌else◌, length, map, take, drop, get_or, replicate, sym, refl, ap, arith, append_assoc, append-nil, add-one, suc-mul, zero-mul, ◌/◌, ◌%◌, length-append, lt_of_not-le}
use Rattle.std.proofs.lemmas.Bool.{iff_false}
use Rattle.std.proofs.lemmas.List.{length-replicate, nil_from_length, replicate-append-replicate, take-replicate, take_rest}
use Rattle.std.proofs.lemmas.Nat.{div-add-mod', le-div}
use Rattle.std.proofs.Math.Nat.{mod-lt, mul-le-mul}
use Rattle.std.specs.Str.{chars}
use Rattle.std.proofs.lemmas.Str.{chars-nil}
use Rattle.tx_text.specs.Text.{between, first_place, is_sign, joined, part_of, pieces, repeated, replaced, zeros_behind}
use Rattle.tx_text.specs.Laws.{IsFirstSplit, ReplaceLaw, ZerosLaw, cut_everywhere}
use Rattle.tx_text.proofs.Pieces.{joined-cons, joined-pieces, pieces_cut, pieces_from-some, pieces_uncut}

-- ---- limits

pub too_long : {fits : Bool} {n most len : ℕ} → (fits ≡ true) ↔ (n ≤ most) → fits ≡ false → n ≡ len → most < len
too_long test off e = rw e at (lt_of_not-le (iff_false test off))

pub not_long : {fits : Bool} {n most len : ℕ} → (fits ≡ true) ↔ (n ≤ most) → fits ≡ true → n ≡ len → len ≤ most
not_long test on e = rw e at (test.0 on)

-- ---- copies

repeated_more : (n : ℕ) (text : List ℕ) → repeated n text ++ text ≡ repeated (suc n) text
repeated_more zero text = sym (append-nil text)
repeated_more (suc n) text = append_assoc text (repeated n text) text ∙ ap (λ t. text ++ t) (repeated_more n text)

pub copies_step : (i : ℕ) (text before made next : List ℕ) → made ≡ before ++ repeated i text → next ≡ made ++ text → next ≡ before ++ repeated (i + 1) text
copies_step i text before made next m n =
    n ∙ (ap (λ t. t ++ text) m ∙ (append_assoc before (repeated i text) text ∙ (rw (add-one i) (ap (λ t. before ++ t) (repeated_more i text)))))

pub repeated-nil : (n : ℕ) → repeated n [] ≡ []
repeated-nil zero = refl
repeated-nil (suc n) = repeated-nil n

pub length-repeated : (n : ℕ) (text : List ℕ) → n * length text + 0 ≡ length (repeated n text)
length-repeated zero text = omega (arith, zero-mul (length text))
length-repeated (suc n) text =
    let e : length (text ++ repeated n text) ≡ length text + length (repeated n text) = length-append text (repeated n text) in
    omega (arith, e, suc-mul n (length text), length-repeated n text)

pub repeated_empty : (n : ℕ) (text : List ℕ) → length text ≡ 0 → [] ≡ repeated n (chars text)
repeated_empty n text e = rw (nil_from_length text e, chars-nil) (sym (repeated-nil n))

-- ---- chains

-- the texts with a separator before each
abbrev pub behind_each : List ℕ → List (List ℕ) → List ℕ
behind_each sep [] = []
behind_each sep (text ∷ texts) = sep ++ (text ++ behind_each sep texts)

pub joined_behind : (sep text : List ℕ) (texts : List (List ℕ)) → joined sep (text ∷ texts) ≡ text ++ behind_each sep texts
joined_behind sep text [] = sym (append-nil text)
joined_behind sep text (next ∷ texts) = ap (λ t. text ++ (sep ++ t)) (joined_behind sep next texts)

-- the first of some texts, and those behind it
pub joined_first : (sep made first : List ℕ) (texts : List (List ℕ)) → 1 ≤ length texts → first ≡ get_or texts 0 first → made ≡ first
    → joined sep texts ≡ made ++ behind_each sep (take (length texts - 1) (drop 1 texts))
joined_first sep made first [] l e m = absurd (omega arith)
joined_first sep made first (text ∷ texts) l e m = rw (take_rest (text ∷ texts) 1, m, e) (joined_behind sep text texts)

pub fits_first : (sep first : List ℕ) (texts : List (List ℕ)) (len : ℕ) → 1 ≤ length texts → first ≡ get_or texts 0 first → len ≡ length first
    → length (joined sep texts) ≡ len + length (behind_each sep (take (length texts - 1) (drop 1 texts)))
fits_first sep first texts len l e n =
    ap length (joined_first sep first first texts l e refl)
    ∙ length-append first (behind_each sep (take (length texts - 1) (drop 1 texts)))
    ∙ ap (λ m. m + length (behind_each sep (take (length texts - 1) (drop 1 texts)))) (sym n)

regroup : (a b c d : List ℕ) → a ++ (b ++ (c ++ d)) ≡ ((a ++ b) ++ c) ++ d
regroup a b c d = simp append_assoc

-- two texts more at the end of what is made
two_more : (made once next a b rest : List ℕ) → once ≡ made ++ a → next ≡ once ++ b → made ++ (a ++ (b ++ rest)) ≡ next ++ rest
two_more made once next a b rest o n = regroup made a b rest ∙ ap (λ t. t ++ rest) (sym (n ∙ ap (λ t. t ++ b) o))

-- ---- zeros

zeros_step : (n c : ℕ) (text : List ℕ) (sign : Bool)
    → n + suc (length text) ≡ length (if sign then c ∷ (replicate n 48 ++ text) else replicate n 48 ++ (c ∷ text))
zeros_step n c text true = omega (arith, length-append (replicate n 48) text, length-replicate {A = ℕ} n 48)
zeros_step n c text false = omega (arith, length-append (replicate n 48) (c ∷ text), length-replicate {A = ℕ} n 48)

pub length-zeros_behind : (n : ℕ) (text : List ℕ) → n + length text ≡ length (zeros_behind n text)
length-zeros_behind n [] = omega (arith, length-replicate {A = ℕ} n 48)
length-zeros_behind n (c ∷ text) = zeros_step n c text (is_sign c)

repeated-zeros : (n m : ℕ) → repeated n (replicate m 48) ≡ replicate (n * m) 48
repeated-zeros zero m = rw (zero-mul m) refl
repeated-zeros (suc n) m =
    let e : m + n * m ≡ suc n * m = omega (arith, suc-mul n m) in
    ap (λ t. replicate m 48 ++ t) (repeated-zeros n m) ∙ (replicate-append-replicate m (n * m) 48 ∙ ap (λ k. replicate k 48) e)

pub zeros_long : (zeros : List ℕ) → chars zeros ≡ replicate 64 48 → 64 ≡ length (chars zeros)
zeros_long zeros e = sym (ap length e ∙ length-replicate {A = ℕ} 64 48)

part_front : (k : ℕ) (text : List ℕ) → part_of 0 k text ≡ take k text
part_front k text =
    let e : k - 0 ≡ k = omega arith in
    ap (λ m. take m text) e

-- so many zeros, sixty-four at a time and then the rest
pub zeros_are : (n : ℕ) (zeros again before part once next : List ℕ) → chars zeros ≡ replicate 64 48 → chars again ≡ replicate 64 48
    → once ≡ before ++ repeated (n / 64) (chars zeros) → chars part ≡ part_of 0 (n % 64) (chars again) → next ≡ once ++ chars part → next ≡ before ++ replicate n 48
zeros_are n zeros again before part once next z a o p x =
    let small : n % 64 < 64 = mod-lt n {m = 64} (omega arith) in
    let low : n % 64 ≤ 64 = omega (arith, small) in
    let rest : part_of 0 (n % 64) (chars again) ≡ replicate (n % 64) 48 = part_front (n % 64) (chars again) ∙ (ap (λ t. take (n % 64) t) a ∙ take-replicate (n % 64) 64 48 low) in
    let all : repeated (n / 64) (chars zeros) ≡ replicate (n / 64 * 64) 48 = ap (repeated (n / 64)) z ∙ repeated-zeros (n / 64) 64 in
    let whole : replicate (n / 64 * 64) 48 ++ replicate (n % 64) 48 ≡ replicate n 48 =
    replicate-append-replicate (n / 64 * 64) (n % 64) 48 ∙ ap (λ k. replicate k 48) (div-add-mod' n 64) in
    x ∙ (rw (o, p, rest, all) (append_assoc before (replicate (n / 64 * 64) 48) (replicate (n % 64) 48) ∙ ap (λ t. before ++ t) whole))

pub zeros_front : (n : ℕ) (text empty made whole : List ℕ) → zeros_behind n text ≡ replicate n 48 ++ text
    → empty ≡ [] → made ≡ empty ++ replicate n 48 → whole ≡ made ++ text → whole ≡ zeros_behind n text
zeros_front n text empty made whole z e m w = rw (z, w, m, e) refl

pub zeros_inside : (n sign : ℕ) (behind text empty one two three : List ℕ) → zeros_behind n text ≡ sign ∷ (replicate n 48 ++ behind)
    → empty ≡ [] → one ≡ empty ++ sign ∷ [] → two ≡ one ++ replicate n 48 → three ≡ two ++ behind → three ≡ zeros_behind n text
zeros_inside n sign behind text empty one two three z e o t r = rw (z, r, t, o, e) refl

-- ---- a text between the characters of another

pub length-between : (new text : List ℕ) → length new + (length text * length new + length text) ≡ length (between new text)
length-between new [] = omega (arith, zero-mul (length new))
length-between new (c ∷ text) =
    let e : length (new ++ (c ∷ between new text)) ≡ length new + suc (length (between new text)) = length-append new (c ∷ between new text) in
    omega (arith, e, suc-mul (length text) (length new), length-between new text)

pub spread_long : (new text : List ℕ) (fits : Bool) (len step most : ℕ) → len ≡ length text → step ≡ length new → step ≤ most
    → (fits ≡ true) ↔ (len * step + len ≤ most - step) → fits ≡ false → most < length (between new text)
spread_long new text fits len step most l s room test off =
    let over : most - step < len * step + len = too_long test off refl in
    let over2 : most - length new < length text * length new + length text = rw (l, s) at over in
    omega (arith, over2, rw s at room, length-between new text)

pub spread_fits : (new text : List ℕ) (fits : Bool) (len step most : ℕ) → len ≡ length text → step ≡ length new → step ≤ most
    → (fits ≡ true) ↔ (len * step + len ≤ most - step) → fits ≡ true → length (between new text) ≤ most
spread_fits new text fits len step most l s room test on =
    let within : len * step + len ≤ most - step = not_long test on refl in
    let within2 : length text * length new + length text ≤ most - length new = rw (l, s) at within in
    omega (arith, within2, rw s at room, length-between new text)

-- ---- a text in place of each occurrence of another

pub some_from_length : (xs : List ℕ) (n : ℕ) → n ≡ length xs → (n ≡ 0 → ⊥) → xs ≢ []
some_from_length xs n e some none = some (e ∙ ap length none)

pub some_bytes : (bs text : List ℕ) → chars bs ≡ text → text ≢ [] → bs ≢ []
some_bytes bs text e some none = some (sym e ∙ ap chars none ∙ chars-nil)

pub swapped_more : (old new text before behind : List ℕ) (all made once next : List ℕ) → old ≢ [] → IsFirstSplit old text before behind
    → all ≡ made ++ joined new (pieces old text) → once ≡ made ++ before → next ≡ once ++ new → all ≡ next ++ joined new (pieces old behind)
swapped_more old new text before behind all made once next some cut a o n =
    let step : joined new (pieces old text) ≡ before ++ (new ++ joined new (pieces old behind)) =
    ap (joined new) (pieces_cut old text before behind some cut) ∙ joined-cons new before (pieces old behind) (pieces_from-some old 0 behind) in
    a ∙ ap (λ t. made ++ t) step ∙ two_more made once next before new (joined new (pieces old behind)) o n

pub swapped_all : (old new text : List ℕ) (all made next : List ℕ) → first_place old text ≡ None
    → all ≡ made ++ joined new (pieces old text) → next ≡ made ++ text → next ≡ all
swapped_all old new text all made next none a n = n ∙ sym (a ∙ ap (λ t. made ++ joined new t) (pieces_uncut old text none))

pub replaced-nil : (old new text : List ℕ) → length old ≡ 0 → between new text ≡ replaced old new text
replaced-nil old new text e = rw (nil_from_length old e) refl

pub replaced-cons : (old new text : List ℕ) → old ≢ [] → joined new (pieces old text) ≡ replaced old new text
replaced-cons [] new text some = absurd (some refl)
replaced-cons (c ∷ old) new text some = refl

-- the characters of all of them
total : List (List ℕ) → ℕ
total [] = 0
total (text ∷ texts) = length text + total texts

length-joined : (sep text : List ℕ) (texts : List (List ℕ)) → length (joined sep (text ∷ texts)) ≡ total (text ∷ texts) + length texts * length sep
unfolding total
length-joined sep text [] = omega (arith, zero-mul (length sep))
length-joined sep text (next ∷ texts) =
    let outer : length (text ++ (sep ++ joined sep (next ∷ texts))) ≡ length text + length (sep ++ joined sep (next ∷ texts)) =
    length-append text (sep ++ joined sep (next ∷ texts)) in
    let inner : length (sep ++ joined sep (next ∷ texts)) ≡ length sep + length (joined sep (next ∷ texts)) =
    length-append sep (joined sep (next ∷ texts)) in
    omega (arith, outer, inner, suc-mul (length texts) (length sep), length-joined sep next texts)

swapped : (old new text : List ℕ) (texts : List (List ℕ)) (cuts : ℕ) → joined old texts ≡ text → length texts ≡ cuts + 1
    → (cuts * length old ≤ length text) × (cuts * length new + (length text - cuts * length old) ≡ length (joined new texts))
swapped old new text [] cuts whole n = absurd (omega arith)
swapped old new text (first ∷ texts) cuts whole n =
    let k : length texts ≡ cuts = omega arith in
    let a : length text ≡ total (first ∷ texts) + cuts * length old = sym (ap length whole) ∙ (rw (← k) (length-joined old first texts)) in
    let b : length (joined new (first ∷ texts)) ≡ total (first ∷ texts) + cuts * length new = rw (← k) (length-joined new first texts) in
    (omega (arith, a), omega (arith, a, b))

pub cuts_within : (old text : List ℕ) (cuts : ℕ) → old ≢ [] → length (pieces old text) ≡ cuts + 1 → cuts * length old ≤ length text
cuts_within old text cuts some n = (swapped old [] text (pieces old text) cuts (joined-pieces old text some) n).0

pub length-replaced : (old new text : List ℕ) (cuts : ℕ) → old ≢ [] → length (pieces old text) ≡ cuts + 1
    → cuts * length new + (length text - cuts * length old) ≡ length (replaced old new text)
length-replaced old new text cuts some n =
    (swapped old new text (pieces old text) cuts (joined-pieces old text some) n).1 ∙ ap length (replaced-cons old new text some)

-- how many of them there is room for
counted_texts : (texts : List (List ℕ)) → texts ≢ [] → (k : ℕ) × (length texts ≡ k + 1)
counted_texts [] some = absurd (some refl)
counted_texts (text ∷ texts) some = (length texts, sym (add-one (length texts)))

pos_from_some : (xs : List ℕ) → xs ≢ [] → 0 < length xs
pos_from_some [] some = absurd (some refl)
pos_from_some (x ∷ xs) some = omega arith

pub room_enough : (old new text : List ℕ) (len part step most : ℕ) → old ≢ [] → len ≡ length text → part ≡ length old → step ≡ length new
    → len / part * step + len ≤ most → length (replaced old new text) ≤ most
room_enough old new text len part step most some l p s room =
    let counted : (k : ℕ) × (length (pieces old text) ≡ k + 1) = counted_texts (pieces old text) (pieces_from-some old 0 text) in
    let k : ℕ = counted.0 in
    let n : length (pieces old text) ≡ k + 1 = counted.1 in
    let within : k * length old ≤ length text = cuts_within old text k some n in
    let most_cuts : k ≤ length text / length old = le-div k (length text) (length old) (pos_from_some old some) within in
    let most_new : k * length new ≤ length text / length old * length new = mul-le-mul most_cuts (omega arith) in
    let room2 : length text / length old * length new + length text ≤ most = rw (l, p, s) at room in
    omega (arith, room2, most_new, length-replaced old new text k some n)

-- ---- the laws

between-cut : (new text : List ℕ) → new ++ joined new (map (λ c. c ∷ []) text ++ [] ∷ []) ≡ between new text
between-cut new [] = append-nil new
between-cut new (c ∷ []) = ap (λ t. new ++ (c ∷ t)) (append-nil new)
between-cut new (c ∷ d ∷ text) = ap (λ t. new ++ (c ∷ t)) (between-cut new (d ∷ text))

cut_everywhere-some : (text : List ℕ) → map (λ c. c ∷ []) text ++ [] ∷ [] ≢ []
cut_everywhere-some [] e = cc e
cut_everywhere-some (c ∷ text) e = cc e

between-joined : (new text : List ℕ) → between new text ≡ joined new (cut_everywhere text)
between-joined new text =
    sym (joined-cons new [] (map (λ c. c ∷ []) text ++ [] ∷ []) (cut_everywhere-some text) ∙ between-cut new text)

pub replace_law : ReplaceLaw
replace_law old new text = (λ some. sym (replaced-cons old new text some), λ none. rw none (between-joined new text))

zeros_signed : (n sign : ℕ) (rest text : List ℕ) → text ≡ sign ∷ rest → is_sign sign ≡ true → zeros_behind n text ≡ sign ∷ (replicate n 48 ++ rest)
zeros_signed n sign rest text e on = rw (e, on) refl

zeros_unsigned : (n : ℕ) (text : List ℕ) → ((sign : ℕ) (rest : List ℕ) → text ≡ sign ∷ rest → is_sign sign ≡ false) → zeros_behind n text ≡ replicate n 48 ++ text
zeros_unsigned n [] off = sym (append-nil (replicate n 48))
zeros_unsigned n (c ∷ text) off = rw (off c text refl) refl

pub zeros_law : ZerosLaw
zeros_law zeros text = record {
  count = sym (length-zeros_behind zeros text);
  signed = λ sign rest e on. zeros_signed zeros sign rest text e on;
  unsigned = λ off. zeros_unsigned zeros text off;
}
