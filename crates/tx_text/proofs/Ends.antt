-- The ends of a text, and what is taken off them.
use Rattle.std.proofs.Common.{◌≡◌, ◌∙◌, ◌==◌, ◌+◌, ◌-◌, ◌<◌, ◌≤◌, ℕ, Bool, true, false, List, [], ◌∷◌, ◌++◌, reverse, length, get_or, take, drop, sym, refl, ap, arith, append_assoc, one-add, add-one, add-zero, eq-eqb, IsUtf8, MatchBool, None}
use Rattle.std.specs.List.{list_all, list_any, prefix_len, suffix_len}
use Rattle.std.specs.Str.{chars, NonePass}
use Rattle.std.specs.Str.Pattern.{HasMatch, FindsChar}
use Rattle.std.specs.Char.{encode_utf8}
use Rattle.std.specs.Prelude.{encode_utf8_all}
use Rattle.std.proofs.lemmas.Bool.{or_left, or_right, or_from}
use Rattle.std.proofs.lemmas.List.{length_push, take-append-drop, length-take, length-drop, get_or-take, get_or-drop, get_or-reverse, get_or_at, length-reverse, take_at, drop_at, length-append, append-nil}
use Rattle.std.proofs.lemmas.List.Sums.{prefix_len_passes, prefix_len_stops, suffix_len-le-length, list_all-from_AllPass}
use Rattle.std.proofs.lemmas.List.Folds.{length-prefix_len}
use Rattle.std.proofs.lemmas.Str.{encodes-chars, chars_from_encodes, cons_from_encodes, IsUtf8-drop, IsCharBoundary-from_take, chars_past_char, chars-nil, chars-append}
use Rattle.tx_text.specs.Text.{without_front, without_back}
use Rattle.tx_text.specs.Laws.{IsCleanBack, IsCleanFront, StripLaw}
use Rattle.tx_text.specs.declared.strip.Side.TheVariants.{Both, Left, Right}

-- ---- one character off the front

pub front_less : (p : ℕ → Bool) (xs more : List ℕ) (c : ℕ) → xs ≡ c ∷ more → p c ≡ true → without_front p xs ≡ without_front p more
front_less p xs more c e t = rw (e, t, one-add) refl

-- ---- the last character of a text

pub chars_before_char : (bs before : List ℕ) (c : ℕ) → IsUtf8 bs → IsUtf8 before → bs ≡ before ++ encode_utf8 c → chars bs ≡ chars before ++ c ∷ []
chars_before_char bs before c u v e =
    let n : ℕ = length before in
    let front : before ≡ take n bs = sym (ap (λ t. take n t) e ∙ take_at before (encode_utf8 c) n refl) in
    let back : drop n bs ≡ encode_utf8 c = ap (λ t. drop n t) e ∙ drop_at before (encode_utf8 c) n refl in
    let within : n ≤ length bs = omega (arith, length-append before (encode_utf8 c), ap length e) in
    let w : IsUtf8 (encode_utf8 c) = rw back at (IsUtf8-drop bs n u (IsCharBoundary-from_take bs n u within (rw front at v))) in
    let one : chars (encode_utf8 c) ≡ c ∷ [] = chars_past_char (encode_utf8 c) [] c w (sym (append-nil (encode_utf8 c))) ∙ ap (λ t. c ∷ t) chars-nil in
    ap chars e ∙ (chars-append before (encode_utf8 c) v ∙ ap (λ t. chars before ++ t) one)

-- ---- whether a text has a character

stands : (ds cs rest : List ℕ) (c : ℕ) → encode_utf8_all ds ≡ encode_utf8_all cs ++ (encode_utf8 c ++ rest) → list_any (λ d. d == c) ds ≡ true
stands ds [] rest c e =
    let (es, h, t) = cons_from_encodes ds rest c e in
    rw h (or_left (c == c) (list_any (λ d. d == c) es) (eq-eqb c c refl))
stands ds (x ∷ cs) rest c e =
    let (es, h, t) = cons_from_encodes ds (encode_utf8_all cs ++ (encode_utf8 c ++ rest)) x (e ∙ append_assoc (encode_utf8 x) (encode_utf8_all cs) (encode_utf8 c ++ rest)) in
    rw h (or_right (x == c) (list_any (λ d. d == c) es) (stands es cs rest c t))

none_any : (p : ℕ → Bool) (cs : List ℕ) → NonePass p cs → list_any p cs ≡ false
none_any p [] h = refl
none_any p (c ∷ cs) h = or_from (p c) (list_any p cs) h.0 (none_any p cs h.1)

-- the answer of `contains` at a character
pub contains_is : (s : List ℕ) (c : ℕ) (r : Bool) → IsUtf8 s → MatchBool r (HasMatch (FindsChar c) s) (FindsChar c s None) → r ≡ list_any (λ d. d == c) (chars s)
contains_is s c true u h =
    let (i, j, found, order, within) = h in
    let (cs, e, none) = found.0 in
    let whole : encode_utf8_all (chars s) ≡ encode_utf8_all cs ++ (encode_utf8 c ++ drop j s) =
    encodes-chars s u ∙ (sym (take-append-drop i s) ∙ (ap (λ t. t ++ drop i s) (sym e) ∙ ap (λ t. encode_utf8_all cs ++ t) found.1.split)) in
    sym (stands (chars s) cs (drop j s) c whole)
contains_is s c false u h =
    let (cs, e, none) = h in
    let same : cs ≡ chars s = chars_from_encodes cs s u e in
    sym (ap (λ t. list_any (λ d. d == c) t) (sym same) ∙ none_any (λ d. d == c) cs none)

-- ---- what is left has no such character at an end

front_all : (p : ℕ → Bool) (text : List ℕ) → list_all p (take (prefix_len p text) text) ≡ true
front_all p text =
    let n : ℕ = prefix_len p text in
    list_all-from_AllPass p (take n text) (λ k d h. let m : k < n = omega (arith, length-prefix_len p text) in ap p (get_or-take n text k d m) ∙ prefix_len_passes p text k d m)

-- the elements from the back that pass
from_back : (p : ℕ → Bool) (mid : List ℕ) (k d : ℕ) → k < suffix_len p mid → p (get_or (drop (length mid - suffix_len p mid) mid) k d) ≡ true
from_back p mid k d h =
    let s : ℕ = suffix_len p mid in
    let m : ℕ = length mid - s in
    let u : s ≤ length mid = suffix_len-le-length p mid in
    let j : ℕ = s - 1 - k in
    let e : length mid - 1 - j ≡ m + k = omega arith in
    let b : get_or (reverse mid) j d ≡ get_or mid (length mid - 1 - j) d = get_or-reverse mid j d (omega arith) in
    let same : get_or (drop m mid) k d ≡ get_or (reverse mid) j d = get_or-drop m mid k d ∙ (ap (λ i. get_or mid i d) (sym e) ∙ sym b) in
    ap p same ∙ prefix_len_passes p (reverse mid) j d (omega arith)

back_all : (p : ℕ → Bool) (mid : List ℕ) → list_all p (drop (length mid - suffix_len p mid) mid) ≡ true
back_all p mid =
    let m : ℕ = length mid - suffix_len p mid in
    list_all-from_AllPass p (drop m mid) (λ k d h. from_back p mid k d (omega (arith, length-drop m mid, suffix_len-le-length p mid)))

front_clean : (p : ℕ → Bool) (text rest : List ℕ) (m c : ℕ) → take m (without_front p text) ≡ c ∷ rest → p c ≡ false
front_clean p text rest m c e =
    let n : ℕ = prefix_len p text in
    let mid : List ℕ = drop n text in
    let l : length (take m mid) ≡ length rest + 1 = ap length e ∙ sym (add-one (length rest)) in
    let pos : 0 < m = omega (arith, length-take m mid) in
    let room : n < length text = omega (arith, length-take m mid, length-drop n text) in
    let a : get_or (take m mid) 0 c ≡ c = ap (λ t. get_or t 0 c) e in
    let b : get_or (take m mid) 0 c ≡ get_or mid 0 c = get_or-take m mid 0 c pos in
    let d : get_or mid 0 c ≡ get_or text n c = get_or-drop n text 0 c ∙ ap (λ i. get_or text i c) (add-zero n) in
    ap p (sym a ∙ (b ∙ d)) ∙ prefix_len_stops p text c room

back_clean : (p : ℕ → Bool) (mid rest : List ℕ) (c : ℕ) → without_back p mid ≡ rest ++ c ∷ [] → p c ≡ false
back_clean p mid rest c e =
    let s : ℕ = suffix_len p mid in
    let m : ℕ = length mid - s in
    let u : s ≤ length mid = suffix_len-le-length p mid in
    let l : length (take m mid) ≡ length rest + 1 = ap length e ∙ length_push rest c in
    let size : m ≡ length rest + 1 = omega (arith, length-take m mid) in
    let a : get_or (take m mid) (length rest) c ≡ c = ap (λ t. get_or t (length rest) c) e ∙ get_or_at rest c [] c (length rest) refl in
    let b : get_or (take m mid) (length rest) c ≡ get_or mid (length rest) c = get_or-take m mid (length rest) c (omega arith) in
    let at : length mid - 1 - s ≡ length rest = omega arith in
    let r : get_or (reverse mid) s c ≡ get_or mid (length mid - 1 - s) c = get_or-reverse mid s c (omega arith) in
    ap p (sym a ∙ (b ∙ (ap (λ i. get_or mid i c) (sym at) ∙ sym r))) ∙ prefix_len_stops p (reverse mid) c (omega (arith, length-reverse mid))

all_taken : (xs : List ℕ) → take (length xs) xs ≡ xs
all_taken [] = refl
all_taken (x ∷ xs) = ap (λ t. x ∷ t) (all_taken xs)

front_law : (p : ℕ → Bool) (text left : List ℕ) (m : ℕ) → left ≡ take m (without_front p text) → IsCleanFront p (take (prefix_len p text) text) left
front_law p text left m e = record { such = front_all p text; clean = λ c rest h. front_clean p text rest m c (sym e ∙ h) }

back_law : (p : ℕ → Bool) (mid : List ℕ) → IsCleanBack p (without_back p mid) (drop (length mid - suffix_len p mid) mid)
back_law p mid = record { such = back_all p mid; clean = λ rest c h. back_clean p mid rest c h }

pub strip_law : StripLaw
strip_law Both p text =
    let mid : List ℕ = without_front p text in
    record {
      front = take (prefix_len p text) text;
      back = drop (length mid - suffix_len p mid) mid;
      whole = sym (ap (λ t. take (prefix_len p text) text ++ t) (take-append-drop (length mid - suffix_len p mid) mid) ∙ take-append-drop (prefix_len p text) text);
      front_taken = front_law p text _ (length mid - suffix_len p mid) refl;
      back_taken = back_law p mid;
    }
strip_law Left p text = record {
  front = take (prefix_len p text) text;
  back = [];
  whole = sym (ap (λ t. take (prefix_len p text) text ++ t) (append-nil (without_front p text)) ∙ take-append-drop (prefix_len p text) text);
  front_taken = front_law p text _ (length (without_front p text)) (sym (all_taken (without_front p text)));
  back_taken = refl;
}
strip_law Right p text = record {
  front = [];
  back = drop (length text - suffix_len p text) text;
  whole = sym (take-append-drop (length text - suffix_len p text) text);
  front_taken = refl;
  back_taken = back_law p text;
}
