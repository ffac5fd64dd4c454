-- Fields in one buffer.
use Rattle.std.proofs.Common.{◌≡◌, ◌∙◌, ◌+◌, ◌-◌, ◌<◌, ◌≤◌, ℕ, zero, suc, Bool, true, false, append_assoc, List, [], ◌∷◌, ◌++◌, Some, length, take, drop, get_or, sym, refl, ap, arith, length-append, slice_get}
use Rattle.std.proofs.lemmas.List.{take_more}
use Rattle.std.proofs.lemmas.List.Folds.{list_any_at, list_any_more}
use Rattle.std.proofs.lemmas.Bool.{or_from}
use Rattle.std.specs.List.{list_any}
use Rattle.csv.specs.Records.{Rising, cut_from, field_at, last_end, prev}
use Rattle.csv.proofs.RecordFacts.{cut-end, cut-length, cut-more, field-bounds, field-cut, field-get, last-append, rising-end, rising-more}

behind : (xs ys : List ℕ) → drop (length xs) (xs ++ ys) ≡ ys
behind [] ys = refl
behind (x ∷ xs) ys = behind xs ys

-- one field more
pub pushed : (ends bytes field : List ℕ) (end : ℕ) → Rising 0 ends (length bytes) → last_end 0 ends ≡ length bytes → end ≡ length bytes + length field
    → cut_from 0 (ends ++ end ∷ []) (bytes ++ field) ≡ cut_from 0 ends bytes ++ field ∷ []
pushed ends bytes field end rising last e =
    let size : length (bytes ++ field) ≡ end = length-append bytes field ∙ sym e in
    let longer : Rising 0 ends (length (bytes ++ field)) = rising-more 0 ends (length bytes) (length (bytes ++ field)) rising (omega (arith, length-append bytes field)) in
    ap (λ n. cut_from 0 (ends ++ n ∷ []) (bytes ++ field)) (sym size)
    ∙ (cut-end 0 ends (bytes ++ field) longer
    ∙ (ap (λ t. t ++ drop (last_end 0 ends) (bytes ++ field) ∷ []) (cut-more 0 ends bytes field rising)
    ∙ (ap (λ n. cut_from 0 ends bytes ++ drop n (bytes ++ field) ∷ []) last ∙ ap (λ f. cut_from 0 ends bytes ++ f ∷ []) (behind bytes field))))

pub pushed_rising : (ends bytes field : List ℕ) (end : ℕ) → Rising 0 ends (length bytes) → end ≡ length bytes + length field
    → Rising 0 (ends ++ end ∷ []) (length (bytes ++ field))
pushed_rising ends bytes field end rising e =
    let size : length (bytes ++ field) ≡ end = length-append bytes field ∙ sym e in
    rw (← size) (rising-end 0 ends (length (bytes ++ field)) (rising-more 0 ends (length bytes) (length (bytes ++ field)) rising (omega (arith, length-append bytes field))))

pub pushed_last : (ends bytes field : List ℕ) (end : ℕ) → end ≡ length bytes + length field → last_end 0 (ends ++ end ∷ []) ≡ length (bytes ++ field)
pushed_last ends bytes field end e = last-append 0 ends end ∙ (e ∙ sym (length-append bytes field))

-- a field by its place
pub at_is : (fs : List (List ℕ)) (i : ℕ) → field_at fs i ≡ slice_get fs i
unfolding field_at
at_is [] i = refl
at_is (f ∷ fs) zero = refl
at_is (f ∷ fs) (suc i) = at_is fs i

pub count_is : (ends bytes : List ℕ) → length (cut_from 0 ends bytes) ≡ length ends
count_is ends bytes = cut-length 0 ends bytes

pub found : (ends bytes : List ℕ) (i : ℕ) → i < length ends → slice_get (cut_from 0 ends bytes) i ≡ Some (take (get_or ends i 0 - prev 0 ends i) (drop (prev 0 ends i) bytes))
found ends bytes i l = sym (at_is (cut_from 0 ends bytes) i) ∙ field-cut 0 ends bytes i l

pub start_bounds : (ends bytes : List ℕ) (i : ℕ) → Rising 0 ends (length bytes) → i < length ends → (prev 0 ends i ≤ get_or ends i 0) × (get_or ends i 0 ≤ length bytes)
start_bounds ends bytes i rising l = field-bounds 0 ends (length bytes) i rising l

-- a test over the fields of a record, one after the other
pub any_at : (p : List ℕ → Bool) (fs : List (List ℕ)) (f : List ℕ) (i : ℕ) → i < length fs → field_at fs i ≡ Some f → p f ≡ true → list_any p fs ≡ true
any_at p fs f i l at e = list_any_at p fs i [] l (ap p (field-get fs i f at) ∙ e)

pub any_more : (p : List ℕ → Bool) (fs : List (List ℕ)) (f : List ℕ) (i : ℕ) → i < length fs → field_at fs i ≡ Some f
    → list_any p (take i fs) ≡ false → p f ≡ false → list_any p (take (i + 1) fs) ≡ false
any_more p fs f i l at none e = list_any_more p fs i [] l ∙ or_from (list_any p (take i fs)) (p (get_or fs i [])) none (ap p (field-get fs i f at) ∙ e)

-- one field of a record more
pub field_more : (now next old fs : List (List ℕ)) (f : List ℕ) (i : ℕ) → i < length fs → field_at fs i ≡ Some f
    → now ≡ old ++ take i fs → next ≡ now ++ f ∷ [] → next ≡ old ++ take (i + 1) fs
field_more now next old fs f i l at e n =
    n ∙ (ap (λ t. t ++ f ∷ []) e ∙ (append_assoc old (take i fs) (f ∷ [])
    ∙ ap (λ t. old ++ t) (ap (λ x. take i fs ++ x ∷ []) (sym (field-get fs i f at)) ∙ sym (take_more fs i [] l))))
