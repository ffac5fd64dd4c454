-- Records of one number of fields in one list of fields.
use Rattle.std.proofs.Common.{◌≡◌, ◌∙◌, ◌+◌, ◌*◌, ◌<◌, ◌≤◌, ◌-◌, true, ℕ, zero, suc, List, [], ◌∷◌, ◌++◌, Option, Some, None, length, take, drop, get_or, sym, refl, ap, arith, length-append, length-drop, zero-mul, zero-add, suc-add, drop-drop, slice_get}
use Rattle.std.proofs.lemmas.List.{take-append-le, drop-append-le, length-take, map-append, take_more}
use Rattle.std.proofs.lemmas.Bool.{and_from, and_parts}
use Rattle.std.proofs.lemmas.List.Folds.{list_all-append}
use Rattle.std.proofs.lemmas.Str.{IsUtf8-from_is_utf8}
use Rattle.std.specs.List.{list_all}
use Rattle.std.specs.Option.{option_and_then}
use Rattle.std.specs.Str.{IsUtf8, is_utf8}
use Rattle.std.specs.Prelude.{map, unwrap_or}
use Rattle.std.proofs.Math.Seq.{take-length}
use Rattle.tx_records.specs.Records.{Numbered}
use Rattle.tx_records.specs.Calls.Packed.{HoldsRecords, rows_from}

pub no_rows : (width : ℕ) (fields : List (List ℕ)) → rows_from width [] fields ≡ []
unfolding rows_from
no_rows width fields = refl

-- one record more
pub rows_more : (width n : ℕ) (ns : List ℕ) (fields row : List (List ℕ)) → length fields ≡ length ns * width → length row ≡ width
    → rows_from width (ns ++ n ∷ []) (fields ++ row) ≡ rows_from width ns fields ++ (n, row) ∷ []
unfolding rows_from
rows_more width n [] [] row e w = rw (← w, take-length row) refl
rows_more width n [] (f ∷ fs) row e w = absurd (omega (arith, e))
rows_more width n (m ∷ ns) fields row e w =
    let long : width ≤ length fields = grind (arith, e) in
    let rest : length (drop width fields) ≡ length ns * width = grind (arith, e, length-drop width fields) in
    rw (take-append-le width fields row long, drop-append-le width fields row long)
    (ap (λ t. (m, take width fields) ∷ t) (rows_more width n ns (drop width fields) row rest w))

one_more : (a w : ℕ) → a * w + w ≡ (a + 1) * w
one_more a w = grind arith

pub longer : (fields row : List (List ℕ)) (ns : List ℕ) (n width : ℕ) → length fields ≡ length ns * width → length row ≡ width → length (fields ++ row) ≡ length (ns ++ n ∷ []) * width
longer fields row ns n width e w =
    length-append fields row
    ∙ (ap (λ a. a + length row) e ∙ (ap (λ b. length ns * width + b) w ∙ (one_more (length ns) width ∙ ap (λ m. m * width) (sym (length-append ns (n ∷ []))))))

pub held_more : (fields row : List (List ℕ)) (ns : List ℕ) (n width : ℕ) → HoldsRecords width ns fields → length row ≡ width → list_all is_utf8 row ≡ true
    → HoldsRecords width (ns ++ n ∷ []) (fields ++ row)
held_more fields row ns n width h w t = record {
  count = longer fields row ns n width h.count w;
  text = list_all-append is_utf8 fields row ∙ and_from (list_all is_utf8 fields) (list_all is_utf8 row) h.text t;
}

-- the records one by one
pub length_rows : (width : ℕ) (ns : List ℕ) (fields : List (List ℕ)) → length (rows_from width ns fields) ≡ length ns
unfolding rows_from
length_rows width [] fields = refl
length_rows width (n ∷ ns) fields = ap suc (length_rows width ns (drop width fields))

pub row_at : (width : ℕ) (ns : List ℕ) (fields : List (List ℕ)) (row : ℕ) → row < length ns
    → slice_get (rows_from width ns fields) row ≡ Some (get_or ns row 0, take width (drop (row * width) fields))
unfolding rows_from
row_at width [] fields row l = absurd (omega (arith, l))
row_at width (n ∷ ns) fields zero l = rw (zero-mul width) refl
row_at width (n ∷ ns) fields (suc row) l =
    let place : width + row * width ≡ suc row * width = grind arith in
    row_at width ns (drop width fields) row (omega (arith, l))
    ∙ ap (λ xs. Some (get_or ns row 0, take width xs)) (drop-drop (row * width) width fields ∙ ap (λ k. drop k fields) place)

pub row_none : (width : ℕ) (ns : List ℕ) (fields : List (List ℕ)) (row : ℕ) → length ns ≤ row → slice_get (rows_from width ns fields) row ≡ None
unfolding rows_from
row_none width [] fields row l = refl
row_none width (n ∷ ns) fields zero l = absurd (omega (arith, l))
row_none width (n ∷ ns) fields (suc row) l = row_none width ns (drop width fields) row (omega (arith, l))

-- a field of a record
take_at : (w : ℕ) (fs : List (List ℕ)) (i : ℕ) → i < w → slice_get (take w fs) i ≡ slice_get fs i
take_at zero fs i l = absurd (omega (arith, l))
take_at (suc w) [] i l = refl
take_at (suc w) (f ∷ fs) zero l = refl
take_at (suc w) (f ∷ fs) (suc i) l = take_at w fs i (omega (arith, l))

drop_at : (n : ℕ) (fs : List (List ℕ)) (i : ℕ) → slice_get (drop n fs) i ≡ slice_get fs (n + i)
drop_at zero fs i = rw (zero-add i) refl
drop_at (suc n) [] i = refl
drop_at (suc n) (f ∷ fs) i = rw (suc-add n i) (drop_at n fs i)

pub cell_at : (w : ℕ) (fs : List (List ℕ)) (row column : ℕ) → column < w → slice_get (take w (drop (row * w) fs)) column ≡ slice_get fs (row * w + column)
cell_at w fs row column l = take_at w (drop (row * w) fs) column l ∙ drop_at (row * w) fs column

pub none_kept : (w : ℕ) (ns : List ℕ) (fields : List (List ℕ)) (all : List Numbered) → ns ≡ [] → all ≡ rows_from w ns fields ++ all
none_kept w ns fields all e = rw e (ap (λ t. t ++ all) (sym (no_rows w fields)))

pub none_held : (w : ℕ) (ns : List ℕ) (fields : List (List ℕ)) → ns ≡ [] → fields ≡ [] → HoldsRecords w ns fields
none_held w ns fields e f = record {
  count = rw (e, f) (sym (zero-mul w));
  text = rw f refl;
}

pub held_by : (fields : List (List ℕ)) (ns : List ℕ) (names given : List (List ℕ)) (w : ℕ) → names ≡ given → w ≡ length given → HoldsRecords w ns fields → HoldsRecords (length names) ns fields
held_by fields ns names given w e h k = record {
  count = k.count ∙ ap (λ m. length ns * m) (h ∙ ap length (sym e));
  text = k.text;
}

pub none_from : (w : ℕ) (ns : List ℕ) (fields : List (List ℕ)) → ns ≡ [] → rows_from w ns fields ≡ []
none_from w ns fields e = rw e (no_rows w fields)

-- ---- what `RawRows` answers

slice_past : (fs : List (List ℕ)) (i : ℕ) → length fs ≤ i → slice_get fs i ≡ None
slice_past [] i l = refl
slice_past (f ∷ fs) zero l = absurd (omega (arith, l))
slice_past (f ∷ fs) (suc i) l = slice_past fs i (omega (arith, l))

abbrev pub field_by : ℕ → Option Numbered → Option (List ℕ)
field_by column o = option_and_then (λ numbered. slice_get numbered.1 column) o

pub field_found : (w : ℕ) (ns : List ℕ) (fs : List (List ℕ)) (row column : ℕ) (f : List ℕ) → row < length ns → column < w → slice_get fs (row * w + column) ≡ Some f
    → f ≡ unwrap_or (field_by column (slice_get (rows_from w ns fs) row)) []
field_found w ns fs row column f l k e =
    sym (ap (λ o. unwrap_or (field_by column o) []) (row_at w ns fs row l) ∙ ap (λ o. unwrap_or o []) (cell_at w fs row column k ∙ e))

pub column_past : (w : ℕ) (ns : List ℕ) (fs : List (List ℕ)) (row column : ℕ) → row < length ns → w ≤ column → unwrap_or (field_by column (slice_get (rows_from w ns fs) row)) [] ≡ []
column_past w ns fs row column l k =
    let past : slice_get (take w (drop (row * w) fs)) column ≡ None = slice_past (take w (drop (row * w) fs)) column (omega (arith, k, length-take w (drop (row * w) fs))) in
    ap (λ o. unwrap_or (field_by column o) []) (row_at w ns fs row l) ∙ ap (λ o. unwrap_or o []) past

pub row_past : (w : ℕ) (ns : List ℕ) (fs : List (List ℕ)) (row column : ℕ) → length ns ≤ row → unwrap_or (field_by column (slice_get (rows_from w ns fs) row)) [] ≡ []
row_past w ns fs row column l = ap (λ o. unwrap_or (field_by column o) []) (row_none w ns fs row l)

pub place_within : (w n row column total : ℕ) → total ≡ n * w → row < n → column < w → row * w + column < total
place_within w n row column total e l k = grind (arith, e, l, k)

-- a field that the records hold is UTF-8
pub text_at : (fs : List (List ℕ)) (i : ℕ) (f : List ℕ) → list_all is_utf8 fs ≡ true → slice_get fs i ≡ Some f → IsUtf8 f
text_at [] i f e h = cc h
text_at (x ∷ fs) zero f e h =
    let same : x ≡ f = cc in
    rw (← same) (IsUtf8-from_is_utf8 x (and_parts (is_utf8 x) (list_all is_utf8 fs) e).0)
text_at (x ∷ fs) (suc i) f e h = text_at fs i f (and_parts (is_utf8 x) (list_all is_utf8 fs) e).1 h

-- the record at a place
get_is : (rs : List Numbered) (i : ℕ) (r d : Numbered) → slice_get rs i ≡ Some r → get_or rs i d ≡ r
get_is [] i r d e = cc e
get_is (x ∷ rs) zero r d e = cc e
get_is (x ∷ rs) (suc i) r d e = get_is rs i r d e

pub at_place : (w : ℕ) (ns : List ℕ) (fs : List (List ℕ)) (row : ℕ) → row < length ns → get_or (rows_from w ns fs) row (0, []) ≡ (get_or ns row 0, take w (drop (row * w) fs))
at_place w ns fs row l = get_is (rows_from w ns fs) row _ (0, []) (row_at w ns fs row l)

pub wide_at : (w : ℕ) (ns : List ℕ) (fs : List (List ℕ)) (row : ℕ) → length fs ≡ length ns * w → row < length ns → length (get_or (rows_from w ns fs) row (0, [])).1 ≡ w
wide_at w ns fs row e l =
    let size : length (drop (row * w) fs) ≡ length ns * w - row * w = rw e at (length-drop (row * w) fs) in
    let room : w ≤ length ns * w - row * w = grind (arith, l) in
    ap (λ p. length p.1) (at_place w ns fs row l) ∙ omega (arith, size, room, length-take w (drop (row * w) fs))

some_at : (rs : List Numbered) (i : ℕ) (d : Numbered) → i < length rs → slice_get rs i ≡ Some (get_or rs i d)
some_at [] i d l = absurd (omega (arith, l))
some_at (r ∷ rs) zero d l = refl
some_at (r ∷ rs) (suc i) d l = some_at rs i d (omega (arith, l))

or_is : (fs : List (List ℕ)) (i : ℕ) → unwrap_or (slice_get fs i) [] ≡ get_or fs i []
or_is [] i = refl
or_is (f ∷ fs) zero = refl
or_is (f ∷ fs) (suc i) = or_is fs i

pub field_at_place : (rs : List Numbered) (row column : ℕ) → row < length rs → unwrap_or (field_by column (slice_get rs row)) [] ≡ get_or (get_or rs row (0, [])).1 column []
field_at_place rs row column l = ap (λ o. unwrap_or (field_by column o) []) (some_at rs row (0, []) l) ∙ or_is (get_or rs row (0, [])).1 column

-- one value more
pub value_more : {V : Type 0} (value : List ℕ → V) (r : List (List ℕ)) (i : ℕ) (f : List ℕ) (now next : List V) → i < length r → f ≡ get_or r i []
    → now ≡ map value (take i r) → next ≡ now ++ value f ∷ [] → next ≡ map value (take (i + 1) r)
value_more value r i f now next l e h n =
    n ∙ (ap (λ t. t ++ value f ∷ []) h ∙ (ap (λ x. map value (take i r) ++ value x ∷ []) e
    ∙ (sym (map-append value (take i r) (get_or r i [] ∷ [])) ∙ ap (map value) (sym (take_more r i [] l)))))

pub number_at : (w : ℕ) (ns : List ℕ) (fs : List (List ℕ)) (row d : ℕ) → row < length ns → (get_or (rows_from w ns fs) row (0, [])).0 ≡ get_or ns row d
unfolding rows_from
number_at w [] fs row d l = absurd (omega (arith, l))
number_at w (n ∷ ns) fs zero d l = refl
number_at w (n ∷ ns) fs (suc row) d l = number_at w ns (drop w fs) row d (omega (arith, l))
