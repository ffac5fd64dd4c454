-- The good and the faulty records, one after the other.
use Rattle.std.proofs.Common.{◌≡◌, ◌∙◌, ◌==◌, ◌+◌, ℕ, Bool, true, false, not, List, [], ◌∷◌, ◌++◌, Option, Some, None, if◌then◌else◌, length, refl, sym, ap, append_assoc, append-nil}
use Rattle.std.specs.List.{enumerate_from, list_all, list_any}
use Rattle.std.specs.Option.{is_some}
use Rattle.std.specs.Str.{is_utf8}
use Rattle.std.proofs.lemmas.Bool.{and_from, eqb-true, not-false, or_parts}
use Rattle.std.proofs.lemmas.Grind.{flat_map-append}
use Rattle.std.proofs.lemmas.List.Elements.{filter-append}
use Rattle.tx_base.specs.declared.class.Class.{Class}
use Rattle.tx_base.specs.declared.class.Class.TheVariants.{RecordError, UnicodeDecodeError}
use Rattle.tx_report.specs.declared.report.Entry.{Entry}
use Rattle.tx_records.specs.Source.{kept_source, source_by}
use Rattle.tx_records.specs.Calls.Packed.{rows_from}
use Rattle.tx_records.specs.declared.dialect.Dialect.{Dialect}
use Rattle.tx_records.specs.Records.{Numbered, Record, entry_of, fault_of, faults_in, good_in, is_good, is_no_text, is_too_long, raised_by}

-- ---- one record

pub good_none : (w n : ℕ) (f : Record) → raised_by w f ≡ None → good_in w ((n, f) ∷ []) ≡ (n, f) ∷ []
good_none w n f e = ap (λ o. if not (is_some o) then (n, f) ∷ [] else []) e

pub good_some : (w n : ℕ) (f : Record) (class : Class) → raised_by w f ≡ Some class → good_in w ((n, f) ∷ []) ≡ []
good_some w n f class e = ap (λ o. if not (is_some o) then (n, f) ∷ [] else []) e

pub faults_none : (operator w n : ℕ) (f : Record) → raised_by w f ≡ None → faults_in operator w ((n, f) ∷ []) ≡ []
faults_none operator w n f e = ap (λ o. fault_of operator n o ++ []) e

pub faults_some : (operator w n : ℕ) (f : Record) (class : Class) → raised_by w f ≡ Some class → faults_in operator w ((n, f) ∷ []) ≡ entry_of operator n class ∷ []
faults_some operator w n f class e = ap (λ o. fault_of operator n o ++ []) e

wide_by : (b : Bool) (o : Option Class) → (if not b then Some RecordError else o) ≡ None → b ≡ true
wide_by true o e = refl
wide_by false o e = cc e

-- a good record has the number of fields that there are columns
pub wide : (w : ℕ) (f : Record) → raised_by w f ≡ None → length f ≡ w
wide w f e = eqb-true (length f) w (wide_by (length f == w) _ e)

text_by : (wide long bad : Bool) → (if not wide then Some RecordError else if long then Some RecordError else if bad then Some UnicodeDecodeError else None) ≡ None → bad ≡ false
text_by true false false e = refl
text_by true false true e = cc e
text_by true true bad e = cc e
text_by false long bad e = cc e

all_text : (f : Record) → list_any is_no_text f ≡ false → list_all is_utf8 f ≡ true
all_text [] e = refl
all_text (x ∷ xs) e =
    let parts = or_parts (is_no_text x) (list_any is_no_text xs) e in
    and_from (is_utf8 x) (list_all is_utf8 xs) (not-false (is_utf8 x) parts.0) (all_text xs parts.1)

-- and its fields are UTF-8
pub text : (w : ℕ) (f : Record) → raised_by w f ≡ None → list_all is_utf8 f ≡ true
text w f e = all_text f (text_by (length f == w) (list_any is_too_long f) (list_any is_no_text f) e)

-- ---- all records

pub good_step : (w n : ℕ) (f : Record) (left old : List Record) (all rows next : List Numbered) → old ≡ f ∷ left
    → all ≡ rows ++ good_in w (enumerate_from n old) → next ≡ rows ++ good_in w ((n, f) ∷ []) → all ≡ next ++ good_in w (enumerate_from (n + 1) left)
good_step w n f left old all rows next e h k =
    let rest = good_in w (enumerate_from (n + 1) left) in
    h ∙ (ap (λ o. rows ++ good_in w (enumerate_from n o)) e
    ∙ (ap (λ t. rows ++ t) (filter-append (is_good w) ((n, f) ∷ []) (enumerate_from (n + 1) left))
    ∙ (sym (append_assoc rows (good_in w ((n, f) ∷ [])) rest) ∙ ap (λ t. t ++ rest) (sym k))))

pub faults_step : (operator w n : ℕ) (f : Record) (left old : List Record) (all faults next : List Entry) → old ≡ f ∷ left
    → all ≡ faults ++ faults_in operator w (enumerate_from n old) → next ≡ faults ++ faults_in operator w ((n, f) ∷ []) → all ≡ next ++ faults_in operator w (enumerate_from (n + 1) left)
faults_step operator w n f left old all faults next e h k =
    let rest = faults_in operator w (enumerate_from (n + 1) left) in
    h ∙ (ap (λ o. faults ++ faults_in operator w (enumerate_from n o)) e
    ∙ (ap (λ t. faults ++ t) (flat_map-append (λ (r : Numbered). fault_of operator r.0 (raised_by w r.1)) ((n, f) ∷ []) (enumerate_from (n + 1) left))
    ∙ (sym (append_assoc faults (faults_in operator w ((n, f) ∷ [])) rest) ∙ ap (λ t. t ++ rest) (sym k))))

-- at the end nothing is left
pub good_end : (w n : ℕ) (left : List Record) (all rows : List Numbered) → left ≡ [] → all ≡ rows ++ good_in w (enumerate_from n left) → rows ≡ all
good_end w n left all rows e h = sym (h ∙ (ap (λ o. rows ++ good_in w (enumerate_from n o)) e ∙ append-nil rows))

pub faults_end : (operator w n : ℕ) (left : List Record) (all faults : List Entry) → left ≡ [] → all ≡ faults ++ faults_in operator w (enumerate_from n left) → faults ≡ all
faults_end operator w n left all faults e h = sym (h ∙ (ap (λ o. faults ++ faults_in operator w (enumerate_from n o)) e ∙ append-nil faults))

pub same_source : (d : Dialect) (operator : ℕ) (names n2 : Record) (good g2 : List Numbered) (faults f2 : List Entry) → names ≡ n2 → good ≡ g2 → faults ≡ f2
    → kept_source d operator names good faults ≡ kept_source d operator n2 g2 f2
same_source d operator names n2 good g2 faults f2 e h k =
    ap (λ x. kept_source d operator x good faults) e ∙ (ap (λ x. kept_source d operator n2 x faults) h ∙ ap (λ x. kept_source d operator n2 g2 x) k)

pub none_added : (faults all : List Entry) → faults ≡ [] → all ≡ faults ++ all
none_added faults all e = ap (λ t. t ++ all) (sym e)

-- what was kept is what all records give
pub kept_at : (d : Dialect) (operator : ℕ) (names given : Record) (w : ℕ) (ns : List ℕ) (fields : List (List ℕ)) (faults : List Entry) (all : List Record) → names ≡ given → w ≡ length given
    → rows_from w ns fields ≡ good_in w (enumerate_from 1 all) → faults ≡ faults_in operator w (enumerate_from 1 all)
    → kept_source d operator names (rows_from (length names) ns fields) faults ≡ source_by d operator given all
kept_at d operator names given w ns fields faults all e h good fault =
    let same : length names ≡ w = ap length e ∙ sym h in
    same_source d operator names given (rows_from (length names) ns fields) (good_in (length given) (enumerate_from 1 all)) faults (faults_in operator (length given) (enumerate_from 1 all)) e
    (ap (λ m. rows_from m ns fields) same ∙ (good ∙ ap (λ m. good_in m (enumerate_from 1 all)) h))
    (fault ∙ ap (λ m. faults_in operator m (enumerate_from 1 all)) h)
