-- Names that are added to others, and the files that outputs are held against.
use Rattle.std.proofs.Common.{◌≡◌, Bool, true, false, ◌||◌, if◌then◌else◌, List, [], ◌∷◌, ◌++◌, Option, Some, None, refl, sym, ap, ◌∙◌, subst}
use Rattle.std.specs.List.{flat_map, cons_option}
use Rattle.std.specs.Cmp.Lexicographic.{bytes_decides}
use Rattle.tx_tree.specs.Words.{same_text}
use Rattle.tx_name_set.specs.NameSet.{is_in, add, add_all}
use Rattle.tx_names.specs.Scope.{Text}
use Rattle.tx_names.specs.Faults.{first_some}
use Rattle.tx_script.specs.declared.fault.ScriptFault.{ScriptFault}
use Rattle.tx_script.specs.declared.fault.ScriptKind.TheVariants as kind
use Rattle.tx_script.specs.Written.{Link, Entry}
use Rattle.tx_script.specs.Linked.{at}
use Rattle.tx_script.specs.Checks.{when, source_in, output_in, report_suffix, overwrites_by, overwriting, output_is_input}
use Rattle.tx_script.specs.Calls.Files.{sources_in, entry_sources, overwriting_each}
use Rattle.tx_script.proofs.Reserved.{both_in}

pub or_nothing : (b : Bool) → (b || false) ≡ b
or_nothing true = refl
or_nothing false = refl

or_assoc : (a b c : Bool) → ((a || b) || c) ≡ (a || (b || c))
or_assoc true b c = refl
or_assoc false b c = refl

no_truth : false ≡ true → ⊥
no_truth e = cc

or_known : (a c : Bool) → (c ≡ true → a ≡ true) → a ≡ (a || c)
or_known true c h = refl
or_known false true h = absurd (no_truth (h refl))
or_known false false h = refl

pub added : (met : List Text) (m n : Text) → is_in (add met m) n ≡ (is_in met n || same_text n m)
added met m n = by_test (is_in met m) refl
  where
    by_test : (b : Bool) → is_in met m ≡ b → is_in (if b then met else met ++ m ∷ []) n ≡ (is_in met n || same_text n m)
    by_test true e = or_known (is_in met n) (same_text n m) (λ h. subst (λ (x : Text). is_in met x ≡ true) (sym ((bytes_decides n m).0 h)) e)
    by_test false e = both_in met (m ∷ []) n ∙ ap (λ b. is_in met n || b) (or_nothing (same_text n m))

all_added : (met ns : List Text) (n : Text) → is_in (add_all met ns) n ≡ (is_in met n || is_in ns n)
all_added met [] n = sym (or_nothing (is_in met n))
all_added met (m ∷ ns) n = all_added (add met m) ns n ∙ ap (λ b. b || is_in ns n) (added met m n) ∙ or_assoc (is_in met n) (same_text n m) (is_in ns n)

pub add_each : (met a b : List Text) → add_all met (a ++ b) ≡ add_all (add_all met a) b
add_each met [] b = refl
add_each met (n ∷ a) b = add_each (add met n) a b

-- ---- outputs held against the same files

module _ (fs gs : List Text) (same : (n : Text) → is_in fs n ≡ is_in gs n) where
  same_output : (o : Option Text) → overwrites_by fs o ≡ overwrites_by gs o
  same_output None = refl
  same_output (Some o) = ap (λ b. b || is_in fs (o ++ report_suffix)) (same o) ∙ ap (λ b. is_in gs o || b) (same (o ++ report_suffix))

  same_files : (xs : List Link) → overwriting fs xs ≡ overwriting gs xs
  same_files [] = refl
  same_files (x ∷ xs) =
      ap (λ b. first_some (when b (at kind.OutputIsInput x.line)) (overwriting fs xs)) (same_output (output_in x.part))
      ∙ ap (λ o. first_some (when (overwrites_by gs (output_in x.part)) (at kind.OutputIsInput x.line)) o) (same_files xs)

-- ---- links of blocks

first_assoc : (a b c : Option ScriptFault) → first_some a (first_some b c) ≡ first_some (first_some a b) c
first_assoc None b c = refl
first_assoc (Some x) b c = refl

overwriting-append : (fs : List Text) (xs ys : List Link) → overwriting fs (xs ++ ys) ≡ first_some (overwriting fs xs) (overwriting fs ys)
overwriting-append fs [] ys = refl
overwriting-append fs (x ∷ xs) ys =
    ap (λ o. first_some (when (overwrites_by fs (output_in x.part)) (at kind.OutputIsInput x.line)) o) (overwriting-append fs xs ys)
    ∙ first_assoc _ (overwriting fs xs) (overwriting fs ys)

each_is : (fs : List Text) (es : List Entry) → overwriting_each fs es ≡ overwriting fs (flat_map (λ e. e.links) es)
each_is fs [] = refl
each_is fs (e ∷ es) = ap (λ o. first_some (overwriting fs e.links) o) (each_is fs es) ∙ sym (overwriting-append fs e.links (flat_map (λ d. d.links) es))

cons_is : (o : Option Text) (xs ys : List Text) → cons_option o (xs ++ ys) ≡ cons_option o xs ++ ys
cons_is None xs ys = refl
cons_is (Some t) xs ys = refl

sources-append : (xs ys : List Link) → sources_in (xs ++ ys) ≡ sources_in xs ++ sources_in ys
sources-append [] ys = refl
sources-append (x ∷ xs) ys = ap (λ l. cons_option (source_in x.part) l) (sources-append xs ys) ∙ cons_is (source_in x.part) (sources_in xs) (sources_in ys)

sources_are : (es : List Entry) → flat_map entry_sources es ≡ sources_in (flat_map (λ e. e.links) es)
sources_are [] = refl
sources_are (e ∷ es) = ap (λ l. sources_in e.links ++ l) (sources_are es) ∙ sym (sources-append e.links (flat_map (λ d. d.links) es))

pub files_are : (own : Text) (es : List Entry) (fs : List Text) → fs ≡ add_all [] (own ∷ flat_map entry_sources es) → overwriting_each fs es ≡ output_is_input own es
files_are own es fs e =
    each_is fs es
    ∙ ap (λ l. overwriting l (flat_map (λ d. d.links) es)) e
    ∙ same_files (add_all [] (own ∷ flat_map entry_sources es)) (own ∷ flat_map entry_sources es) (λ n. all_added [] (own ∷ flat_map entry_sources es) n) (flat_map (λ d. d.links) es)
    ∙ ap (λ l. overwriting (own ∷ l) (flat_map (λ d. d.links) es)) (sources_are es)
