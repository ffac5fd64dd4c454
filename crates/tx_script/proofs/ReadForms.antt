-- Links and entries that are read from the front are those that the definitions pick, and give the same faults.
use Rattle.std.proofs.Common.{◌≡◌, ℕ, zero, suc, List, [], ◌∷◌, ◌++◌, map, Option, Some, None, option_map, Result, Ok, Err, refl, sym, ap, ◌∙◌, append_assoc, append-nil}
use Rattle.std.specs.Prelude.{slice_get, find, filter_map}
use Rattle.std.specs.Option.{option_or}
use Rattle.std.specs.List.{flat_map}
use Rattle.std.proofs.lemmas.List.Folds.{find-append}
use Rattle.std.proofs.lemmas.List.Elements.{filter_map-append}
use Rattle.tx_tree.specs.Tree.{BlockTree}
use Rattle.tx_script.specs.declared.fault.ScriptFault.{ScriptFault}
use Rattle.tx_script.specs.declared.fault.ScriptKind.{ScriptKind}
use Rattle.tx_script.specs.declared.fault.ScriptKind.TheVariants as kind
use Rattle.tx_script.specs.Written.{Part, Link, Entry}
use Rattle.tx_script.specs.Forms.{Place, places_of, link_at, entry_of}
use Rattle.tx_script.specs.Linked.{◌>>=◌, at}
use Rattle.tx_script.specs.Checks.{without_form, places_in, operator_fault}
use Rattle.tx_script.specs.Calls.Formed.{with_link, formed_behind, entries_behind}

abbrev ok_or : {A : Type 0} → Result A ScriptFault → A → A
ok_or (Ok x) d = x
ok_or (Err f) d = d

abbrev err_or : {A : Type 0} → Result A ScriptFault → ScriptFault → ScriptFault
err_or (Ok x) d = d
err_or (Err f) d = f

same_ok : {A : Type 0} (x y : A) → ◌≡◌ {A = Result A ScriptFault} (Ok x) (Ok y) → x ≡ y
same_ok {A = A} x y h = ap (λ (r : Result A ScriptFault). ok_or r x) h

same_err : {A : Type 0} (f g : ScriptFault) → ◌≡◌ {A = Result A ScriptFault} (Err f) (Err g) → f ≡ g
same_err {A = A} f g h = ap (λ (r : Result A ScriptFault). err_or r f) h

abbrev FromFront : List Link → List Place → List Link → Type 0
FromFront done ps ls = (find without_form ps ≡ None) × (ls ≡ done ++ filter_map link_at ps)

-- ---- links

link_step : (done ls : List Link) (line : ℕ) (o : Option Part) (ps : List Place) → ((d : List Link) → formed_behind d ps ≡ Ok ls → FromFront d ps ls)
    → with_link done line o >>= (λ d. formed_behind d ps) ≡ Ok ls → FromFront done ((line, o) ∷ ps) ls
link_step done ls line None ps on h = cc
link_step done ls line (Some part) ps on h =
    let rest : FromFront (done ++ (record { line = line; part = part }) ∷ []) ps ls = on (done ++ (record { line = line; part = part }) ∷ []) h in
    (rest.0, rest.1 ∙ append_assoc done ((record { line = line; part = part }) ∷ []) (filter_map link_at ps))

links_formed : (done ls : List Link) (ps : List Place) → formed_behind done ps ≡ Ok ls → FromFront done ps ls
links_formed done ls [] h = (refl, sym (same_ok done ls h) ∙ sym (append-nil done))
links_formed done ls (p ∷ ps) h = link_step done ls p.0 p.1 ps (λ d. links_formed d ls ps) h

abbrev fault_at : Option Place → Option ScriptFault
fault_at = option_map (λ p. at kind.Operator p.0)

link_fault_step : (done : List Link) (line : ℕ) (o : Option Part) (ps : List Place) (f : ScriptFault) → ((d : List Link) → formed_behind d ps ≡ Err f → fault_at (find without_form ps) ≡ Some f)
    → with_link done line o >>= (λ d. formed_behind d ps) ≡ Err f → fault_at (find without_form ((line, o) ∷ ps)) ≡ Some f
link_fault_step done line None ps f on h = ap Some (same_err {A = List Link} (at kind.Operator line) f h)
link_fault_step done line (Some part) ps f on h = on (done ++ (record { line = line; part = part }) ∷ []) h

links_fault : (done : List Link) (ps : List Place) (f : ScriptFault) → formed_behind done ps ≡ Err f → fault_at (find without_form ps) ≡ Some f
links_fault done [] f h = cc
links_fault done (p ∷ ps) f h = link_fault_step done p.0 p.1 ps f (λ d. links_fault d ps f) h

-- ---- entries

abbrev AreFormed : List Entry → List BlockTree → List Entry → Type 0
AreFormed done bs es = (find without_form (places_in bs) ≡ None) × (es ≡ done ++ map entry_of bs)

none_ahead : (ps qs : List Place) → find without_form ps ≡ None → find without_form (ps ++ qs) ≡ find without_form qs
none_ahead ps qs h = find-append without_form ps qs ∙ ap (λ o. option_or o (find without_form qs)) h

entry_step : (done es : List Entry) (b : BlockTree) (bs : List BlockTree) (r : Result (List Link) ScriptFault) → formed_behind [] (places_of b) ≡ r
    → ((d : List Entry) → entries_behind d bs ≡ Ok es → AreFormed d bs es)
    → (r >>= (λ links. Ok (done ++ (record { block = b; links = links }) ∷ []))) >>= (λ d. entries_behind d bs) ≡ Ok es → AreFormed done (b ∷ bs) es
entry_step done es b bs (Err f) e on h = cc
entry_step done es b bs (Ok ls) e on h =
    let links : FromFront [] (places_of b) ls = links_formed [] ls (places_of b) e in
    let rest : AreFormed (done ++ (record { block = b; links = ls }) ∷ []) bs es = on (done ++ (record { block = b; links = ls }) ∷ []) h in (
      none_ahead (places_of b) (places_in bs) links.0 ∙ rest.0,
      rest.1 ∙ append_assoc done ((record { block = b; links = ls }) ∷ []) (map entry_of bs) ∙ ap (λ l. done ++ (record { block = b; links = l }) ∷ map entry_of bs) links.1,
    )

entries_formed : (done es : List Entry) (bs : List BlockTree) → entries_behind done bs ≡ Ok es → AreFormed done bs es
entries_formed done es [] h = (refl, sym (same_ok done es h) ∙ sym (append-nil done))
entries_formed done es (b ∷ bs) h = entry_step done es b bs (formed_behind [] (places_of b)) refl (λ d. entries_formed d es bs) h

first_found : (o p : Option Place) (f : ScriptFault) → fault_at o ≡ Some f → fault_at (option_or o p) ≡ Some f
first_found None p f h = cc
first_found (Some x) p f h = h

entry_fault_step : (done : List Entry) (b : BlockTree) (bs : List BlockTree) (f : ScriptFault) (r : Result (List Link) ScriptFault) → formed_behind [] (places_of b) ≡ r
    → ((d : List Entry) → entries_behind d bs ≡ Err f → operator_fault bs ≡ Some f)
    → (r >>= (λ links. Ok (done ++ (record { block = b; links = links }) ∷ []))) >>= (λ d. entries_behind d bs) ≡ Err f → operator_fault (b ∷ bs) ≡ Some f
entry_fault_step done b bs f (Err g) e on h =
    ap fault_at (find-append without_form (places_of b) (places_in bs))
    ∙ first_found (find without_form (places_of b)) (find without_form (places_in bs)) f (links_fault [] (places_of b) g e ∙ ap Some (same_err {A = List Entry} g f h))
entry_fault_step done b bs f (Ok ls) e on h =
    ap fault_at (none_ahead (places_of b) (places_in bs) (links_formed [] ls (places_of b) e).0) ∙ on (done ++ (record { block = b; links = ls }) ∷ []) h

entries_fault_from : (done : List Entry) (bs : List BlockTree) (f : ScriptFault) → entries_behind done bs ≡ Err f → operator_fault bs ≡ Some f
entries_fault_from done [] f h = cc
entries_fault_from done (b ∷ bs) f h = entry_fault_step done b bs f (formed_behind [] (places_of b)) refl (λ d. entries_fault_from d bs f) h

-- ---- from the front of a script

pub all_formed : (bs : List BlockTree) (es : List Entry) → entries_behind [] bs ≡ Ok es → find without_form (places_in bs) ≡ None
all_formed bs es h = (entries_formed [] es bs h).0

pub formed_entries : (bs : List BlockTree) (es : List Entry) → entries_behind [] bs ≡ Ok es → es ≡ map entry_of bs
formed_entries bs es h = (entries_formed [] es bs h).1

pub form_fault : (bs : List BlockTree) (f : ScriptFault) → entries_behind [] bs ≡ Err f → operator_fault bs ≡ Some f
form_fault bs f h = entries_fault_from [] bs f h

-- ---- the links of a script are at its places

pub links_at_places : (bs : List BlockTree) → flat_map (λ e. e.links) (map entry_of bs) ≡ filter_map link_at (places_in bs)
links_at_places [] = refl
links_at_places (b ∷ bs) = ap (λ l. filter_map link_at (places_of b) ++ l) (links_at_places bs) ∙ sym (filter_map-append link_at (places_of b) (places_in bs))

abbrev SameLine : ScriptKind → List Place → ℕ → Type 0
SameLine k ps n = option_map (λ p. at k p.0) (slice_get ps n) ≡ option_map (λ x. at k x.line) (slice_get (filter_map link_at ps) n)

line_step : (k : ScriptKind) (line : ℕ) (o : Option Part) (ps : List Place) (n : ℕ) → ((m : ℕ) → find without_form ps ≡ None → SameLine k ps m)
    → find without_form ((line, o) ∷ ps) ≡ None → SameLine k ((line, o) ∷ ps) n
line_step k line None ps n on h = cc
line_step k line (Some part) ps zero on h = refl
line_step k line (Some part) ps (suc n) on h = on n h

-- where each place has a form, the link at a number has the line of the place there
pub lines_at_places : (k : ScriptKind) (ps : List Place) (n : ℕ) → find without_form ps ≡ None → SameLine k ps n
lines_at_places k [] n h = refl
lines_at_places k (p ∷ ps) n h = line_step k p.0 p.1 ps n (λ m. lines_at_places k ps m) h
