-- The last link of a chain and the last block of a script.
use Rattle.std.proofs.Common.{◌≡◌, List, [], ◌∷◌, ◌++◌, Option, Some, None, map, refl, ap, ◌∙◌}
use Rattle.std.proofs.lemmas.List.{map-append}
use Rattle.tx_names.specs.Faults.{first_some}
use Rattle.tx_script.specs.declared.fault.ScriptFault.{ScriptFault}
use Rattle.tx_script.specs.declared.fault.ScriptKind.TheVariants as kind
use Rattle.tx_script.specs.Written.{Link, Entry}
use Rattle.tx_script.specs.Linked.{at}
use Rattle.tx_script.specs.Checks.{when, writes, end_in, ends_in_output, end_ahead, last_fault, inner_fault, no_end}
use Rattle.tx_script.specs.Calls.Ends.{inner_faults}
use Rattle.tx_script.specs.declared.written.Link as declared_link
use Rattle.tx_script.specs.declared.written.Entry as declared_entry
use Rattle.tx_script.specs.Calls.View.{link_of, entry_view}

pub last_writes : (xs : List Link) (x : Link) → ends_in_output (xs ++ x ∷ []) ≡ writes x.part
last_writes [] x = refl
last_writes (y ∷ []) x = refl
last_writes (y ∷ z ∷ xs) x = last_writes (z ∷ xs) x

pub ahead_of_last : (xs : List Link) (x : Link) → end_ahead (xs ++ x ∷ []) ≡ end_in xs
ahead_of_last [] x = refl
ahead_of_last (y ∷ []) x = refl
ahead_of_last (y ∷ z ∷ xs) x = ap (λ o. first_some (when (writes y.part) (at kind.NoEnd y.line)) o) (ahead_of_last (z ∷ xs) x)

first_assoc : (a b c : Option ScriptFault) → first_some a (first_some b c) ≡ first_some (first_some a b) c
first_assoc None b c = refl
first_assoc (Some x) b c = refl

pub no_end_last : (es : List Entry) (e : Entry) → no_end (es ++ e ∷ []) ≡ first_some (inner_faults es) (last_fault e)
no_end_last [] e = refl
no_end_last (d ∷ []) e = first_assoc (inner_fault d) None (last_fault e)
no_end_last (d ∷ f ∷ es) e = ap (λ o. first_some (inner_fault d) o) (no_end_last (f ∷ es) e) ∙ first_assoc (inner_fault d) (inner_faults (f ∷ es)) (last_fault e)

-- ---- the same of what the code holds

pub last_of_links : (xs rest : List declared_link.Link) (x : declared_link.Link) → xs ≡ rest ++ x ∷ [] → ends_in_output (map link_of xs) ≡ writes (link_of x).part
last_of_links xs rest x e = ap (λ l. ends_in_output (map link_of l)) e ∙ ap ends_in_output (map-append link_of rest (x ∷ [])) ∙ last_writes (map link_of rest) (link_of x)

pub ahead_of_links : (xs rest : List declared_link.Link) (x : declared_link.Link) → xs ≡ rest ++ x ∷ [] → end_ahead (map link_of xs) ≡ end_in (map link_of rest)
ahead_of_links xs rest x e = ap (λ l. end_ahead (map link_of l)) e ∙ ap end_ahead (map-append link_of rest (x ∷ [])) ∙ ahead_of_last (map link_of rest) (link_of x)

pub end_of_entries : (es rest : List declared_entry.Entry) (e : declared_entry.Entry) → es ≡ rest ++ e ∷ [] → no_end (map entry_view es) ≡ first_some (inner_faults (map entry_view rest)) (last_fault (entry_view e))
end_of_entries es rest e h = ap (λ l. no_end (map entry_view l)) h ∙ ap no_end (map-append entry_view rest (e ∷ [])) ∙ no_end_last (map entry_view rest) (entry_view e)
