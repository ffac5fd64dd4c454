-- Where each place has a form, a chain begins with a source or with a name, and no other link is a source.
use Rattle.std.proofs.Common.{◌≡◌, ℕ, Bool, true, false, if◌then◌else◌, List, [], ◌∷◌, ◌++◌, Option, Some, None, map, find, filter_map, is_some, refl}
use Rattle.std.specs.Prelude.{option_and_then, IfSome}
use Rattle.std.specs.List.{AllByRecursion, cons_option}
use Rattle.tx_tree.specs.declared.target.Word.{Word}
use Rattle.tx_tree.specs.Tree.{ArgTree, ArgTrees, LinkTree, BlockTree, define, pipeline, alone}
use Rattle.tx_names.specs.Scope.{Text}
use Rattle.tx_pipe.specs.declared.verb.Verb.{Verb}
use Rattle.tx_pipe.specs.declared.verb.Verb.TheVariants as verb
use Rattle.tx_pipe.specs.Verbs.{verb_at}
use Rattle.tx_pipe.specs.Pipe.{Operation, csv, map_to, filter, with_column, map_column, select_columns, rename_column, join, left_join, aggregate, to_csv, resolve, ignore, source_file}
use Rattle.tx_pipe.specs.Lawful.{has_form}
use Rattle.tx_pipe.specs.Column.{bytes_of}
use Rattle.tx_script.specs.declared.fault.ScriptKind.TheVariants as kind
use Rattle.tx_script.specs.Linked.{at}
use Rattle.tx_script.specs.Written.{Code, Part, operator, handler, Link, Entry}
use Rattle.tx_script.specs.Forms.{text_in, texts_in, results_in, code_in, class_in, word_in, value_in, source_at, source_by, operator_by, handler_by, of_form, part_by_source, head_part, part_by, link_part, Place, head_places, link_place, places_of, link_at, entry_of, start_by, start_of}
use Rattle.tx_script.specs.Checks.{places_in, without_form, operator_fault, source_in, entries}
use Rattle.tx_script.proofs.LawfulShapeParts.{no_none, map_none, any_bind, if_bind, find_parts}

abbrev pub IsNoSource : Part → Type 0
IsNoSource part = source_in part ≡ None

abbrev pub IsSource : Part → Type 0
IsSource part = is_some (source_in part) ≡ true

abbrev pub AreNoSources : List Link → Type 0
AreNoSources = AllByRecursion (λ x. IsNoSource x.part)

-- a chain that begins with a name has no source, any other has one in front
abbrev pub Begins : Option Word → List Link → Type 0
Begins (Some w) links = AreNoSources links
Begins None [] = ⊥
Begins None (x ∷ links) = IsSource x.part × AreNoSources links

abbrev pub BeginsIn : BlockTree → List Link → Type 0
BeginsIn (define l n params comma b) links = links ≡ []
BeginsIn (pipeline l n c) links = Begins (start_of c) links
BeginsIn (alone c) links = Begins (start_of c) links

-- ---- one link

from_handler : (v : Verb) (args : List ArgTree) → IfSome (handler_by v args) IsNoSource
from_handler verb.Resolve (class ∷ f ∷ []) = any_bind (class_in class) (λ c. option_and_then (λ g. Some (handler (resolve c g))) (code_in f)) IsNoSource (λ c. any_bind (code_in f) (λ g. Some (handler (resolve c g))) IsNoSource (λ g. refl))
from_handler verb.Ignore (class ∷ []) = any_bind (class_in class) (λ c. Some (handler (ignore c))) IsNoSource (λ c. refl)
from_handler _ _ = tt

abbrev Reads : Operation Code Word → Type 0
Reads op = source_file op ≡ None

from_operator : (v : Verb) (args : List ArgTree) → IfSome (operator_by v args) Reads
from_operator verb.Map (f ∷ results ∷ []) = any_bind (code_in f) (λ c. option_and_then (λ r. Some (map_to c r)) (results_in results)) Reads (λ c. any_bind (results_in results) (λ r. Some (map_to c r)) Reads (λ r. refl))
from_operator verb.Filter (f ∷ []) = any_bind (code_in f) (λ c. Some (filter c)) Reads (λ c. refl)
from_operator verb.WithColumn (column ∷ f ∷ []) = any_bind (text_in column) (λ n. option_and_then (λ c. Some (with_column n c)) (code_in f)) Reads (λ n. any_bind (code_in f) (λ c. Some (with_column n c)) Reads (λ c. refl))
from_operator verb.MapColumn (column ∷ f ∷ []) = any_bind (text_in column) (λ n. option_and_then (λ c. Some (map_column n c)) (code_in f)) Reads (λ n. any_bind (code_in f) (λ c. Some (map_column n c)) Reads (λ c. refl))
from_operator verb.SelectColumns (columns ∷ []) = any_bind (texts_in columns) (λ ns. Some (select_columns ns)) Reads (λ ns. refl)
from_operator verb.RenameColumn (old ∷ new ∷ []) = any_bind (text_in old) (λ m. option_and_then (λ n. Some (rename_column m n)) (text_in new)) Reads (λ m. any_bind (text_in new) (λ n. Some (rename_column m n)) Reads (λ n. refl))
from_operator verb.Join (right ∷ l ∷ r ∷ []) =
    any_bind (word_in right) (λ p. option_and_then (λ m. option_and_then (λ n. Some (join p m n)) (text_in r)) (text_in l)) Reads
    (λ p. any_bind (text_in l) (λ m. option_and_then (λ n. Some (join p m n)) (text_in r)) Reads (λ m. any_bind (text_in r) (λ n. Some (join p m n)) Reads (λ n. refl)))
from_operator verb.LeftJoin (right ∷ l ∷ r ∷ []) =
    any_bind (word_in right) (λ p. option_and_then (λ m. option_and_then (λ n. Some (left_join p m n)) (text_in r)) (text_in l)) Reads
    (λ p. any_bind (text_in l) (λ m. option_and_then (λ n. Some (left_join p m n)) (text_in r)) Reads (λ m. any_bind (text_in r) (λ n. Some (left_join p m n)) Reads (λ n. refl)))
from_operator verb.Unique [] = refl
from_operator verb.Aggregate (f ∷ init ∷ column ∷ []) =
    any_bind (code_in f) (λ c. option_and_then (λ v. option_and_then (λ n. Some (aggregate c v n)) (text_in column)) (value_in init)) Reads
    (λ c. any_bind (value_in init) (λ v. option_and_then (λ n. Some (aggregate c v n)) (text_in column)) Reads (λ v. any_bind (text_in column) (λ n. Some (aggregate c v n)) Reads (λ n. refl)))
from_operator verb.ToCsv (file ∷ []) = any_bind (text_in file) (λ f. Some (to_csv f)) Reads (λ f. refl)
from_operator _ _ = tt

kept : (P : Part → Type 0) (op : Operation Code Word) → P (operator op) → IfSome (of_form op) P
kept P op h = by_test (has_form op)
  where
    by_test : (b : Bool) → IfSome (if b then Some (operator op) else None) P
    by_test true = h
    by_test false = tt

from_part : (v : Verb) (args : List ArgTree) → IfSome (part_by v args) IsNoSource
from_part verb.Resolve args = from_handler verb.Resolve args
from_part verb.Ignore args = from_handler verb.Ignore args
from_part v args = if_bind (operator_by v args) of_form Reads IsNoSource (from_operator v args) (λ op h. kept IsNoSource op h)

from_link : (word : Text) (args : List ArgTree) → IfSome (link_part word args) IsNoSource
from_link word args = any_bind (verb_at word) (λ v. part_by v args) IsNoSource (λ v. from_part v args)

-- ---- a head

abbrev IsFile : Operation Code Word → Type 0
IsFile op = is_some (source_file op) ≡ true

from_source : (v : Verb) (args : List ArgTree) → IfSome (source_by v args) IsFile
from_source verb.Csv (file ∷ []) = any_bind (text_in file) (λ f. Some (csv f None)) IsFile (λ f. refl)
from_source verb.Csv (file ∷ names ∷ []) =
    any_bind (text_in file) (λ f. option_and_then (λ ns. Some (csv f (Some (map bytes_of ns)))) (texts_in names)) IsFile (λ f. any_bind (texts_in names) (λ ns. Some (csv f (Some (map bytes_of ns)))) IsFile (λ ns. refl))
from_source _ _ = tt

from_head : (word : Text) (args : List ArgTree) → IfSome (head_part word args) IsSource
from_head word args = any_bind (source_at word) (λ v. part_by_source v args) IsSource (λ v. if_bind (source_by v args) of_form IsFile IsSource (from_source v args) (λ op h. kept IsSource op h))

-- ---- chains

with_link : (P : Part → Type 0) (line : ℕ) (o : Option Part) (links : List Link) → IfSome o P → AllByRecursion (λ x. P x.part) links → AllByRecursion (λ x. P x.part) (cons_option (link_at (line, o)) links)
with_link P line None links h rest = rest
with_link P line (Some part) links h rest = (h, rest)

links_of : (ls : List LinkTree) → AreNoSources (filter_map link_at (map link_place ls))
links_of [] = tt
links_of (x ∷ ls) = with_link IsNoSource x.word.line (link_part x.word.text x.args.items) (filter_map link_at (map link_place ls)) (from_link x.word.text x.args.items) (links_of ls)

begins_by : (line : ℕ) (o : Option Part) (places : List Place) → IfSome o IsSource → find without_form ((line, o) ∷ places) ≡ None → AreNoSources (filter_map link_at places) → Begins None (filter_map link_at ((line, o) ∷ places))
begins_by line None places h e rest = absurd (no_none (line, None) e)
begins_by line (Some part) places h e rest = (h, rest)

begins : (word : Word) (args : Option ArgTrees) (ls : List LinkTree) → find without_form (head_places word args ++ map link_place ls) ≡ None → Begins (start_by word args) (filter_map link_at (head_places word args ++ map link_place ls))
begins word None ls e = links_of ls
begins word (Some args) ls e = begins_by word.line (head_part word.text args.items) (map link_place ls) (from_head word.text args.items) e (links_of ls)

block_begins : (b : BlockTree) → find without_form (places_of b) ≡ None → BeginsIn b (entry_of b).links
block_begins (define l n params comma b) e = refl
block_begins (pipeline l n c) e = begins c.head.word c.head.args c.links e
block_begins (alone c) e = begins c.head.word c.head.args c.links e

abbrev pub EachBegins : List Entry → Type 0
EachBegins = AllByRecursion (λ e. BeginsIn e.block e.links)

each_begins : (bs : List BlockTree) → find without_form (places_in bs) ≡ None → EachBegins (entries bs)
each_begins [] e = tt
each_begins (b ∷ bs) e = let p = find_parts without_form (places_of b) (places_in bs) e in (block_begins b p.0, each_begins bs p.1)

pub entries_begin : (bs : List BlockTree) → operator_fault bs ≡ None → EachBegins (entries bs)
entries_begin bs e = each_begins bs (map_none (λ p. at kind.Operator p.0) (find without_form (places_in bs)) e)
