-- Scripts and inputs that were read, or were not.
use Rattle.std.proofs.Common.{◌≡◌, ◌∙◌, ◌≤◌, ◌<◌, ◌+◌, ◌-◌, ◌++◌, ℕ, Bool, true, false, List, [], ◌∷◌, Option, Some, None, length, take, drop, get_or, sym, ap, subst, refl, inl, inr, ◌⊎◌, arith, append_assoc, append-nil, length-drop, Contains}
use Rattle.std.specs.Prelude.{nat_le, option_to_list, if◌then◌else◌}
use Rattle.std.proofs.lemmas.List.{take_all}
use Rattle.std.proofs.lemmas.Bool.Decides.{nat_tests}
use Rattle.std.proofs.lemmas.List.Elements.{Contains-append_left}
use Rattle.tx_place.specs.Place.{PlaceState, Held}
use Rattle.tx_place.specs.Whole.{IsLarger}
use Rattle.tx_names.specs.Scope.{Text}
use Rattle.tx_records.specs.declared.csv_source.CsvSource.{CsvSource}
use Rattle.tx_records.specs.Records.{plain, records_of}
use Rattle.tx_records.specs.Source.{source_of}
use Rattle.tx_pipe.specs.declared.pipe.Node.{Node}
use Rattle.tx_pipe.specs.Pipe.{Name, Operation, source_file, PipeNode, csv, map_to, filter, with_column, map_column, select_columns, rename_column, join, left_join, unique, aggregate, to_csv, operator_of, node_of, pipe_of}
use Rattle.tx_script.specs.declared.fault.ScriptKind.TheVariants as kind
use Rattle.tx_script.specs.Linked.{Pipe, at}
use Rattle.tx_script.specs.Accepted.{Accepted}
use Rattle.tuplex_run.specs.Inputs.{OrRefusal, or_then, or_refuse, within, source_in, input_in, inputs_in, is_within, input_limit, inputs_read, input_names}
use Rattle.tuplex_run.specs.Due.{checks, pipe_of_script}
use Rattle.tuplex_run.specs.Ends.{FailedAmong}
use Rattle.tuplex_run.specs.Calls.Refusals.{OnlyRead, NoReadFailed, IsReadFault, ReadRefusal, CheckRefusal, ScriptRefusal, SourceRefusal, InputRefusal, InputsRefusal, AddsInput, AddsInputs}
use Rattle.tuplex_run.specs.declared.outcome.Outcome.{Outcome}
use Rattle.tuplex_run.specs.declared.outcome.Outcome.TheVariants.{Done, Words, Script, Columns, TooLarge, ReadFault, WriteFault, ConsoleFault, NoMemory}
use Rattle.tuplex_run.proofs.Failures.{among_more, among_later, later}
use Rattle.tuplex_run.proofs.Refusals.{later_fault, none_later}
use Rattle.tuplex_run.proofs.VerdictLemmas.{no_refusal}
use Rattle.tuplex_run.proofs.LongScripts.{long_refused}

-- ---- the script

module _ (held : Held) (script : Text) (bytes : List ℕ) (e : held script ≡ Some bytes) where
  -- what the checks answer of its bytes is the answer
  on_bytes : (answer : OrRefusal Pipe) → checks script bytes answer → pipe_of_script held script answer
  on_bytes answer h = inr (bytes, sym (ap (or_refuse (ReadFault script)) e), h)

  pub pipe_read : (pipe : Pipe) → Accepted script bytes pipe → pipe_of_script held script (inr pipe)
  pipe_read pipe h = on_bytes (inr pipe) h

pub check_refused : (script bytes : List ℕ) (old new : PlaceState) → NoReadFailed old new → (old.tells ≡ true → old.held script ≡ Some bytes)
    → (o : Outcome) → CheckRefusal script bytes o → ScriptRefusal script old new o
check_refused script bytes old new still e (Script fault) h = (still, λ t. on_bytes old.held script bytes (e t) (inl (Script fault)) h)
check_refused script bytes old new still e NoMemory h = h
check_refused script bytes old new still e (Done rows reported) h = absurd h
check_refused script bytes old new still e Words h = absurd h
check_refused script bytes old new still e (Columns fault) h = absurd h
check_refused script bytes old new still e (TooLarge name) h = absurd h
check_refused script bytes old new still e (ReadFault name) h = absurd h
check_refused script bytes old new still e (WriteFault name) h = absurd h
check_refused script bytes old new still e ConsoleFault h = absurd h

-- a file that was not read
pub script_unread : (script : List ℕ) (old new : PlaceState) (o : Outcome) → ReadRefusal script old new o → ScriptRefusal script old new o
script_unread script old new (ReadFault name) h = (h.0, subst (λ n. IsReadFault n old new) (sym h.0) h.1)
script_unread script old new NoMemory h = h
script_unread script old new (Done rows reported) h = absurd h
script_unread script old new Words h = absurd h
script_unread script old new (Script fault) h = absurd h
script_unread script old new (Columns fault) h = absurd h
script_unread script old new (TooLarge name) h = absurd h
script_unread script old new (WriteFault name) h = absurd h
script_unread script old new ConsoleFault h = absurd h

-- a script that is too long
too_long_in : (held : Held) (script : List ℕ) (file : Option (List ℕ)) → held script ≡ file → IsLarger 262144 file
    → pipe_of_script held script (inl (Script (at kind.TooLong 0)))
too_long_in held script None e l = absurd l
too_long_in held script (Some bytes) e l = on_bytes held script bytes e (inl (Script (at kind.TooLong 0))) (long_refused script bytes l)

pub too_long : (held : Held) (script : List ℕ) → IsLarger 262144 (held script) → pipe_of_script held script (inl (Script (at kind.TooLong 0)))
too_long held script l = too_long_in held script (held script) refl l

-- ---- one source

abbrev behind_file : ℕ → Text → Option (List Name) → Option (List ℕ) → OrRefusal CsvSource
behind_file number name names file =
    or_then (or_refuse (ReadFault name) file) (λ bytes. or_then (within name bytes) (λ input. inr (source_of plain number (record { names = names }) (records_of plain input))))

abbrev behind_bytes : ℕ → Text → Option (List Name) → OrRefusal (List ℕ) → OrRefusal CsvSource
behind_bytes number name names step = or_then step (λ input. inr (source_of plain number (record { names = names }) (records_of plain input)))

small : (name bytes : List ℕ) → length bytes ≤ 67108864 → within name bytes ≡ inr bytes
small name bytes l =
    let short : nat_le (length bytes) 67108864 ≡ true = grind (arith, nat_tests, l) in
    rw short refl

large : (name bytes : List ℕ) → 67108864 < length bytes → within name bytes ≡ inl (TooLarge name)
large name bytes l =
    let long : nat_le (length bytes) 67108864 ≡ false = grind (arith, nat_tests, l) in
    rw long refl

pub source_read : (held : Held) (number : ℕ) (name : Text) (names : Option (List Name)) (bytes : List ℕ) → held name ≡ Some bytes → length bytes ≤ 67108864
    → source_in held number name names ≡ inr (source_of plain number (record { names = names }) (records_of plain bytes))
source_read held number name names bytes e l = ap (behind_file number name names) e ∙ ap (behind_bytes number name names) (small name bytes l)

large_in : (number : ℕ) (name : Text) (names : Option (List Name)) (file : Option (List ℕ)) → IsLarger 67108864 file → behind_file number name names file ≡ inl (TooLarge name)
large_in number name names None l = absurd l
large_in number name names (Some bytes) l = ap (behind_bytes number name names) (large name bytes l)

pub source_too_large : (held : Held) (number : ℕ) (name : Text) (names : Option (List Name)) → IsLarger 67108864 (held name) → source_in held number name names ≡ inl (TooLarge name)
source_too_large held number name names l = large_in number name names (held name) l

-- a file that was not read, or found no memory
pub source_unread : (number : ℕ) (name : Text) (names : Option (List Name)) (old new : PlaceState) (o : Outcome) → ReadRefusal name old new o → SourceRefusal number name names old new o
source_unread number name names old new (ReadFault n) h = h
source_unread number name names old new NoMemory h = h
source_unread number name names old new (Done rows reported) h = absurd h
source_unread number name names old new Words h = absurd h
source_unread number name names old new (Script fault) h = absurd h
source_unread number name names old new (Columns fault) h = absurd h
source_unread number name names old new (TooLarge n) h = absurd h
source_unread number name names old new (WriteFault n) h = absurd h
source_unread number name names old new ConsoleFault h = absurd h

pub source_no_memory : (number : ℕ) (name : Text) (names : Option (List Name)) (old new : PlaceState) (o : Outcome) → o ≡ NoMemory → SourceRefusal number name names old new o
source_no_memory number name names old new o m = subst (SourceRefusal number name names old new) (sym m) tt

-- one that is too large, or whose name found no memory
pub source_large : (number : ℕ) (name : Text) (names : Option (List Name)) (old new : PlaceState) → NoReadFailed old new → (old.tells ≡ true → IsLarger 67108864 (old.held name))
    → (o : Outcome) → (o ≡ TooLarge name) ⊎ (o ≡ NoMemory) → SourceRefusal number name names old new o
source_large number name names old new still l o (inl e) =
    subst (SourceRefusal number name names old new) (sym e) (still, λ t. source_too_large old.held number name names (l t))
source_large number name names old new still l o (inr m) = source_no_memory number name names old new o m

-- ---- the sources of operators

module _ {F : Type 0} (held : Held) (number : ℕ) (n : PipeNode F) (ns : List (PipeNode F)) where
  abbrev behind_first : OrRefusal (Option CsvSource) → OrRefusal (List (Option CsvSource))
  behind_first step = or_then step (λ source. or_then (inputs_in held (number + 1) ns) (λ sources. inr (source ∷ sources)))

  abbrev behind_rest : Option CsvSource → OrRefusal (List (Option CsvSource)) → OrRefusal (List (Option CsvSource))
  behind_rest source step = or_then step (λ sources. inr (source ∷ sources))

  first_refused : (o : Outcome) → input_in held number n.operation ≡ inl o → inputs_in held number (n ∷ ns) ≡ inl o
  first_refused o h = ap behind_first h

  rest_refused : (source : Option CsvSource) (o : Outcome) → input_in held number n.operation ≡ inr source → inputs_in held (number + 1) ns ≡ inl o → inputs_in held number (n ∷ ns) ≡ inl o
  rest_refused source o e h = ap behind_first e ∙ ap (behind_rest source) h

  both_read : (source : Option CsvSource) (sources : List (Option CsvSource)) → input_in held number n.operation ≡ inr source → inputs_in held (number + 1) ns ≡ inr sources
      → inputs_in held number (n ∷ ns) ≡ inr (source ∷ sources)
  both_read source sources e h = ap behind_first e ∙ ap (behind_rest source) h

-- ---- their names

-- behind an operator whose input was read, and within the limit, come the others
first_name : {F : Type 0} (held : Held) (n : PipeNode F) (ns : List (PipeNode F)) (name : Text) → source_file n.operation ≡ Some name → Contains (inputs_read (input_names (n ∷ ns)) held) name
first_name held n ns name e =
    let names : input_names (n ∷ ns) ≡ name ∷ input_names ns = rw e refl in
    subst (λ xs. Contains (inputs_read xs held) name) (sym names) (0, omega arith, refl)

limit_kept : (b : Bool) (number : ℕ) (name : Text) (names : Option (List Name)) (bytes : List ℕ) (source : Option CsvSource)
    → or_then (behind_bytes number name names (if b then inr bytes else inl (TooLarge name))) (λ s. inr (Some s)) ≡ inr source → b ≡ true
limit_kept true number name names bytes source e = refl
limit_kept false number name names bytes source e = absurd (no_refusal (TooLarge name) source e)

file_within : (number : ℕ) (name : Text) (names : Option (List Name)) (file : Option (List ℕ)) (source : Option CsvSource)
    → or_then (behind_file number name names file) (λ s. inr (Some s)) ≡ inr source → is_within input_limit file ≡ true
file_within number name names None source e = absurd (no_refusal (ReadFault name) source e)
file_within number name names (Some bytes) source e = limit_kept (nat_le (length bytes) input_limit) number name names bytes source e

-- the names of the files behind an operator
abbrev names_behind : Option Text → List (List ℕ) → List (List ℕ)
names_behind None names = names
names_behind (Some name) names = name ∷ names

-- an operator whose input was read is no source, or its file is within the limit
abbrev AllRead : Held → Option Text → Type 0
AllRead held None = Unit {0}
AllRead held (Some name) = is_within input_limit (held name) ≡ true

all_read : {F P : Type 0} (held : Held) (number : ℕ) (op : Operation F P) (source : Option CsvSource) → input_in held number op ≡ inr source → AllRead held (source_file op)
all_read held number (csv name names) source e = file_within number name names (held name) source e
all_read held number (map_to f to) source e = tt
all_read held number (filter f) source e = tt
all_read held number (with_column name f) source e = tt
all_read held number (map_column name f) source e = tt
all_read held number (select_columns names) source e = tt
all_read held number (rename_column old new) source e = tt
all_read held number (join right l r) source e = tt
all_read held number (left_join right l r) source e = tt
all_read held number unique source e = tt
all_read held number (aggregate f init name) source e = tt
all_read held number (to_csv file) source e = tt

read_on : (held : Held) (file : Option Text) (names : List (List ℕ)) (name : List ℕ) → AllRead held file → Contains (inputs_read names held) name → Contains (inputs_read (names_behind file names) held) name
read_on held None names name a h = h
read_on held (Some n) names name a h =
    let goes_on : inputs_read (n ∷ names) held ≡ n ∷ inputs_read names held = rw a refl in
    subst (λ (xs : List (List ℕ)). Contains xs name) (sym goes_on) (later n (inputs_read names held) name h)

names_are : {F : Type 0} (n : PipeNode F) (ns : List (PipeNode F)) (file : Option Text) → source_file n.operation ≡ file → input_names (n ∷ ns) ≡ names_behind file (input_names ns)
names_are n ns None e = rw e refl
names_are n ns (Some name) e = rw e refl

rest_name : {F : Type 0} (held : Held) (number : ℕ) (n : PipeNode F) (ns : List (PipeNode F)) (source : Option CsvSource) (name : List ℕ) → input_in held number n.operation ≡ inr source
    → Contains (inputs_read (input_names ns) held) name → Contains (inputs_read (input_names (n ∷ ns)) held) name
rest_name held number n ns source name e h =
    subst (λ xs. Contains (inputs_read xs held) name) (sym (names_are n ns (source_file n.operation) refl))
    (read_on held (source_file n.operation) (input_names ns) name (all_read held number n.operation source e) h)

-- ---- why one was refused

pub first_input_refused : {F : Type 0} (number : ℕ) (n : PipeNode F) (ns : List (PipeNode F)) (old new : PlaceState) (o : Outcome)
    → InputRefusal number n.operation old new o → InputsRefusal number (n ∷ ns) old new o
first_input_refused number n ns old new (TooLarge name) h = (h.0, λ t. first_refused old.held number n ns (TooLarge name) (h.1 t))
first_input_refused number n ns old new (ReadFault name) h = (h.1, λ t. first_name old.held n ns name h.0)
first_input_refused number n ns old new NoMemory h = h
first_input_refused number n ns old new (Done rows reported) h = absurd h
first_input_refused number n ns old new Words h = absurd h
first_input_refused number n ns old new (Script fault) h = absurd h
first_input_refused number n ns old new (Columns fault) h = absurd h
first_input_refused number n ns old new (WriteFault name) h = absurd h
first_input_refused number n ns old new ConsoleFault h = absurd h

pub rest_inputs_refused : {F : Type 0} (number : ℕ) (n : PipeNode F) (ns : List (PipeNode F)) (before after : List (Option CsvSource)) (old mid new : PlaceState)
    → OnlyRead old mid → NoReadFailed old mid → (old.tells ≡ true → AddsInput old.held number n.operation before after)
    → (o : Outcome) → InputsRefusal (number + 1) ns mid new o → InputsRefusal number (n ∷ ns) old new o
rest_inputs_refused number n ns before after old mid new only still e (TooLarge name) h = (
  none_later old mid new only still h.0,
  λ t.
      let there : inputs_in old.held (number + 1) ns ≡ inl (TooLarge name) =
      subst (λ (held : Held). inputs_in held (number + 1) ns ≡ inl (TooLarge name)) (only.held t) (h.1 (only.telling.tells ∙ t)) in
      rest_refused old.held number n ns (e t).source (TooLarge name) (e t).is there,
)
rest_inputs_refused number n ns before after old mid new only still e (ReadFault name) h = (
  later_fault name old mid new only still h.0,
  λ t.
      let there : Contains (inputs_read (input_names ns) old.held) name =
      subst (λ (held : Held). Contains (inputs_read (input_names ns) held) name) (only.held t) (h.1 (only.telling.tells ∙ t)) in
      rest_name old.held number n ns (e t).source name (e t).is there,
)
rest_inputs_refused number n ns before after old mid new only still e NoMemory h = h
rest_inputs_refused number n ns before after old mid new only still e (Done rows reported) h = absurd h
rest_inputs_refused number n ns before after old mid new only still e Words h = absurd h
rest_inputs_refused number n ns before after old mid new only still e (Script fault) h = absurd h
rest_inputs_refused number n ns before after old mid new only still e (Columns fault) h = absurd h
rest_inputs_refused number n ns before after old mid new only still e (WriteFault name) h = absurd h
rest_inputs_refused number n ns before after old mid new only still e ConsoleFault h = absurd h

-- ---- the name of the last call that failed

-- the file of an operator is the first that is read of it and of those behind it
first_among : {F : Type 0} (held : Held) (n : PipeNode F) (ns : List (PipeNode F)) (file : Option Text) → source_file n.operation ≡ file
    → (x : List ℕ) → Contains (option_to_list file) x → Contains (inputs_read (input_names (n ∷ ns)) held) x
first_among held n ns None e x c = absurd (omega (arith, c.1))
first_among held n ns (Some name) e x c =
    subst (λ xs. Contains (inputs_read xs held) x) (sym (names_are n ns (Some name) e))
    (Contains-append_left (name ∷ []) (if is_within input_limit (held name) then inputs_read (input_names ns) held else []) x c)

pub failed_at_first : {F : Type 0} (n : PipeNode F) (ns : List (PipeNode F)) (old new : PlaceState) → FailedAmong (Contains (option_to_list (source_file n.operation))) old new
    → FailedAmong (Contains (inputs_read (input_names (n ∷ ns)) old.held)) old new
failed_at_first n ns old new h =
    among_more (Contains (option_to_list (source_file n.operation))) (Contains (inputs_read (input_names (n ∷ ns)) old.held)) old new
    (first_among old.held n ns (source_file n.operation) refl) h

pub failed_at_rest : {F : Type 0} (number : ℕ) (n : PipeNode F) (ns : List (PipeNode F)) (before after : List (Option CsvSource)) (old mid new : PlaceState)
    → OnlyRead old mid → NoReadFailed old mid → (old.tells ≡ true → AddsInput old.held number n.operation before after)
    → (mid.tells ≡ true → mid.names_faults ≡ true → FailedAmong (Contains (inputs_read (input_names ns) mid.held)) mid new)
    → old.tells ≡ true → old.names_faults ≡ true → FailedAmong (Contains (inputs_read (input_names (n ∷ ns)) old.held)) old new
failed_at_rest number n ns before after old mid new only still e f t m =
    let h : FailedAmong (Contains (inputs_read (input_names ns) old.held)) mid new =
    subst (λ (held : Held). FailedAmong (Contains (inputs_read (input_names ns) held)) mid new) (only.held t)
    (f (only.telling.tells ∙ t) (only.telling.names_faults ∙ m)) in
    among_more (Contains (inputs_read (input_names ns) old.held)) (Contains (inputs_read (input_names (n ∷ ns)) old.held)) old new
    (λ name. rest_name old.held number n ns (e t).source name (e t).is) (among_later (Contains (inputs_read (input_names ns) old.held)) old mid new (still.named m) h)

-- ---- what was added

pub added_none : {F : Type 0} (held : Held) (number : ℕ) (sources : List (Option CsvSource)) → AddsInputs {F = F} held number [] sources sources
added_none held number sources = record { more = []; are = refl; added = sym (append-nil sources) }

pub added_both : {F : Type 0} (held : Held) (number : ℕ) (n : PipeNode F) (ns : List (PipeNode F)) (before mid after : List (Option CsvSource))
    → AddsInput held number n.operation before mid → AddsInputs held (number + 1) ns mid after → AddsInputs held number (n ∷ ns) before after
added_both held number n ns before mid after e h = record {
  more = e.source ∷ h.more;
  are = both_read held number n ns e.source h.more e.is h.are;
  added = h.added ∙ (ap (λ s. s ++ h.more) e.added ∙ append_assoc before (e.source ∷ []) h.more);
}

-- ---- a list as its first item and the others

rest_is : {A : Type 0} (xs : List A) → take (length xs - 1) (drop 1 xs) ≡ drop 1 xs
rest_is xs = take_all _ _ (omega (arith, length-drop 1 xs))

pub split : {A : Type 0} (xs : List A) (first : A) → 1 ≤ length xs → first ≡ get_or xs 0 first → xs ≡ first ∷ take (length xs - 1) (drop 1 xs)
split [] first l f = absurd (omega (arith, l))
split (x ∷ xs) first l f = λ i. sym f i ∷ sym (rest_is (x ∷ xs)) i

-- the same of the nodes of a pipe
module _ (nodes : List Node) (first : Node) (rest : List Node) (e : nodes ≡ first ∷ rest) where
  pub at_first : (number : ℕ) (old new : PlaceState) (o : Outcome) → InputRefusal number (operator_of first.operator) old new o → InputsRefusal number (pipe_of nodes) old new o
  at_first number old new o h =
      subst (λ ns. InputsRefusal number (pipe_of ns) old new o) (sym e) (first_input_refused number (node_of first) (pipe_of rest) old new o h)

  pub at_rest : (number : ℕ) (before after : List (Option CsvSource)) (old mid new : PlaceState)
      → OnlyRead old mid → NoReadFailed old mid → (old.tells ≡ true → AddsInput old.held number (operator_of first.operator) before after)
      → (o : Outcome) → InputsRefusal (number + 1) (pipe_of rest) mid new o → InputsRefusal number (pipe_of nodes) old new o
  at_rest number before after old mid new only still a o h =
      subst (λ ns. InputsRefusal number (pipe_of ns) old new o) (sym e)
      (rest_inputs_refused number (node_of first) (pipe_of rest) before after old mid new only still a o h)

  pub failed_first : (old new : PlaceState) → FailedAmong (Contains (option_to_list (source_file (operator_of first.operator)))) old new
      → FailedAmong (Contains (inputs_read (input_names (pipe_of nodes)) old.held)) old new
  failed_first old new h =
      subst (λ ns. FailedAmong (Contains (inputs_read (input_names (pipe_of ns)) old.held)) old new) (sym e) (failed_at_first (node_of first) (pipe_of rest) old new h)

  pub failed_rest : (number : ℕ) (before after : List (Option CsvSource)) (old mid new : PlaceState)
      → OnlyRead old mid → NoReadFailed old mid → (old.tells ≡ true → AddsInput old.held number (operator_of first.operator) before after)
      → (mid.tells ≡ true → mid.names_faults ≡ true → FailedAmong (Contains (inputs_read (input_names (pipe_of rest)) mid.held)) mid new)
      → old.tells ≡ true → old.names_faults ≡ true → FailedAmong (Contains (inputs_read (input_names (pipe_of nodes)) old.held)) old new
  failed_rest number before after old mid new only still a f t n =
      subst (λ ns. FailedAmong (Contains (inputs_read (input_names (pipe_of ns)) old.held)) old new) (sym e)
      (failed_at_rest number (node_of first) (pipe_of rest) before after old mid new only still a f t n)

  pub all_added : (number : ℕ) (before between after : List (Option CsvSource)) (old mid : PlaceState) → OnlyRead old mid → old.tells ≡ true
      → AddsInput old.held number (operator_of first.operator) before between
      → AddsInputs mid.held (number + 1) (pipe_of rest) between after → AddsInputs old.held number (pipe_of nodes) before after
  all_added number before between after old mid only t a h =
      subst (λ ns. AddsInputs old.held number (pipe_of ns) before after) (sym e)
      (added_both old.held number (node_of first) (pipe_of rest) before between after a
      (subst (λ (held : Held). AddsInputs held (number + 1) (pipe_of rest) between after) (only.held t) h))
