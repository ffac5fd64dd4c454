-- What a script asks of its files once it is accepted: the inputs, and their columns.
use Rattle.std.specs.Prelude.{◌⊎◌, ℕ, ◌+◌, List, [], ◌∷◌, Option, Some, None, if◌then◌else◌, Bool, false, nat_le, length, filter_map}
use mathlib.Core.Logic.{inl, inr}
use Rattle.tx_place.specs.Place.{Held}
use Rattle.tx_names.specs.Scope.{Text}
use Rattle.tx_records.specs.declared.csv_source.CsvSource.{CsvSource}
use Rattle.tx_records.specs.Records.{plain, records_of}
use Rattle.tx_records.specs.Source.{source_of}
use Rattle.tx_pipe.specs.Pipe.{Name, Operation, csv, source_file, PipeNode}
use Rattle.tx_pipe.specs.Column.{Schema, schemas, first_absent}
use Rattle.tx_script.specs.Linked.{Pipe}
use Rattle.tuplex_run.specs.declared.outcome.Outcome.{Outcome}
use Rattle.tuplex_run.specs.declared.outcome.Outcome.TheVariants.{Columns, TooLarge, ReadFault}

-- ---- a refusal, or what was asked for; a refusal ends the whole

abbrev pub OrRefusal : Type 0 → Type 0
OrRefusal A = Outcome ⊎ A

abbrev pub or_then : {A B : Type 0} → OrRefusal A → (A → OrRefusal B) → OrRefusal B
or_then (inl refusal) more = inl refusal
or_then (inr x) more = more x

infixl 10 ◌>>=◌
abbrev pub ◌>>=◌ : {A B : Type 0} → OrRefusal A → (A → OrRefusal B) → OrRefusal B
step >>= more = or_then step more

-- where there is none, this is the refusal
abbrev pub or_refuse : {A : Type 0} → Outcome → Option A → OrRefusal A
or_refuse refusal None = inl refusal
or_refuse refusal (Some x) = inr x

-- ---- inputs

-- the bytes of a file that is there
abbrev pub bytes_in : Held → Text → OrRefusal (List ℕ)
bytes_in held name = or_refuse (ReadFault name) (held name)

abbrev pub input_limit : ℕ
input_limit = 67108864

-- the bytes of an input, where they are within the limit
abbrev pub within : Text → List ℕ → OrRefusal (List ℕ)
within name bytes = if nat_le (length bytes) input_limit then inr bytes else inl (TooLarge name)

-- the source that a file makes for the operator of this number: it is read, and then measured
abbrev pub source_in : Held → ℕ → Text → Option (List Name) → OrRefusal CsvSource
source_in held number name names = do
  bytes ← bytes_in held name
  input ← within name bytes
  inr (source_of plain number (record { names = names }) (records_of plain input))

-- what an operator reads: a source its file, and any other nothing
abbrev pub input_in : {F P : Type 0} → Held → ℕ → Operation F P → OrRefusal (Option CsvSource)
input_in held number (csv name names) = do
  source ← source_in held number name names
  inr (Some source)
input_in held number _ = inr None

-- what the operators of a pipe read, from a number on
abbrev pub inputs_in : {F : Type 0} → Held → ℕ → List (PipeNode F) → OrRefusal (List (Option CsvSource))
inputs_in held number [] = inr []
inputs_in held number (n ∷ ns) = do
  source ← input_in held number n.operation
  sources ← inputs_in held (number + 1) ns
  inr (source ∷ sources)

-- ---- columns

-- the columns of a source, at the place of its operator; of another operator there are none
abbrev pub header_of : Option CsvSource → Schema
header_of None = []
header_of (Some source) = source.names

-- the columns of each operator, or the first name that an operator asks for and that is absent
abbrev pub or_columns : Option (ℕ × Text) → List Schema → OrRefusal (List Schema)
or_columns None columns = inr columns
or_columns (Some absent) columns = inl (Columns (record { operator = absent.0; name = absent.1 }))

abbrev pub columns_in : List Schema → Pipe → OrRefusal (List Schema)
columns_in headers pipe = or_columns (first_absent headers pipe) (schemas headers pipe)

-- ---- a script that is accepted with its files: its pipe, what its operators read, and their columns

pub record Ready : Type 0 where
  pub pipe : Pipe
  pub sources : List (Option CsvSource)
  pub columns : List Schema

abbrev pub ready : Pipe → List (Option CsvSource) → List Schema → Ready
ready pipe sources columns = record { pipe = pipe; sources = sources; columns = columns }

-- ---- the names of the inputs

-- the files of the sources, in the order of the operators
abbrev pub input_names : {F : Type 0} → List (PipeNode F) → List (List ℕ)
input_names pipe = filter_map (λ n. source_file n.operation) pipe

-- a file that is there and has at most so many bytes
abbrev pub is_within : ℕ → Option (List ℕ) → Bool
is_within limit None = false
is_within limit (Some bytes) = nat_le (length bytes) limit

-- of some inputs those that are read: up to the first one that is absent or too large
abbrev pub inputs_read : List (List ℕ) → Held → List (List ℕ)
inputs_read [] held = []
inputs_read (name ∷ names) held =
    name ∷ (if is_within input_limit (held name) then inputs_read names held else [])
