-- Operators, handlers and pipes. `F` is what functions are, and `P` what names the right input of a join: in a pipe a bound
-- function and a number, in a script what is written there.
use Rattle.std.specs.Prelude.{ℕ, ◌-◌, Bool, not, List, map, Option, Some, None, is_some}
use Rattle.tx_base.specs.declared.class.Class.{Class}
use Rattle.tx_values.specs.declared.value.Value.{Value}
use Rattle.tx_names.specs.Scope.{Text}
use Rattle.tx_names.specs.Function.{Function}
use Rattle.tx_names.specs.Bind.{function_of}
use Rattle.tx_names.specs.declared.role.Role.{Role}
use Rattle.tx_names.specs.declared.role.Role.TheVariants.{Plain, OfRow, OfAccRow}
use Rattle.tx_pipe.specs.declared.verb.Verb.{Verb}
use Rattle.tx_pipe.specs.declared.verb.Verb.TheVariants as verb
use Rattle.tx_pipe.specs.declared.pipe.MapTo.{MapTo}
use Rattle.tx_pipe.specs.declared.pipe.Operator.{Operator}
use Rattle.tx_pipe.specs.declared.pipe.Operator.TheVariants as o
use Rattle.tx_pipe.specs.declared.pipe.Handler.{Handler}
use Rattle.tx_pipe.specs.declared.pipe.Handler.TheVariants as h
use Rattle.tx_pipe.specs.declared.pipe.Node.{Node}

-- the name of a column: its bytes
abbrev pub Name : Type 0
Name = List ℕ

-- ---- operators and handlers

pub data Operation (F P : Type 0) : Type 0 where
  -- the file, and the names of the columns where the script gives them
  csv : Text → Option (List Name) → Operation F P
  map_to : F → MapTo → Operation F P
  filter : F → Operation F P
  with_column : Text → F → Operation F P
  map_column : Text → F → Operation F P
  select_columns : List Text → Operation F P
  rename_column : Text → Text → Operation F P
  -- the right input, and the key columns of the left and of the right
  join : P → Text → Text → Operation F P
  left_join : P → Text → Text → Operation F P
  unique : Operation F P
  -- the function, the first accumulator, and the column
  aggregate : F → Value → Text → Operation F P
  to_csv : Text → Operation F P

pub data Handling (F : Type 0) : Type 0 where
  resolve : Class → F → Handling F
  ignore : Class → Handling F

abbrev pub verb_of : {F P : Type 0} → Operation F P → Verb
verb_of (csv file names) = verb.Csv
verb_of (map_to f to) = verb.Map
verb_of (filter f) = verb.Filter
verb_of (with_column name f) = verb.WithColumn
verb_of (map_column name f) = verb.MapColumn
verb_of (select_columns names) = verb.SelectColumns
verb_of (rename_column old new) = verb.RenameColumn
verb_of (join right l r) = verb.Join
verb_of (left_join right l r) = verb.LeftJoin
verb_of unique = verb.Unique
verb_of (aggregate f init name) = verb.Aggregate
verb_of (to_csv file) = verb.ToCsv

-- ---- sources and the end

-- the file that a source reads: an operator is a source where it has one
abbrev pub source_file : {F P : Type 0} → Operation F P → Option Text
source_file (csv file names) = Some file
source_file _ = None

-- the file that is written
abbrev pub output_file : {F P : Type 0} → Operation F P → Option Text
output_file (to_csv file) = Some file
output_file _ = None

-- ---- functions and handlers

-- the function of an operator, and what it takes: a row, the cell of a column, or an accumulator and a row
abbrev pub function_in : {F P : Type 0} → Operation F P → Option F
function_in (map_to f to) = Some f
function_in (filter f) = Some f
function_in (with_column name f) = Some f
function_in (map_column name f) = Some f
function_in (aggregate f init name) = Some f
function_in _ = None

abbrev pub role_in : {F P : Type 0} → Operation F P → Option Role
role_in (map_to f to) = Some OfRow
role_in (filter f) = Some OfRow
role_in (with_column name f) = Some OfRow
role_in (map_column name f) = Some (Plain 1)
role_in (aggregate f init name) = Some OfAccRow
role_in _ = None

-- a `resolve` stands behind an operator with a function, an `ignore` behind every operator but `tocsv`
abbrev pub allows : {F P G : Type 0} → Operation F P → Handling G → Bool
allows op (resolve class f) = is_some (role_in op)
allows op (ignore class) = not (is_some (output_file op))

abbrev pub resolver_in : {F : Type 0} → Handling F → Option F
resolver_in (resolve class f) = Some f
resolver_in (ignore class) = None

-- ---- pipes

-- an operator with the number of its input (of the left one in a join, 0 for a source), its handlers, and the line of its
-- word; operator 1 stands first in a pipe
pub record PipeNode (F : Type 0) : Type 0 where
  pub operation : Operation F ℕ
  pub input : ℕ
  pub handlers : List (Handling F)
  pub line : ℕ

-- ---- the pipe that the code holds

abbrev pub operator_of : Operator → Operation (Function ℕ) ℕ
operator_of (o.Csv file naming) = csv file naming.names
operator_of (o.Map f to) = map_to (function_of f) to
operator_of (o.Filter f) = filter (function_of f)
operator_of (o.WithColumn name f) = with_column name (function_of f)
operator_of (o.MapColumn name f) = map_column name (function_of f)
operator_of (o.SelectColumns names) = select_columns names
operator_of (o.RenameColumn old new) = rename_column old new
operator_of (o.Join right l r) = join right l r
operator_of (o.LeftJoin right l r) = left_join right l r
operator_of o.Unique = unique
operator_of (o.Aggregate f init name) = aggregate (function_of f) init name
operator_of (o.ToCsv file) = to_csv file

abbrev pub handling_of : Handler → Handling (Function ℕ)
handling_of (h.Resolve class f) = resolve class (function_of f)
handling_of (h.Ignore class) = ignore class

abbrev pub node_of : Node → PipeNode (Function ℕ)
node_of n = record { operation = operator_of n.operator; input = n.input; handlers = map handling_of n.handlers; line = n.line }

abbrev pub pipe_of : List Node → List (PipeNode (Function ℕ))
pipe_of = map node_of
