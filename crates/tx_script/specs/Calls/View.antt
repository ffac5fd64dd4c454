-- What the code holds, as a script that is written.
use Rattle.std.specs.Prelude.{map, Result, Ok, Err, ◌≡◌, ⊤, Option, Some, None}
use Rattle.tx_tree.specs.declared.target.Word.{Word}
use Rattle.tx_tree.specs.Tree.{tree_of, block_of}
use Rattle.tx_pipe.specs.Pipe.{Operation, csv, map_to, filter, with_column, map_column, select_columns, rename_column, join, left_join, unique, aggregate, to_csv, Handling, resolve, ignore}
use Rattle.tx_script.specs.declared.fault.ScriptFault.{ScriptFault}
use Rattle.tx_script.specs.declared.fault.ScriptError.{ScriptError}
use Rattle.tx_script.specs.declared.fault.ScriptError.TheVariants as error
use Rattle.tx_script.specs.declared.written.Named.{Named}
use Rattle.tx_script.specs.declared.written.Code as declared_code
use Rattle.tx_script.specs.declared.written.Code.TheVariants as c
use Rattle.tx_script.specs.declared.written.Form.{Form}
use Rattle.tx_script.specs.declared.written.Form.TheVariants as f
use Rattle.tx_script.specs.declared.written.Handled.{Handled}
use Rattle.tx_script.specs.declared.written.Handled.TheVariants as h
use Rattle.tx_script.specs.declared.written.Part as declared_part
use Rattle.tx_script.specs.declared.written.Part.TheVariants as p
use Rattle.tx_script.specs.declared.written.Link as declared_link
use Rattle.tx_script.specs.declared.written.Entry as declared_entry
use Rattle.tx_script.specs.Written.{Code, lambda, named, Part, operator, handler, Link, Entry}

abbrev pub word_of : Named → Word
word_of w = record { line = w.line; text = w.name.now }

abbrev pub code_of : declared_code.Code → Code
code_of (c.Lambda line params body) = lambda line params.now (tree_of body.now)
code_of (c.Def line name) = named line name.now

abbrev pub form_of : Form → Operation Code Word
form_of (f.Csv file naming) = csv file.now naming.names
form_of (f.Map g to) = map_to (code_of g) to
form_of (f.Filter g) = filter (code_of g)
form_of (f.WithColumn name g) = with_column name.now (code_of g)
form_of (f.MapColumn name g) = map_column name.now (code_of g)
form_of (f.SelectColumns names) = select_columns names
form_of (f.RenameColumn old new) = rename_column old.now new.now
form_of (f.Join right l r) = join (word_of right) l.now r.now
form_of (f.LeftJoin right l r) = left_join (word_of right) l.now r.now
form_of f.Unique = unique
form_of (f.Aggregate g init name) = aggregate (code_of g) init name.now
form_of (f.ToCsv file) = to_csv file.now

abbrev pub handled_of : Handled → Handling Code
handled_of (h.Resolve class g) = resolve class (code_of g)
handled_of (h.Ignore class) = ignore class

abbrev pub part_of : declared_part.Part → Part
part_of (p.Operator op) = operator (form_of op)
part_of (p.Handler x) = handler (handled_of x)

abbrev pub link_of : declared_link.Link → Link
link_of x = record { line = x.line; part = part_of x.part }

abbrev pub entry_view : declared_entry.Entry → Entry
entry_view e = record { block = block_of e.block.now; links = map link_of e.links }

-- ---- answers: want of memory alone is free

-- a result that is wanted, where `view` is what the code's is seen as
abbrev pub Gives : {A B : Type 0} → (B → A) → Result A ScriptFault → Result B ScriptError → Type 0
Gives view wanted (Ok x) = wanted ≡ Ok (view x)
Gives view wanted (Err (error.Fault e)) = wanted ≡ Err e
Gives view wanted (Err error.NoMemory) = ⊤

-- the fault that a check finds, or none
abbrev pub Tells : {B : Type 0} → Option ScriptFault → Result B ScriptError → Type 0
Tells fault (Ok x) = fault ≡ None
Tells fault (Err (error.Fault e)) = fault ≡ Some e
Tells fault (Err error.NoMemory) = ⊤
