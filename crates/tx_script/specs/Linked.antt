-- What the names of a script stand for, in the order of its tokens: the pipe of the script, or the first name in fault. A def is
-- linked where it stands, with plain parameters; an operator links its function with what the blocks ahead of it define, in the
-- role that it gives.
use Rattle.std.specs.Prelude.{ℕ, Bool, false, ◌||◌, if◌then◌else◌, List, [], ◌∷◌, ◌++◌, map, length, Option, Some, None, is_some, find, slice_get, Result, Ok, Err}
use Rattle.tx_base.specs.Class.{name_of}
use Rattle.tx_tree.specs.declared.target.Word.{Word}
use Rattle.tx_tree.specs.Words.{same_text, builtin_word, walk_word}
use Rattle.tx_tree.specs.Tree.{BlockTree, define, pipeline, alone}
use Rattle.tx_name_set.specs.NameSet.{is_in, place_in}
use Rattle.tx_names.specs.declared.role.Role.{Role}
use Rattle.tx_names.specs.declared.role.Role.TheVariants.{Plain}
use Rattle.tx_names.specs.declared.fault.Fault.{Fault}
use Rattle.tx_names.specs.declared.fault.FaultKind.{FaultKind}
use Rattle.tx_names.specs.declared.fault.FaultKind.TheVariants as found
use Rattle.tx_names.specs.Scope.{Text}
use Rattle.tx_names.specs.Named.{builtins, walk_functions}
use Rattle.tx_names.specs.Function.{Function}
use Rattle.tx_names.specs.Bind.{bound_def, bound_lambda, bound_block}
use Rattle.tx_pipe.specs.Verbs.{verb_word, classes}
use Rattle.tx_pipe.specs.Pipe.{Operation, csv, map_to, filter, with_column, map_column, select_columns, rename_column, join, left_join, unique, aggregate, to_csv, Handling, resolve, ignore, role_in, PipeNode}
use Rattle.tx_script.specs.declared.fault.ScriptFault.{ScriptFault}
use Rattle.tx_script.specs.declared.fault.ScriptKind.{ScriptKind}
use Rattle.tx_script.specs.declared.fault.ScriptKind.TheVariants as kind
use Rattle.tx_script.specs.Written.{Code, lambda, named, Part, operator, handler, Link, Entry}
use Rattle.tx_script.specs.Forms.{sources, start_of}

-- goes on with what was found; a fault is the answer
infixl 10 ◌>>=◌
abbrev pub ◌>>=◌ : {A B : Type 0} → Result A ScriptFault → (A → Result B ScriptFault) → Result B ScriptFault
Ok a >>= g = g a
Err f >>= g = Err f

abbrev pub at : ScriptKind → ℕ → ScriptFault
at kind line = record { kind = kind; line = line }

-- an answer, or else a name that is not known on this line
abbrev pub known_at : {A : Type 0} → ℕ → Option A → Result A ScriptFault
known_at line None = Err (at kind.Name line)
known_at line (Some x) = Ok x

-- a fault of the names in a function
abbrev pub kind_of : FaultKind → ScriptKind
kind_of found.Recursive = kind.Recursive
kind_of found.Unknown = kind.Name
kind_of found.Arity = kind.Arity
kind_of found.RowUse = kind.RowUse

abbrev pub told : {A : Type 0} → Result A Fault → Result A ScriptFault
told (Ok x) = Ok x
told (Err f) = Err (at (kind_of f.kind) f.line)

-- ---- what the blocks ahead define

-- the defs with their functions, and their blocks; the names of the pipelines, and the number of the operator that each ends in
pub record Ahead : Type 0 where
  pub defs : List (Text × Function ℕ)
  pub blocks : List BlockTree
  pub pipelines : List Text
  pub ends : List ℕ

abbrev pub nothing_ahead : Ahead
nothing_ahead = record { defs = []; blocks = []; pipelines = []; ends = [] }

-- words that may not be defined: built-in functions, walks, sources, classes
abbrev pub reserved : List Text
reserved = map builtin_word builtins ++ map walk_word walk_functions ++ map verb_word sources ++ map name_of classes

abbrev pub is_def_of : Text → BlockTree → Bool
is_def_of n (define l m params comma b) = same_text n m
is_def_of n _ = false

abbrev pub def_of : Ahead → Text → Option BlockTree
def_of a n = find (is_def_of n) a.blocks

abbrev pub is_taken : Ahead → Text → Bool
is_taken a n = is_in reserved n || (is_in a.pipelines n || is_some (def_of a n))

-- a name that may be defined; the fault stands at the name
abbrev pub free_at : Ahead → ℕ → Text → Result Text ScriptFault
free_at a line n = if is_taken a n then Err (at kind.Name line) else Ok n

-- the number of the operator whose rows a pipeline's name stands for
abbrev pub end_of : Ahead → Word → Result ℕ ScriptFault
end_of a w = known_at w.line (slice_get a.ends (place_in a.pipelines w.text))

-- ---- functions

-- how many parameters a def has
abbrev pub size_of : BlockTree → ℕ
size_of (define l n params comma b) = length params
size_of _ = 0

-- the role that an operator gives; where none does, plain parameters of any number
abbrev pub role_or : Option Role → ℕ → Role
role_or (Some role) count = role
role_or None count = Plain count

-- a def's own block had its faults where it stands
abbrev pub linked_code : Ahead → Option Role → Code → Result (Function ℕ) ScriptFault
linked_code a role (lambda l params e) = told (bound_lambda a.defs (role_or role (length params)) l params e)
linked_code a role (named l n) = do
  b ← known_at l (def_of a n)
  told (bound_block a.defs (role_or role (size_of b)) l b)

-- ---- operators and handlers

-- an operator whose function and whose right pipeline become these
abbrev pub linked_with : {F G P Q : Type 0} → (F → Result G ScriptFault) → (P → Result Q ScriptFault) → Operation F P → Result (Operation G Q) ScriptFault
linked_with code pipe (csv file names) = Ok (csv file names)
linked_with code pipe (map_to f results) = do g ← code f; Ok (map_to g results)
linked_with code pipe (filter f) = do g ← code f; Ok (filter g)
linked_with code pipe (with_column n f) = do g ← code f; Ok (with_column n g)
linked_with code pipe (map_column n f) = do g ← code f; Ok (map_column n g)
linked_with code pipe (select_columns ns) = Ok (select_columns ns)
linked_with code pipe (rename_column m n) = Ok (rename_column m n)
linked_with code pipe (join p l r) = do q ← pipe p; Ok (join q l r)
linked_with code pipe (left_join p l r) = do q ← pipe p; Ok (left_join q l r)
linked_with code pipe unique = Ok unique
linked_with code pipe (aggregate f v n) = do g ← code f; Ok (aggregate g v n)
linked_with code pipe (to_csv file) = Ok (to_csv file)

abbrev pub linked_operator : Ahead → Operation Code Word → Result (Operation (Function ℕ) ℕ) ScriptFault
linked_operator a op = linked_with (linked_code a (role_in op)) (end_of a) op

-- a resolver takes what its operator takes
abbrev pub linked_handler : Ahead → Option Role → Handling Code → Result (Handling (Function ℕ)) ScriptFault
linked_handler a role (resolve class f) = do g ← linked_code a role f; Ok (resolve class g)
linked_handler a role (ignore class) = Ok (ignore class)

-- the handlers that follow in a chain, to before its next operator; `rest` are those behind a first one
abbrev pub handlers_by : Ahead → Option Role → Part → Result (List (Handling (Function ℕ))) ScriptFault → Result (List (Handling (Function ℕ))) ScriptFault
handlers_by a role (operator op) rest = Ok []
handlers_by a role (handler h) rest = do
  x ← linked_handler a role h
  xs ← rest
  Ok (x ∷ xs)

abbrev pub linked_handlers : Ahead → Option Role → List Link → Result (List (Handling (Function ℕ))) ScriptFault
linked_handlers a role [] = Ok []
linked_handlers a role (x ∷ links) = handlers_by a role x.part (linked_handlers a role links)

-- ---- chains

abbrev pub Pipe : Type 0
Pipe = List (PipeNode (Function ℕ))

-- a pipe with an operator more, which the handlers in front of these links belong to
abbrev pub with_operator : Ahead → Pipe → ℕ → ℕ → Operation Code Word → List Link → Result Pipe ScriptFault
with_operator a done input line op links = do
  x ← linked_operator a op
  hs ← linked_handlers a (role_in op) links
  Ok (done ++ (record { operation = x; input = input; handlers = hs; line = line }) ∷ [])

-- the operators of links behind a pipe, the first with this input, and each other with the one before it: the pipe, and the number
-- of the operator that they end in; `rest` are those behind the first link
abbrev pub nodes_by : Ahead → Pipe → ℕ → ℕ → Part → List Link → (Pipe → ℕ → Result (Pipe × ℕ) ScriptFault) → Result (Pipe × ℕ) ScriptFault
nodes_by a done input line (handler h) links rest = rest done input
nodes_by a done input line (operator op) links rest = do
  p ← with_operator a done input line op links
  rest p (length p)

abbrev pub linked_nodes : Ahead → Pipe → ℕ → List Link → Result (Pipe × ℕ) ScriptFault
linked_nodes a done input [] = Ok (done, input)
linked_nodes a done input (x ∷ links) = nodes_by a done input x.line x.part links (λ p end. linked_nodes a p end links)

-- the input of a chain's first operator: a source has none
abbrev pub linked_start : Ahead → Option Word → Result ℕ ScriptFault
linked_start a None = Ok 0
linked_start a (Some w) = end_of a w

-- handlers right behind a pipeline's name belong to no operator
abbrev pub linked_chain : Ahead → Pipe → Option Word → List Link → Result (Pipe × ℕ) ScriptFault
linked_chain a done start links = do
  input ← linked_start a start
  strays ← linked_handlers a None links
  linked_nodes a done input links

-- ---- blocks

-- what is defined ahead of the next block, and the pipe so far
abbrev pub State : Type 0
State = Ahead × Pipe

abbrev pub with_def : Ahead → Text → Function ℕ → BlockTree → Ahead
with_def a n f b = record { defs = a.defs ++ (n, f) ∷ []; blocks = a.blocks ++ b ∷ []; pipelines = a.pipelines; ends = a.ends }

abbrev pub with_pipeline : Ahead → Text → ℕ → Ahead
with_pipeline a n end = record { defs = a.defs; blocks = a.blocks; pipelines = a.pipelines ++ n ∷ []; ends = a.ends ++ end ∷ [] }

abbrev pub linked_block : Ahead → Pipe → BlockTree → List Link → Result State ScriptFault
linked_block a done (define l n params comma b) links = do
  free ← free_at a l n
  f ← told (bound_def a.defs (Plain (length params)) l n params b)
  Ok (with_def a n f (define l n params comma b), done)
linked_block a done (pipeline l n c) links = do
  free ← free_at a l n
  chain ← linked_chain a done (start_of c) links
  Ok (with_pipeline a n chain.1, chain.0)
linked_block a done (alone c) links = do
  chain ← linked_chain a done (start_of c) links
  Ok (a, chain.0)

abbrev pub linked : Ahead → Pipe → List Entry → Result Pipe ScriptFault
linked a done [] = Ok done
linked a done (e ∷ es) = do
  s ← linked_block a done e.block e.links
  linked s.0 s.1 es

-- the pipe of a script
abbrev pub linked_script : List Entry → Result Pipe ScriptFault
linked_script = linked nothing_ahead []
