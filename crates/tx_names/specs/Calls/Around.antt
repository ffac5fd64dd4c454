-- What the names around a part of a function stand for.
use Rattle.std.specs.Prelude.{ℕ, List, ◌++◌, take, option_copied, Result, Ok}
use Rattle.tx_tree.specs.Tree as t
use Rattle.tx_tree.specs.declared.target.Target as declared
use Rattle.tx_name_set.specs.NameSet.{place_in}
use Rattle.tx_names.specs.declared.fault.Fault.{Fault}
use Rattle.tx_names.specs.declared.around.Around.{Around}
use Rattle.tx_names.specs.declared.around.Inner.{Inner, fold-Inner}
use Rattle.tx_names.specs.declared.around.Inner.TheOpen.{Inner-F}
use Rattle.tx_names.specs.declared.around.Inner.TheOpen as i
use Rattle.tx_names.specs.declared.called.Callee as code
use Rattle.tx_names.specs.declared.called.Callee.TheVariants as c
use Rattle.tx_names.specs.Function as f
use Rattle.tx_names.specs.Function.{Function}
use Rattle.tx_names.specs.Scope.{Text, Scope}
use Rattle.tx_names.specs.Linked as l
use Rattle.tx_names.specs.Linked.{◌>>=◌, Callee, builtin_function, earlier_def}
use Rattle.tx_names.specs.View.{routine_of}
use Rattle.tx_names.specs.Bind.{defs_of}

-- the variables of the comprehensions around, in front of other names
abbrev pub inner_step : Inner-F (List Text → List Text) → List Text → List Text
inner_step i.Nothing names = names
inner_step (i.Within own rest) names = own ++ rest.value names

abbrev pub inner_names : Inner → List Text → List Text
inner_names = fold-Inner (List Text → List Text) inner_step

abbrev pub scope_of : Around → Inner → Scope
scope_of a inner = record { own = option_copied a.own; locals = inner_names inner (take a.base a.names.now); row = option_copied a.row }

-- what is linked with the names around it
abbrev pub slot_of : Around → Text → ℕ
slot_of a = place_in a.names.now

abbrev pub known : Around → List (Text × Function ℕ)
known a = defs_of a.defs.now

abbrev pub linked : Around → Inner → t.Tree → Result (f.Expr ℕ) Fault
linked a inner = l.linked (slot_of a) (known a) (scope_of a inner)

abbrev pub linked_each : Around → Inner → t.Trees → Result (f.Exprs ℕ) Fault
linked_each a inner = l.linked_each (slot_of a) (known a) (scope_of a inner)

abbrev pub linked_pairs : Around → Inner → t.PairTrees → Result (f.Pairs ℕ) Fault
linked_pairs a inner = l.linked_pairs (slot_of a) (known a) (scope_of a inner)

abbrev pub linked_operands : Around → Inner → t.Operands → Result (f.Comparisons ℕ) Fault
linked_operands a inner = l.linked_operands (slot_of a) (known a) (scope_of a inner)

abbrev pub linked_maybe : Around → Inner → t.MaybeTree → Result (f.Maybe ℕ) Fault
linked_maybe a inner = l.linked_maybe (slot_of a) (known a) (scope_of a inner)

abbrev pub linked_iterable : Around → Inner → t.Tree → Result (f.Iterable ℕ) Fault
linked_iterable a inner tree = l.linked_iterable (slot_of a) (known a) (scope_of a inner) tree (linked a inner tree)

abbrev pub linked_target : Around → Inner → declared.Target → Result (f.Target ℕ) Fault
linked_target a inner = l.linked_target (slot_of a) (known a) (scope_of a inner)

abbrev pub does : Around → Inner → t.Statement → Result (f.Statement ℕ) Fault
does a inner = l.does (slot_of a) (known a) (scope_of a inner)

abbrev pub does_all : Around → Inner → t.Statements → Result (f.Statements ℕ) Fault
does_all a inner = l.does_all (slot_of a) (known a) (scope_of a inner)

abbrev pub does_body : Around → Inner → t.Body → Result (f.Statements ℕ) Fault
does_body a inner = l.does_body (slot_of a) (known a) (scope_of a inner)

abbrev pub arms_of : Around → Inner → t.Tail → Result (f.Arms ℕ) Fault
arms_of a inner = l.arms_of (slot_of a) (known a) (scope_of a inner)

abbrev pub other_of : Around → Inner → t.Tail → Result (f.Statements ℕ) Fault
other_of a inner = l.other_of (slot_of a) (known a) (scope_of a inner)

-- what a called name stands for
abbrev pub callee_of : code.Callee → Callee ℕ
callee_of (c.Function b) = builtin_function b
callee_of (c.Routine r) = earlier_def (routine_of r.value)

-- an arm, and behind it those of a tail
abbrev pub arms_behind : Around → Inner → f.Expr ℕ × f.Statements ℕ → t.Tail → Result (f.Arms ℕ) Fault
arms_behind a inner p rest = arms_of a inner rest >>= (λ xs. Ok (f.arm p.0 p.1 xs))
