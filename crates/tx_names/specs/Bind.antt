-- What `bind` and `bind_lambda` answer: the faults of a def or a lambda, and its function with slots.
use Rattle.std.specs.Prelude.{ℕ, List, [], ◌∷◌, map, length, Result, Err}
use Rattle.tx_tree.specs.Tree.{Tree, Body, BlockTree, define}
use Rattle.tx_name_set.specs.NameSet.{place_in}
use Rattle.tx_names.specs.declared.role.Role.{Role}
use Rattle.tx_names.specs.declared.fault.Fault.{Fault}
use Rattle.tx_names.specs.declared.fault.FaultKind.{FaultKind}
use Rattle.tx_names.specs.declared.fault.FaultKind.TheVariants as kind
use Rattle.tx_names.specs.declared.fault.BindError.{BindError}
use Rattle.tx_names.specs.declared.fault.BindError.TheVariants as error
use Rattle.tx_names.specs.declared.bound.Bound.{Bound}
use Rattle.tx_names.specs.declared.bound.Def.{Def}
use Rattle.tx_names.specs.Function.{Function, params_of}
use Rattle.tx_names.specs.Scope.{Text, names_of_def, names_of_lambda}
use Rattle.tx_names.specs.Faults.{fault, Known, faults_of_def}
use Rattle.tx_names.specs.Linked.{function_of_def, function_of_lambda}
use Rattle.tx_names.specs.View.{routine_of}

-- a bound function as a function whose names are slots
abbrev pub function_of : Bound → Function ℕ
function_of f = routine_of f.routine.value

-- the earlier defs
abbrev pub defs_of : List Def → List (Text × Function ℕ)
defs_of = map (λ d. (d.name, function_of d.function.value))

-- their names, each with its number of parameters
abbrev pub known_of : {K : Type 0} → List (Text × Function K) → Known
known_of = map (λ d. (d.0, length (params_of d.1)))

-- the error that tells a fault
abbrev pub error_of_kind : FaultKind → ℕ → BindError
error_of_kind kind.Recursive l = error.Recursive l
error_of_kind kind.Unknown l = error.Unknown l
error_of_kind kind.Arity l = error.Arity l
error_of_kind kind.RowUse l = error.RowUse l

abbrev pub error_of : Fault → BindError
error_of e = error_of_kind e.kind e.line

-- each name at its place among all names of the function
abbrev pub bound_lambda : List (Text × Function ℕ) → Role → ℕ → List Text → Tree → Result (Function ℕ) Fault
bound_lambda defs role at params a =
    function_of_lambda (place_in (names_of_lambda role params a)) defs (names_of_lambda role params a) role at params a

abbrev pub bound_def : List (Text × Function ℕ) → Role → ℕ → Text → List Text → Body → Result (Function ℕ) Fault
bound_def defs role at n params b =
    function_of_def (place_in (names_of_def role params b)) defs (names_of_def role params b) role at n params b

-- the same of a block: one that is no def gives no function
abbrev pub faults_of_block : Known → Role → ℕ → BlockTree → List Fault
faults_of_block defs role at (define l n params comma b) = faults_of_def defs role at n params b
faults_of_block defs role at _ = fault kind.Unknown at ∷ []

abbrev pub bound_block : List (Text × Function ℕ) → Role → ℕ → BlockTree → Result (Function ℕ) Fault
bound_block defs role at (define l n params comma b) = bound_def defs role at n params b
bound_block defs role at _ = Err (fault kind.Unknown at)
