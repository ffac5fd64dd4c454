-- The first fault of a function is what linking it tells.
use Rattle.std.proofs.Common.{◌≡◌, ℕ, List, Option, Some, None, Result, Ok, Err, refl, ap, ◌∙◌}
use Rattle.tx_tree.specs.Tree.{BlockTree, define, pipeline, alone}
use Rattle.tx_names.specs.declared.role.Role.{Role}
use Rattle.tx_names.specs.declared.fault.Fault.{Fault}
use Rattle.tx_names.specs.declared.fault.FaultKind.TheVariants as found
use Rattle.tx_names.specs.declared.fault.BindError.{BindError}
use Rattle.tx_names.specs.declared.fault.BindError.TheVariants as bind
use Rattle.tx_names.specs.Scope.{Text}
use Rattle.tx_names.specs.Function.{Function}
use Rattle.tx_names.specs.Faults.{first}
use Rattle.tx_names.specs.Laws.{fault_in, FaultsLaw}
use Rattle.tx_names.specs.Bind.{error_of, known_of, bound_block, faults_of_block}
use Rattle.tx_script.specs.declared.fault.ScriptFault.{ScriptFault}
use Rattle.tx_script.specs.declared.fault.ScriptError.{ScriptError}
use Rattle.tx_script.specs.declared.fault.ScriptError.TheVariants as error
use Rattle.tx_script.specs.Linked.{at, kind_of, told}
use Rattle.tx_script.specs.Calls.Behind.{told_error}

abbrev from_some : Option Fault → Fault → Fault
from_some (Some e) d = e
from_some None d = d

abbrev from_fault : ScriptError → ScriptFault → ScriptFault
from_fault (error.Fault f) d = f
from_fault error.NoMemory d = d

told_err : {A : Type 0} (r : Result A Fault) (g : Fault) → fault_in r ≡ Some g → told r ≡ Err (at (kind_of g.kind) g.line)
told_err (Ok x) g h = cc
told_err (Err d) g h = ap (λ e. Err (at (kind_of e.kind) e.line)) (ap (λ o. from_some o d) h)

pub told_ok : {A : Type 0} (r : Result A Fault) (x : A) → r ≡ Ok x → told r ≡ Ok x
told_ok r x h = ap told h

same_fault : (f g : ScriptFault) → error.Fault f ≡ error.Fault g → f ≡ g
same_fault f g h = ap (λ e. from_fault e f) h

pub told_fault : {A B : Type 0} (r : Result A Fault) (list : List Fault) (b : Result B BindError) (e : BindError) (f : ScriptFault)
    → fault_in r ≡ first list → ((g : Fault) → b ≡ Err (error_of g) → first list ≡ Some g) → b ≡ Err e → told_error e ≡ error.Fault f → told r ≡ Err f
told_fault r list b (bind.Unknown line) f law tells is same =
    told_err r (record { kind = found.Unknown; line = line }) (law ∙ tells _ is) ∙ ap Err (same_fault _ f same)
told_fault r list b (bind.Arity line) f law tells is same =
    told_err r (record { kind = found.Arity; line = line }) (law ∙ tells _ is) ∙ ap Err (same_fault _ f same)
told_fault r list b (bind.Recursive line) f law tells is same =
    told_err r (record { kind = found.Recursive; line = line }) (law ∙ tells _ is) ∙ ap Err (same_fault _ f same)
told_fault r list b (bind.RowUse line) f law tells is same =
    told_err r (record { kind = found.RowUse; line = line }) (law ∙ tells _ is) ∙ ap Err (same_fault _ f same)
told_fault r list b bind.NoMemory f law tells is same = cc

-- a block that is no def has one fault
pub block_law : FaultsLaw → (defs : List (Text × Function ℕ)) (role : Role) (at : ℕ) (b : BlockTree)
    → fault_in (bound_block defs role at b) ≡ first (faults_of_block (known_of defs) role at b)
block_law law defs role at (define l n params comma b) = law.def_with_slots defs role at n params b
block_law law defs role at (pipeline l n c) = refl
block_law law defs role at (alone c) = refl

abbrev from_err : {A : Type 0} → Result A ScriptError → ScriptError → ScriptError
from_err (Err e) d = e
from_err (Ok x) d = d

pub err_same : {A : Type 0} (x y : ScriptError) → ◌≡◌ {A = Result A ScriptError} (Err x) (Err y) → x ≡ y
err_same {A = A} x y h = ap (λ (r : Result A ScriptError). from_err r x) h
