-- What holds of the definitions alone.
use Rattle.std.specs.Prelude.{◌≡◌, ℕ, nat_eq, true, List, Option, Some, None, Result, Ok, Err}
use Rattle.std.specs.List.{list_all}
use Rattle.tx_tree.specs.Words.{same_text}
use Rattle.tx_tree.specs.Tree.{Tree, Body}
use Rattle.tx_names.specs.declared.role.Role.{Role}
use Rattle.tx_names.specs.declared.fault.Fault.{Fault}
use Rattle.tx_names.specs.Function.{Function}
use Rattle.tx_names.specs.Scope.{Text, names_of_def, names_of_lambda}
use Rattle.tx_names.specs.Faults.{first, faults_of_def, faults_of_lambda}
use Rattle.tx_names.specs.Linked.{function_of_def, function_of_lambda}
use Rattle.tx_names.specs.Numbered.{numbered, numbered_defs}
use Rattle.tx_names.specs.Sound.{sound}
use Rattle.tx_names.specs.Bind.{known_of, bound_def, bound_lambda}

-- a function with names for its names
abbrev pub named_def : List (Text × Function Text) → Role → ℕ → Text → List Text → Body → Result (Function Text) Fault
named_def defs role at n params b = function_of_def (λ m. m) defs (names_of_def role params b) role at n params b

abbrev pub named_lambda : List (Text × Function Text) → Role → ℕ → List Text → Tree → Result (Function Text) Fault
named_lambda defs role at params a = function_of_lambda (λ m. m) defs (names_of_lambda role params a) role at params a

abbrev pub fault_in : {A : Type 0} → Result A Fault → Option Fault
fault_in (Ok x) = None
fault_in (Err e) = Some e

-- linking gives a function exactly where there is no fault, and else it tells the first one, whatever names become
pub record FaultsLaw : Type 0 where
  pub def_with_slots : (defs : List (Text × Function ℕ)) (role : Role) (at : ℕ) (n : Text) (params : List Text) (b : Body)
      → fault_in (bound_def defs role at n params b) ≡ first (faults_of_def (known_of defs) role at n params b)
  pub def_with_names : (defs : List (Text × Function Text)) (role : Role) (at : ℕ) (n : Text) (params : List Text) (b : Body)
      → fault_in (named_def defs role at n params b) ≡ first (faults_of_def (known_of defs) role at n params b)
  pub lambda_with_slots : (defs : List (Text × Function ℕ)) (role : Role) (at : ℕ) (params : List Text) (a : Tree)
      → fault_in (bound_lambda defs role at params a) ≡ first (faults_of_lambda (known_of defs) role at params a)
  pub lambda_with_names : (defs : List (Text × Function Text)) (role : Role) (at : ℕ) (params : List Text) (a : Tree)
      → fault_in (named_lambda defs role at params a) ≡ first (faults_of_lambda (known_of defs) role at params a)

abbrev pub numbered_result : Result (Function Text) Fault → Result (Function ℕ) Fault
numbered_result (Ok f) = Ok (numbered f)
numbered_result (Err e) = Err e

-- linked with slots a function is the one with names, but for its names
pub record NumberingLaw : Type 0 where
  pub def : (defs : List (Text × Function Text)) (role : Role) (at : ℕ) (n : Text) (params : List Text) (b : Body)
      → bound_def (numbered_defs defs) role at n params b ≡ numbered_result (named_def defs role at n params b)
  pub lambda : (defs : List (Text × Function Text)) (role : Role) (at : ℕ) (params : List Text) (a : Tree)
      → bound_lambda (numbered_defs defs) role at params a ≡ numbered_result (named_lambda defs role at params a)

-- a function is sound where the earlier defs are
pub record SoundLaw : Type 0 where
  pub def_with_slots : (defs : List (Text × Function ℕ)) (role : Role) (at : ℕ) (n : Text) (params : List Text) (b : Body) (f : Function ℕ)
      → list_all (λ d. sound nat_eq d.1) defs ≡ true → bound_def defs role at n params b ≡ Ok f → sound nat_eq f ≡ true
  pub def_with_names : (defs : List (Text × Function Text)) (role : Role) (at : ℕ) (n : Text) (params : List Text) (b : Body) (f : Function Text)
      → list_all (λ d. sound same_text d.1) defs ≡ true → named_def defs role at n params b ≡ Ok f → sound same_text f ≡ true
  pub lambda_with_slots : (defs : List (Text × Function ℕ)) (role : Role) (at : ℕ) (params : List Text) (a : Tree) (f : Function ℕ)
      → list_all (λ d. sound nat_eq d.1) defs ≡ true → bound_lambda defs role at params a ≡ Ok f → sound nat_eq f ≡ true
  pub lambda_with_names : (defs : List (Text × Function Text)) (role : Role) (at : ℕ) (params : List Text) (a : Tree) (f : Function Text)
      → list_all (λ d. sound same_text d.1) defs ≡ true → named_lambda defs role at params a ≡ Ok f → sound same_text f ≡ true
