-- What a def and a lambda are bound to, from what their parts are linked to.
use Rattle.std.proofs.Common.{◌≡◌, ℕ, List, [], ◌∷◌, length, Some, None, Result, Ok, Err, refl, sym, ap, ◌∙◌, Bool, true, false, ◌&&◌, ◌==◌, if◌then◌else◌, nat_eq}
use Rattle.std.specs.List.{list_all}
use Rattle.std.proofs.lemmas.Bool.{true≢false}
use Rattle.std.proofs.lemmas.Bool.Decides.{Decides-eqb}
use Rattle.tx_tree.specs.Tree.{Tree, Body}
use Rattle.tx_name_set.specs.NameSet.{place_in}
use Rattle.tx_names.specs.declared.role.Role.{Role}
use Rattle.tx_names.specs.declared.role.Role.TheVariants.{Plain}
use Rattle.tx_names.specs.declared.fault.Fault.{Fault}
use Rattle.tx_names.specs.declared.fault.FaultKind.TheVariants.{Arity, RowUse}
use Rattle.tx_names.specs.declared.bound.Def.{Def}
use Rattle.tx_names.specs.Scope.{Text, role_size, names_of_def, names_of_lambda, scope_of_def, scope_of_lambda}
use Rattle.tx_names.specs.Faults.{fault, first, faults_of_def, faults_of_lambda}
use Rattle.tx_names.specs.Function.{Expr, Statements, Function, gives, does}
use Rattle.tx_names.specs.Linked.{◌>>=◌, linked, does_body, told_at}
use Rattle.tx_names.specs.Sound.{sound}
use Rattle.tx_names.specs.Calls.Whole.{whole}
use Rattle.tx_names.specs.Bind.{defs_of, known_of, bound_def, bound_lambda}
use Rattle.tx_names.specs.Laws.{fault_in}
use Rattle.tx_names.proofs.Told.{body_told}
use Rattle.tx_names.proofs.FaultsTold.{faults_told}
use Rattle.tx_names.proofs.Soundness.{soundness}

both : {a b : Bool} → a ≡ true → b ≡ true → (a && b) ≡ true
both {a = true} h r = r
both {a = false} h r = absurd (true≢false (sym h))

-- the earlier defs are sound
pub defs_sound : (ds : List Def) → list_all (λ d. sound nat_eq d.1) (defs_of ds) ≡ true
defs_sound [] = refl
defs_sound (d ∷ ds) = both d.function.value.is_sound (defs_sound ds)

none_some : {A : Type 0} {x : A} → None ≡ Some x → ⊥
none_some h = cc

some_one : {A : Type 0} {x y : A} → Some x ≡ Some y → x ≡ y
some_one h = cc

-- an answer without a fault
record Answers {A : Type 0} (u : Result A Fault) : Type 0 where
  answer : A
  is : u ≡ Ok answer

answers : {A : Type 0} (u : Result A Fault) → fault_in u ≡ None → Answers u
answers (Ok a) h = record { answer = a; is = refl }
answers (Err e) h = absurd (none_some (sym h))

refuses : {A : Type 0} (u : Result A Fault) (e : Fault) → fault_in u ≡ Some e → u ≡ Err e
refuses (Ok a) e h = absurd (none_some h)
refuses (Err d) e h = ap Err (some_one h)

module _ (ds : List (Text × Function ℕ)) (role : Role) (at : ℕ) (n : Text) (params : List Text) (b : Body) where
  -- the statements as those of a def, with the slots of some names
  abbrev as_def : (Text → ℕ) → Result (Statements ℕ) Fault
  as_def slot = does_body slot ds (scope_of_def (Plain (length params)) n params b) b

  abbrev slot : Text → ℕ
  slot = place_in (names_of_def role params b)

  abbrev as_used : Result (Statements ℕ) Fault
  as_used = does_body slot ds (scope_of_def role n params b) b

  abbrev def_with : Statements ℕ → Function ℕ
  def_with ss = whole (names_of_def role params b) role params (does ss)

  -- what stands behind the look at it as a def
  abbrev then_used : Statements ℕ → Result (Function ℕ) Fault
  then_used y = if length params == role_size role then (told_at slot ds at as_used >>= (λ ss. Ok (def_with ss))) else Err (fault Arity at)

  same_fault : (p q : Text → ℕ) → fault_in (as_def p) ≡ fault_in (as_def q)
  same_fault p q = (body_told p ds (scope_of_def (Plain (length params)) n params b) b).told ∙ sym (body_told q ds (scope_of_def (Plain (length params)) n params b) b).told

  pub def_refused : (p : Text → ℕ) (e : Fault) → as_def p ≡ Err e → bound_def ds role at n params b ≡ Err e
  def_refused p e h = ap (λ o. o >>= then_used) (refuses (as_def slot) e (same_fault slot p ∙ ap fault_in h))

  rest : (p : Text → ℕ) (y : Statements ℕ) → as_def p ≡ Ok y → bound_def ds role at n params b ≡ (if length params == role_size role then (told_at slot ds at as_used >>= (λ ss. Ok (def_with ss))) else Err (fault Arity at))
  rest p y h = ap (λ o. o >>= then_used) (answers (as_def slot) (same_fault slot p ∙ ap fault_in h)).is

  choose_false : {A : Type 0} (x y : A) (c : Bool) → (c ≡ true → ⊥) → (if c then x else y) ≡ y
  choose_false x y true h = absurd (h refl)
  choose_false x y false h = refl

  pub params_refused : (p : Text → ℕ) (y : Statements ℕ) → as_def p ≡ Ok y → (length params ≡ role_size role → ⊥) → bound_def ds role at n params b ≡ Err (fault Arity at)
  params_refused p y h k = rest p y h ∙ choose_false (told_at slot ds at as_used >>= (λ ss. Ok (def_with ss))) (Err (fault Arity at)) (length params == role_size role) (λ e. k ((Decides-eqb (length params) (role_size role)).0 e))

  counted : length params ≡ role_size role → (length params == role_size role) ≡ true
  counted k = (Decides-eqb (length params) (role_size role)).1 k

  pub row_refused : (p : Text → ℕ) (y : Statements ℕ) (d : Fault) → as_def p ≡ Ok y → length params ≡ role_size role → as_used ≡ Err d → bound_def ds role at n params b ≡ Err (fault RowUse at)
  row_refused p y d h k r = rest p y h ∙ ap (λ c. if c then (told_at slot ds at as_used >>= (λ ss. Ok (def_with ss))) else Err (fault Arity at)) (counted k) ∙ ap (λ o. told_at slot ds at o >>= (λ ss. Ok (def_with ss))) r

  pub def_bound : (p : Text → ℕ) (y ss : Statements ℕ) → as_def p ≡ Ok y → length params ≡ role_size role → as_used ≡ Ok ss → bound_def ds role at n params b ≡ Ok (def_with ss)
  def_bound p y ss h k r = rest p y h ∙ ap (λ c. if c then (told_at slot ds at as_used >>= (λ zs. Ok (def_with zs))) else Err (fault Arity at)) (counted k) ∙ ap (λ o. told_at slot ds at o >>= (λ zs. Ok (def_with zs))) r

  pub def_sound : (p : Text → ℕ) (y ss : Statements ℕ) → list_all (λ d. sound nat_eq d.1) ds ≡ true → as_def p ≡ Ok y → length params ≡ role_size role → as_used ≡ Ok ss → sound nat_eq (def_with ss) ≡ true
  def_sound p y ss s h k r = soundness.def_with_slots ds role at n params b (def_with ss) s (def_bound p y ss h k r)

module _ (ds : List (Text × Function ℕ)) (role : Role) (at : ℕ) (params : List Text) (a : Tree) where
  abbrev lambda_slot : Text → ℕ
  lambda_slot = place_in (names_of_lambda role params a)

  abbrev lambda_with : Expr ℕ → Function ℕ
  lambda_with x = whole (names_of_lambda role params a) role params (gives x)

  abbrev linked_body : Result (Expr ℕ) Fault
  linked_body = linked lambda_slot ds (scope_of_lambda role params) a

  lambda_rest : length params ≡ role_size role → bound_lambda ds role at params a ≡ (linked_body >>= (λ x. Ok (lambda_with x)))
  lambda_rest k = ap (λ c. if c then (linked_body >>= (λ x. Ok (lambda_with x))) else Err (fault Arity at)) ((Decides-eqb (length params) (role_size role)).1 k)

  pub lambda_params_refused : (length params ≡ role_size role → ⊥) → bound_lambda ds role at params a ≡ Err (fault Arity at)
  lambda_params_refused k = by_test (length params == role_size role) (λ e. k ((Decides-eqb (length params) (role_size role)).0 e))
    where
      by_test : (c : Bool) → (c ≡ true → ⊥) → (if c then (linked_body >>= (λ x. Ok (lambda_with x))) else Err (fault Arity at)) ≡ Err (fault Arity at)
      by_test true h = absurd (h refl)
      by_test false h = refl

  pub lambda_refused : (e : Fault) → length params ≡ role_size role → linked_body ≡ Err e → bound_lambda ds role at params a ≡ Err e
  lambda_refused e k h = lambda_rest k ∙ ap (λ o. o >>= (λ x. Ok (lambda_with x))) h

  pub lambda_bound : (x : Expr ℕ) → length params ≡ role_size role → linked_body ≡ Ok x → bound_lambda ds role at params a ≡ Ok (lambda_with x)
  lambda_bound x k h = lambda_rest k ∙ ap (λ o. o >>= (λ y. Ok (lambda_with y))) h

  pub lambda_sound : (x : Expr ℕ) → list_all (λ d. sound nat_eq d.1) ds ≡ true → length params ≡ role_size role → linked_body ≡ Ok x → sound nat_eq (lambda_with x) ≡ true
  lambda_sound x s k h = soundness.lambda_with_slots ds role at params a (lambda_with x) s (lambda_bound x k h)

-- ---- from answers to faults

empty_first : (fs : List Fault) → first fs ≡ None → fs ≡ []
empty_first [] h = refl
empty_first (e ∷ es) h = absurd (none_some (sym h))

pub def_fine : (ds : List (Text × Function ℕ)) (role : Role) (at : ℕ) (n : Text) (params : List Text) (b : Body) (f : Function ℕ) → bound_def ds role at n params b ≡ Ok f → faults_of_def (known_of ds) role at n params b ≡ []
def_fine ds role at n params b f h = empty_first _ (sym (faults_told.def_with_slots ds role at n params b) ∙ ap fault_in h)

pub def_fault : (ds : List (Text × Function ℕ)) (role : Role) (at : ℕ) (n : Text) (params : List Text) (b : Body) (e : Fault) → bound_def ds role at n params b ≡ Err e → first (faults_of_def (known_of ds) role at n params b) ≡ Some e
def_fault ds role at n params b e h = sym (faults_told.def_with_slots ds role at n params b) ∙ ap fault_in h

pub lambda_fine : (ds : List (Text × Function ℕ)) (role : Role) (at : ℕ) (params : List Text) (a : Tree) (f : Function ℕ) → bound_lambda ds role at params a ≡ Ok f → faults_of_lambda (known_of ds) role at params a ≡ []
lambda_fine ds role at params a f h = empty_first _ (sym (faults_told.lambda_with_slots ds role at params a) ∙ ap fault_in h)

pub lambda_fault : (ds : List (Text × Function ℕ)) (role : Role) (at : ℕ) (params : List Text) (a : Tree) (e : Fault) → bound_lambda ds role at params a ≡ Err e → first (faults_of_lambda (known_of ds) role at params a) ≡ Some e
lambda_fault ds role at params a e h = sym (faults_told.lambda_with_slots ds role at params a) ∙ ap fault_in h

pub ruleset binding = (defs_sound, def_refused, params_refused, row_refused, def_bound, def_sound, lambda_params_refused, lambda_refused, lambda_bound, lambda_sound, def_fine, def_fault, lambda_fine, lambda_fault)
