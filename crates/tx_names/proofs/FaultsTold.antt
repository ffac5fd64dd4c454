-- The function of a def or of a lambda is refused at the first fault of its list.
use Rattle.std.proofs.Common.{◌≡◌, ℕ, List, [], ◌∷◌, ◌++◌, length, Some, None, Result, Ok, Err, refl, sym, ap, subst, Bool, true, false, not, ◌&&◌, ◌||◌, ◌==◌, if◌then◌else◌, append_assoc}
use Rattle.std.specs.List.{list_any, list_all}
use Rattle.std.proofs.lemmas.Bool.{true≢false}
use Rattle.std.proofs.lemmas.Bool.Decides.{Decides-eqb}
use Rattle.tx_tree.specs.Tree.{Tree, Body}
use Rattle.tx_name_set.specs.NameSet.{place_in}
use Rattle.tx_names.specs.declared.role.Role.{Role}
use Rattle.tx_names.specs.declared.role.Role.TheVariants.{Plain}
use Rattle.tx_names.specs.declared.fault.Fault.{Fault}
use Rattle.tx_names.specs.declared.fault.FaultKind.TheVariants.{Arity, RowUse}
use Rattle.tx_names.specs.Scope.{Text, role_size, names_of_def, names_of_lambda, scope_of_def, scope_of_lambda}
use Rattle.tx_names.specs.Faults.{fault, when, first, faults_body, faults_of_def, faults_of_lambda, at_params, is_row_use}
use Rattle.tx_names.specs.Function.{Function}
use Rattle.tx_names.specs.Linked as l
use Rattle.tx_names.specs.Linked.{◌>>=◌, has_params, told_at}
use Rattle.tx_names.specs.Bind.{known_of}
use Rattle.tx_names.specs.Laws.{FaultsLaw}
use Rattle.tx_names.proofs.Told.{Told, done, linked_told, body_told}
use Rattle.tx_names.proofs.OnlyRows.{Rows, def_rows}

none_some : {A : Type 0} {x : A} → None ≡ Some x → ⊥
none_some h = cc

some_one : {A : Type 0} {x y : A} → Some x ≡ Some y → x ≡ y
some_one h = cc

-- a part that succeeds has no fault
go_known : {A B : Type 0} {o : Result A Fault} {k : A → Result B Fault} {fs gs : List Fault} → Told o fs → ((a : A) → fs ≡ [] → Told (k a) gs) → Told (o >>= k) (fs ++ gs)
go_known {o = Ok a} {fs = []} h r = r a refl
go_known {o = Ok a} {fs = e ∷ es} h r = absurd (none_some h.told)
go_known {o = Err e} {fs = []} h r = absurd (none_some (sym h.told))
go_known {o = Err e} {fs = d ∷ es} h r = record { told = h.told }

any_head : (p : Fault → Bool) (d : Fault) (es : List Fault) → list_all p (d ∷ es) ≡ true → list_any p (d ∷ es) ≡ true
any_head p d es h = by_test (p d) h
  where
    by_test : (b : Bool) → (b && list_all p es) ≡ true → (b || list_any p es) ≡ true
    by_test true k = refl
    by_test false k = absurd (true≢false (sym k))

module _ {K : Type 0} (slot : Text → K) (ds : List (Text × Function K)) where
  row_told : {A B : Type 0} (c : A → B) {o : Result A Fault} {fs : List Fault} (at : ℕ) → Told o fs → Rows fs → Told (told_at slot ds at o >>= (λ a. Ok (c a))) (when (list_any is_row_use fs) (fault RowUse at))
  row_told c {o = Ok a} {fs = []} at h r = record { told = refl }
  row_told c {o = Ok a} {fs = e ∷ es} at h r = absurd (none_some h.told)
  row_told c {o = Err e} {fs = []} at h r = absurd (none_some (sym h.told))
  row_told c {o = Err e} {fs = d ∷ es} at h r = record { told = ap (λ b. first (when b (fault RowUse at))) (sym (any_head is_row_use d es r.rows)) }

  params_told : {A : Type 0} {o : Result A Fault} {fs : List Fault} (role : Role) (at : ℕ) (params : List Text) → (length params ≡ role_size role → Told o fs) → Told (has_params slot ds role at params o) (at_params (known_of ds) role at params ++ fs)
  params_told {o = o} {fs = fs} role at params h = by_test (length params == role_size role) refl
    where
      by_test : (b : Bool) → (length params == role_size role) ≡ b → Told (if b then o else Err (fault Arity at)) (when (not b) (fault Arity at) ++ fs)
      by_test true e = h ((Decides-eqb (length params) (role_size role)).0 e)
      by_test false e = record { told = refl }

  pub lambda_told : (names : List Text) (role : Role) (at : ℕ) (params : List Text) (a : Tree) → Told (l.function_of_lambda slot ds names role at params a) (faults_of_lambda (known_of ds) role at params a)
  lambda_told names role at params a = params_told role at params (λ e. done _ (linked_told slot ds (scope_of_lambda role params) a))

  pub def_told : (names : List Text) (role : Role) (at : ℕ) (n : Text) (params : List Text) (b : Body) → Told (l.function_of_def slot ds names role at n params b) (faults_of_def (known_of ds) role at n params b)
  def_told names role at n params b =
      let fs : List Fault = faults_body (known_of ds) (scope_of_def (Plain (length params)) n params b) b in
      let rs : List Fault = when (list_any is_row_use (faults_body (known_of ds) (scope_of_def role n params b) b)) (fault RowUse at) in
      subst (λ (xs : List Fault). Told (l.function_of_def slot ds names role at n params b) xs) (sym (append_assoc fs (at_params (known_of ds) role at params) rs))
      (go_known (body_told slot ds (scope_of_def (Plain (length params)) n params b) b) λ y e. params_told role at params (λ k. row_told _ at (body_told slot ds (scope_of_def role n params b) b) (def_rows (known_of ds) role n params b k e)))

pub faults_told : FaultsLaw
faults_told = record {
  def_with_slots = λ ds role at n params b. (def_told (place_in (names_of_def role params b)) ds (names_of_def role params b) role at n params b).told;
  def_with_names = λ ds role at n params b. (def_told (λ m. m) ds (names_of_def role params b) role at n params b).told;
  lambda_with_slots = λ ds role at params a. (lambda_told (place_in (names_of_lambda role params a)) ds (names_of_lambda role params a) role at params a).told;
  lambda_with_names = λ ds role at params a. (lambda_told (λ m. m) ds (names_of_lambda role params a) role at params a).told;
}
