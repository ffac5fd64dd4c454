-- What a function that is linked takes.
use Rattle.std.proofs.Common.{◌≡◌, ℕ, ◌==◌, Bool, true, false, if◌then◌else◌, List, [], ◌∷◌, map, length, Option, Some, None, Result, Ok, Err, refl, ap, subst, ◌∙◌, arith}
use Rattle.std.specs.Prelude.{is_some}
use Rattle.std.proofs.lemmas.Bool.{eqb-true}
use Rattle.std.proofs.lemmas.List.{length-map}
use Rattle.tx_tree.specs.Tree.{Tree, Body, BlockTree, define, pipeline, alone}
use Rattle.tx_names.specs.declared.role.Role.{Role}
use Rattle.tx_names.specs.declared.role.Role.TheVariants.{Plain, OfRow, OfAccRow}
use Rattle.tx_names.specs.declared.fault.Fault.{Fault}
use Rattle.tx_names.specs.declared.fault.FaultKind.TheVariants.{Arity}
use Rattle.tx_names.specs.Scope.{Text, role_size, plain_params, scope_of_lambda, scope_of_def}
use Rattle.tx_names.specs.Faults.{fault}
use Rattle.tx_names.specs.Function as f
use Rattle.tx_names.specs.Function.{Function, function}
use Rattle.tx_names.specs.Linked as names
use Rattle.tx_names.specs.Bind.{bound_block}
use Rattle.tx_pipe.specs.Lawful.{Takes, values_in}
use Rattle.tx_script.specs.Written.{Code, lambda, named}
use Rattle.tx_script.specs.Linked.{known_at, told, Ahead, def_of, role_or, size_of, linked_code}
use Rattle.tx_script.proofs.LawfulShapeParts.{bind_ok, ok_is}

found_ok : {A B : Type 0} (r : Result A Fault) (g : A → Result B Fault) (y : B) → names.◌>>=◌ r g ≡ Ok y → (x : A) × (r ≡ Ok x) × (g x ≡ Ok y)
found_ok (Ok x) g y h = (x, refl, h)
found_ok (Err e) g y h = absurd (cc)

told_back : {A : Type 0} (r : Result A Fault) (x : A) → told r ≡ Ok x → r ≡ Ok x
told_back (Ok y) x h = ap (λ z. Ok z) (ok_is y x h)
told_back (Err e) x h = absurd (cc)

if_ok : {A : Type 0} (b : Bool) (r : Result A Fault) (e : Fault) (x : A) → (if b then r else Err e) ≡ Ok x → (b ≡ true) × (r ≡ Ok x)
if_ok true r e x h = (refl, h)
if_ok false r e x h = absurd (cc)

-- as many parameters as a role has, without that of the row
as_many : (role : Role) (params : List Text) → length params ≡ role_size role → length (plain_params role params) ≡ values_in role
as_many (Plain n) params h = h
as_many OfRow params h = refl
as_many OfAccRow [] h = absurd (omega (arith, h))
as_many OfAccRow (p ∷ ps) h = refl

made_takes : (slot : Text → ℕ) (role : Role) (params all : List Text) (body : f.Body ℕ) (g : Function ℕ) → length params ≡ role_size role
    → ◌≡◌ {A = Result (Function ℕ) Fault} (Ok (function role (map slot (plain_params role params)) (map slot all) body)) (Ok g) → Takes (Some role) g
made_takes slot role params all body g n h =
    let e : function role (map slot (plain_params role params)) (map slot all) body ≡ g = cc in
    subst (λ x. Takes (Some role) x) e (refl, length-map (plain_params role params) slot ∙ as_many role params n)

lambda_takes : (slot : Text → ℕ) (defs : List (Text × Function ℕ)) (all : List Text) (role : Role) (at : ℕ) (params : List Text) (a : Tree) (g : Function ℕ)
    → names.function_of_lambda slot defs all role at params a ≡ Ok g → Takes (Some role) g
lambda_takes slot defs all role at params a g h =
    let sized = if_ok (length params == role_size role) _ (fault Arity at) g h in
    let made = found_ok (names.linked slot defs (scope_of_lambda role params) a) _ g sized.1 in
    made_takes slot role params all (f.gives made.0) g (eqb-true _ _ sized.0) made.2

def_takes : (slot : Text → ℕ) (defs : List (Text × Function ℕ)) (all : List Text) (role : Role) (at : ℕ) (n : Text) (params : List Text) (b : Body) (g : Function ℕ)
    → names.function_of_def slot defs all role at n params b ≡ Ok g → Takes (Some role) g
def_takes slot defs all role at n params b g h =
    let plain = found_ok (names.does_body slot defs (scope_of_def (Plain (length params)) n params b) b) _ g h in
    let sized = if_ok (length params == role_size role) _ (fault Arity at) g plain.2 in
    let made = found_ok (names.told_at slot defs at (names.does_body slot defs (scope_of_def role n params b) b)) _ g sized.1 in
    made_takes slot role params all (f.does made.0) g (eqb-true _ _ sized.0) made.2

block_takes : (defs : List (Text × Function ℕ)) (role : Role) (at : ℕ) (b : BlockTree) (g : Function ℕ) → bound_block defs role at b ≡ Ok g → Takes (Some role) g
block_takes defs role at (define l n params comma b) g h = def_takes _ defs _ role at n params b g h
block_takes defs role at (pipeline l n c) g h = absurd (cc)
block_takes defs role at (alone c) g h = absurd (cc)

-- a function that an operator links in its role takes what the role says
pub code_takes : (a : Ahead) (role : Option Role) (c : Code) (g : Function ℕ) → is_some role ≡ true → linked_code a role c ≡ Ok g → Takes role g
code_takes a None c g some h = absurd (cc)
code_takes a (Some role) (lambda l params e) g some h = lambda_takes _ a.defs _ role l params e g (told_back _ g h)
code_takes a (Some role) (named l n) g some h =
    let found = bind_ok (known_at l (def_of a n)) (λ b. told (bound_block a.defs (role_or (Some role) (size_of b)) l b)) g h in
    block_takes a.defs role l found.0 g (told_back _ g found.2)
