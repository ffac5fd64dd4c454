-- Answers and faults that are taken apart.
use Rattle.std.proofs.Common.{◌≡◌, ℕ, Bool, true, false, cond, List, [], ◌∷◌, ◌++◌, Option, Some, None, Result, Ok, Err, option_map, find, refl}
use Rattle.std.specs.Prelude.{option_and_then, IfSome}
use Rattle.std.specs.List.{AllByRecursion}
use Rattle.tx_tree.specs.Tree.{BlockTree}
use Rattle.tx_names.specs.Scope.{Text}
use Rattle.tx_names.specs.Faults.{first_some}
use Rattle.tx_script.specs.declared.fault.ScriptFault.{ScriptFault}
use Rattle.tx_script.specs.Linked.{◌>>=◌}
use Rattle.tx_script.specs.Checks.{when, first_of, too_long, not_text, token_fault, operator_fault, too_many_operators, too_many_defs, name_fault, handler_place, pipe_use, no_end, output_is_input, entries, refusal}

pub no_ok : {A : Type 0} (f : ScriptFault) (b : A) → ◌≡◌ {A = Result A ScriptFault} (Err f) (Ok b) → ⊥
no_ok f b e = cc

pub ok_is : {A : Type 0} (a b : A) → ◌≡◌ {A = Result A ScriptFault} (Ok a) (Ok b) → a ≡ b
ok_is a b e = cc

pub no_none : {A : Type 0} (x : A) → Some x ≡ None → ⊥
no_none x e = cc

pub bind_ok : {A B : Type 0} (r : Result A ScriptFault) (g : A → Result B ScriptFault) (b : B) → r >>= g ≡ Ok b → (a : A) × (r ≡ Ok a) × (g a ≡ Ok b)
bind_ok (Ok a) g b e = (a, refl, e)
bind_ok (Err f) g b e = absurd (no_ok f b e)

pub first_none : {A : Type 0} (o p : Option A) → first_some o p ≡ None → (o ≡ None) × (p ≡ None)
first_none None p e = (refl, e)
first_none (Some x) p e = absurd (no_none x e)

pub when_none : (b : Bool) (f : ScriptFault) → when b f ≡ None → b ≡ false
when_none true f e = absurd (no_none f e)
when_none false f e = refl

pub map_none : {A B : Type 0} (f : A → B) (o : Option A) → option_map f o ≡ None → o ≡ None
map_none f None e = refl
map_none f (Some x) e = absurd (no_none (f x) e)

pub any_bind : {A B : Type 0} (o : Option A) (g : A → Option B) (P : B → Type 0) → ((a : A) → IfSome (g a) P) → IfSome (option_and_then g o) P
any_bind None g P h = tt
any_bind (Some a) g P h = h a

pub if_bind : {A B : Type 0} (o : Option A) (g : A → Option B) (Q : A → Type 0) (P : B → Type 0) → IfSome o Q → ((a : A) → Q a → IfSome (g a) P) → IfSome (option_and_then g o) P
if_bind None g Q P q h = tt
if_bind (Some a) g Q P q h = h a q

pub find_parts : {A : Type 0} (test : A → Bool) (xs ys : List A) → find test (xs ++ ys) ≡ None → (find test xs ≡ None) × (find test ys ≡ None)
find_parts test [] ys e = (refl, e)
find_parts test (x ∷ xs) ys e = by_test (test x) (find_parts test xs ys) e
  where
    by_test : (b : Bool) → (find test (xs ++ ys) ≡ None → (find test xs ≡ None) × (find test ys ≡ None)) → cond b (Some x) (find test (xs ++ ys)) ≡ None → (cond b (Some x) (find test xs) ≡ None) × (find test ys ≡ None)
    by_test true rest e = absurd (no_none x e)
    by_test false rest e = rest e

-- where no check fails, each is none
all_none : (os : List (Option ScriptFault)) → first_of os ≡ None → AllByRecursion (λ o. o ≡ None) os
all_none [] e = tt
all_none (o ∷ os) e = let p = first_none o (first_of os) e in (p.0, all_none os p.1)

pub record Passes (blocks : List BlockTree) : Type 0 where
  pub operators : operator_fault blocks ≡ None
  pub uses : pipe_use (entries blocks) ≡ None
  pub end : no_end (entries blocks) ≡ None

pub passes : (own : Text) (bytes : List ℕ) (blocks : List BlockTree) → refusal own bytes blocks None ≡ None → Passes blocks
passes own bytes blocks e =
    let h = all_none (too_long bytes ∷ not_text bytes ∷ token_fault bytes ∷ None ∷ operator_fault blocks ∷ too_many_operators blocks ∷ too_many_defs blocks
    ∷ name_fault (entries blocks) ∷ handler_place (entries blocks) ∷ pipe_use (entries blocks) ∷ no_end (entries blocks) ∷ output_is_input own (entries blocks) ∷ []) e in
    record { operators = h.1.1.1.1.0; uses = h.1.1.1.1.1.1.1.1.1.0; end = h.1.1.1.1.1.1.1.1.1.1.0 }
