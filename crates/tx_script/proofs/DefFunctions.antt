-- What a def holds is its own, and stays so with more defs ahead.
use Rattle.std.proofs.Common.{◌≡◌, ℕ, ◌++◌, List, [], ◌∷◌, Option, Some, None, Result, Ok, Err, sym, ap, subst, append-nil}
use Rattle.std.specs.Prelude.{IfSome}
use Rattle.std.specs.List.{All}
use Rattle.std.proofs.lemmas.List.{map-append}
use Rattle.std.proofs.lemmas.List.Elements.{All-push, All-weaker}
use Rattle.tx_tree.specs.Tree.{BlockTree}
use Rattle.tx_names.specs.declared.role.Role.{Role}
use Rattle.tx_names.specs.declared.fault.Fault.{Fault}
use Rattle.tx_names.specs.declared.bound.Bound.{Bound}
use Rattle.tx_names.specs.declared.bound.Def.{Def}
use Rattle.tx_names.specs.Function.{role_of}
use Rattle.tx_names.specs.Bind.{function_of, defs_of, bound_block}
use Rattle.tx_script.specs.declared.fault.ScriptFault.{ScriptFault}
use Rattle.tx_script.specs.declared.ahead.DefBlock.{DefBlock}
use Rattle.tx_script.specs.Linked.{told}
use Rattle.tx_script.specs.Calls.Behind.{block_in, IsFunctionOf, HasFunctions}
use Rattle.tx_script.proofs.LaterDefs.{Defs, more_defs, role_kept}

abbrev from_ok : {A : Type 0} → Result A ScriptFault → A → A
from_ok (Ok x) d = x
from_ok (Err f) d = d

told_is : {A : Type 0} (r : Result A Fault) (x : A) → told r ≡ Ok x → r ≡ Ok x
told_is (Ok y) x h = ap (λ o. Ok (from_ok o y)) h
told_is (Err e) x h = cc

-- what linking a def in a role gives is its function in this role, on any line
pub is_function : (ds : Defs) (role : Role) (line : ℕ) (b : BlockTree) (f : Bound) → told (bound_block ds role line b) ≡ Ok (function_of f) → IsFunctionOf ds b f
is_function ds role line b f h at =
    let linked : bound_block ds role line b ≡ Ok (function_of f) = told_is (bound_block ds role line b) (function_of f) h in
    let here : bound_block ds role at b ≡ Ok (function_of f) = subst (λ (es : Defs). bound_block es role at b ≡ Ok (function_of f)) (append-nil ds) (more_defs ds [] role line at b (function_of f) linked) in
    subst (λ (r : Role). bound_block ds r at b ≡ Ok (function_of f)) (sym (role_kept ds role line b (function_of f) linked)) here

-- in the role that it has
pub in_role : (ds : Defs) (b : BlockTree) (f : Bound) (role : Role) (line : ℕ) → IsFunctionOf ds b f → role_of (function_of f) ≡ role → bound_block ds role line b ≡ Ok (function_of f)
in_role ds b f role line h e = subst (λ (r : Role). bound_block ds r line b ≡ Ok (function_of f)) e (h line)

function_stays : (ds more : Defs) (b : BlockTree) (f : Bound) → IsFunctionOf ds b f → IsFunctionOf (ds ++ more) b f
function_stays ds more b f h line = more_defs ds more (role_of (function_of f)) line line b (function_of f) (h line)

option_stays : (ds more : Defs) (b : BlockTree) (o : Option Bound) → IfSome o (IsFunctionOf ds b) → IfSome o (IsFunctionOf (ds ++ more) b)
option_stays ds more b None h = tt
option_stays ds more b (Some f) h = function_stays ds more b f h

functions_stay : (ds more : Defs) (d : DefBlock) → HasFunctions ds d → HasFunctions (ds ++ more) d
functions_stay ds more d h = record {
  of_values = function_stays ds more (block_in d) d.of_values h.of_values;
  of_row = option_stays ds more (block_in d) d.of_row h.of_row;
}

-- with one def more
pub all_linked : (ds : List Def) (d : Def) (bs : List DefBlock) (b : DefBlock) → All (HasFunctions (defs_of ds)) bs → HasFunctions (defs_of ds) b
    → All (HasFunctions (defs_of (ds ++ d ∷ []))) (bs ++ b ∷ [])
all_linked ds d bs b all one =
    subst (λ (es : Defs). All (HasFunctions es) (bs ++ b ∷ [])) (sym (map-append _ ds (d ∷ [])))
    (All-push (HasFunctions (defs_of ds ++ defs_of (d ∷ []))) bs b
    (All-weaker (HasFunctions (defs_of ds)) (HasFunctions (defs_of ds ++ defs_of (d ∷ []))) (λ x h. functions_stay (defs_of ds) (defs_of (d ∷ [])) x h) bs all)
    (functions_stay (defs_of ds) (defs_of (d ∷ [])) b one))
