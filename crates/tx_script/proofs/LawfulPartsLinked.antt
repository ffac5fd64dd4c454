-- What a linked operator and its linked handlers have of those that are written.
use Rattle.std.proofs.Common.{Bool, false, ◌≡◌, ℕ, true, not, List, [], ◌∷◌, ◌++◌, Some, None, Result, Ok, refl, sym, ap, subst, ◌∙◌}
use Rattle.std.specs.Prelude.{is_some, option_to_list, filter_map}
use Rattle.std.specs.List.{AllByRecursion, list_all}
use Rattle.std.proofs.lemmas.Bool.{and_from}
use Rattle.tx_tree.specs.declared.target.Word.{Word}
use Rattle.tx_names.specs.declared.role.Role.TheVariants.{Plain, OfRow, OfAccRow}
use Rattle.tx_names.specs.Function.{Function}
use Rattle.tx_pipe.specs.declared.pipe.MapTo.TheVariants as to
use Rattle.tx_pipe.specs.Pipe.{Operation, csv, map_to, filter, with_column, map_column, select_columns, rename_column, join, left_join, unique, aggregate, to_csv, Handling, resolve, ignore, role_in, function_in, output_file, allows, resolver_in, PipeNode}
use Rattle.tx_pipe.specs.Lawful.{Takes, has_form, FunctionsFit}
use Rattle.tx_script.specs.declared.fault.ScriptFault.{ScriptFault}
use Rattle.tx_script.specs.declared.fault.ScriptKind.TheVariants as kind
use Rattle.tx_script.specs.Written.{Code, Part, operator, handler, Link}
use Rattle.tx_script.specs.Linked.{at, Ahead, end_of, linked_code, linked_operator, linked_handler, handlers_by, linked_handlers}
use Rattle.tx_script.specs.Checks.{when, stray_handler}
use Rattle.tx_script.proofs.LawfulParts.{code_takes}
use Rattle.tx_script.proofs.LawfulShapeParts.{bind_ok, ok_is, first_none, when_none}

-- ---- operators

record Kept (op : Operation Code Word) (x : Operation (Function ℕ) ℕ) : Type 0 where
  form : has_form x ≡ has_form op
  role : role_in x ≡ role_in op
  output : output_file x ≡ output_file op
  function : AllByRecursion (Takes (role_in x)) (option_to_list (function_in x))

kept_as : (op : Operation Code Word) (x y : Operation (Function ℕ) ℕ) → Kept op x → ◌≡◌ {A = Result (Operation (Function ℕ) ℕ) ScriptFault} (Ok x) (Ok y) → Kept op y
kept_as op x y k h = subst (Kept op) (ok_is x y h) k

operator_kept : (a : Ahead) (op : Operation Code Word) (x : Operation (Function ℕ) ℕ) → linked_operator a op ≡ Ok x → Kept op x
operator_kept a (csv file None) x h = kept_as (csv file None) (csv file None) x (record { form = refl; role = refl; output = refl; function = tt }) h
operator_kept a (csv file (Some ns)) x h = kept_as (csv file (Some ns)) (csv file (Some ns)) x (record { form = refl; role = refl; output = refl; function = tt }) h
operator_kept a (map_to f (to.Column n)) x h =
    let k = bind_ok (linked_code a (Some OfRow) f) (λ g. Ok (map_to g (to.Column n))) x h in
    kept_as (map_to f (to.Column n)) (map_to k.0 (to.Column n)) x (record { form = refl; role = refl; output = refl; function = (code_takes a (Some OfRow) f k.0 refl k.1, tt) }) k.2
operator_kept a (map_to f (to.Columns ns)) x h =
    let k = bind_ok (linked_code a (Some OfRow) f) (λ g. Ok (map_to g (to.Columns ns))) x h in
    kept_as (map_to f (to.Columns ns)) (map_to k.0 (to.Columns ns)) x (record { form = refl; role = refl; output = refl; function = (code_takes a (Some OfRow) f k.0 refl k.1, tt) }) k.2
operator_kept a (filter f) x h =
    let k = bind_ok (linked_code a (Some OfRow) f) (λ g. Ok (filter g)) x h in
    kept_as (filter f) (filter k.0) x (record { form = refl; role = refl; output = refl; function = (code_takes a (Some OfRow) f k.0 refl k.1, tt) }) k.2
operator_kept a (with_column n f) x h =
    let k = bind_ok (linked_code a (Some OfRow) f) (λ g. Ok (with_column n g)) x h in
    kept_as (with_column n f) (with_column n k.0) x (record { form = refl; role = refl; output = refl; function = (code_takes a (Some OfRow) f k.0 refl k.1, tt) }) k.2
operator_kept a (map_column n f) x h =
    let k = bind_ok (linked_code a (Some (Plain 1)) f) (λ g. Ok (map_column n g)) x h in
    kept_as (map_column n f) (map_column n k.0) x (record { form = refl; role = refl; output = refl; function = (code_takes a (Some (Plain 1)) f k.0 refl k.1, tt) }) k.2
operator_kept a (select_columns ns) x h = kept_as (select_columns ns) (select_columns ns) x (record { form = refl; role = refl; output = refl; function = tt }) h
operator_kept a (rename_column m n) x h = kept_as (rename_column m n) (rename_column m n) x (record { form = refl; role = refl; output = refl; function = tt }) h
operator_kept a (join p l r) x h =
    let k = bind_ok (end_of a p) (λ q. Ok (join q l r)) x h in
    kept_as (join p l r) (join k.0 l r) x (record { form = refl; role = refl; output = refl; function = tt }) k.2
operator_kept a (left_join p l r) x h =
    let k = bind_ok (end_of a p) (λ q. Ok (left_join q l r)) x h in
    kept_as (left_join p l r) (left_join k.0 l r) x (record { form = refl; role = refl; output = refl; function = tt }) k.2
operator_kept a unique x h = kept_as unique unique x (record { form = refl; role = refl; output = refl; function = tt }) h
operator_kept a (aggregate f v n) x h =
    let k = bind_ok (linked_code a (Some OfAccRow) f) (λ g. Ok (aggregate g v n)) x h in
    kept_as (aggregate f v n) (aggregate k.0 v n) x (record { form = refl; role = refl; output = refl; function = (code_takes a (Some OfAccRow) f k.0 refl k.1, tt) }) k.2
operator_kept a (to_csv file) x h = kept_as (to_csv file) (to_csv file) x (record { form = refl; role = refl; output = refl; function = tt }) h

-- ---- handlers

-- handlers that may stand behind an operator, whose functions take what it gives
record Fit (x : Operation (Function ℕ) ℕ) (hs : List (Handling (Function ℕ))) : Type 0 where
  allowed : list_all (allows x) hs ≡ true
  takes : AllByRecursion (Takes (role_in x)) (filter_map resolver_in hs)

not_false : (b : Bool) → not b ≡ false → b ≡ true
not_false true h = refl
not_false false h = absurd (cc)

handler_fits : (a : Ahead) (op : Operation Code Word) (x : Operation (Function ℕ) ℕ) → Kept op x → (g : Handling Code) (h : Handling (Function ℕ)) (hs : List (Handling (Function ℕ)))
    → linked_handler a (role_in op) g ≡ Ok h → allows op g ≡ true → Fit x hs → Fit x (h ∷ hs)
handler_fits a op x k (resolve class f) h hs l allowed fit =
    let g = bind_ok (linked_code a (role_in op) f) (λ g. Ok (resolve class g)) h l in
    let some : is_some (role_in x) ≡ true = ap is_some k.role ∙ allowed in
    let t = code_takes a (role_in op) f g.0 allowed g.1 in
    subst (λ y. Fit x (y ∷ hs)) (ok_is (resolve class g.0) h g.2)
    (record { allowed = and_from _ _ some fit.allowed; takes = (subst (λ r. Takes r g.0) (sym k.role) t, fit.takes) })
handler_fits a op x k (ignore class) h hs l allowed fit =
    let open_end : not (is_some (output_file x)) ≡ true = ap (λ o. not (is_some o)) k.output ∙ allowed in
    subst (λ y. Fit x (y ∷ hs)) (ok_is (ignore class) h l)
    (record { allowed = and_from _ _ open_end fit.allowed; takes = fit.takes })

handlers_fit_by : (a : Ahead) (op : Operation Code Word) (x : Operation (Function ℕ) ℕ) → Kept op x → (line : ℕ) (part : Part) (links : List Link) (hs : List (Handling (Function ℕ)))
    → ((rest : List (Handling (Function ℕ))) → linked_handlers a (role_in op) links ≡ Ok rest → stray_handler (Some op) links ≡ None → Fit x rest)
    → handlers_by a (role_in op) part (linked_handlers a (role_in op) links) ≡ Ok hs → stray_handler (Some op) (record { line = line; part = part } ∷ links) ≡ None → Fit x hs
handlers_fit_by a op x k line (operator next) links hs more h stray =
    subst (Fit x) (ok_is [] hs h) (record { allowed = refl; takes = tt })
handlers_fit_by a op x k line (handler g) links hs more h stray =
    let first = bind_ok (linked_handler a (role_in op) g) _ hs h in
    let behind = bind_ok (linked_handlers a (role_in op) links) _ hs first.2 in
    let none = first_none (when (not (allows op g)) (at kind.HandlerPlace line)) (stray_handler (Some op) links) stray in
    let may = not_false (allows op g) (when_none (not (allows op g)) (at kind.HandlerPlace line) none.0) in
    subst (Fit x) (ok_is (first.0 ∷ behind.0) hs behind.2)
    (handler_fits a op x k g first.0 behind.0 first.1 may (more behind.0 behind.1 none.1))

handlers_fit : (a : Ahead) (op : Operation Code Word) (x : Operation (Function ℕ) ℕ) → Kept op x → (links : List Link) (hs : List (Handling (Function ℕ)))
    → linked_handlers a (role_in op) links ≡ Ok hs → stray_handler (Some op) links ≡ None → Fit x hs
handlers_fit a op x k [] hs h stray = subst (Fit x) (ok_is [] hs h) (record { allowed = refl; takes = tt })
handlers_fit a op x k (y ∷ links) hs h stray =
    handlers_fit_by a op x k y.line y.part links hs (λ rest l s. handlers_fit a op x k links rest l s) h stray

-- ---- the operator with its handlers

pub record NodeFits (n : PipeNode (Function ℕ)) : Type 0 where
  pub form : has_form n.operation ≡ true
  pub functions : FunctionsFit n
  pub handlers : list_all (allows n.operation) n.handlers ≡ true

all_append : {A : Type 0} (P : A → Type 0) (xs ys : List A) → AllByRecursion P xs → AllByRecursion P ys → AllByRecursion P (xs ++ ys)
all_append P [] ys h k = k
all_append P (x ∷ xs) ys h k = (h.0, all_append P xs ys h.1 k)

pub node_fits : (a : Ahead) (op : Operation Code Word) (links : List Link) (x : Operation (Function ℕ) ℕ) (hs : List (Handling (Function ℕ))) (input line : ℕ)
    → linked_operator a op ≡ Ok x → linked_handlers a (role_in op) links ≡ Ok hs → has_form op ≡ true → stray_handler (Some op) links ≡ None
    → NodeFits (record { operation = x; input = input; handlers = hs; line = line })
node_fits a op links x hs input line h l form stray =
    let k = operator_kept a op x h in
    let fit = handlers_fit a op x k links hs l stray in
    record {
      form = k.form ∙ form;
      functions = all_append (Takes (role_in x)) (option_to_list (function_in x)) (filter_map resolver_in hs) k.function fit.takes;
      handlers = fit.allowed;
    }
