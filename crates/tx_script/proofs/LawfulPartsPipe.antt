-- Each operator of an accepted script's pipe has its form, its functions and its handlers, and there are no more than may be.
use Rattle.std.proofs.Common.{◌≡◌, ℕ, zero, suc, ◌+◌, ◌≤◌, Bool, true, List, [], ◌∷◌, ◌++◌, length, Option, Some, None, Ok, refl, subst, arith}
use Rattle.std.specs.Prelude.{slice_get}
use Rattle.std.specs.List.{AllByRecursion, list_all}
use Rattle.std.proofs.lemmas.Bool.{and_from}
use Rattle.std.proofs.lemmas.List.{length-append}
use Rattle.tx_tree.specs.declared.target.Word.{Word}
use Rattle.tx_tree.specs.Tree.{BlockTree, define, pipeline, alone}
use Rattle.tx_names.specs.declared.role.Role.TheVariants.{Plain}
use Rattle.tx_names.specs.Function.{Function}
use Rattle.tx_names.specs.Scope.{Text}
use Rattle.tx_names.specs.Bind.{bound_def}
use Rattle.tx_pipe.specs.Pipe.{Operation, allows, role_in, PipeNode}
use Rattle.tx_pipe.specs.Lawful.{has_form, FunctionsFit, most_operators}
use Rattle.tx_script.specs.declared.fault.ScriptKind.TheVariants as kind
use Rattle.tx_script.specs.Written.{Code, Part, operator, handler, Link, Entry}
use Rattle.tx_script.specs.Forms.{places_of, entry_of, start_of}
use Rattle.tx_script.specs.Linked.{at, told, free_at, Ahead, Pipe, State, with_def, with_pipeline, linked_operator, linked_handlers, with_operator, nodes_by, linked_nodes, linked_start, linked_chain, linked_block, linked, nothing_ahead}
use Rattle.tx_script.specs.Checks.{when, is_stray, stray_handler, handler_place, entries, places_in, too_long, not_text, token_fault, operator_fault, too_many_operators, too_many_defs, name_fault, refusal}
use Rattle.tx_script.specs.Accepted.{Accepted}
use Rattle.tx_script.proofs.LawfulShapeParts.{bind_ok, ok_is, first_none, map_none}
use Rattle.tx_script.proofs.LawfulPartsLinked.{NodeFits, node_fits}
use Rattle.tx_script.proofs.LawfulPartsForms.{PartFits, LinksFit, links_fit, links_are_few}

-- a pipe of operators that fit, no more than so many
record Built (most : ℕ) (p : Pipe) : Type 0 where
  fits : AllByRecursion NodeFits p
  few : length p ≤ most

wider : (m n : ℕ) (p : Pipe) → m ≤ n → Built m p → Built n p
wider m n p h b = let few : length p ≤ m = b.few in record { fits = b.fits; few = omega (arith, few, h) }

all_then : {A : Type 0} (P : A → Type 0) (xs : List A) (y : A) → AllByRecursion P xs → P y → AllByRecursion P (xs ++ y ∷ [])
all_then P [] y h k = (k, tt)
all_then P (x ∷ xs) y h k = (h.0, all_then P xs y h.1 k)

-- ---- one operator

node_built : (a : Ahead) (done : Pipe) (most input line : ℕ) (op : Operation Code Word) (links : List Link) (p : Pipe)
    → Built most done → has_form op ≡ true → stray_handler (Some op) links ≡ None → with_operator a done input line op links ≡ Ok p → Built (most + 1) p
node_built a done most input line op links p b form stray h =
    let x = bind_ok (linked_operator a op) _ p h in
    let hs = bind_ok (linked_handlers a (role_in op) links) _ p x.2 in
    let n : PipeNode (Function ℕ) = record { operation = x.0; input = input; handlers = hs.0; line = line } in
    let few : length done ≤ most = b.few in
    subst (Built (most + 1)) (ok_is (done ++ n ∷ []) p hs.2)
    (record { fits = all_then NodeFits done n b.fits (node_fits a op links x.0 hs.0 input line x.1 hs.1 form stray); few = omega (arith, few, length-append done (n ∷ [])) })

-- ---- links

step_built : (a : Ahead) (done : Pipe) (most input line : ℕ) (op : Option (Operation Code Word)) (part : Part) (links : List Link) (r : Pipe × ℕ)
    → ((p : Pipe) (n end : ℕ) (next : Option (Operation Code Word)) → Built n p → stray_handler next links ≡ None → linked_nodes a p end links ≡ Ok r → Built (n + length links) r.0)
    → Built most done → PartFits part → stray_handler op (record { line = line; part = part } ∷ links) ≡ None
    → nodes_by a done input line part links (λ p end. linked_nodes a p end links) ≡ Ok r → Built (most + suc (length links)) r.0
step_built a done most input line op (handler g) links r more b fits stray h =
    wider (most + length links) (most + suc (length links)) r.0 (omega arith)
    (more done most input op b (first_none (when (is_stray op (handler g)) (at kind.HandlerPlace line)) (stray_handler op links) stray).1 h)
step_built a done most input line op (operator next) links r more b fits stray h =
    let p = bind_ok (with_operator a done input line next links) (λ p. linked_nodes a p (length p) links) r h in
    wider (most + 1 + length links) (most + suc (length links)) r.0 (omega arith)
    (more p.0 (most + 1) (length p.0) (Some next) (node_built a done most input line next links p.0 b fits stray p.1) stray p.2)

nodes_built : (a : Ahead) (links : List Link) (done : Pipe) (most input : ℕ) (op : Option (Operation Code Word)) (r : Pipe × ℕ)
    → Built most done → LinksFit links → stray_handler op links ≡ None → linked_nodes a done input links ≡ Ok r → Built (most + length links) r.0
nodes_built a [] done most input op r b fits stray h =
    subst (λ (s : Pipe × ℕ). Built (most + 0) s.0) (ok_is (done, input) r h) (wider most (most + 0) done (omega arith) b)
nodes_built a (x ∷ links) done most input op r b fits stray h =
    step_built a done most input x.line op x.part links r (λ p n end next c s l. nodes_built a links p n end next r c fits.1 s l) b fits.0 stray h

-- ---- chains and blocks

chain_built : (a : Ahead) (done : Pipe) (most : ℕ) (start : Option Word) (links : List Link) (r : Pipe × ℕ)
    → Built most done → LinksFit links → stray_handler None links ≡ None → linked_chain a done start links ≡ Ok r → Built (most + length links) r.0
chain_built a done most start links r b fits stray h =
    let input = bind_ok (linked_start a start) _ r h in
    let strays = bind_ok (linked_handlers a None links) _ r input.2 in
    nodes_built a links done most input.0 None r b fits stray strays.2

block_built : (a : Ahead) (done : Pipe) (most : ℕ) (b : BlockTree) (links : List Link) (s : State)
    → Built most done → LinksFit links → stray_handler None links ≡ None → linked_block a done b links ≡ Ok s → Built (most + length links) s.1
block_built a done most (define l n params comma b) links s built fits stray h =
    let free = bind_ok (free_at a l n) _ s h in
    let f = bind_ok (told (bound_def a.defs (Plain (length params)) l n params b)) _ s free.2 in
    subst (λ (t : State). Built (most + length links) t.1) (ok_is (with_def a n f.0 (define l n params comma b), done) s f.2)
    (wider most (most + length links) done (omega arith) built)
block_built a done most (pipeline l n c) links s built fits stray h =
    let free = bind_ok (free_at a l n) _ s h in
    let r = bind_ok (linked_chain a done (start_of c) links) _ s free.2 in
    subst (λ (t : State). Built (most + length links) t.1) (ok_is (with_pipeline a n r.0.1, r.0.0) s r.2)
    (chain_built a done most (start_of c) links r.0 built fits stray r.1)
block_built a done most (alone c) links s built fits stray h =
    let r = bind_ok (linked_chain a done (start_of c) links) _ s h in
    subst (λ (t : State). Built (most + length links) t.1) (ok_is (a, r.0.0) s r.2)
    (chain_built a done most (start_of c) links r.0 built fits stray r.1)

script_built : (bs : List BlockTree) (a : Ahead) (done : Pipe) (most : ℕ) (p : Pipe)
    → Built most done → handler_place (entries bs) ≡ None → linked a done (entries bs) ≡ Ok p → Built (most + length (places_in bs)) p
script_built [] a done most p b stray h = subst (Built (most + 0)) (ok_is done p h) (wider most (most + 0) done (omega arith) b)
script_built (b ∷ bs) a done most p built stray h =
    let e : Entry = entry_of b in
    let none = first_none (stray_handler None e.links) (handler_place (entries bs)) stray in
    let s = bind_ok (linked_block a done b e.links) (λ s. linked s.0 s.1 (entries bs)) p h in
    let few = links_are_few (places_of b) in
    wider (most + length e.links + length (places_in bs)) (most + length (places_of b ++ places_in bs)) p (omega (arith, few, length-append (places_of b) (places_in bs)))
    (script_built bs s.0.0 s.0.1 (most + length e.links) p
    (block_built a done most b e.links s.0 built (links_fit b) none.0 s.1) none.1 s.2)

-- ---- the number of operators

no_more : {A : Type 0} (xs : List A) (k : ℕ) → slice_get xs k ≡ None → length xs ≤ k
no_more [] k h = omega arith
no_more (x ∷ xs) zero h = absurd (cc)
no_more (x ∷ xs) (suc k) h = let l = no_more xs k h in omega (arith, l)

-- ---- what an accepted script passes

pub record Passed (bs : List BlockTree) : Type 0 where
  pub many : too_many_operators bs ≡ None
  pub handlers : handler_place (entries bs) ≡ None

passed : (own : Text) (bytes : List ℕ) (bs : List BlockTree) → refusal own bytes bs None ≡ None → Passed bs
passed own bytes bs h =
    let after_tokens = (first_none (token_fault bytes) _ (first_none (not_text bytes) _ (first_none (too_long bytes) _ h).1).1).1 in
    let many = first_none (too_many_operators bs) _ (first_none (operator_fault bs) _ after_tokens).1 in
    let names = first_none (name_fault (entries bs)) _ (first_none (too_many_defs bs) _ many.1).1 in
    record { many = many.0; handlers = (first_none (handler_place (entries bs)) _ names.1).0 }

built : (own : Text) (bytes : List ℕ) (pipe : Pipe) → Accepted own bytes pipe → Built most_operators pipe
built own bytes pipe a =
    let ok = passed own bytes a.blocks a.passes in
    let few = no_more (places_in a.blocks) most_operators (map_none _ (slice_get (places_in a.blocks) most_operators) ok.many) in
    wider (0 + length (places_in a.blocks)) most_operators pipe (omega (arith, few))
    (script_built a.blocks nothing_ahead [] 0 pipe (record { fits = tt; few = omega arith }) ok.handlers a.linked)

-- ---- the fields

pub parts_few : (own : Text) (bytes : List ℕ) (pipe : Pipe) → Accepted own bytes pipe → length pipe ≤ most_operators
parts_few own bytes pipe a = (built own bytes pipe a).few

tested : {A : Type 0} (P : A → Type 0) (test : A → Bool) → ((x : A) → P x → test x ≡ true) → (xs : List A) → AllByRecursion P xs → list_all test xs ≡ true
tested P test each [] h = refl
tested P test each (x ∷ xs) h = and_from (test x) (list_all test xs) (each x h.0) (tested P test each xs h.1)

implied : {A : Type 0} (P Q : A → Type 0) → ((x : A) → P x → Q x) → (xs : List A) → AllByRecursion P xs → AllByRecursion Q xs
implied P Q each [] h = tt
implied P Q each (x ∷ xs) h = (each x h.0, implied P Q each xs h.1)

pub parts_forms : (own : Text) (bytes : List ℕ) (pipe : Pipe) → Accepted own bytes pipe → list_all (λ n. has_form n.operation) pipe ≡ true
parts_forms own bytes pipe a = tested NodeFits (λ n. has_form n.operation) (λ n f. f.form) pipe (built own bytes pipe a).fits

pub parts_functions : (own : Text) (bytes : List ℕ) (pipe : Pipe) → Accepted own bytes pipe → AllByRecursion FunctionsFit pipe
parts_functions own bytes pipe a = implied NodeFits FunctionsFit (λ n f. f.functions) pipe (built own bytes pipe a).fits

pub parts_handlers : (own : Text) (bytes : List ℕ) (pipe : Pipe) → Accepted own bytes pipe → list_all (λ n. list_all (allows n.operation) n.handlers) pipe ≡ true
parts_handlers own bytes pipe a = tested NodeFits (λ n. list_all (allows n.operation) n.handlers) (λ n f. f.handlers) pipe (built own bytes pipe a).fits
