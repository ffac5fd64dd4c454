-- A function with slots means what the function with names means: by one induction over all nodes. What is evaluated with names and
-- with their places gives the same, and maps that agree on the function's names.
use Rattle.std.proofs.Common.{◌≡◌, ℕ, suc, ◌+◌, List, [], ◌∷◌, length, map, Option, Some, None, Ok, Err, refl, sym, ap, ◌∙◌, subst, Bool, true, false, not, ◌&&◌, ◌||◌, nat_eq, ◌==◌, if◌then◌else◌, arith}
use Rattle.std.specs.Bool.{Decides}
use Rattle.std.specs.List.{list_any, list_all}
use Rattle.std.specs.Cmp.Lexicographic.{bytes_decides}
use Rattle.std.proofs.lemmas.Bool.{true≢false}
use Rattle.std.proofs.lemmas.Bool.Decides.{Decides-eqb}
use Rattle.tx_base.specs.declared.class.Class.TheVariants.{ValueError, ProfileError}
use Rattle.tx_tree.specs.Words.{same_text}
use Rattle.tx_values.specs.declared.value.Value.{Value, out-Value}
use Rattle.tx_values.specs.declared.value.Value.TheVariants as v
use Rattle.tx_values.specs.Answer.{Answer, ◌>>=◌}
use Rattle.tx_values.specs.Equality.{truthy}
use Rattle.tx_ops.specs.Binary.{binary_of}
use Rattle.tx_ops.specs.Unary.{unary_of}
use Rattle.tx_ops.specs.Compare.{compare_of}
use Rattle.tx_methods.specs.Builtins.{builtin_of}
use Rattle.tx_methods.specs.Methods.{has_method_of, has_views_of, method_of}
use Rattle.tx_methods.specs.Walks.{iterate_of, items_of_walk}
use Rattle.tx_names.specs.Function.{Target, one, several, Expr, nil, truth, int, text, name, cell, paren, tuple, list, dict, comprehension, call, builtin, method, index, slice, unary, binary, compare, negation, conjunction, disjunction, conditional, Exprs, none, more, Pairs, no_pair, pair, Comparisons, no_operand, operand, Maybe, absent, present, Iterable, value, walk, view, Statement, pass, break, continue, return, assign, augment, express, branch, repeat, Statements, finish, next, Arms, no_arm, arm, Body, gives, does, Function, function}
use Rattle.tx_names.specs.Scope.{Text}
use Rattle.tx_tree.specs.Takes.{allows, builtin_takes, method_takes, walk_takes, is_view}
use Rattle.tx_names.specs.Function.{params_of}
use Rattle.tx_name_set.specs.NameSet.{place_in}
use Rattle.tx_names.specs.Numbered.{numbered_target, numbered_expr, numbered_exprs, numbered_pairs, numbered_comparisons, numbered_maybe, numbered_iterable, numbered_statement, numbered_statements, numbered_arms, numbered_body, numbered}
use Rattle.tx_names.specs.Sound.{size, is_local, sound_target, sound_expr, sound_exprs, sound_pairs, sound_comparisons, sound_maybe, sound_iterable, sound_statement, sound_statements, sound_arms, sound_body, sound}
use Rattle.tx_meaning.specs.Maps as maps
use Rattle.tx_meaning.specs.Maps.{Row, Map, no_row, read_cell, read_local, put, put_all, put_items, take, no_locals}
use Rattle.tx_meaning.specs.Meaning.{Course, goes_on, gives_back, or_nil, is_list, collect, turns, means, means_each, means_pairs, means_maybe, means_chain, means_and, means_or, holds, means_items, runs, runs_all, chooses, yields, applied}
use Rattle.tx_meaning.proofs.TwoEvaluations.{Both, both, raised, go, go_on, go_both, go_end, choose, choose_both, Alike, then_same, ends_same, collect_same, turns_same}
use Rattle.tx_meaning.proofs.Tests.{left, right}
use Rattle.tx_meaning.specs.Laws.{NumberedLaw}

abbrev Named : Type 0
Named = Map same_text

abbrev Slots : Type 0
Slots = Map nat_eq

-- ---- one name, one place

-- of names that are local the places are the same only where the names are
injective : (ls : List Text) (n o : Text) → is_local same_text ls n ≡ true → is_local same_text ls o ≡ true → place_in ls n ≡ place_in ls o → n ≡ o
injective [] n o h g e = absurd (true≢false (sym h))
injective (x ∷ ls) n o h g e = by_tests (same_text n x) (same_text o x) refl refl h g e (injective ls n o)
  where
    by_tests : (b c : Bool) → same_text n x ≡ b → same_text o x ≡ c → (b || list_any (same_text n) ls) ≡ true → (c || list_any (same_text o) ls) ≡ true
        → (if not b then 1 + place_in ls n else 0) ≡ (if not c then 1 + place_in ls o else 0)
        → (is_local same_text ls n ≡ true → is_local same_text ls o ≡ true → place_in ls n ≡ place_in ls o → n ≡ o) → n ≡ o
    by_tests true true p q h g e i = (bytes_decides n x).0 p ∙ sym ((bytes_decides o x).0 q)
    by_tests true false p q h g e i = absurd (omega (arith, e))
    by_tests false true p q h g e i = absurd (omega (arith, e))
    by_tests false false p q h g e i = let d : place_in ls n ≡ place_in ls o = omega (arith, e) in i h g d

both_tests : (b c : Bool) → (b ≡ true → c ≡ true) → (c ≡ true → b ≡ true) → b ≡ c
both_tests true c f g = sym (f refl)
both_tests false true f g = g refl
both_tests false false f g = refl

tests : (ls : List Text) (n o : Text) → is_local same_text ls n ≡ true → is_local same_text ls o ≡ true → same_text n o ≡ nat_eq (place_in ls n) (place_in ls o)
tests ls n o h g = both_tests _ _
    (λ t. (Decides-eqb (place_in ls n) (place_in ls o)).1 (ap (place_in ls) ((bytes_decides n o).0 t)))
    (λ t. (bytes_decides n o).1 (injective ls n o h g ((Decides-eqb (place_in ls n) (place_in ls o)).0 t)))

-- ---- maps

-- the slots hold what the names have
abbrev Agree : List Text → Named → Slots → Type 0
Agree ls m q = (n : Text) → is_local same_text ls n ≡ true → m n ≡ q (place_in ls n)

nothing : (ls : List Text) → Agree ls (no_locals same_text) (no_locals nat_eq)
unfolding no_locals
nothing ls n h = refl

put_same : (ls : List Text) (n : Text) (x : Value) (m : Named) (q : Slots) → is_local same_text ls n ≡ true → Agree ls m q → Agree ls (put same_text n x m) (put nat_eq (place_in ls n) x q)
unfolding put
put_same ls n x m q l h o k =
    ap (λ b. if b then Some x else m o) (tests ls n o l k) ∙ ap (λ w. if nat_eq (place_in ls n) (place_in ls o) then Some x else w) (h o k)

put_all_same : (ls ns : List Text) (xs : List Value) (m : Named) (q : Slots) → list_all (is_local same_text ls) ns ≡ true → Agree ls m q → Agree ls (put_all same_text ns xs m) (put_all nat_eq (map (place_in ls) ns) xs q)
put_all_same ls [] xs m q l h = h
put_all_same ls (n ∷ ns) [] m q l h = h
put_all_same ls (n ∷ ns) (x ∷ xs) m q l h = put_all_same ls ns xs (put same_text n x m) (put nat_eq (place_in ls n) x q) (right (is_local same_text ls n) l) (put_same ls n x m q (left (list_all (is_local same_text ls) ns) l) h)

lengths : (ls ns : List Text) → length (map (place_in ls) ns) ≡ length ns
lengths ls [] = refl
lengths ls (n ∷ ns) = ap suc (lengths ls ns)

take_same : (ls : List Text) (t : Target Text) (x : Value) (m : Named) (q : Slots) → sound_target same_text ls t ≡ true → Agree ls m q → Both (Agree ls) (take same_text t x m) (take nat_eq (numbered_target (place_in ls) t) x q)
unfolding take
take_same ls (one n) x m q l h = both (put_same ls n x m q l h)
take_same ls (several ns) x m q l h = go_on (Agree ls) {o = iterate_of x} refl λ items.
    subst (λ k. Both (Agree ls) (put_items same_text ns items m) (if length items == k then Ok (put_all nat_eq (map (place_in ls) ns) items q) else Err ValueError)) (sym (lengths ls ns))
    (choose_both (Agree ls) (length items == length ns) (both (put_all_same ls ns items m q l h)) raised)

-- ---- all nodes

mutual
  expr_same : (ls : List Text) (a : Expr Text) (r : Row) (m : Named) (q : Slots) → Agree ls m q → sound_expr same_text ls a ≡ true → means same_text a r m ≡ means nat_eq (numbered_expr (place_in ls) a) r q
  expr_same ls nil r m q h s = refl
  expr_same ls (truth b) r m q h s = refl
  expr_same ls (int n) r m q h s = refl
  expr_same ls (text t) r m q h s = refl
  expr_same ls (name n) r m q h s = ap read_local (h n s)
  expr_same ls (cell c) r m q h s = refl
  expr_same ls (paren a) r m q h s = expr_same ls a r m q h s
  expr_same ls (tuple es) r m q h s = go (exprs_same ls es r m q h s) λ xs. refl
  expr_same ls (list es) r m q h s = go (exprs_same ls es r m q h s) λ xs. refl
  expr_same ls (dict ps) r m q h s = go (pairs_same ls ps r m q h s) λ xs. refl
  expr_same ls (comprehension a t i c) r m q h s = go (iterable_same ls i r m q h (left (sound_maybe same_text ls c) (right (sound_target same_text ls t) (right (sound_expr same_text ls a) s)))) λ xs. go (collect_same same_text nat_eq (Agree ls) (Agree ls) (means same_text a r) (means nat_eq (numbered_expr (place_in ls) a) r) (holds same_text c r) (holds nat_eq (numbered_maybe (place_in ls) c) r) t (numbered_target (place_in ls) t) (λ x n k b. take_same ls t x n k (left ((sound_iterable same_text ls i) && (sound_maybe same_text ls c)) (right (sound_expr same_text ls a) s)) b) (λ n k b. expr_same ls a r n k b (left ((sound_target same_text ls t) && ((sound_iterable same_text ls i) && (sound_maybe same_text ls c))) s)) (λ n k b. holds_same ls c r n k b (right (sound_iterable same_text ls i) (right (sound_target same_text ls t) (right (sound_expr same_text ls a) s)))) [] xs m q h) λ all. refl
  expr_same ls (call f es) r m q h s = go (exprs_same ls es r m q h (right (sound same_text f) (right (size es == length (params_of f)) s))) λ xs. applied_same f no_row xs (left (sound_exprs same_text ls es) (right (size es == length (params_of f)) s))
  expr_same ls (builtin b es) r m q h s = go (exprs_same ls es r m q h (right (allows (builtin_takes b) (size es)) s)) λ xs. refl
  expr_same ls (method a w es) r m q h s = go (expr_same ls a r m q h (left (sound_exprs same_text ls es) (right (allows (method_takes w) (size es)) s))) λ x. choose (has_method_of w x) (go (exprs_same ls es r m q h (right (sound_expr same_text ls a) (right (allows (method_takes w) (size es)) s))) λ xs. refl) refl
  expr_same ls (index a i) r m q h s = go (expr_same ls a r m q h (left (sound_expr same_text ls i) s)) λ x. go (expr_same ls i r m q h (right (sound_expr same_text ls a) s)) λ y. refl
  expr_same ls (slice a i j) r m q h s = go (expr_same ls a r m q h (left ((sound_maybe same_text ls i) && (sound_maybe same_text ls j)) s)) λ x. go (maybe_same ls i r m q h (left (sound_maybe same_text ls j) (right (sound_expr same_text ls a) s))) λ y. go (maybe_same ls j r m q h (right (sound_maybe same_text ls i) (right (sound_expr same_text ls a) s))) λ z. refl
  expr_same ls (unary op a) r m q h s = go (expr_same ls a r m q h s) λ x. refl
  expr_same ls (binary a op b) r m q h s = go (expr_same ls a r m q h (left (sound_expr same_text ls b) s)) λ x. go (expr_same ls b r m q h (right (sound_expr same_text ls a) s)) λ y. refl
  expr_same ls (compare a cs) r m q h s = go (expr_same ls a r m q h (left (sound_comparisons same_text ls cs) s)) λ x. chain_same ls cs x r m q h (right (sound_expr same_text ls a) s)
  expr_same ls (negation a) r m q h s = go (expr_same ls a r m q h s) λ x. refl
  expr_same ls (conjunction a es) r m q h s = go (expr_same ls a r m q h (left (sound_exprs same_text ls es) s)) λ x. and_same ls es x r m q h (right (sound_expr same_text ls a) s)
  expr_same ls (disjunction a es) r m q h s = go (expr_same ls a r m q h (left (sound_exprs same_text ls es) s)) λ x. or_same ls es x r m q h (right (sound_expr same_text ls a) s)
  expr_same ls (conditional a t b) r m q h s = go (expr_same ls t r m q h (left (sound_expr same_text ls b) (right (sound_expr same_text ls a) s))) λ x. choose (truthy x) (expr_same ls a r m q h (left ((sound_expr same_text ls t) && (sound_expr same_text ls b)) s)) (expr_same ls b r m q h (right (sound_expr same_text ls t) (right (sound_expr same_text ls a) s)))

  exprs_same : (ls : List Text) (es : Exprs Text) (r : Row) (m : Named) (q : Slots) → Agree ls m q → sound_exprs same_text ls es ≡ true → means_each same_text es r m ≡ means_each nat_eq (numbered_exprs (place_in ls) es) r q
  exprs_same ls none r m q h s = refl
  exprs_same ls (more a es) r m q h s = go (expr_same ls a r m q h (left (sound_exprs same_text ls es) s)) λ x. go (exprs_same ls es r m q h (right (sound_expr same_text ls a) s)) λ xs. refl

  pairs_same : (ls : List Text) (ps : Pairs Text) (r : Row) (m : Named) (q : Slots) → Agree ls m q → sound_pairs same_text ls ps ≡ true → means_pairs same_text ps r m ≡ means_pairs nat_eq (numbered_pairs (place_in ls) ps) r q
  pairs_same ls no_pair r m q h s = refl
  pairs_same ls (pair a b ps) r m q h s = go (expr_same ls a r m q h (left ((sound_expr same_text ls b) && (sound_pairs same_text ls ps)) s)) λ x. go (expr_same ls b r m q h (left (sound_pairs same_text ls ps) (right (sound_expr same_text ls a) s))) λ y. go (pairs_same ls ps r m q h (right (sound_expr same_text ls b) (right (sound_expr same_text ls a) s))) λ xs. refl

  maybe_same : (ls : List Text) (a : Maybe Text) (r : Row) (m : Named) (q : Slots) → Agree ls m q → sound_maybe same_text ls a ≡ true → means_maybe same_text a r m ≡ means_maybe nat_eq (numbered_maybe (place_in ls) a) r q
  maybe_same ls absent r m q h s = refl
  maybe_same ls (present a) r m q h s = go (expr_same ls a r m q h s) λ x. refl

  holds_same : (ls : List Text) (a : Maybe Text) (r : Row) (m : Named) (q : Slots) → Agree ls m q → sound_maybe same_text ls a ≡ true → holds same_text a r m ≡ holds nat_eq (numbered_maybe (place_in ls) a) r q
  holds_same ls absent r m q h s = refl
  holds_same ls (present a) r m q h s = go (expr_same ls a r m q h s) λ x. refl

  chain_same : (ls : List Text) (cs : Comparisons Text) (x : Value) (r : Row) (m : Named) (q : Slots) → Agree ls m q → sound_comparisons same_text ls cs ≡ true → means_chain same_text cs x r m ≡ means_chain nat_eq (numbered_comparisons (place_in ls) cs) x r q
  chain_same ls no_operand x r m q h s = refl
  chain_same ls (operand op a cs) x r m q h s = go (expr_same ls a r m q h (left (sound_comparisons same_text ls cs) s)) λ y. go {o = compare_of op x y} refl λ is. choose is (chain_same ls cs y r m q h (right (sound_expr same_text ls a) s)) refl

  and_same : (ls : List Text) (es : Exprs Text) (x : Value) (r : Row) (m : Named) (q : Slots) → Agree ls m q → sound_exprs same_text ls es ≡ true → means_and same_text es x r m ≡ means_and nat_eq (numbered_exprs (place_in ls) es) x r q
  and_same ls none x r m q h s = refl
  and_same ls (more a es) x r m q h s = choose (truthy x) (go (expr_same ls a r m q h (left (sound_exprs same_text ls es) s)) λ y. and_same ls es y r m q h (right (sound_expr same_text ls a) s)) refl

  or_same : (ls : List Text) (es : Exprs Text) (x : Value) (r : Row) (m : Named) (q : Slots) → Agree ls m q → sound_exprs same_text ls es ≡ true → means_or same_text es x r m ≡ means_or nat_eq (numbered_exprs (place_in ls) es) x r q
  or_same ls none x r m q h s = refl
  or_same ls (more a es) x r m q h s = choose (truthy x) refl (go (expr_same ls a r m q h (left (sound_exprs same_text ls es) s)) λ y. or_same ls es y r m q h (right (sound_expr same_text ls a) s))

  iterable_same : (ls : List Text) (i : Iterable Text) (r : Row) (m : Named) (q : Slots) → Agree ls m q → sound_iterable same_text ls i ≡ true → means_items same_text i r m ≡ means_items nat_eq (numbered_iterable (place_in ls) i) r q
  iterable_same ls (value a) r m q h s = go (expr_same ls a r m q h s) λ x. refl
  iterable_same ls (walk w es) r m q h s = go (exprs_same ls es r m q h (right (allows (walk_takes w) (size es)) (right (not (is_view w)) s))) λ xs. refl
  iterable_same ls (view a w) r m q h s = go (expr_same ls a r m q h (right (is_view w) s)) λ x. refl

  statement_same : (ls : List Text) (a : Statement Text) (r : Row) (m : Named) (q : Slots) → Agree ls m q → sound_statement same_text ls a ≡ true → Both (Alike same_text nat_eq (Agree ls)) (runs same_text a r m) (runs nat_eq (numbered_statement (place_in ls) a) r q)
  statement_same ls pass r m q h s = both h
  statement_same ls break r m q h s = both h
  statement_same ls continue r m q h s = both h
  statement_same ls (return a) r m q h s = go_on (Alike same_text nat_eq (Agree ls)) (maybe_same ls a r m q h s) λ x. both refl
  statement_same ls (assign t a) r m q h s = go_on (Alike same_text nat_eq (Agree ls)) (expr_same ls a r m q h (right (sound_target same_text ls t) s)) λ x. go_both (Agree ls) (Alike same_text nat_eq (Agree ls)) (take same_text t x m) (take nat_eq (numbered_target (place_in ls) t) x q) (take_same ls t x m q (left (sound_expr same_text ls a) s) h) λ n k b. both b
  statement_same ls (augment n op a) r m q h s = go_on (Alike same_text nat_eq (Agree ls)) (ap read_local (h n (left (sound_expr same_text ls a) s))) λ x. go_on (Alike same_text nat_eq (Agree ls)) (expr_same ls a r m q h (right (is_local same_text ls n) s)) λ y. go_on (Alike same_text nat_eq (Agree ls)) {o = if is_list (out-Value x) then Err ProfileError else binary_of op x y} refl λ z. both (put_same ls n z m q (left (sound_expr same_text ls a) s) h)
  statement_same ls (express a) r m q h s = go_on (Alike same_text nat_eq (Agree ls)) (expr_same ls a r m q h s) λ x. both h
  statement_same ls (branch arms ss) r m q h s = arms_same ls arms (runs_all same_text ss r) (runs_all nat_eq (numbered_statements (place_in ls) ss) r) r m q h (λ n k b. statements_same ls ss r n k b (right (sound_arms same_text ls arms) s)) (left (sound_statements same_text ls ss) s)
  statement_same ls (repeat t i ss) r m q h s = go_on (Alike same_text nat_eq (Agree ls)) (iterable_same ls i r m q h (left (sound_statements same_text ls ss) (right (sound_target same_text ls t) s))) λ xs. turns_same same_text nat_eq (Agree ls) (runs_all same_text ss r) (runs_all nat_eq (numbered_statements (place_in ls) ss) r) t (numbered_target (place_in ls) t) (λ x n k b. take_same ls t x n k (left ((sound_iterable same_text ls i) && (sound_statements same_text ls ss)) s) b) (λ n k b. statements_same ls ss r n k b (right (sound_iterable same_text ls i) (right (sound_target same_text ls t) s))) xs m q h

  statements_same : (ls : List Text) (ss : Statements Text) (r : Row) (m : Named) (q : Slots) → Agree ls m q → sound_statements same_text ls ss ≡ true → Both (Alike same_text nat_eq (Agree ls)) (runs_all same_text ss r m) (runs_all nat_eq (numbered_statements (place_in ls) ss) r q)
  statements_same ls finish r m q h s = both h
  statements_same ls (next a ss) r m q h s = go_both (Alike same_text nat_eq (Agree ls)) (Alike same_text nat_eq (Agree ls)) (runs same_text a r m) (runs nat_eq (numbered_statement (place_in ls) a) r q) (statement_same ls a r m q h (left (sound_statements same_text ls ss) s)) λ c e k. then_same same_text nat_eq (Agree ls) c e (runs_all same_text ss r) (runs_all nat_eq (numbered_statements (place_in ls) ss) r) k (λ n l b. statements_same ls ss r n l b (right (sound_statement same_text ls a) s))

  arms_same : (ls : List Text) (arms : Arms Text) (f : Named → Answer (Course (Map same_text))) (g : Slots → Answer (Course (Map nat_eq))) (r : Row) (m : Named) (q : Slots) → Agree ls m q → ((n : Named) (k : Slots) → Agree ls n k → Both (Alike same_text nat_eq (Agree ls)) (f n) (g k)) → sound_arms same_text ls arms ≡ true → Both (Alike same_text nat_eq (Agree ls)) (chooses same_text arms f r m) (chooses nat_eq (numbered_arms (place_in ls) arms) g r q)
  arms_same ls no_arm f g r m q h fg s = fg m q h
  arms_same ls (arm t ss arms) f g r m q h fg s = go_on (Alike same_text nat_eq (Agree ls)) (expr_same ls t r m q h (left ((sound_statements same_text ls ss) && (sound_arms same_text ls arms)) s)) λ x. choose_both (Alike same_text nat_eq (Agree ls)) (truthy x) (statements_same ls ss r m q h (left (sound_arms same_text ls arms) (right (sound_expr same_text ls t) s))) (arms_same ls arms f g r m q h fg (right (sound_statements same_text ls ss) (right (sound_expr same_text ls t) s)))

  body_same : (ls : List Text) (b : Body Text) (r : Row) (m : Named) (q : Slots) → Agree ls m q → sound_body same_text ls b ≡ true → yields same_text b r m ≡ yields nat_eq (numbered_body (place_in ls) b) r q
  body_same ls (gives a) r m q h s = expr_same ls a r m q h s
  body_same ls (does ss) r m q h s = go_end (Alike same_text nat_eq (Agree ls)) (runs_all same_text ss r m) (runs_all nat_eq (numbered_statements (place_in ls) ss) r q) (statements_same ls ss r m q h s) λ c e k. ap Ok (ends_same same_text nat_eq (Agree ls) c e k)

  applied_same : (f : Function Text) (r : Row) (xs : List Value) → sound same_text f ≡ true → applied same_text f r xs ≡ applied nat_eq (numbered f) r xs
  applied_same (function role params ls b) r xs s = body_same ls b r (put_all same_text params xs (no_locals same_text)) (put_all nat_eq (map (place_in ls) params) xs (no_locals nat_eq)) (put_all_same ls params xs (no_locals same_text) (no_locals nat_eq) (left (sound_body same_text ls b) s) (nothing ls)) (right (list_all (is_local same_text ls) params) s)

pub numbered_same : NumberedLaw
numbered_same g s r xs = applied_same g r xs s
