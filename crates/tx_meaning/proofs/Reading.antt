-- The meaning depends on no name that is not read: of maps that agree on the names that are read it is the same.
use Rattle.std.proofs.Common.{◌≡◌, ℕ, suc, ◌+◌, List, [], ◌∷◌, length, map, Option, Some, None, Ok, Err, refl, sym, ap, ◌∙◌, subst, Bool, true, false, not, ◌&&◌, ◌||◌, nat_eq, ◌==◌, if◌then◌else◌, arith}
use Rattle.std.specs.Bool.{Decides}
use Rattle.std.specs.List.{list_any, list_all}
use Rattle.std.specs.Cmp.Lexicographic.{bytes_decides}
use Rattle.std.proofs.lemmas.Bool.{true≢false}
use Rattle.std.proofs.lemmas.Bool.Decides.{Decides-eqb}
use Rattle.tx_base.specs.declared.class.Class.TheVariants.{ValueError, ProfileError}
use Rattle.tx_tree.specs.Words.{same_text}
use Rattle.tx_values.specs.declared.value.Value.{Value, out-Value}
use Rattle.tx_values.specs.declared.value.Value.TheVariants as v
use Rattle.tx_values.specs.Answer.{Answer, ◌>>=◌}
use Rattle.tx_values.specs.Equality.{truthy}
use Rattle.tx_ops.specs.Binary.{binary_of}
use Rattle.tx_ops.specs.Unary.{unary_of}
use Rattle.tx_ops.specs.Compare.{compare_of}
use Rattle.tx_methods.specs.Builtins.{builtin_of}
use Rattle.tx_methods.specs.Methods.{has_method_of, has_views_of, method_of}
use Rattle.tx_methods.specs.Walks.{iterate_of, items_of_walk}
use Rattle.tx_names.specs.Function.{Target, one, several, Expr, nil, truth, int, text, name, cell, paren, tuple, list, dict, comprehension, call, builtin, method, index, slice, unary, binary, compare, negation, conjunction, disjunction, conditional, Exprs, none, more, Pairs, no_pair, pair, Comparisons, no_operand, operand, Maybe, absent, present, Iterable, value, walk, view, Statement, pass, break, continue, return, assign, augment, express, branch, repeat, Statements, finish, next, Arms, no_arm, arm, Body, gives, does, Function, function}
use Rattle.tx_names.specs.Scope.{Text}
use Rattle.tx_names.specs.Sound.{is_local}
use Rattle.tx_meaning.specs.Maps as maps
use Rattle.tx_meaning.specs.Maps.{Row, Map, no_row, read_cell, read_local, put, put_all, put_items, take, no_locals}
use Rattle.tx_meaning.specs.Meaning.{Course, goes_on, gives_back, or_nil, is_list, collect, turns, means, means_each, means_pairs, means_maybe, means_chain, means_and, means_or, holds, means_items, runs, runs_all, chooses, yields, applied}
use Rattle.tx_meaning.proofs.TwoEvaluations.{Both, both, raised, go, go_on, go_both, go_end, choose, choose_both, Alike, then_same, ends_same, collect_same, turns_same}
use Rattle.tx_meaning.proofs.Tests.{left, right}
use Rattle.tx_meaning.specs.Reads.{in_front, within, reads, reads_each, reads_pairs, reads_chain, reads_maybe, reads_items, reads_in, reads_in_all, reads_in_arms, reads_body}
use Rattle.tx_meaning.specs.Laws as laws
use Rattle.tx_meaning.specs.Laws.{ReadsLaw}

module _ {N : Type 0} (same : N → N → Bool) (decides : (n o : N) → Decides (same n o) (n ≡ o)) where
  abbrev Agree : List N → Map same → Map same → Type 0
  Agree = laws.Agree same

  -- ---- maps

  put_same : (ls : List N) (n : N) (x : Value) (m q : Map same) → Agree ls m q → Agree ls (put same n x m) (put same n x q)
  unfolding put
  put_same ls n x m q h o k = ap (λ w. if same n o then Some x else w) (h o k)

  put_all_same : (ls ns : List N) (xs : List Value) (m q : Map same) → Agree ls m q → Agree ls (put_all same ns xs m) (put_all same ns xs q)
  put_all_same ls [] xs m q h = h
  put_all_same ls (n ∷ ns) [] m q h = h
  put_all_same ls (n ∷ ns) (x ∷ xs) m q h = put_all_same ls ns xs (put same n x m) (put same n x q) (put_same ls n x m q h)

  take_same : (ls : List N) (t : Target N) (x : Value) (m q : Map same) → Agree ls m q → Both (Agree ls) (take same t x m) (take same t x q)
  unfolding take
  take_same ls (one n) x m q h = both (put_same ls n x m q h)
  take_same ls (several ns) x m q h = go_on (Agree ls) {o = iterate_of x} refl λ items.
      choose_both (Agree ls) (length items == length ns) (both (put_all_same ls ns items m q h)) raised

  -- within a comprehension the maps agree on its variables too

  put_front : (ls : List N) (n : N) (x : Value) (m q : Map same) → Agree ls m q → Agree (n ∷ ls) (put same n x m) (put same n x q)
  unfolding put
  put_front ls n x m q h o k = by_test (same n o) refl
    where
      behind : (b : Bool) → same o n ≡ b → same n o ≡ false → (b || list_any (same o) ls) ≡ true → m o ≡ q o
      behind true e f l = absurd (true≢false (sym ((decides n o).1 (sym ((decides o n).0 e))) ∙ f))
      behind false e f l = h o l

      by_test : (b : Bool) → same n o ≡ b → (if b then Some x else m o) ≡ (if b then Some x else q o)
      by_test true e = refl
      by_test false e = behind (same o n) refl e k

  is_as_long : (ns : List N) (items : List Value) → (length items == length ns) ≡ true → length items ≡ length ns
  is_as_long ns items e = (Decides-eqb (length items) (length ns)).0 e

  put_all_front : (ls ns : List N) (xs : List Value) (m q : Map same) → length xs ≡ length ns → Agree ls m q → Agree (in_front ns ls) (put_all same ns xs m) (put_all same ns xs q)
  put_all_front ls [] xs m q e h = h
  put_all_front ls (n ∷ ns) [] m q e h = absurd (omega (arith, e))
  put_all_front ls (n ∷ ns) (x ∷ xs) m q e h = let d : length xs ≡ length ns = omega (arith, e) in put_all_front (n ∷ ls) ns xs (put same n x m) (put same n x q) d (put_front ls n x m q h)

  take_within : (ls : List N) (t : Target N) (x : Value) (m q : Map same) → Agree ls m q → Both (Agree (within t ls)) (take same t x m) (take same t x q)
  unfolding take
  take_within ls (one n) x m q h = both (put_front ls n x m q h)
  take_within ls (several ns) x m q h = go_on (Agree (in_front ns ls)) {o = iterate_of x} refl λ items. by_test items (length items == length ns) refl
    where
      by_test : (items : List Value) (b : Bool) → (length items == length ns) ≡ b → Both (Agree (in_front ns ls)) (if b then Ok (put_all same ns items m) else Err ValueError) (if b then Ok (put_all same ns items q) else Err ValueError)
      by_test items true e = both (put_all_front ls ns items m q (is_as_long ns items e) h)
      by_test items false e = raised

  -- ---- all nodes

  mutual
    expr_same : (ls : List N) (a : Expr N) (r : Row) (m q : Map same) → Agree ls m q → reads same ls a ≡ true → means same a r m ≡ means same a r q
    expr_same ls nil r m q h s = refl
    expr_same ls (truth b) r m q h s = refl
    expr_same ls (int n) r m q h s = refl
    expr_same ls (text t) r m q h s = refl
    expr_same ls (name n) r m q h s = ap read_local (h n s)
    expr_same ls (cell c) r m q h s = refl
    expr_same ls (paren a) r m q h s = expr_same ls a r m q h s
    expr_same ls (tuple es) r m q h s = go (exprs_same ls es r m q h s) λ xs. refl
    expr_same ls (list es) r m q h s = go (exprs_same ls es r m q h s) λ xs. refl
    expr_same ls (dict ps) r m q h s = go (pairs_same ls ps r m q h s) λ xs. refl
    expr_same ls (comprehension a t i c) r m q h s = go (iterable_same ls i r m q h (left ((reads same (within t ls) a) && (reads_maybe same (within t ls) c)) s)) λ xs. go (collect_same same same (Agree ls) (Agree (within t ls)) (means same a r) (means same a r) (holds same c r) (holds same c r) t t (λ x n k b. take_within ls t x n k b) (λ n k b. expr_same (within t ls) a r n k b (left (reads_maybe same (within t ls) c) (right (reads_items same ls i) s))) (λ n k b. holds_same (within t ls) c r n k b (right (reads same (within t ls) a) (right (reads_items same ls i) s))) [] xs m q h) λ all. refl
    expr_same ls (call f es) r m q h s = go (exprs_same ls es r m q h s) λ xs. refl
    expr_same ls (builtin b es) r m q h s = go (exprs_same ls es r m q h s) λ xs. refl
    expr_same ls (method a w es) r m q h s = go (expr_same ls a r m q h (left (reads_each same ls es) s)) λ x. choose (has_method_of w x) (go (exprs_same ls es r m q h (right (reads same ls a) s)) λ xs. refl) refl
    expr_same ls (index a i) r m q h s = go (expr_same ls a r m q h (left (reads same ls i) s)) λ x. go (expr_same ls i r m q h (right (reads same ls a) s)) λ y. refl
    expr_same ls (slice a i j) r m q h s = go (expr_same ls a r m q h (left ((reads_maybe same ls i) && (reads_maybe same ls j)) s)) λ x. go (maybe_same ls i r m q h (left (reads_maybe same ls j) (right (reads same ls a) s))) λ y. go (maybe_same ls j r m q h (right (reads_maybe same ls i) (right (reads same ls a) s))) λ z. refl
    expr_same ls (unary op a) r m q h s = go (expr_same ls a r m q h s) λ x. refl
    expr_same ls (binary a op b) r m q h s = go (expr_same ls a r m q h (left (reads same ls b) s)) λ x. go (expr_same ls b r m q h (right (reads same ls a) s)) λ y. refl
    expr_same ls (compare a cs) r m q h s = go (expr_same ls a r m q h (left (reads_chain same ls cs) s)) λ x. chain_same ls cs x r m q h (right (reads same ls a) s)
    expr_same ls (negation a) r m q h s = go (expr_same ls a r m q h s) λ x. refl
    expr_same ls (conjunction a es) r m q h s = go (expr_same ls a r m q h (left (reads_each same ls es) s)) λ x. and_same ls es x r m q h (right (reads same ls a) s)
    expr_same ls (disjunction a es) r m q h s = go (expr_same ls a r m q h (left (reads_each same ls es) s)) λ x. or_same ls es x r m q h (right (reads same ls a) s)
    expr_same ls (conditional a t b) r m q h s = go (expr_same ls t r m q h (left (reads same ls b) (right (reads same ls a) s))) λ x. choose (truthy x) (expr_same ls a r m q h (left ((reads same ls t) && (reads same ls b)) s)) (expr_same ls b r m q h (right (reads same ls t) (right (reads same ls a) s)))

    exprs_same : (ls : List N) (es : Exprs N) (r : Row) (m q : Map same) → Agree ls m q → reads_each same ls es ≡ true → means_each same es r m ≡ means_each same es r q
    exprs_same ls none r m q h s = refl
    exprs_same ls (more a es) r m q h s = go (expr_same ls a r m q h (left (reads_each same ls es) s)) λ x. go (exprs_same ls es r m q h (right (reads same ls a) s)) λ xs. refl

    pairs_same : (ls : List N) (ps : Pairs N) (r : Row) (m q : Map same) → Agree ls m q → reads_pairs same ls ps ≡ true → means_pairs same ps r m ≡ means_pairs same ps r q
    pairs_same ls no_pair r m q h s = refl
    pairs_same ls (pair a b ps) r m q h s = go (expr_same ls a r m q h (left ((reads same ls b) && (reads_pairs same ls ps)) s)) λ x. go (expr_same ls b r m q h (left (reads_pairs same ls ps) (right (reads same ls a) s))) λ y. go (pairs_same ls ps r m q h (right (reads same ls b) (right (reads same ls a) s))) λ xs. refl

    maybe_same : (ls : List N) (a : Maybe N) (r : Row) (m q : Map same) → Agree ls m q → reads_maybe same ls a ≡ true → means_maybe same a r m ≡ means_maybe same a r q
    maybe_same ls absent r m q h s = refl
    maybe_same ls (present a) r m q h s = go (expr_same ls a r m q h s) λ x. refl

    holds_same : (ls : List N) (a : Maybe N) (r : Row) (m q : Map same) → Agree ls m q → reads_maybe same ls a ≡ true → holds same a r m ≡ holds same a r q
    holds_same ls absent r m q h s = refl
    holds_same ls (present a) r m q h s = go (expr_same ls a r m q h s) λ x. refl

    chain_same : (ls : List N) (cs : Comparisons N) (x : Value) (r : Row) (m q : Map same) → Agree ls m q → reads_chain same ls cs ≡ true → means_chain same cs x r m ≡ means_chain same cs x r q
    chain_same ls no_operand x r m q h s = refl
    chain_same ls (operand op a cs) x r m q h s = go (expr_same ls a r m q h (left (reads_chain same ls cs) s)) λ y. go {o = compare_of op x y} refl λ is. choose is (chain_same ls cs y r m q h (right (reads same ls a) s)) refl

    and_same : (ls : List N) (es : Exprs N) (x : Value) (r : Row) (m q : Map same) → Agree ls m q → reads_each same ls es ≡ true → means_and same es x r m ≡ means_and same es x r q
    and_same ls none x r m q h s = refl
    and_same ls (more a es) x r m q h s = choose (truthy x) (go (expr_same ls a r m q h (left (reads_each same ls es) s)) λ y. and_same ls es y r m q h (right (reads same ls a) s)) refl

    or_same : (ls : List N) (es : Exprs N) (x : Value) (r : Row) (m q : Map same) → Agree ls m q → reads_each same ls es ≡ true → means_or same es x r m ≡ means_or same es x r q
    or_same ls none x r m q h s = refl
    or_same ls (more a es) x r m q h s = choose (truthy x) refl (go (expr_same ls a r m q h (left (reads_each same ls es) s)) λ y. or_same ls es y r m q h (right (reads same ls a) s))

    iterable_same : (ls : List N) (i : Iterable N) (r : Row) (m q : Map same) → Agree ls m q → reads_items same ls i ≡ true → means_items same i r m ≡ means_items same i r q
    iterable_same ls (value a) r m q h s = go (expr_same ls a r m q h s) λ x. refl
    iterable_same ls (walk w es) r m q h s = go (exprs_same ls es r m q h s) λ xs. refl
    iterable_same ls (view a w) r m q h s = go (expr_same ls a r m q h s) λ x. refl

    statement_same : (ls : List N) (a : Statement N) (r : Row) (m q : Map same) → Agree ls m q → reads_in same ls a ≡ true → Both (Alike same same (Agree ls)) (runs same a r m) (runs same a r q)
    statement_same ls pass r m q h s = both h
    statement_same ls break r m q h s = both h
    statement_same ls continue r m q h s = both h
    statement_same ls (return a) r m q h s = go_on (Alike same same (Agree ls)) (maybe_same ls a r m q h s) λ x. both refl
    statement_same ls (assign t a) r m q h s = go_on (Alike same same (Agree ls)) (expr_same ls a r m q h s) λ x. go_both (Agree ls) (Alike same same (Agree ls)) (take same t x m) (take same t x q) (take_same ls t x m q h) λ n k b. both b
    statement_same ls (augment n op a) r m q h s = go_on (Alike same same (Agree ls)) (ap read_local (h n (left (reads same ls a) s))) λ x. go_on (Alike same same (Agree ls)) (expr_same ls a r m q h (right (is_local same ls n) s)) λ y. go_on (Alike same same (Agree ls)) {o = if is_list (out-Value x) then Err ProfileError else binary_of op x y} refl λ z. both (put_same ls n z m q h)
    statement_same ls (express a) r m q h s = go_on (Alike same same (Agree ls)) (expr_same ls a r m q h s) λ x. both h
    statement_same ls (branch arms ss) r m q h s = arms_same ls arms (runs_all same ss r) (runs_all same ss r) r m q h (λ n k b. statements_same ls ss r n k b (right (reads_in_arms same ls arms) s)) (left (reads_in_all same ls ss) s)
    statement_same ls (repeat t i ss) r m q h s = go_on (Alike same same (Agree ls)) (iterable_same ls i r m q h (left (reads_in_all same ls ss) s)) λ xs. turns_same same same (Agree ls) (runs_all same ss r) (runs_all same ss r) t t (λ x n k b. take_same ls t x n k b) (λ n k b. statements_same ls ss r n k b (right (reads_items same ls i) s)) xs m q h

    statements_same : (ls : List N) (ss : Statements N) (r : Row) (m q : Map same) → Agree ls m q → reads_in_all same ls ss ≡ true → Both (Alike same same (Agree ls)) (runs_all same ss r m) (runs_all same ss r q)
    statements_same ls finish r m q h s = both h
    statements_same ls (next a ss) r m q h s = go_both (Alike same same (Agree ls)) (Alike same same (Agree ls)) (runs same a r m) (runs same a r q) (statement_same ls a r m q h (left (reads_in_all same ls ss) s)) λ c e k. then_same same same (Agree ls) c e (runs_all same ss r) (runs_all same ss r) k (λ n l b. statements_same ls ss r n l b (right (reads_in same ls a) s))

    arms_same : (ls : List N) (arms : Arms N) (f : Map same → Answer (Course (Map same))) (g : Map same → Answer (Course (Map same))) (r : Row) (m q : Map same) → Agree ls m q → ((n : Map same) (k : Map same) → Agree ls n k → Both (Alike same same (Agree ls)) (f n) (g k)) → reads_in_arms same ls arms ≡ true → Both (Alike same same (Agree ls)) (chooses same arms f r m) (chooses same arms g r q)
    arms_same ls no_arm f g r m q h fg s = fg m q h
    arms_same ls (arm t ss arms) f g r m q h fg s = go_on (Alike same same (Agree ls)) (expr_same ls t r m q h (left ((reads_in_all same ls ss) && (reads_in_arms same ls arms)) s)) λ x. choose_both (Alike same same (Agree ls)) (truthy x) (statements_same ls ss r m q h (left (reads_in_arms same ls arms) (right (reads same ls t) s))) (arms_same ls arms f g r m q h fg (right (reads_in_all same ls ss) (right (reads same ls t) s)))

    body_same : (ls : List N) (b : Body N) (r : Row) (m q : Map same) → Agree ls m q → reads_body same ls b ≡ true → yields same b r m ≡ yields same b r q
    body_same ls (gives a) r m q h s = expr_same ls a r m q h s
    body_same ls (does ss) r m q h s = go_end (Alike same same (Agree ls)) (runs_all same ss r m) (runs_all same ss r q) (statements_same ls ss r m q h s) λ c e k. ap Ok (ends_same same same (Agree ls) c e k)

  pub reading : ReadsLaw same
  reading = record { expression = λ ls a r m q h s. expr_same ls a r m q h s; body = λ ls b r m q h s. body_same ls b r m q h s }
