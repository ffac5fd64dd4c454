-- A function gives a valid value of a valid row and valid arguments, where its literals are valid.
use Rattle.std.proofs.Common.{◌≡◌, List, [], ◌∷◌, length, Option, Some, None, Ok, Err, refl, sym, ap, ◌∙◌, subst, Bool, true, false, not, ◌&&◌, ◌==◌, if◌then◌else◌, ℕ}
use Rattle.std.specs.Prelude.{IfOk, encode_utf8_all}
use Rattle.tx_base.specs.declared.class.Class.TheVariants.{ValueError, ProfileError}
use Rattle.tx_tree.specs.Words.{same_text}
use Rattle.tx_tree.specs.declared.operator.BinaryOp.{BinaryOp}
use Rattle.tx_tree.specs.declared.operator.UnaryOp.{UnaryOp}
use Rattle.tx_values.specs.declared.value.Value.{Value, out-Value}
use Rattle.tx_values.specs.declared.value.Value.TheVariants as v
use Rattle.tx_values.specs.Answer.{Answer, ◌>>=◌}
use Rattle.tx_values.specs.Equality.{truthy}
use Rattle.tx_values.specs.Laws.{ValidLaw, SymmetricLaw}
use Rattle.tx_ops.specs.Binary.{binary_of}
use Rattle.tx_ops.specs.Unary.{unary_of}
use Rattle.tx_ops.specs.Compare.{compare_of}
use Rattle.tx_ops.specs.Index.{index_of}
use Rattle.tx_ops.specs.Slice.{slice_of}
use Rattle.tx_ops.specs.Laws.{ResultsAreValid}
use Rattle.tx_methods.specs.Builtins.{builtin_of}
use Rattle.tx_methods.specs.Methods.{has_method_of, has_views_of, method_of}
use Rattle.tx_methods.specs.Walks.{iterate_of, items_of_walk}
use Rattle.tx_methods.specs.Laws.{AreValid, IsValid, BuiltinsLaw, MethodsLaw, IterateLaw, WalksLaw}
use Rattle.tx_names.specs.Function.{Target, one, several, Expr, nil, truth, int, text, name, cell, paren, tuple, list, dict, comprehension, call, builtin, method, index, slice, unary, binary, compare, negation, conjunction, disjunction, conditional, Exprs, none, more, Pairs, no_pair, pair, Comparisons, no_operand, operand, Maybe, absent, present, Iterable, value, walk, view, Statement, pass, break, continue, return, assign, augment, express, branch, repeat, Statements, finish, next, Arms, no_arm, arm, Body, gives, does, Function, function}
use Rattle.tx_meaning.specs.Maps.{Row, Map, no_row, row_of, read_cell, read_local, put, put_all, take, no_locals}
use Rattle.tx_meaning.specs.Containers.{longer}
use Rattle.tx_meaning.specs.Meaning.{Course, goes_on, breaks, continues, gives_back, and_then, and_again, result_of, or_nil, is_list, add_item, add_turn, collect, turn, turns, means, means_each, means_pairs, means_maybe, means_chain, means_and, means_or, holds, means_items, runs, runs_all, chooses, yields, applied}
use Rattle.tx_meaning.specs.Literals.{literals_of, literals_of_each, literals_of_pairs, literals_of_chain, literals_of_maybe, literals_of_items, literals_in, literals_in_all, literals_in_arms, literals_of_body, literals_are_valid}
use Rattle.tx_meaning.specs.Laws.{CellsAreValid, ValidityLaw}
use Rattle.tx_meaning.proofs.Tests.{left, right}
use Rattle.tx_meaning.proofs.Holds.{Holds, given, raised, anything, go, choose, from_ok}
use Rattle.tx_meaning.proofs.ValidParts.{PairsValid, AreEntries, nil_valid, truth_valid, nothing_valid, tuple_valid, list_valid, dict_valid, longer_valid, no_entries, entered_valid}

-- the laws of the tables
pub record Laws : Type 0 where
  pub valid : ValidLaw
  pub symmetric : SymmetricLaw
  pub operators : ResultsAreValid
  pub builtins : BuiltinsLaw
  pub methods : MethodsLaw
  pub items : IterateLaw
  pub walks : WalksLaw

-- ---- cells

some_one : {x y : Value} → Some x ≡ Some y → x ≡ y
some_one h = cc

none_some : {x : Value} → ◌≡◌ {A = Option Value} None (Some x) → ⊥
none_some h = cc

is_valid : {x y : Value} → IsValid x → Some x ≡ Some y → IsValid y
is_valid h e = subst IsValid (some_one e) h

row_valid : (names : List (List ℕ)) (cells : List Value) → AreValid cells → CellsAreValid (row_of names cells)
row_valid [] cells h column x e = absurd (none_some e)
row_valid (n ∷ names) [] h column x e = absurd (none_some e)
row_valid (n ∷ names) (y ∷ cells) h column x e = by_test (same_text n (encode_utf8_all column)) (row_valid names cells h.1 column x) e
  where
    by_test : (b : Bool) → (row_of names cells column ≡ Some x → IsValid x) → (if b then Some y else row_of names cells column) ≡ Some x → IsValid x
    by_test true r e = is_valid h.0 e
    by_test false r e = r e

no_cells : CellsAreValid no_row
no_cells column x e = absurd (none_some e)

cell_read : (o : Option Value) → ((x : Value) → o ≡ Some x → IsValid x) → Holds IsValid (read_cell o)
cell_read None h = raised
cell_read (Some x) h = given (h x refl)

local_read : (o : Option Value) → ((x : Value) → o ≡ Some x → IsValid x) → Holds IsValid (read_local o)
local_read None h = raised
local_read (Some x) h = given (h x refl)

abbrev maybe_valid : Option Value → Type 0
maybe_valid None = Unit {0}
maybe_valid (Some x) = IsValid x

module _ (laws : Laws) where
  -- ---- the tables

  operated : (op : BinaryOp) (x y : Value) → IsValid x → IsValid y → Holds IsValid (binary_of op x y)
  operated op x y h k = from_ok IsValid (binary_of op x y) (λ z e. laws.operators.binary op x y z h k e)

  nil_is : IsValid v.Nil
  nil_is = nil_valid laws.valid laws.symmetric

  truth_is : (b : Bool) → IsValid (v.Truth b)
  truth_is = truth_valid laws.valid laws.symmetric

  or_nil_valid : (o : Option Value) → maybe_valid o → IsValid (or_nil o)
  or_nil_valid None h = nil_is
  or_nil_valid (Some x) h = h

  module _ {N : Type 0} (same : N → N → Bool) where
    -- ---- the values of names

    abbrev AllValid : Map same → Type 0
    AllValid m = (n : N) (x : Value) → m n ≡ Some x → IsValid x

    none_put : AllValid (no_locals same)
    unfolding no_locals
    none_put n x e = absurd (none_some e)

    put_valid : (n : N) (x : Value) (m : Map same) → IsValid x → AllValid m → AllValid (put same n x m)
    unfolding put
    put_valid n x m h k o y = by_test (same n o)
      where
        by_test : (b : Bool) → (if b then Some x else m o) ≡ Some y → IsValid y
        by_test true e = is_valid h e
        by_test false e = k o y e

    put_all_valid : (ns : List N) (xs : List Value) (m : Map same) → AreValid xs → AllValid m → AllValid (put_all same ns xs m)
    put_all_valid [] xs m h k = k
    put_all_valid (n ∷ ns) [] m h k = k
    put_all_valid (n ∷ ns) (x ∷ xs) m h k = put_all_valid ns xs (put same n x m) h.1 (put_valid n x m h.0 k)

    items_valid : (x : Value) → IsValid x → Holds AreValid (iterate_of x)
    items_valid x h = record { of = laws.items x h }

    take_valid : (t : Target N) (x : Value) (m : Map same) → IsValid x → AllValid m → Holds AllValid (take same t x m)
    unfolding take
    take_valid (one n) x m h k = given (put_valid n x m h k)
    take_valid (several ns) x m h k = go (items_valid x h) λ items e. choose (length items == length ns) (given (put_all_valid ns items m e k)) raised

    -- ---- how statements end

    abbrev ValidCourse : Course (Map same) → Type 0
    ValidCourse (goes_on m) = AllValid m
    ValidCourse (breaks m) = AllValid m
    ValidCourse (continues m) = AllValid m
    ValidCourse (gives_back x) = IsValid x

    abbrev Kept : (Map same → Answer (Course (Map same))) → Type 0
    Kept f = (m : Map same) → AllValid m → Holds ValidCourse (f m)

    then_valid : (f : Map same → Answer (Course (Map same))) (c : Course (Map same)) → Kept f → ValidCourse c → Holds ValidCourse (and_then f c)
    then_valid f (goes_on m) k h = k m h
    then_valid f (breaks m) k h = given h
    then_valid f (continues m) k h = given h
    then_valid f (gives_back x) k h = given h

    again_valid : (f : Map same → Answer (Course (Map same))) (c : Course (Map same)) → Kept f → ValidCourse c → Holds ValidCourse (and_again f c)
    again_valid f (goes_on m) k h = k m h
    again_valid f (continues m) k h = k m h
    again_valid f (breaks m) k h = given h
    again_valid f (gives_back x) k h = given h

    result_valid : (c : Course (Map same)) → ValidCourse c → IsValid (result_of c)
    result_valid (goes_on m) h = nil_is
    result_valid (breaks m) h = nil_is
    result_valid (continues m) h = nil_is
    result_valid (gives_back x) h = h

    -- ---- turns

    abbrev Grown : List Value → Type 0
    Grown items = IsValid (v.List items)

    add_valid : (f : Map same → Answer Value) (c : Map same → Answer Bool) (t : Target N) → ((m : Map same) → AllValid m → Holds IsValid (f m))
        → (sofar : List Value) (x : Value) (m : Map same) → Grown sofar → IsValid x → AllValid m → Holds Grown (add_turn same f c t sofar x m)
    add_valid f c t k sofar x m h e a = go (take_valid t x m e a) λ n b. go (anything (c n)) λ wanted u. choose wanted (go (k n b) λ y d. longer_valid laws.valid laws.symmetric sofar y h d) (given h)

    collect_valid : (f : Map same → Answer Value) (c : Map same → Answer Bool) (t : Target N) → ((m : Map same) → AllValid m → Holds IsValid (f m))
        → (sofar xs : List Value) (m : Map same) → Grown sofar → AreValid xs → AllValid m → Holds Grown (collect same f c t sofar xs m)
    unfolding collect
    collect_valid f c t k sofar [] m h e a = given h
    collect_valid f c t k sofar (x ∷ xs) m h e a = go (add_valid f c t k sofar x m h e.0 a) λ all b. collect_valid f c t k all xs m b e.1 a

    turn_valid : (f : Map same → Answer (Course (Map same))) (t : Target N) → Kept f → (x : Value) → IsValid x → Kept (turn same f t x)
    turn_valid f t k x h m a = go (take_valid t x m h a) k

    turns_valid : (f : Map same → Answer (Course (Map same))) (t : Target N) → Kept f → (xs : List Value) → AreValid xs → Kept (turns same f t xs)
    unfolding turns
    turns_valid f t k [] h m a = given a
    turns_valid f t k (x ∷ xs) h m a = go (turn_valid f t k x h.0 m a) λ c b. again_valid (turns same f t xs) c (turns_valid f t k xs h.1) b

    -- ---- all nodes

    mutual
      expr_valid : (e : Expr N) (r : Row) (m : Map same) → CellsAreValid r → AllValid m → literals_of e ≡ true → Holds IsValid (means same e r m)
      expr_valid nil r m h a s = given nil_is
      expr_valid (truth b) r m h a s = given (truth_is b)
      expr_valid (int n) r m h a s = given s
      expr_valid (text t) r m h a s = given s
      expr_valid (name n) r m h a s = local_read (m n) (a n)
      expr_valid (cell c) r m h a s = cell_read (r c) (h c)
      expr_valid (paren e) r m h a s = expr_valid e r m h a s
      expr_valid (tuple es) r m h a s = go (exprs_valid es r m h a s) λ xs k. tuple_valid laws.valid laws.symmetric xs k
      expr_valid (list es) r m h a s = go (exprs_valid es r m h a s) λ xs k. list_valid laws.valid laws.symmetric xs k
      expr_valid (dict ps) r m h a s = go (pairs_valid ps r m h a s) λ pairs k. go (entered_valid laws.valid laws.symmetric [] pairs (no_entries laws.valid laws.symmetric) k) λ entries d. dict_valid laws.valid laws.symmetric entries d
      expr_valid (comprehension e t i c) r m h a s = go (iterable_valid i r m h a (left ((literals_of e) && (literals_of_maybe c)) s)) λ items k. go (collect_valid (means same e r) (holds same c r) t (λ n b. expr_valid e r n h b (left (literals_of_maybe c) (right (literals_of_items i) s))) [] items m (nothing_valid laws.valid laws.symmetric) k a) λ all d. given d
      expr_valid (call f es) r m h a s = go (exprs_valid es r m h a (right (literals_are_valid f) s)) λ xs k. function_valid f no_row xs no_cells k (left (literals_of_each es) s)
      expr_valid (builtin b es) r m h a s = go (exprs_valid es r m h a s) λ xs k. record { of = laws.builtins b xs k }
      expr_valid (method e w es) r m h a s = go (expr_valid e r m h a (left (literals_of_each es) s)) λ x k. choose (has_method_of w x) (go (exprs_valid es r m h a (right (literals_of e) s)) λ xs d. record { of = laws.methods w x xs k d }) raised
      expr_valid (index e i) r m h a s = go (expr_valid e r m h a (left (literals_of i) s)) λ x k. go (expr_valid i r m h a (right (literals_of e) s)) λ y d. from_ok IsValid (index_of x y) (λ z b. laws.operators.index x y z k b)
      expr_valid (slice e i j) r m h a s = go (expr_valid e r m h a (left ((literals_of_maybe i) && (literals_of_maybe j)) s)) λ x k. go (maybe_valid_of i r m h a (left (literals_of_maybe j) (right (literals_of e) s))) λ y d. go (maybe_valid_of j r m h a (right (literals_of_maybe i) (right (literals_of e) s))) λ z u. from_ok IsValid (slice_of x y z) (λ w b. laws.operators.slice x y z w k b)
      expr_valid (unary op e) r m h a s = go (expr_valid e r m h a s) λ x k. from_ok IsValid (unary_of op x) (λ z b. laws.operators.unary op x z k b)
      expr_valid (binary e op f) r m h a s = go (expr_valid e r m h a (left (literals_of f) s)) λ x k. go (expr_valid f r m h a (right (literals_of e) s)) λ y d. operated op x y k d
      expr_valid (compare e cs) r m h a s = go (expr_valid e r m h a (left (literals_of_chain cs) s)) λ x k. chain_valid cs x r m h a (right (literals_of e) s)
      expr_valid (negation e) r m h a s = go (expr_valid e r m h a s) λ x k. given (truth_is (not (truthy x)))
      expr_valid (conjunction e es) r m h a s = go (expr_valid e r m h a (left (literals_of_each es) s)) λ x k. and_valid es x r m h a (right (literals_of e) s) k
      expr_valid (disjunction e es) r m h a s = go (expr_valid e r m h a (left (literals_of_each es) s)) λ x k. or_valid es x r m h a (right (literals_of e) s) k
      expr_valid (conditional e t f) r m h a s = go (expr_valid t r m h a (left (literals_of f) (right (literals_of e) s))) λ x k. choose (truthy x) (expr_valid e r m h a (left ((literals_of t) && (literals_of f)) s)) (expr_valid f r m h a (right (literals_of t) (right (literals_of e) s)))

      exprs_valid : (es : Exprs N) (r : Row) (m : Map same) → CellsAreValid r → AllValid m → literals_of_each es ≡ true → Holds AreValid (means_each same es r m)
      exprs_valid none r m h a s = given tt
      exprs_valid (more e es) r m h a s = go (expr_valid e r m h a (left (literals_of_each es) s)) λ x k. go (exprs_valid es r m h a (right (literals_of e) s)) λ xs d. given (k, d)

      pairs_valid : (ps : Pairs N) (r : Row) (m : Map same) → CellsAreValid r → AllValid m → literals_of_pairs ps ≡ true → Holds PairsValid (means_pairs same ps r m)
      pairs_valid no_pair r m h a s = given tt
      pairs_valid (pair e f ps) r m h a s = go (expr_valid e r m h a (left ((literals_of f) && (literals_of_pairs ps)) s)) λ x k. go (expr_valid f r m h a (left (literals_of_pairs ps) (right (literals_of e) s))) λ y d. go (pairs_valid ps r m h a (right (literals_of f) (right (literals_of e) s))) λ pairs b. given ((k, d), b)

      maybe_valid_of : (e : Maybe N) (r : Row) (m : Map same) → CellsAreValid r → AllValid m → literals_of_maybe e ≡ true → Holds maybe_valid (means_maybe same e r m)
      maybe_valid_of absent r m h a s = given tt
      maybe_valid_of (present e) r m h a s = go (expr_valid e r m h a s) λ x k. given k

      chain_valid : (cs : Comparisons N) (x : Value) (r : Row) (m : Map same) → CellsAreValid r → AllValid m → literals_of_chain cs ≡ true → Holds IsValid (means_chain same cs x r m)
      chain_valid no_operand x r m h a s = given (truth_is true)
      chain_valid (operand op e cs) x r m h a s = go (expr_valid e r m h a (left (literals_of_chain cs) s)) λ y k. go (anything (compare_of op x y)) λ is u. choose is (chain_valid cs y r m h a (right (literals_of e) s)) (given (truth_is false))

      and_valid : (es : Exprs N) (x : Value) (r : Row) (m : Map same) → CellsAreValid r → AllValid m → literals_of_each es ≡ true → IsValid x → Holds IsValid (means_and same es x r m)
      and_valid none x r m h a s k = given k
      and_valid (more e es) x r m h a s k = choose (truthy x) (go (expr_valid e r m h a (left (literals_of_each es) s)) λ y d. and_valid es y r m h a (right (literals_of e) s) d) (given k)

      or_valid : (es : Exprs N) (x : Value) (r : Row) (m : Map same) → CellsAreValid r → AllValid m → literals_of_each es ≡ true → IsValid x → Holds IsValid (means_or same es x r m)
      or_valid none x r m h a s k = given k
      or_valid (more e es) x r m h a s k = choose (truthy x) (given k) (go (expr_valid e r m h a (left (literals_of_each es) s)) λ y d. or_valid es y r m h a (right (literals_of e) s) d)

      iterable_valid : (i : Iterable N) (r : Row) (m : Map same) → CellsAreValid r → AllValid m → literals_of_items i ≡ true → Holds AreValid (means_items same i r m)
      iterable_valid (value e) r m h a s = go (expr_valid e r m h a s) λ x k. items_valid x k
      iterable_valid (walk w es) r m h a s = go (exprs_valid es r m h a s) λ xs k. record { of = laws.walks w xs k }
      iterable_valid (view e w) r m h a s = go (expr_valid e r m h a s) λ x k. choose (has_views_of x) (record { of = laws.walks w (x ∷ []) (k, tt) }) raised

      statement_valid : (e : Statement N) (r : Row) → CellsAreValid r → literals_in e ≡ true → Kept (runs same e r)
      statement_valid pass r h s m a = given a
      statement_valid break r h s m a = given a
      statement_valid continue r h s m a = given a
      statement_valid (return e) r h s m a = go (maybe_valid_of e r m h a s) λ x k. given (or_nil_valid x k)
      statement_valid (assign t e) r h s m a = go (expr_valid e r m h a s) λ x k. go (take_valid t x m k a) λ n b. given b
      statement_valid (augment n op e) r h s m a = go (local_read (m n) (a n)) λ x k. go (expr_valid e r m h a s) λ y d. go (choose (is_list (out-Value x)) raised (operated op x y k d)) λ z b. given (put_valid n z m b a)
      statement_valid (express e) r h s m a = go (expr_valid e r m h a s) λ x k. given a
      statement_valid (branch arms ss) r h s m a = arms_valid arms (runs_all same ss r) (statements_valid ss r h (right (literals_in_arms arms) s)) r h (left (literals_in_all ss) s) m a
      statement_valid (repeat t i ss) r h s m a = go (iterable_valid i r m h a (left (literals_in_all ss) s)) λ items k. turns_valid (runs_all same ss r) t (statements_valid ss r h (right (literals_of_items i) s)) items k m a

      statements_valid : (ss : Statements N) (r : Row) → CellsAreValid r → literals_in_all ss ≡ true → Kept (runs_all same ss r)
      statements_valid finish r h s m a = given a
      statements_valid (next e ss) r h s m a = go (statement_valid e r h (left (literals_in_all ss) s) m a) λ c k. then_valid (runs_all same ss r) c (statements_valid ss r h (right (literals_in e) s)) k

      arms_valid : (arms : Arms N) (f : Map same → Answer (Course (Map same))) → Kept f → (r : Row) → CellsAreValid r → literals_in_arms arms ≡ true → Kept (chooses same arms f r)
      arms_valid no_arm f k r h s m a = k m a
      arms_valid (arm e ss arms) f k r h s m a = go (expr_valid e r m h a (left ((literals_in_all ss) && (literals_in_arms arms)) s)) λ x u. choose (truthy x) (statements_valid ss r h (left (literals_in_arms arms) (right (literals_of e) s)) m a) (arms_valid arms f k r h (right (literals_in_all ss) (right (literals_of e) s)) m a)

      body_valid : (b : Body N) (r : Row) (m : Map same) → CellsAreValid r → AllValid m → literals_of_body b ≡ true → Holds IsValid (yields same b r m)
      body_valid (gives e) r m h a s = expr_valid e r m h a s
      body_valid (does ss) r m h a s = go (statements_valid ss r h s m a) λ c k. given (result_valid c k)

      function_valid : (g : Function N) (r : Row) (xs : List Value) → CellsAreValid r → AreValid xs → literals_are_valid g ≡ true → Holds IsValid (applied same g r xs)
      function_valid (function role params locals body) r xs h k s = body_valid body r (put_all same params xs (no_locals same)) h (put_all_valid params xs (no_locals same) k none_put) s

    pub validity : ValidityLaw same
    validity = record { function = λ g r xs s h k. (function_valid g r xs h k s).of; row = row_valid }
