-- A function is sound where each name in it is one of its local names, each word is called with a number of arguments that it
-- takes, and the same of the defs that it calls. Where names are slots, each slot of a sound function is below the number of its
-- local names.
use Rattle.std.specs.Prelude.{ℕ, suc, Bool, true, not, ◌&&◌, ◌==◌, List, length}
use Rattle.std.specs.List.{list_all, list_any}
use Rattle.tx_tree.specs.Takes.{allows, builtin_takes, method_takes, walk_takes, is_view}
use Rattle.tx_names.specs.Function.{Target, one, several, Expr, nil, truth, int, text, name, cell, paren, tuple, list, dict, comprehension, call, builtin, method, index, slice, unary, binary, compare, negation, conjunction, disjunction, conditional, Exprs, none, more, Pairs, no_pair, pair, Comparisons, no_operand, operand, Maybe, absent, present, Iterable, value, walk, view, Statement, pass, break, continue, return, assign, augment, express, branch, repeat, Statements, finish, next, Arms, no_arm, arm, Body, gives, does, Function, function, params_of}

abbrev pub size : {N : Type 0} → Exprs N → ℕ
size none = 0
size (more a es) = suc (size es)

module _ {N : Type 0} (same : N → N → Bool) where
  abbrev pub is_local : List N → N → Bool
  is_local ls n = list_any (same n) ls

  abbrev pub sound_target : List N → Target N → Bool
  sound_target ls (one n) = is_local ls n
  sound_target ls (several ns) = list_all (is_local ls) ns

  abbrev mutual
    pub sound_expr : List N → Expr N → Bool
    sound_expr ls nil = true
    sound_expr ls (truth b) = true
    sound_expr ls (int n) = true
    sound_expr ls (text t) = true
    sound_expr ls (name n) = is_local ls n
    sound_expr ls (cell c) = true
    sound_expr ls (paren a) = sound_expr ls a
    sound_expr ls (tuple es) = sound_exprs ls es
    sound_expr ls (list es) = sound_exprs ls es
    sound_expr ls (dict ps) = sound_pairs ls ps
    sound_expr ls (comprehension a t i c) = sound_expr ls a && (sound_target ls t && (sound_iterable ls i && sound_maybe ls c))
    sound_expr ls (call f es) = (size es == length (params_of f)) && (sound f && sound_exprs ls es)
    sound_expr ls (builtin b es) = allows (builtin_takes b) (size es) && sound_exprs ls es
    sound_expr ls (method a m es) = allows (method_takes m) (size es) && (sound_expr ls a && sound_exprs ls es)
    sound_expr ls (index a i) = sound_expr ls a && sound_expr ls i
    sound_expr ls (slice a i j) = sound_expr ls a && (sound_maybe ls i && sound_maybe ls j)
    sound_expr ls (unary op a) = sound_expr ls a
    sound_expr ls (binary a op b) = sound_expr ls a && sound_expr ls b
    sound_expr ls (compare a cs) = sound_expr ls a && sound_comparisons ls cs
    sound_expr ls (negation a) = sound_expr ls a
    sound_expr ls (conjunction a es) = sound_expr ls a && sound_exprs ls es
    sound_expr ls (disjunction a es) = sound_expr ls a && sound_exprs ls es
    sound_expr ls (conditional a t b) = sound_expr ls a && (sound_expr ls t && sound_expr ls b)

    pub sound_exprs : List N → Exprs N → Bool
    sound_exprs ls none = true
    sound_exprs ls (more a es) = sound_expr ls a && sound_exprs ls es

    pub sound_pairs : List N → Pairs N → Bool
    sound_pairs ls no_pair = true
    sound_pairs ls (pair a b ps) = sound_expr ls a && (sound_expr ls b && sound_pairs ls ps)

    pub sound_comparisons : List N → Comparisons N → Bool
    sound_comparisons ls no_operand = true
    sound_comparisons ls (operand op a cs) = sound_expr ls a && sound_comparisons ls cs

    pub sound_maybe : List N → Maybe N → Bool
    sound_maybe ls absent = true
    sound_maybe ls (present a) = sound_expr ls a

    pub sound_iterable : List N → Iterable N → Bool
    sound_iterable ls (value a) = sound_expr ls a
    sound_iterable ls (walk w es) = not (is_view w) && (allows (walk_takes w) (size es) && sound_exprs ls es)
    sound_iterable ls (view a w) = is_view w && sound_expr ls a

    pub sound_statement : List N → Statement N → Bool
    sound_statement ls pass = true
    sound_statement ls break = true
    sound_statement ls continue = true
    sound_statement ls (return a) = sound_maybe ls a
    sound_statement ls (assign t a) = sound_target ls t && sound_expr ls a
    sound_statement ls (augment n op a) = is_local ls n && sound_expr ls a
    sound_statement ls (express a) = sound_expr ls a
    sound_statement ls (branch arms ss) = sound_arms ls arms && sound_statements ls ss
    sound_statement ls (repeat t i ss) = sound_target ls t && (sound_iterable ls i && sound_statements ls ss)

    pub sound_statements : List N → Statements N → Bool
    sound_statements ls finish = true
    sound_statements ls (next s ss) = sound_statement ls s && sound_statements ls ss

    pub sound_arms : List N → Arms N → Bool
    sound_arms ls no_arm = true
    sound_arms ls (arm a ss arms) = sound_expr ls a && (sound_statements ls ss && sound_arms ls arms)

    pub sound_body : List N → Body N → Bool
    sound_body ls (gives a) = sound_expr ls a
    sound_body ls (does ss) = sound_statements ls ss

    pub sound : Function N → Bool
    sound (function role params locals body) = list_all (is_local locals) params && sound_body locals body
