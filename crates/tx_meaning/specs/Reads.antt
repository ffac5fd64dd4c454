-- Which names a part of a function reads: each is one of `ls`. A name that is assigned to is not read there, and a def that is called
-- has names of its own.
use Rattle.std.specs.Prelude.{Bool, true, ◌&&◌, List, [], ◌∷◌}
use Rattle.tx_names.specs.Function.{Target, one, several, Expr, nil, truth, int, text, name, cell, paren, tuple, list, dict, comprehension, call, builtin, method, index, slice, unary, binary, compare, negation, conjunction, disjunction, conditional, Exprs, none, more, Pairs, no_pair, pair, Comparisons, no_operand, operand, Maybe, absent, present, Iterable, value, walk, view, Statement, pass, break, continue, return, assign, augment, express, branch, repeat, Statements, finish, next, Arms, no_arm, arm, Body, gives, does}
use Rattle.tx_names.specs.Sound.{is_local}

-- names in front of others
abbrev pub in_front : {N : Type 0} → List N → List N → List N
in_front [] ls = ls
in_front (n ∷ ns) ls = in_front ns (n ∷ ls)

-- the variables of a comprehension are its own
abbrev pub within : {N : Type 0} → Target N → List N → List N
within (one n) ls = n ∷ ls
within (several ns) ls = in_front ns ls

module _ {N : Type 0} (same : N → N → Bool) where
  abbrev mutual
    pub reads : List N → Expr N → Bool
    reads ls nil = true
    reads ls (truth b) = true
    reads ls (int n) = true
    reads ls (text t) = true
    reads ls (name n) = is_local same ls n
    reads ls (cell c) = true
    reads ls (paren a) = reads ls a
    reads ls (tuple es) = reads_each ls es
    reads ls (list es) = reads_each ls es
    reads ls (dict ps) = reads_pairs ls ps
    reads ls (comprehension a t i c) = reads_items ls i && (reads (within t ls) a && reads_maybe (within t ls) c)
    reads ls (call f es) = reads_each ls es
    reads ls (builtin b es) = reads_each ls es
    reads ls (method a m es) = reads ls a && reads_each ls es
    reads ls (index a i) = reads ls a && reads ls i
    reads ls (slice a i j) = reads ls a && (reads_maybe ls i && reads_maybe ls j)
    reads ls (unary op a) = reads ls a
    reads ls (binary a op b) = reads ls a && reads ls b
    reads ls (compare a cs) = reads ls a && reads_chain ls cs
    reads ls (negation a) = reads ls a
    reads ls (conjunction a es) = reads ls a && reads_each ls es
    reads ls (disjunction a es) = reads ls a && reads_each ls es
    reads ls (conditional a t b) = reads ls a && (reads ls t && reads ls b)

    pub reads_each : List N → Exprs N → Bool
    reads_each ls none = true
    reads_each ls (more a es) = reads ls a && reads_each ls es

    pub reads_pairs : List N → Pairs N → Bool
    reads_pairs ls no_pair = true
    reads_pairs ls (pair a b ps) = reads ls a && (reads ls b && reads_pairs ls ps)

    pub reads_chain : List N → Comparisons N → Bool
    reads_chain ls no_operand = true
    reads_chain ls (operand op a cs) = reads ls a && reads_chain ls cs

    pub reads_maybe : List N → Maybe N → Bool
    reads_maybe ls absent = true
    reads_maybe ls (present a) = reads ls a

    pub reads_items : List N → Iterable N → Bool
    reads_items ls (value a) = reads ls a
    reads_items ls (walk w es) = reads_each ls es
    reads_items ls (view a w) = reads ls a

    pub reads_in : List N → Statement N → Bool
    reads_in ls pass = true
    reads_in ls break = true
    reads_in ls continue = true
    reads_in ls (return a) = reads_maybe ls a
    reads_in ls (assign t a) = reads ls a
    reads_in ls (augment n op a) = is_local same ls n && reads ls a
    reads_in ls (express a) = reads ls a
    reads_in ls (branch arms ss) = reads_in_arms ls arms && reads_in_all ls ss
    reads_in ls (repeat t i ss) = reads_items ls i && reads_in_all ls ss

    pub reads_in_all : List N → Statements N → Bool
    reads_in_all ls finish = true
    reads_in_all ls (next s ss) = reads_in ls s && reads_in_all ls ss

    pub reads_in_arms : List N → Arms N → Bool
    reads_in_arms ls no_arm = true
    reads_in_arms ls (arm a ss arms) = reads ls a && (reads_in_all ls ss && reads_in_arms ls arms)

    pub reads_body : List N → Body N → Bool
    reads_body ls (gives a) = reads ls a
    reads_body ls (does ss) = reads_in_all ls ss
