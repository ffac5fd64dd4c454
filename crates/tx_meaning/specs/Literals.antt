-- Functions whose literals are values of the language: integers of 128 bits, texts of code points within the limits. Those of the defs
-- that are called count too.
use Rattle.std.specs.Prelude.{Bool, true, ◌&&◌}
use Rattle.tx_values.specs.declared.value.Value.TheVariants as v
use Rattle.tx_values.specs.Valid.{valid}
use Rattle.tx_names.specs.Function.{Expr, nil, truth, int, text, name, cell, paren, tuple, list, dict, comprehension, call, builtin, method, index, slice, unary, binary, compare, negation, conjunction, disjunction, conditional, Exprs, none, more, Pairs, no_pair, pair, Comparisons, no_operand, operand, Maybe, absent, present, Iterable, value, walk, view, Statement, pass, break, continue, return, assign, augment, express, branch, repeat, Statements, finish, next, Arms, no_arm, arm, Body, gives, does, Function, function}

module _ {N : Type 0} where
  abbrev mutual
    pub literals_of : Expr N → Bool
    literals_of nil = true
    literals_of (truth b) = true
    literals_of (int n) = valid (v.Int n)
    literals_of (text t) = valid (v.Text t)
    literals_of (name n) = true
    literals_of (cell c) = true
    literals_of (paren a) = literals_of a
    literals_of (tuple es) = literals_of_each es
    literals_of (list es) = literals_of_each es
    literals_of (dict ps) = literals_of_pairs ps
    literals_of (comprehension a t i c) = literals_of_items i && (literals_of a && literals_of_maybe c)
    literals_of (call f es) = literals_are_valid f && literals_of_each es
    literals_of (builtin b es) = literals_of_each es
    literals_of (method a m es) = literals_of a && literals_of_each es
    literals_of (index a i) = literals_of a && literals_of i
    literals_of (slice a i j) = literals_of a && (literals_of_maybe i && literals_of_maybe j)
    literals_of (unary op a) = literals_of a
    literals_of (binary a op b) = literals_of a && literals_of b
    literals_of (compare a cs) = literals_of a && literals_of_chain cs
    literals_of (negation a) = literals_of a
    literals_of (conjunction a es) = literals_of a && literals_of_each es
    literals_of (disjunction a es) = literals_of a && literals_of_each es
    literals_of (conditional a t b) = literals_of a && (literals_of t && literals_of b)

    pub literals_of_each : Exprs N → Bool
    literals_of_each none = true
    literals_of_each (more a es) = literals_of a && literals_of_each es

    pub literals_of_pairs : Pairs N → Bool
    literals_of_pairs no_pair = true
    literals_of_pairs (pair a b ps) = literals_of a && (literals_of b && literals_of_pairs ps)

    pub literals_of_chain : Comparisons N → Bool
    literals_of_chain no_operand = true
    literals_of_chain (operand op a cs) = literals_of a && literals_of_chain cs

    pub literals_of_maybe : Maybe N → Bool
    literals_of_maybe absent = true
    literals_of_maybe (present a) = literals_of a

    pub literals_of_items : Iterable N → Bool
    literals_of_items (value a) = literals_of a
    literals_of_items (walk w es) = literals_of_each es
    literals_of_items (view a w) = literals_of a

    pub literals_in : Statement N → Bool
    literals_in pass = true
    literals_in break = true
    literals_in continue = true
    literals_in (return a) = literals_of_maybe a
    literals_in (assign t a) = literals_of a
    literals_in (augment n op a) = literals_of a
    literals_in (express a) = literals_of a
    literals_in (branch arms ss) = literals_in_arms arms && literals_in_all ss
    literals_in (repeat t i ss) = literals_of_items i && literals_in_all ss

    pub literals_in_all : Statements N → Bool
    literals_in_all finish = true
    literals_in_all (next s ss) = literals_in s && literals_in_all ss

    pub literals_in_arms : Arms N → Bool
    literals_in_arms no_arm = true
    literals_in_arms (arm a ss arms) = literals_of a && (literals_in_all ss && literals_in_arms arms)

    pub literals_of_body : Body N → Bool
    literals_of_body (gives a) = literals_of a
    literals_of_body (does ss) = literals_in_all ss

    pub literals_are_valid : Function N → Bool
    literals_are_valid (function role params locals body) = literals_of_body body
