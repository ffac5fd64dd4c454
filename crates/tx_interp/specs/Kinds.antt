-- Which nodes a function of the interpreter is asked for.
use Rattle.std.specs.Prelude.{ℕ, Bool, true, false}
use Rattle.tx_names.specs.Function.{Expr, comprehension, call, method, index, slice, binary, compare, conjunction, disjunction, conditional, Statement, return, assign, augment, express, branch, repeat}

abbrev pub is_comprehension : Expr ℕ → Bool
is_comprehension (comprehension a t i c) = true
is_comprehension _ = false

abbrev pub is_call : Expr ℕ → Bool
is_call (call f es) = true
is_call _ = false

abbrev pub is_method : Expr ℕ → Bool
is_method (method a m es) = true
is_method _ = false

abbrev pub is_index : Expr ℕ → Bool
is_index (index a i) = true
is_index _ = false

abbrev pub is_slice : Expr ℕ → Bool
is_slice (slice a i j) = true
is_slice _ = false

abbrev pub is_binary : Expr ℕ → Bool
is_binary (binary a op b) = true
is_binary _ = false

abbrev pub is_compare : Expr ℕ → Bool
is_compare (compare a cs) = true
is_compare _ = false

-- `and`, `or` and the conditional, which give an operand
abbrev pub is_choice : Expr ℕ → Bool
is_choice (conjunction a es) = true
is_choice (disjunction a es) = true
is_choice (conditional a t b) = true
is_choice _ = false

abbrev pub is_return : Statement ℕ → Bool
is_return (return a) = true
is_return _ = false

abbrev pub is_assign : Statement ℕ → Bool
is_assign (assign t a) = true
is_assign _ = false

abbrev pub is_augment : Statement ℕ → Bool
is_augment (augment n op a) = true
is_augment _ = false

abbrev pub is_express : Statement ℕ → Bool
is_express (express a) = true
is_express _ = false

-- an `if`
abbrev pub is_branch : Statement ℕ → Bool
is_branch (branch arms other) = true
is_branch _ = false

-- a `for`
abbrev pub is_repeat : Statement ℕ → Bool
is_repeat (repeat t i ss) = true
is_repeat _ = false
