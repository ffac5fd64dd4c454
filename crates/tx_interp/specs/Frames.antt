-- How frames stand for the values of slots, and the interpreter's ends for those of the meaning.
use Rattle.std.specs.Prelude.{ℕ, nat_eq, List, [], ◌∷◌, slice_get, Option, Some, None, Result, Ok, map, option_map}
use Rattle.tx_values.specs.declared.value.Value.{Value}
use Rattle.tx_values.specs.Answer.{Answer, ◌>>=◌}
use Rattle.tx_tree.specs.declared.function.Builtin.{Builtin}
use Rattle.tx_methods.specs.Builtins.{builtin_of}
use Rattle.tx_names.specs.Function.{Expr, Exprs, comprehension, Statement, branch, Arms}
use Rattle.tx_meaning.specs.Maps.{Map, Row}
use Rattle.tx_meaning.specs.Meaning.{Course, goes_on, breaks, continues, gives_back, add_turn, collect, means, means_each, holds, runs_all, chooses}
use Rattle.tx_interp.specs.declared.held.Held.{Held}
use Rattle.tx_interp.specs.declared.held.Held.TheVariants as held
use Rattle.tx_interp.specs.declared.frame.End.{End}
use Rattle.tx_interp.specs.declared.frame.End.TheVariants as end

-- the value that is lent or owned
abbrev pub value_in : Held → Value
value_in (held.Lent x) = x.now
value_in (held.Own x) = x

-- the value of each slot, if it has one
abbrev pub Slots : Type 0
Slots = Map nat_eq

abbrev pub at_slot : Option (Option Held) → Option Value
at_slot None = None
at_slot (Some o) = option_map value_in o

unfoldable pub map_of : List (Option Held) → Slots
map_of frame slot = at_slot (slice_get frame slot)

-- the values of a frame, whether lent or owned
abbrev pub held_values : List (Option Held) → List (Option Value)
held_values = map (option_map value_in)

abbrev pub course : End → List (Option Held) → Course Slots
course end.GoesOn f = goes_on (map_of f)
course end.Breaks f = breaks (map_of f)
course end.Continues f = continues (map_of f)
course (end.GivesBack x) f = gives_back x

-- ---- parts of a node

-- what a turn of a comprehension adds, and what all turns do
abbrev pub adds : Expr ℕ → Row → List Value → Value → Slots → Answer (List Value)
adds (comprehension a t i c) r sofar x m = add_turn nat_eq (means nat_eq a r) (holds nat_eq c r) t sofar x m
adds _ r sofar x m = Ok sofar

abbrev pub adds_all : Expr ℕ → Row → List Value → List Value → Slots → Answer (List Value)
adds_all (comprehension a t i c) r sofar xs m = collect nat_eq (means nat_eq a r) (holds nat_eq c r) t sofar xs m
adds_all _ r sofar xs m = Ok sofar

-- what an `if` does whose first arms did not hold
abbrev pub chooses_from : Statement ℕ → Arms ℕ → Row → Slots → Answer (Course Slots)
chooses_from (branch all other) rest r m = chooses nat_eq rest (runs_all nat_eq other r) r m
chooses_from _ rest r m = Ok (goes_on m)

-- a built-in function on the values of its arguments
abbrev pub builtin_of_each : Builtin → Exprs ℕ → Row → Slots → Answer Value
builtin_of_each b es r m = do
  xs ← means_each nat_eq es r m
  builtin_of b xs
