-- How far a place is from the tightest one, as the measure of the reader counts it.
use Rattle.std.proofs.Common.{◌≡◌, ℕ, ◌≤◌, ◌<◌, true, arith}
use Rattle.tx_parse.specs.declared.place.Place.{Place}
use Rattle.tx_parse.specs.declared.place.Place.TheVariants as place
use Rattle.tx_parse.specs.Calls.Reader.{tighter, is_joint, has_operator}

abbrev pub rank : Place → ℕ
rank place.Test = 9
rank place.Or = 8
rank place.And = 7
rank place.Not = 6
rank place.Compare = 5
rank place.Sum = 4
rank place.Term = 3
rank place.Unary = 2
rank place.Postfix = 1

pub rank_most : (p : Place) → rank p ≤ 9
rank_most place.Test = omega arith
rank_most place.Or = omega arith
rank_most place.And = omega arith
rank_most place.Not = omega arith
rank_most place.Compare = omega arith
rank_most place.Sum = omega arith
rank_most place.Term = omega arith
rank_most place.Unary = omega arith
rank_most place.Postfix = omega arith

pub rank_joint : (p : Place) → is_joint p ≡ true → rank (tighter p) < rank p
rank_joint place.Or h = omega arith
rank_joint place.And h = omega arith
rank_joint _ h = cc

pub rank_operator : (p : Place) → has_operator p ≡ true → rank (tighter p) < rank p
rank_operator place.Sum h = omega arith
rank_operator place.Term h = omega arith
rank_operator _ h = cc

pub ruleset ranks = (rank_most, rank_joint, rank_operator)
