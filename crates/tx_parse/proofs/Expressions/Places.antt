-- Places as numbers, and what may stand behind a tree of a place.
use Rattle.std.proofs.Common.{◌≡◌, ℕ, ◌≤◌, ◌<◌, ◌-◌, true, List, arith}
use Rattle.std.proofs.lemmas.Bool.{leb-true, le-leb}
use Rattle.tx_tree.specs.declared.symbol.Keyword.{Keyword}
use Rattle.tx_tree.specs.declared.symbol.Keyword.TheVariants as word
use Rattle.tx_tree.specs.declared.symbol.Mark.{Mark}
use Rattle.tx_tree.specs.declared.symbol.Mark.TheVariants as sign
use Rattle.tx_tree.specs.Tree.{Tree}
use Rattle.tx_tree.specs.Form.{level, fits, at_test, at_or, at_and, at_not, at_compare, at_sum, at_term, at_unary, at_postfix}
use Rattle.tx_parse.specs.declared.symbol.Symbol.{Symbol}
use Rattle.tx_parse.specs.declared.symbol.Symbol.TheVariants as symbol
use Rattle.tx_parse.specs.declared.place.Place.{Place}
use Rattle.tx_parse.specs.declared.place.Place.TheVariants as place
use Rattle.tx_parse.specs.Lexemes.{Lexeme}
use Rattle.tx_parse.specs.Calls.Front.{symbol_at}

-- the production that a place names
abbrev pub number : Place → ℕ
number place.Test = at_test
number place.Or = at_or
number place.And = at_and
number place.Not = at_not
number place.Compare = at_compare
number place.Sum = at_sum
number place.Term = at_term
number place.Unary = at_unary
number place.Postfix = at_postfix

-- the tightest production that a symbol goes on with behind a tree, and 0 where it goes on with none
abbrev pub mark_continues : Mark → ℕ
mark_continues sign.Dot = at_postfix
mark_continues sign.OpenSquare = at_postfix
mark_continues sign.Open = at_postfix
mark_continues sign.Star = at_term
mark_continues sign.DoubleSlash = at_term
mark_continues sign.Percent = at_term
mark_continues sign.Plus = at_sum
mark_continues sign.Minus = at_sum
mark_continues sign.Equal = at_compare
mark_continues sign.NotEqual = at_compare
mark_continues sign.Less = at_compare
mark_continues sign.LessEqual = at_compare
mark_continues sign.Greater = at_compare
mark_continues sign.GreaterEqual = at_compare
mark_continues _ = 0

abbrev pub word_continues : Keyword → ℕ
word_continues word.In = at_compare
word_continues word.Not = at_compare
word_continues word.Is = at_compare
word_continues word.And = at_and
word_continues word.Or = at_or
word_continues word.If = at_test
word_continues _ = 0

abbrev pub continues : Symbol → ℕ
continues (symbol.Mark m) = mark_continues m
continues (symbol.Keyword k) = word_continues k
continues _ = 0

-- nothing behind a tree of this place goes on with it
abbrev pub Stops : Place → List Lexeme → Type 0
Stops p ts = continues (symbol_at ts) < number p

pub fits_looser : (p q : ℕ) (t : Tree) → fits p t ≡ true → q ≤ p → fits q t ≡ true
fits_looser p q t h l = le-leb q (level t) (omega (arith, leb-true p (level t) h))
