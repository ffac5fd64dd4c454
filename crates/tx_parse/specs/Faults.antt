-- Why lexemes are no block.
use Rattle.std.specs.Prelude.{ℕ, ◌≡◌, ◌+◌, ◌-◌, Bool, true, false, ◌||◌, nat_lt, List, [], ◌∷◌, Option, Some, None, ⊤}
use Rattle.tx_tree.specs.declared.symbol.Keyword.{Keyword}
use Rattle.tx_tree.specs.declared.symbol.Keyword.TheVariants as word
use Rattle.tx_tree.specs.declared.symbol.Mark.{Mark}
use Rattle.tx_tree.specs.declared.symbol.Mark.TheVariants as sign
use Rattle.tx_tree.specs.Words.{keyword_word}
use Rattle.tx_tree.specs.Kind.{Kind, keyword, mark, indent, dedent}
use Rattle.tx_parse.specs.declared.answer.BlockError.{BlockError}
use Rattle.tx_parse.specs.declared.answer.BlockError.TheVariants as error
use Rattle.tx_parse.specs.declared.answer.Step.{Step}
use Rattle.tx_parse.specs.declared.answer.Step.TheVariants as steps
use Rattle.tx_parse.specs.Lexemes.{Lexeme, line_at}
use Rattle.tx_parse.specs.Block.{NoBlock, most_levels}

-- ---- keywords outside the language

abbrev pub is_outside : Keyword → Bool
is_outside word.As = true
is_outside word.Assert = true
is_outside word.Async = true
is_outside word.Await = true
is_outside word.Class = true
is_outside word.Del = true
is_outside word.Except = true
is_outside word.Finally = true
is_outside word.From = true
is_outside word.Global = true
is_outside word.Import = true
is_outside word.Nonlocal = true
is_outside word.Raise = true
is_outside word.Try = true
is_outside word.While = true
is_outside word.With = true
is_outside word.Yield = true
is_outside _ = false

-- a line, and the characters of a keyword on it
abbrev pub Place : Type 0
Place = ℕ × List ℕ

abbrev pub outside_or : Bool → Keyword → ℕ → Option Place → Option Place
outside_or true k line later = Some (line, keyword_word k)
outside_or false k line later = later

abbrev pub kind_outside_or : Option Kind → ℕ → Option Place → Option Place
kind_outside_or (Some (keyword k)) line later = outside_or (is_outside k) k line later
kind_outside_or _ line later = later

-- the first of them
abbrev pub first_outside : List Lexeme → Option Place
first_outside [] = None
first_outside (t ∷ ts) = kind_outside_or t.kind t.line (first_outside ts)

-- ---- nesting

-- what a lexeme opens or closes
abbrev pub mark_step : Mark → Step
mark_step sign.Open = steps.Opens
mark_step sign.OpenSquare = steps.Opens
mark_step sign.OpenBrace = steps.Opens
mark_step sign.Close = steps.Closes
mark_step sign.CloseSquare = steps.Closes
mark_step sign.CloseBrace = steps.Closes
mark_step _ = steps.Stays

abbrev pub step_of : Option Kind → Step
step_of (Some (mark m)) = mark_step m
step_of (Some indent) = steps.Opens
step_of (Some dedent) = steps.Closes
step_of _ = steps.Stays

-- in how many brackets and indents a lexeme stands, where so many are open before it: not in the pair that it makes
abbrev pub around : Step → ℕ → ℕ
around steps.Closes count = count - 1
around _ count = count

-- how many are open behind it
abbrev pub behind : Step → ℕ → ℕ
behind steps.Opens count = count + 1
behind steps.Closes count = count - 1
behind steps.Stays count = count

-- whether a lexeme stands in more than the most, where so many are open before the first
abbrev pub stands_deep : ℕ → List Lexeme → Bool
stands_deep count [] = false
stands_deep count (t ∷ ts) = nat_lt most_levels (around (step_of t.kind) count) || stands_deep (behind (step_of t.kind) count) ts

-- ---- the faults of a block

-- no keyword outside the language, no tree, and a fault at the first lexeme's line
pub record NoTree (ts : List Lexeme) (line : ℕ) (deep : Bool) : Type 0 where
  pub words : first_outside ts ≡ None
  pub no_block : NoBlock ts
  pub start : line ≡ line_at ts
  pub nesting : stands_deep 0 ts ≡ deep

-- when each answer other than a tree is given; want of memory alone has no cause here
abbrev pub Cause : BlockError → List Lexeme → Type 0
Cause (error.Outside line word) ts = first_outside ts ≡ Some (line, word)
Cause (error.TooDeep line) ts = NoTree ts line true
Cause (error.NotABlock line) ts = NoTree ts line false
Cause error.NoMemory ts = ⊤
