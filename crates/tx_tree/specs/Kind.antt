-- The kinds of tokens, of which spellings consist.
use Rattle.std.specs.Prelude.{ℕ, ℤ, List}
use Rattle.tx_tree.specs.declared.symbol.Keyword.{Keyword}
use Rattle.tx_tree.specs.declared.symbol.Mark.{Mark}

-- a name or a literal has a content, a keyword or a mark its word
pub data Kind : Type 0 where
  -- a name that is no keyword
  named : List ℕ → Kind
  keyword : Keyword → Kind
  -- an integer by its value, a text by its characters
  number : ℤ → Kind
  quoted : List ℕ → Kind
  mark : Mark → Kind
  -- the end of a line, and the begin and the end of indented lines
  newline : Kind
  indent : Kind
  dedent : Kind
