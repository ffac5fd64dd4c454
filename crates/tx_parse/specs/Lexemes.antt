-- What the grammar sees of tokens: of each its kind, and its line.
use Rattle.std.specs.Prelude.{ℕ, List, [], ◌∷◌, Option, Some, None, map, option_map}
use Rattle.std.specs.List.{find}
use Rattle.tx_tokens.specs.declared.token.Token.{Token}
use Rattle.tx_tokens.specs.declared.token.TokenKind.{TokenKind}
use Rattle.tx_tokens.specs.declared.token.TokenKind.TheVariants as token
use Rattle.tx_tree.specs.declared.symbol.Keyword.{Keyword}
use Rattle.tx_tree.specs.declared.symbol.Mark.{Mark}
use Rattle.tx_tree.specs.declared.symbol.Mark.TheVariants as mark
use Rattle.tx_tree.specs.Words.{keyword_word, keywords, mark_word, same_text}
use Rattle.tx_tree.specs.Kind as kind
use Rattle.tx_tree.specs.Kind.{Kind}

-- A token of a mark holds any characters: one whose characters are no mark of the language has no kind.
pub record Lexeme : Type 0 where
  pub kind : Option Kind
  pub line : ℕ

abbrev pub lexeme : Kind → ℕ → Lexeme
lexeme k l = record { kind = Some k; line = l }

-- the keyword that is written so
abbrev pub keyword_of : List ℕ → Option Keyword
keyword_of n = find (λ k. same_text n (keyword_word k)) keywords

-- the marks, each of them once
abbrev pub marks : List Mark
marks = mark.Open ∷ mark.Close ∷ mark.OpenSquare ∷ mark.CloseSquare ∷ mark.OpenBrace ∷ mark.CloseBrace ∷ mark.Comma ∷ mark.Colon ∷ mark.Dot ∷ mark.Assign ∷ mark.Plus ∷ mark.Minus ∷ mark.Star ∷ mark.DoubleSlash ∷ mark.Percent ∷ mark.PlusAssign ∷ mark.MinusAssign ∷ mark.StarAssign ∷ mark.DoubleSlashAssign ∷ mark.PercentAssign ∷ mark.Equal ∷ mark.NotEqual ∷ mark.Less ∷ mark.LessEqual ∷ mark.Greater ∷ mark.GreaterEqual ∷ []

-- the mark that is written so
abbrev pub mark_of : List ℕ → Option Mark
mark_of n = find (λ m. same_text n (mark_word m)) marks

-- a name, unless it is a keyword
abbrev pub name_kind : List ℕ → Option Keyword → Kind
name_kind n None = kind.named n
name_kind n (Some k) = kind.keyword k

abbrev pub kind_of : TokenKind → Option Kind
kind_of (token.Name n) = Some (name_kind n (keyword_of n))
kind_of (token.Int n) = Some (kind.number n)
kind_of (token.Text t) = Some (kind.quoted t)
kind_of (token.Mark m) = option_map kind.mark (mark_of m)
kind_of token.Newline = Some kind.newline
kind_of token.Indent = Some kind.indent
kind_of token.Dedent = Some kind.dedent

abbrev pub lexeme_of : Token → Lexeme
lexeme_of t = record { kind = kind_of t.kind; line = t.line }

abbrev pub lexemes : List Token → List Lexeme
lexemes = map lexeme_of

-- the kinds alone
abbrev pub kinds : List Lexeme → List (Option Kind)
kinds = map (λ x. x.kind)

-- the line of the first one
abbrev pub line_at : List Lexeme → ℕ
line_at [] = 0
line_at (x ∷ xs) = x.line
