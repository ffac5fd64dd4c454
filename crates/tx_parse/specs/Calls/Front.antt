-- The front of a list of lexemes, as the reader asks for it.
use Rattle.std.specs.Prelude.{ℕ, ℤ, pos, Bool, true, false, List, [], ◌∷◌, Option, Some, None}
use Rattle.tx_tree.specs.declared.operator.BinaryOp.{BinaryOp}
use Rattle.tx_tree.specs.declared.operator.BinaryOp.TheVariants as binary
use Rattle.tx_tree.specs.declared.operator.UnaryOp.{UnaryOp}
use Rattle.tx_tree.specs.declared.operator.UnaryOp.TheVariants as unary
use Rattle.tx_tree.specs.declared.operator.CompareOp.{CompareOp}
use Rattle.tx_tree.specs.declared.operator.CompareOp.TheVariants as compare
use Rattle.tx_tree.specs.declared.symbol.Keyword.{Keyword}
use Rattle.tx_tree.specs.declared.symbol.Keyword.TheVariants as word
use Rattle.tx_tree.specs.declared.symbol.Mark.{Mark}
use Rattle.tx_tree.specs.declared.symbol.Mark.TheVariants as sign
use Rattle.tx_tree.specs.Words.{keyword_word, mark_word, same_text}
use Rattle.tx_tree.specs.Kind as kind
use Rattle.tx_tree.specs.Kind.{Kind}
use Rattle.tx_parse.specs.declared.symbol.Symbol.{Symbol}
use Rattle.tx_parse.specs.declared.symbol.Symbol.TheVariants as symbol
use Rattle.tx_parse.specs.declared.cursor.Assigns.{Assigns}
use Rattle.tx_parse.specs.declared.cursor.Assigns.TheVariants as assigns
use Rattle.tx_tokens.specs.declared.token.TokenKind.{TokenKind}
use Rattle.tx_tokens.specs.declared.token.TokenKind.TheVariants as token
use Rattle.tx_parse.specs.declared.answer.Step.{Step}
use Rattle.tx_parse.specs.declared.answer.Step.TheVariants as steps
use Rattle.tx_parse.specs.Lexemes.{Lexeme}
use Rattle.tx_parse.specs.Faults.{Place, is_outside, mark_step}

-- ---- the first lexeme

-- a kind without what a name or a literal holds
abbrev pub symbol_of : Option Kind → Symbol
symbol_of None = symbol.Unknown
symbol_of (Some (kind.named n)) = symbol.Name
symbol_of (Some (kind.keyword k)) = symbol.Keyword k
symbol_of (Some (kind.number n)) = symbol.Number
symbol_of (Some (kind.quoted t)) = symbol.Quoted
symbol_of (Some (kind.mark m)) = symbol.Mark m
symbol_of (Some kind.newline) = symbol.Newline
symbol_of (Some kind.indent) = symbol.Indent
symbol_of (Some kind.dedent) = symbol.Dedent

abbrev pub symbol_at : List Lexeme → Symbol
symbol_at [] = symbol.End
symbol_at (x ∷ xs) = symbol_of x.kind

-- what a name or a text holds
abbrev pub text_of : Option Kind → List ℕ
text_of (Some (kind.named n)) = n
text_of (Some (kind.quoted t)) = t
text_of _ = []

abbrev pub text_at : List Lexeme → List ℕ
text_at [] = []
text_at (x ∷ xs) = text_of x.kind

-- the characters of a token that has some
abbrev pub content : TokenKind → List ℕ
content (token.Name n) = n
content (token.Text t) = t
content _ = []

abbrev pub number_of : Option Kind → ℤ
number_of (Some (kind.number n)) = n
number_of _ = pos 0

abbrev pub number_at : List Lexeme → ℤ
number_at [] = pos 0
number_at (x ∷ xs) = number_of x.kind

abbrev pub rest_of : {A : Type 0} → List A → List A
rest_of [] = []
rest_of (x ∷ xs) = xs

-- ---- tests

abbrev pub same_symbol : Symbol → Symbol → Bool
same_symbol (symbol.Keyword a) (symbol.Keyword b) = same_text (keyword_word a) (keyword_word b)
same_symbol (symbol.Mark a) (symbol.Mark b) = same_text (mark_word a) (mark_word b)
same_symbol symbol.Name symbol.Name = true
same_symbol symbol.Number symbol.Number = true
same_symbol symbol.Quoted symbol.Quoted = true
same_symbol symbol.Newline symbol.Newline = true
same_symbol symbol.Indent symbol.Indent = true
same_symbol symbol.Dedent symbol.Dedent = true
same_symbol symbol.Unknown symbol.Unknown = true
same_symbol symbol.End symbol.End = true
same_symbol _ _ = false

-- whether the first lexeme is of this symbol
abbrev pub at : Symbol → List Lexeme → Bool
at s ts = same_symbol s (symbol_at ts)

-- ---- operators

abbrev pub mark_binary : Mark → Option BinaryOp
mark_binary sign.Plus = Some binary.Add
mark_binary sign.Minus = Some binary.Sub
mark_binary sign.Star = Some binary.Mul
mark_binary sign.DoubleSlash = Some binary.FloorDiv
mark_binary sign.Percent = Some binary.Mod
mark_binary _ = None

abbrev pub binary_at : Symbol → Option BinaryOp
binary_at (symbol.Mark m) = mark_binary m
binary_at _ = None

abbrev pub mark_unary : Mark → Option UnaryOp
mark_unary sign.Minus = Some unary.Minus
mark_unary sign.Plus = Some unary.Plus
mark_unary _ = None

abbrev pub unary_at : Symbol → Option UnaryOp
unary_at (symbol.Mark m) = mark_unary m
unary_at _ = None

abbrev pub mark_compare : Mark → Option CompareOp
mark_compare sign.Equal = Some compare.Equal
mark_compare sign.NotEqual = Some compare.NotEqual
mark_compare sign.Less = Some compare.Less
mark_compare sign.LessEqual = Some compare.LessEqual
mark_compare sign.Greater = Some compare.Greater
mark_compare sign.GreaterEqual = Some compare.GreaterEqual
mark_compare _ = None

-- `not` with `in` behind it, and `is` with or without `not`
abbrev pub not_in : Bool → Option CompareOp
not_in true = Some compare.NotIn
not_in false = None

abbrev pub is_or_not : Bool → Option CompareOp
is_or_not true = Some compare.IsNot
is_or_not false = Some compare.Is

abbrev pub word_compare : Keyword → List Lexeme → Option CompareOp
word_compare word.In ts = Some compare.In
word_compare word.Not ts = not_in (at (symbol.Keyword word.In) ts)
word_compare word.Is ts = is_or_not (at (symbol.Keyword word.Not) ts)
word_compare _ ts = None

abbrev pub compare_by : Symbol → List Lexeme → Option CompareOp
compare_by (symbol.Mark m) ts = mark_compare m
compare_by (symbol.Keyword k) ts = word_compare k ts
compare_by _ ts = None

-- the operator of a comparison in front
abbrev pub compare_at : List Lexeme → Option CompareOp
compare_at ts = compare_by (symbol_at ts) (rest_of ts)

-- what stands behind it
abbrev pub behind_op : CompareOp → List Lexeme → List Lexeme
behind_op compare.NotIn ts = rest_of (rest_of ts)
behind_op compare.IsNot ts = rest_of (rest_of ts)
behind_op _ ts = rest_of ts

-- ---- the line

-- what a line assigns by, as far as its marks tell
abbrev pub mark_assigns : Mark → Assigns → Assigns
mark_assigns sign.Assign later = assigns.Plain
mark_assigns sign.PlusAssign later = assigns.With binary.Add
mark_assigns sign.MinusAssign later = assigns.With binary.Sub
mark_assigns sign.StarAssign later = assigns.With binary.Mul
mark_assigns sign.DoubleSlashAssign later = assigns.With binary.FloorDiv
mark_assigns sign.PercentAssign later = assigns.With binary.Mod
mark_assigns _ later = later

abbrev pub assigns_by : Symbol → Assigns → Assigns
assigns_by (symbol.Mark m) later = mark_assigns m later
assigns_by symbol.Newline later = assigns.Nothing
assigns_by _ later = later

-- the first mark on the line that assigns
abbrev pub assigns_at : List Lexeme → Assigns
assigns_at [] = assigns.Nothing
assigns_at (x ∷ xs) = assigns_by (symbol_of x.kind) (assigns_at xs)

-- ---- nesting

-- what a lexeme of this symbol opens or closes
abbrev pub symbol_step : Symbol → Step
symbol_step (symbol.Mark m) = mark_step m
symbol_step symbol.Indent = steps.Opens
symbol_step symbol.Dedent = steps.Closes
symbol_step _ = steps.Stays

-- ---- keywords outside the language

abbrev pub word_outside : Keyword → Bool → Option Keyword
word_outside k true = Some k
word_outside k false = None

-- the keyword of a symbol, if it is one outside the language
abbrev pub symbol_outside : Symbol → Option Keyword
symbol_outside (symbol.Keyword k) = word_outside k (is_outside k)
symbol_outside _ = None

-- the place of one that was found, or that of a later one
abbrev pub placed : ℕ → Option Keyword → Option Place → Option Place
placed line (Some k) later = Some (line, keyword_word k)
placed line None later = later
