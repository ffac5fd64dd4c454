-- The words of keywords, marks, operators, methods, built-in functions and walks.
use Rattle.std.specs.Prelude.{ℕ, nat_eq, Bool, List, [], ◌∷◌, codes}
use Rattle.std.specs.List.{list_any}
use Rattle.std.specs.Cmp.Lexicographic.{pointwise}
use Rattle.tx_tree.specs.declared.symbol.Keyword.{Keyword}
use Rattle.tx_tree.specs.declared.symbol.Keyword.TheVariants as keyword
use Rattle.tx_tree.specs.declared.symbol.Mark.{Mark}
use Rattle.tx_tree.specs.declared.symbol.Mark.TheVariants as mark
use Rattle.tx_tree.specs.declared.operator.BinaryOp.{BinaryOp}
use Rattle.tx_tree.specs.declared.operator.BinaryOp.TheVariants as binary
use Rattle.tx_tree.specs.declared.operator.UnaryOp.{UnaryOp}
use Rattle.tx_tree.specs.declared.operator.UnaryOp.TheVariants as unary
use Rattle.tx_tree.specs.declared.operator.CompareOp.{CompareOp}
use Rattle.tx_tree.specs.declared.operator.CompareOp.TheVariants as compare
use Rattle.tx_tree.specs.declared.function.Method.{Method}
use Rattle.tx_tree.specs.declared.function.Method.TheVariants as method
use Rattle.tx_tree.specs.declared.function.Builtin.{Builtin}
use Rattle.tx_tree.specs.declared.function.Builtin.TheVariants as builtin
use Rattle.tx_tree.specs.declared.function.Walk.{Walk}
use Rattle.tx_tree.specs.declared.function.Walk.TheVariants as walk

-- the keywords (Python Language Reference, "Keywords")
abbrev pub keyword_word : Keyword → List ℕ
keyword_word keyword.False = codes "False"
keyword_word keyword.None = codes "None"
keyword_word keyword.True = codes "True"
keyword_word keyword.And = codes "and"
keyword_word keyword.As = codes "as"
keyword_word keyword.Assert = codes "assert"
keyword_word keyword.Async = codes "async"
keyword_word keyword.Await = codes "await"
keyword_word keyword.Break = codes "break"
keyword_word keyword.Class = codes "class"
keyword_word keyword.Continue = codes "continue"
keyword_word keyword.Def = codes "def"
keyword_word keyword.Del = codes "del"
keyword_word keyword.Elif = codes "elif"
keyword_word keyword.Else = codes "else"
keyword_word keyword.Except = codes "except"
keyword_word keyword.Finally = codes "finally"
keyword_word keyword.For = codes "for"
keyword_word keyword.From = codes "from"
keyword_word keyword.Global = codes "global"
keyword_word keyword.If = codes "if"
keyword_word keyword.Import = codes "import"
keyword_word keyword.In = codes "in"
keyword_word keyword.Is = codes "is"
keyword_word keyword.Lambda = codes "lambda"
keyword_word keyword.Nonlocal = codes "nonlocal"
keyword_word keyword.Not = codes "not"
keyword_word keyword.Or = codes "or"
keyword_word keyword.Pass = codes "pass"
keyword_word keyword.Raise = codes "raise"
keyword_word keyword.Return = codes "return"
keyword_word keyword.Try = codes "try"
keyword_word keyword.While = codes "while"
keyword_word keyword.With = codes "with"
keyword_word keyword.Yield = codes "yield"

-- each of them once
abbrev pub keywords : List Keyword
keywords = keyword.False ∷ keyword.None ∷ keyword.True ∷ keyword.And ∷ keyword.As ∷ keyword.Assert ∷ keyword.Async ∷ keyword.Await ∷ keyword.Break ∷ keyword.Class ∷ keyword.Continue ∷ keyword.Def ∷ keyword.Del ∷ keyword.Elif ∷ keyword.Else ∷ keyword.Except ∷ keyword.Finally ∷ keyword.For ∷ keyword.From ∷ keyword.Global ∷ keyword.If ∷ keyword.Import ∷ keyword.In ∷ keyword.Is ∷ keyword.Lambda ∷ keyword.Nonlocal ∷ keyword.Not ∷ keyword.Or ∷ keyword.Pass ∷ keyword.Raise ∷ keyword.Return ∷ keyword.Try ∷ keyword.While ∷ keyword.With ∷ keyword.Yield ∷ []

abbrev pub same_text : List ℕ → List ℕ → Bool
same_text = pointwise nat_eq

abbrev pub is_keyword : List ℕ → Bool
is_keyword n = list_any (λ k. same_text n (keyword_word k)) keywords

-- the marks ("Operators" and "Delimiters", those of the profile)
abbrev pub mark_word : Mark → List ℕ
mark_word mark.Open = codes "("
mark_word mark.Close = codes ")"
mark_word mark.OpenSquare = codes "["
mark_word mark.CloseSquare = codes "]"
mark_word mark.OpenBrace = codes "{"
mark_word mark.CloseBrace = codes "}"
mark_word mark.Comma = codes ","
mark_word mark.Colon = codes ":"
mark_word mark.Dot = codes "."
mark_word mark.Assign = codes "="
mark_word mark.Plus = codes "+"
mark_word mark.Minus = codes "-"
mark_word mark.Star = codes "*"
mark_word mark.DoubleSlash = codes "//"
mark_word mark.Percent = codes "%"
mark_word mark.PlusAssign = codes "+="
mark_word mark.MinusAssign = codes "-="
mark_word mark.StarAssign = codes "*="
mark_word mark.DoubleSlashAssign = codes "//="
mark_word mark.PercentAssign = codes "%="
mark_word mark.Equal = codes "=="
mark_word mark.NotEqual = codes "!="
mark_word mark.Less = codes "<"
mark_word mark.LessEqual = codes "<="
mark_word mark.Greater = codes ">"
mark_word mark.GreaterEqual = codes ">="

-- ---- operators

-- the mark of an operator of a sum or of a term
abbrev pub binary_mark : BinaryOp → Mark
binary_mark binary.Add = mark.Plus
binary_mark binary.Sub = mark.Minus
binary_mark binary.Mul = mark.Star
binary_mark binary.FloorDiv = mark.DoubleSlash
binary_mark binary.Mod = mark.Percent

-- and of an augmented assignment with it
abbrev pub augment_mark : BinaryOp → Mark
augment_mark binary.Add = mark.PlusAssign
augment_mark binary.Sub = mark.MinusAssign
augment_mark binary.Mul = mark.StarAssign
augment_mark binary.FloorDiv = mark.DoubleSlashAssign
augment_mark binary.Mod = mark.PercentAssign

abbrev pub unary_mark : UnaryOp → Mark
unary_mark unary.Minus = mark.Minus
unary_mark unary.Plus = mark.Plus

abbrev pub binary_word : BinaryOp → List ℕ
binary_word op = mark_word (binary_mark op)

abbrev pub unary_word : UnaryOp → List ℕ
unary_word op = mark_word (unary_mark op)

abbrev pub compare_word : CompareOp → List ℕ
compare_word compare.Equal = codes "=="
compare_word compare.NotEqual = codes "!="
compare_word compare.Less = codes "<"
compare_word compare.LessEqual = codes "<="
compare_word compare.Greater = codes ">"
compare_word compare.GreaterEqual = codes ">="
compare_word compare.In = codes "in"
compare_word compare.NotIn = codes "not in"
compare_word compare.Is = codes "is"
compare_word compare.IsNot = codes "is not"

-- ---- methods, built-in functions and walks (Python Standard Library, "Built-in Types" and "Built-in Functions")

abbrev pub method_word : Method → List ℕ
method_word method.Lower = codes "lower"
method_word method.Upper = codes "upper"
method_word method.Strip = codes "strip"
method_word method.Lstrip = codes "lstrip"
method_word method.Rstrip = codes "rstrip"
method_word method.Split = codes "split"
method_word method.Replace = codes "replace"
method_word method.Find = codes "find"
method_word method.Rfind = codes "rfind"
method_word method.Index = codes "index"
method_word method.Count = codes "count"
method_word method.StartsWith = codes "startswith"
method_word method.EndsWith = codes "endswith"
method_word method.Join = codes "join"
method_word method.Zfill = codes "zfill"
method_word method.IsDigit = codes "isdigit"
method_word method.Get = codes "get"

abbrev pub builtin_word : Builtin → List ℕ
builtin_word builtin.Len = codes "len"
builtin_word builtin.Int = codes "int"
builtin_word builtin.Str = codes "str"
builtin_word builtin.Bool = codes "bool"
builtin_word builtin.Abs = codes "abs"
builtin_word builtin.Min = codes "min"
builtin_word builtin.Max = codes "max"
builtin_word builtin.Sum = codes "sum"
builtin_word builtin.Any = codes "any"
builtin_word builtin.All = codes "all"
builtin_word builtin.Ord = codes "ord"
builtin_word builtin.List = codes "list"
builtin_word builtin.Tuple = codes "tuple"

abbrev pub walk_word : Walk → List ℕ
walk_word walk.Range = codes "range"
walk_word walk.Enumerate = codes "enumerate"
walk_word walk.Zip = codes "zip"
walk_word walk.Items = codes "items"
walk_word walk.Keys = codes "keys"
walk_word walk.Values = codes "values"
