-- The words are ASCII, so a text is such a word exactly where its UTF-8 is.
use Rattle.std.proofs.Common.{◌≡◌, ◌↔◌, ℕ, Bool, true, List, refl, sym, ap, ◌∙◌, nat_lt}
use Rattle.std.specs.Str.{IsUtf8, IsAscii, chars}
use Rattle.std.specs.List.{list_all}
use Rattle.std.proofs.lemmas.Str.{chars-IsAscii, encodes-IsAscii, encodes-chars}
use Rattle.std.proofs.lemmas.Str.Ascii.{IsAscii-from_all}
use Rattle.std.proofs.lemmas.List.Sums.{AllPass-from_list_all}
use Rattle.std.proofs.lemmas.Bool.{ltb-true}
use lib.Utf8.{encodes}
use Rattle.tx_tree.specs.declared.symbol.Keyword.{Keyword}
use Rattle.tx_tree.specs.declared.symbol.Keyword.TheVariants as keyword
use Rattle.tx_tree.specs.declared.symbol.Mark.{Mark}
use Rattle.tx_tree.specs.declared.symbol.Mark.TheVariants as mark
use Rattle.tx_tree.specs.declared.function.Method.{Method}
use Rattle.tx_tree.specs.declared.function.Method.TheVariants as method
use Rattle.tx_tree.specs.declared.function.Builtin.{Builtin}
use Rattle.tx_tree.specs.declared.function.Builtin.TheVariants as builtin
use Rattle.tx_tree.specs.declared.function.Walk.{Walk}
use Rattle.tx_tree.specs.declared.function.Walk.TheVariants as walk
use Rattle.tx_tree.specs.Words.{keyword_word, mark_word, method_word, builtin_word, walk_word}

abbrev is_ascii : List ℕ → Bool
is_ascii = list_all (λ c. nat_lt c 128)

ascii : (w : List ℕ) → is_ascii w ≡ true → IsAscii w
ascii w e = IsAscii-from_all w (λ k d l. ltb-true _ 128 (AllPass-from_list_all (λ c. nat_lt c 128) w e k d l))

same_chars : (bs w : List ℕ) → IsUtf8 bs → is_ascii w ≡ true → (bs ≡ w) ↔ (chars bs ≡ w)
same_chars bs w u a = (λ e. ap chars e ∙ chars-IsAscii w (ascii w a), λ e. sym (encodes-chars bs u) ∙ (ap encodes e ∙ encodes-IsAscii w (ascii w a)))

-- what holds exactly of the bytes of a word holds exactly of its characters
pub by_chars : {P : Type 0} (bs w : List ℕ) → IsUtf8 bs → is_ascii w ≡ true → P ↔ (bs ≡ w) → P ↔ (chars bs ≡ w)
by_chars bs w u a p = (λ e. (same_chars bs w u a).0 (p.0 e), λ e. p.1 ((same_chars bs w u a).1 e))

pub keyword_ascii : (x : Keyword) → is_ascii (keyword_word x) ≡ true
keyword_ascii keyword.False = refl
keyword_ascii keyword.None = refl
keyword_ascii keyword.True = refl
keyword_ascii keyword.And = refl
keyword_ascii keyword.As = refl
keyword_ascii keyword.Assert = refl
keyword_ascii keyword.Async = refl
keyword_ascii keyword.Await = refl
keyword_ascii keyword.Break = refl
keyword_ascii keyword.Class = refl
keyword_ascii keyword.Continue = refl
keyword_ascii keyword.Def = refl
keyword_ascii keyword.Del = refl
keyword_ascii keyword.Elif = refl
keyword_ascii keyword.Else = refl
keyword_ascii keyword.Except = refl
keyword_ascii keyword.Finally = refl
keyword_ascii keyword.For = refl
keyword_ascii keyword.From = refl
keyword_ascii keyword.Global = refl
keyword_ascii keyword.If = refl
keyword_ascii keyword.Import = refl
keyword_ascii keyword.In = refl
keyword_ascii keyword.Is = refl
keyword_ascii keyword.Lambda = refl
keyword_ascii keyword.Nonlocal = refl
keyword_ascii keyword.Not = refl
keyword_ascii keyword.Or = refl
keyword_ascii keyword.Pass = refl
keyword_ascii keyword.Raise = refl
keyword_ascii keyword.Return = refl
keyword_ascii keyword.Try = refl
keyword_ascii keyword.While = refl
keyword_ascii keyword.With = refl
keyword_ascii keyword.Yield = refl

pub mark_ascii : (x : Mark) → is_ascii (mark_word x) ≡ true
mark_ascii mark.Open = refl
mark_ascii mark.Close = refl
mark_ascii mark.OpenSquare = refl
mark_ascii mark.CloseSquare = refl
mark_ascii mark.OpenBrace = refl
mark_ascii mark.CloseBrace = refl
mark_ascii mark.Comma = refl
mark_ascii mark.Colon = refl
mark_ascii mark.Dot = refl
mark_ascii mark.Assign = refl
mark_ascii mark.Plus = refl
mark_ascii mark.Minus = refl
mark_ascii mark.Star = refl
mark_ascii mark.DoubleSlash = refl
mark_ascii mark.Percent = refl
mark_ascii mark.PlusAssign = refl
mark_ascii mark.MinusAssign = refl
mark_ascii mark.StarAssign = refl
mark_ascii mark.DoubleSlashAssign = refl
mark_ascii mark.PercentAssign = refl
mark_ascii mark.Equal = refl
mark_ascii mark.NotEqual = refl
mark_ascii mark.Less = refl
mark_ascii mark.LessEqual = refl
mark_ascii mark.Greater = refl
mark_ascii mark.GreaterEqual = refl

pub method_ascii : (x : Method) → is_ascii (method_word x) ≡ true
method_ascii method.Lower = refl
method_ascii method.Upper = refl
method_ascii method.Strip = refl
method_ascii method.Lstrip = refl
method_ascii method.Rstrip = refl
method_ascii method.Split = refl
method_ascii method.Replace = refl
method_ascii method.Find = refl
method_ascii method.Rfind = refl
method_ascii method.Index = refl
method_ascii method.Count = refl
method_ascii method.StartsWith = refl
method_ascii method.EndsWith = refl
method_ascii method.Join = refl
method_ascii method.Zfill = refl
method_ascii method.IsDigit = refl
method_ascii method.Get = refl

pub builtin_ascii : (x : Builtin) → is_ascii (builtin_word x) ≡ true
builtin_ascii builtin.Len = refl
builtin_ascii builtin.Int = refl
builtin_ascii builtin.Str = refl
builtin_ascii builtin.Bool = refl
builtin_ascii builtin.Abs = refl
builtin_ascii builtin.Min = refl
builtin_ascii builtin.Max = refl
builtin_ascii builtin.Sum = refl
builtin_ascii builtin.Any = refl
builtin_ascii builtin.All = refl
builtin_ascii builtin.Ord = refl
builtin_ascii builtin.List = refl
builtin_ascii builtin.Tuple = refl

pub walk_ascii : (x : Walk) → is_ascii (walk_word x) ≡ true
walk_ascii walk.Range = refl
walk_ascii walk.Enumerate = refl
walk_ascii walk.Zip = refl
walk_ascii walk.Items = refl
walk_ascii walk.Keys = refl
walk_ascii walk.Values = refl
