-- The words of the methods.
use Rattle.std.specs.Prelude.{ℕ, List, codes}
use Rattle.text_bench.specs.declared.method.Method.{Method}
use Rattle.text_bench.specs.declared.method.Method.TheVariants.{Nothing, Len, CharAt, Slice, Equal, Less, Find, Rfind, Count, Replace, SplitOn, SplitBlank, Strip, StripOf, Lower, Upper, IsDigit, Concat, Repeat, Join, Zfill}

abbrev pub word_of : Method → List ℕ
word_of Nothing = codes "none"
word_of Len = codes "len"
word_of CharAt = codes "char_at"
word_of Slice = codes "slice"
word_of Equal = codes "equal"
word_of Less = codes "less"
word_of Find = codes "find"
word_of Rfind = codes "rfind"
word_of Count = codes "count"
word_of Replace = codes "replace"
word_of SplitOn = codes "split_on"
word_of SplitBlank = codes "split_blank"
word_of Strip = codes "strip"
word_of StripOf = codes "strip_of"
word_of Lower = codes "lower"
word_of Upper = codes "upper"
word_of IsDigit = codes "is_digit"
word_of Concat = codes "concat"
word_of Repeat = codes "repeat"
word_of Join = codes "join"
word_of Zfill = codes "zfill"
