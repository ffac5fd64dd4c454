-- The words of the operations.
use Rattle.std.specs.Prelude.{ℕ, List, codes}
use Rattle.op_bench.specs.declared.operation.Operation.{Operation}
use Rattle.op_bench.specs.declared.operation.Operation.TheVariants.{Numbers, NumberPairs, Add, Multiply, FloorDiv, Less, Equal, Texts, TextPairs, Join, In, CharAt, Lists, ItemAt, Split, Replace, Find, Numerals, IntOf, Singles, StrOf}

abbrev pub word_of : Operation → List ℕ
word_of Numbers = codes "numbers"
word_of NumberPairs = codes "number_pairs"
word_of Add = codes "add"
word_of Multiply = codes "multiply"
word_of FloorDiv = codes "floor_div"
word_of Less = codes "less"
word_of Equal = codes "equal"
word_of Texts = codes "texts"
word_of TextPairs = codes "text_pairs"
word_of Join = codes "join"
word_of In = codes "in"
word_of CharAt = codes "char_at"
word_of Lists = codes "lists"
word_of ItemAt = codes "item_at"
word_of Split = codes "split"
word_of Replace = codes "replace"
word_of Find = codes "find"
word_of Numerals = codes "numerals"
word_of IntOf = codes "int"
word_of Singles = codes "singles"
word_of StrOf = codes "str"
