-- The bytes of a report: a header line, and a line for each exception that was reported.
use Rattle.std.specs.Prelude.{ℕ, ◌-◌, ◌++◌, List, [], ◌∷◌, Option, None, Some, codes, decimal, encode_utf8_all, slice_get}
use Rattle.std.specs.List.{flat_map}
use Rattle.tx_base.specs.Class as class
use Rattle.tx_values.specs.declared.row.Mark.{Mark}
use Rattle.tx_report.specs.declared.report.Entry.{Entry}

abbrev pub comma : List ℕ
comma = codes ","

abbrev pub line_feed : List ℕ
line_feed = codes "\n"

abbrev pub head : List ℕ
head = codes "operator,kind,class,row\n"

-- record 3 of operator 1 is `1:3`
abbrev pub mark_text : Mark → List ℕ
mark_text mark = decimal mark.operator ++ (codes ":" ++ decimal mark.number)

-- a further mark stands behind a `+`
abbrev pub further_text : List Mark → List ℕ
further_text marks = flat_map (λ mark. codes "+" ++ mark_text mark) marks

-- a joined row has the marks of the left row and then those of the right one
abbrev pub origin_text : List Mark → List ℕ
origin_text [] = []
origin_text (mark ∷ marks) = mark_text mark ++ further_text marks

-- a word in UTF-8
abbrev pub word_text : Option (List ℕ) → List ℕ
word_text None = []
word_text (Some word) = encode_utf8_all word

-- the word of an operator by its number, which counts from 1
abbrev pub kind_of : List (List ℕ) → ℕ → List ℕ
kind_of kinds operator = word_text (slice_get kinds (operator - 1))

-- the operator's number and word, the class, and the row
abbrev pub line_of : List (List ℕ) → Entry → List ℕ
line_of kinds entry =
    decimal entry.operator ++ (comma ++ (kind_of kinds entry.operator ++ (comma
    ++ (class.name_of entry.class ++ (comma ++ (origin_text entry.origin ++ line_feed))))))

-- the lines follow the order of the entries
abbrev pub report_text : List (List ℕ) → List Entry → List ℕ
report_text kinds entries = head ++ flat_map (line_of kinds) entries
