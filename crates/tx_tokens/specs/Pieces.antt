-- The pieces of a line (Python Language Reference, "Lexical analysis", within this language). A piece's first character
-- says of which kind it is, and it is the longest of its kind that stands there.
use Rattle.std.specs.Prelude.{ℕ, zero, suc, ◌+◌, ◌-◌, ◌==◌, ◌&&◌, ◌||◌, Bool, true, false, not, List, [], ◌∷◌, Option, Some, None, if◌then◌else◌, length, take, drop, filter, find, codes, pos, option_and_then}
use Rattle.std.specs.List.{prefix_len}
use Rattle.std.specs.Str.Parse.{digits_value}
use Rattle.tx_text.specs.Text.{begins, is_ascii_digit, is_between}
use Rattle.tx_base.specs.Width.{is_128_bit}
use Rattle.tx_tokens.specs.Lines.{line_feed, carriage_return}
use Rattle.tx_tokens.specs.declared.piece.Piece.{Piece}
use Rattle.tx_tokens.specs.declared.piece.Piece.TheVariants.{Passed, Written, Bad, TooWide}
use Rattle.tx_tokens.specs.declared.token.TokenKind.TheVariants.{Name, Int, Text, Mark}

-- ---- characters

abbrev pub tab : ℕ
tab = 9

abbrev pub space : ℕ
space = 32

abbrev pub hash : ℕ
hash = 35

abbrev pub dot : ℕ
dot = 46

abbrev pub digit_zero : ℕ
digit_zero = 48

abbrev pub digit_nine : ℕ
digit_nine = 57

abbrev pub double_quote : ℕ
double_quote = 34

abbrev pub single_quote : ℕ
single_quote = 39

abbrev pub backslash : ℕ
backslash = 92

abbrev pub underscore : ℕ
underscore = 95

abbrev pub is_blank : ℕ → Bool
is_blank c = (c == space) || (c == tab)

abbrev pub is_quote : ℕ → Bool
is_quote c = (c == single_quote) || (c == double_quote)

-- A to Z, a to z, and the underscore
abbrev pub is_letter : ℕ → Bool
is_letter c = is_between 65 90 c || (is_between 97 122 c || (c == underscore))

abbrev pub is_word_char : ℕ → Bool
is_word_char c = is_letter c || is_ascii_digit c

-- the longest front of a text whose characters pass a test
abbrev pub run : (ℕ → Bool) → List ℕ → List ℕ
run p text = take (prefix_len p text) text

-- ---- pieces

-- a piece (blanks or a comment, a token, no token of the language, or an integer past 128 bits), and of how many
-- characters
pub record Cut : Type 0 where
  pub piece : Piece
  pub size : ℕ

abbrev pub cut : Piece → ℕ → Cut
cut piece size = record { piece = piece; size = size }

-- ---- integers ("Integer literals")

-- the digits from 0 to one
abbrev pub is_digit_to : ℕ → ℕ → Bool
is_digit_to last c = is_between digit_zero last c

-- the rest of an integer: digits from 0 to one, and before each there may be one underscore
abbrev pub are_grouped : ℕ → List ℕ → Bool
are_grouped last [] = true
are_grouped last (c ∷ []) = is_digit_to last c
are_grouped last (c ∷ d ∷ text) =
    if c == underscore then is_digit_to last d && are_grouped last text
    else is_digit_to last c && are_grouped last (d ∷ text)

-- zeros alone, or digits that begin with another one
abbrev pub is_integer : List ℕ → Bool
is_integer [] = false
is_integer (c ∷ text) =
    if c == digit_zero then are_grouped digit_zero text
    else is_ascii_digit c && are_grouped digit_nine text

abbrev pub value_of : List ℕ → ℕ
value_of text = digits_value 10 (filter is_ascii_digit text)

abbrev pub starts_with_dot : List ℕ → Bool
starts_with_dot [] = false
starts_with_dot (c ∷ text) = c == dot

-- digits, letters and underscores, and what follows them
abbrev pub integer_piece : List ℕ → List ℕ → Piece
integer_piece digits behind =
    if not (is_integer digits) || starts_with_dot behind then Bad
    else if is_128_bit (pos (value_of digits)) then Written (Int (pos (value_of digits)))
    else TooWide

-- ---- texts ("String and Bytes literals")

-- what a backslash and a character stand for
abbrev pub escaped : ℕ → Option ℕ
escaped c =
    if (c == backslash) || is_quote c then Some c
    else if c == 110 then Some line_feed
    else if c == 116 then Some tab
    else if c == 114 then Some carriage_return
    else None

infixl 10 ◌>>=◌
abbrev pub ◌>>=◌ : {A B : Type 0} → Option A → (A → Option B) → Option B
o >>= f = option_and_then f o

-- a character of a text, written by so many, in front of what follows it
abbrev pub in_front : ℕ → Option ℕ → Option (List ℕ × ℕ) → Option (List ℕ × ℕ)
in_front size item behind = do
  c ← item
  rest ← behind
  Some (c ∷ rest.0, size + rest.1)

-- behind an opening quote: the characters to the next such quote, and how many characters write them, the quote
-- counted; none where the line ends before it, or at a backslash that stands for nothing
abbrev pub quoted : ℕ → List ℕ → Option (List ℕ × ℕ)
quoted quote [] = None
quoted quote (c ∷ []) = if c == quote then Some ([], 1) else None
quoted quote (c ∷ d ∷ text) =
    if c == quote then Some ([], 1)
    else if c == backslash then in_front 2 (escaped d) (quoted quote text)
    else in_front 1 (Some c) (quoted quote (d ∷ text))

abbrev pub text_cut : Option (List ℕ × ℕ) → Cut
text_cut None = cut Bad 1
text_cut (Some (value, size)) = cut (Written (Text value)) (1 + size)

-- ---- marks ("Operators", "Delimiters"), the longest first

abbrev pub marks : List (List ℕ)
marks =
    codes "//=" ∷ codes "//" ∷ codes "==" ∷ codes "!=" ∷ codes "<=" ∷ codes ">=" ∷ codes "+=" ∷ codes "-=" ∷ codes "*="
    ∷ codes "%=" ∷ codes "+" ∷ codes "-" ∷ codes "*" ∷ codes "%" ∷ codes "<" ∷ codes ">" ∷ codes "=" ∷ codes "("
    ∷ codes ")" ∷ codes "[" ∷ codes "]" ∷ codes "{" ∷ codes "}" ∷ codes "," ∷ codes ":" ∷ codes "." ∷ []

abbrev pub mark_cut : Option (List ℕ) → Cut
mark_cut None = cut Bad 1
mark_cut (Some mark) = cut (Written (Mark mark)) (length mark)

-- ---- the cutting

-- the piece in front, by its first character; a comment goes to the end of the line
abbrev pub first_cut : ℕ → List ℕ → Cut
first_cut c text =
    if is_blank c then cut Passed (prefix_len is_blank (c ∷ text))
    else if c == hash then cut Passed (length (c ∷ text))
    else if is_letter c then cut (Written (Name (run is_word_char (c ∷ text)))) (prefix_len is_word_char (c ∷ text))
    else if is_ascii_digit c then
    cut (integer_piece (run is_word_char (c ∷ text)) (drop (prefix_len is_word_char (c ∷ text)) (c ∷ text))) (prefix_len is_word_char (c ∷ text))
    else if is_quote c then text_cut (quoted c text)
    else mark_cut (find (λ mark. begins mark (c ∷ text)) marks)

-- the same where the next `skip` characters belong to a piece
abbrev pub cuts_behind : ℕ → List ℕ → List Cut
cuts_behind skip [] = []
cuts_behind (suc skip) (c ∷ text) = cuts_behind skip text
cuts_behind zero (c ∷ text) = first_cut c text ∷ cuts_behind ((first_cut c text).size - 1) text

-- the pieces of a line, one behind another
abbrev pub cuts : List ℕ → List Cut
cuts content = cuts_behind 0 content

-- blanks or a comment
abbrev pub is_passed_piece : Piece → Bool
is_passed_piece Passed = true
is_passed_piece _ = false

abbrev pub is_passed : Cut → Bool
is_passed c = is_passed_piece c.piece
