-- Texts from the front, as the functions that walk over them see them.
use Rattle.std.specs.Prelude.{◌≡◌, ℕ, ◌+◌, ◌^◌, ◌==◌, ◌&&◌, ◌||◌, Bool, true, false, List, [], ◌∷◌, ◌++◌, Option, if◌then◌else◌, drop, min, option_map}
use Rattle.tx_tokens.specs.Lines.{Line, longer_line}
use Rattle.tx_tokens.specs.Pieces.{Cut, cut, hash, is_digit_to, underscore}
use Rattle.tx_tokens.specs.declared.piece.Piece.{Piece}

-- a line that stands before its line feed
abbrev pub fed : List ℕ → Line
fed [] = record { content = []; ending = 1 }
fed (c ∷ text) = longer_line c (fed text)

-- the piece in front of a text, and what follows it
pub record IsCut (c : Cut) (text : List ℕ) (piece : Piece) (size : ℕ) (rest : List ℕ) : Type 0 where
  pub same : c ≡ cut piece size
  pub behind : rest ≡ drop size text

-- digits up to one with single underscores between them; the flag says that an underscore stands right before
abbrev pub goes_on : ℕ → Bool → List ℕ → Bool
goes_on last open_end [] = if open_end then false else true
goes_on last open_end (c ∷ text) =
    if is_digit_to last c then goes_on last false text
    else (c == underscore) && (if open_end then false else goes_on last true text)

-- a number, or 2^127 where it is greater
abbrev pub capped : ℕ → ℕ
capped n = min n (2 ^ 127)

-- what stands in a text literal, behind what was read of it
abbrev pub quoted_behind : List ℕ → ℕ → Option (List ℕ × ℕ) → Option (List ℕ × ℕ)
quoted_behind value size o = option_map (λ r. (value ++ r.0, size + r.1)) o

-- a character is one of some
abbrev pub is_among : List ℕ → ℕ → Bool
is_among [] c = false
is_among (d ∷ ds) c = (d == c) || is_among ds c

-- a text begins with a character
abbrev pub begins_with : ℕ → List ℕ → Bool
begins_with c [] = false
begins_with c (d ∷ text) = c == d

-- how many characters the mark has that begins with two slashes, or 0
abbrev pub slash_size : List ℕ → ℕ
slash_size [] = 0
slash_size (c ∷ text) =
    if 47 == c then (if begins_with 61 text then 3 else 2)
    else 0

-- `=`, `<`, `>`, `+`, `-`, `*`, `%`, which may have a `=` behind them
abbrev pub operators : List ℕ
operators = 61 ∷ 60 ∷ 62 ∷ 43 ∷ 45 ∷ 42 ∷ 37 ∷ []

-- brackets, the comma, the colon, the dot
abbrev pub delimiters : List ℕ
delimiters = 40 ∷ 41 ∷ 91 ∷ 93 ∷ 123 ∷ 125 ∷ 44 ∷ 58 ∷ 46 ∷ []

-- how many characters the mark has that a character and what follows it begin, or 0
abbrev pub mark_size : ℕ → List ℕ → ℕ
mark_size c text =
    if 47 == c then slash_size text
    else if 33 == c then (if begins_with 61 text then 2 else 0)
    else if is_among operators c then (if begins_with 61 text then 2 else 1)
    else if is_among delimiters c then 1
    else 0

-- behind the blanks of a line stands a comment, or nothing
abbrev pub starts_nothing : List ℕ → Bool
starts_nothing [] = true
starts_nothing (c ∷ text) = c == hash
