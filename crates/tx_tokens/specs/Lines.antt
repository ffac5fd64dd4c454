-- The physical lines of a text (Python Language Reference, "Physical lines"). A line ends at a line feed, at a carriage
-- return with a line feed, or at the end of the text.
use Rattle.std.specs.Prelude.{ℕ, ◌==◌, ◌&&◌, Bool, true, false, List, [], ◌∷◌, if◌then◌else◌}

abbrev pub line_feed : ℕ
line_feed = 10

abbrev pub carriage_return : ℕ
carriage_return = 13

-- what stands on a line, and how many characters end it: two, one, or none at the end of the text
pub record Line : Type 0 where
  pub content : List ℕ
  pub ending : ℕ

abbrev pub is_empty : List ℕ → Bool
is_empty [] = true
is_empty (c ∷ content) = false

-- a line feed that ends a line alone, and nothing before it
abbrev pub is_line_feed_alone : Line → Bool
is_line_feed_alone line = is_empty line.content && line.ending == 1

-- a line with one character more at its front: a carriage return right before the line feed ends the line with it
abbrev pub longer_line : ℕ → Line → Line
longer_line c line =
    if c == carriage_return && is_line_feed_alone line then record { content = []; ending = 2 }
    else record { content = c ∷ line.content; ending = line.ending }

abbrev pub onto_first_line : ℕ → List Line → List Line
onto_first_line c [] = (record { content = c ∷ []; ending = 0 }) ∷ []
onto_first_line c (line ∷ lines) = longer_line c line ∷ lines

-- the lines of a text; behind the last line feed there is none if nothing follows
abbrev pub lines : List ℕ → List Line
lines [] = []
lines (c ∷ text) =
    if c == line_feed then (record { content = []; ending = 1 }) ∷ lines text
    else onto_first_line c (lines text)
