-- The layout of lines (Python Language Reference, "Explicit line joining" to "Indentation"): which lines are logical, what
-- a bracket keeps open, and how columns give Indent and Dedent. What a text gives is a list in the order of the text:
-- tokens, and faults among them. Behind a fault it says nothing of use.
use Rattle.std.specs.Prelude.{ℕ, ◌+◌, ◌==◌, ◌&&◌, ◌||◌, Bool, true, false, not, List, [], ◌∷◌, ◌++◌, Option, Some, None, if◌then◌else◌, length, map, filter, nat_lt, unwrap_or}
use Rattle.std.specs.List.{list_all, list_any, prefix_len}
use Rattle.tx_tokens.specs.Lines.{Line}
use Rattle.tx_tokens.specs.Pieces.{Cut, cuts, is_blank, is_passed, run, tab, ◌>>=◌}
use Rattle.tx_tokens.specs.declared.nesting.Open.{Open}
use Rattle.tx_tokens.specs.declared.piece.Piece.{Piece}
use Rattle.tx_tokens.specs.declared.piece.Piece.TheVariants.{Passed, Written, Bad, TooWide}
use Rattle.tx_tokens.specs.declared.token.Token.{Token}
use Rattle.tx_tokens.specs.declared.token.TokenError.{TokenError}
use Rattle.tx_tokens.specs.declared.token.TokenError.TheVariants.{BadToken, BadIndent, WidthPast}
use Rattle.tx_tokens.specs.declared.token.TokenKind.{TokenKind}
use Rattle.tx_tokens.specs.declared.token.TokenKind.TheVariants.{Mark, Newline, Indent, Dedent}

-- what a text gives at a place: a token that is written there, a token of the layout, or a fault
pub data Event : Type 0 where
  written : Token → Event
  laid : ℕ → TokenKind → Event
  fault : ℕ → TokenError → Event

-- ---- brackets

-- an open bracket is known by the character that closes it, and has its line
-- the bracket that closes an opening one
abbrev pub closer_of : ℕ → Option ℕ
closer_of c =
    if c == 40 then Some 41
    else if c == 91 then Some 93
    else if c == 123 then Some 125
    else None

abbrev pub is_closer : ℕ → Bool
is_closer c = (c == 41) || ((c == 93) || (c == 125))

-- what is open behind a closing bracket, which closes the last one that was opened
abbrev pub closed_by : ℕ → List Open → Option (List Open)
closed_by c [] = None
closed_by c (o ∷ opened) = if o.closer == c then Some opened else None

abbrev pub opened_by : Option ℕ → ℕ → ℕ → List Open → Option (List Open)
opened_by (Some closer) c line opened = Some ((record { closer = closer; line = line }) ∷ opened)
opened_by None c line opened = if is_closer c then closed_by c opened else Some opened

-- what is open behind a token, the last one first; none where the token closes what is not open
abbrev pub opened_behind : ℕ → List Open → TokenKind → Option (List Open)
opened_behind line opened (Mark (c ∷ [])) = opened_by (closer_of c) c line opened
opened_behind line opened _ = Some opened

-- nothing is open
abbrev pub is_outside : List Open → Bool
is_outside [] = true
is_outside (o ∷ opened) = false

-- the line of the first bracket that is open
abbrev pub first_line : ℕ → List Open → ℕ
first_line line [] = line
first_line line (o ∷ opened) = first_line o.line opened

-- ---- the tokens of a line

-- what is open behind a piece
abbrev pub opened_behind_cut : ℕ → List Open → Piece → List Open
opened_behind_cut line opened (Written kind) = unwrap_or (opened_behind line opened kind) opened
opened_behind_cut line opened _ = opened

abbrev pub token_event : Token → Option (List Open) → Event
token_event t (Some opened) = written t
token_event t None = fault t.from (BadToken t.line)

-- what a piece gives at a place on a line
abbrev pub piece_events : ℕ → ℕ → ℕ → List Open → Piece → List Event
piece_events line place size opened Passed = []
piece_events line place size opened (Written kind) =
    token_event (record { kind = kind; from = place; to = place + size; line = line }) (opened_behind line opened kind) ∷ []
piece_events line place size opened Bad = fault place (BadToken line) ∷ []
piece_events line place size opened TooWide = fault place (WidthPast line) ∷ []

abbrev pub cut_events : ℕ → ℕ → List Open → List Cut → List Event
cut_events line place opened [] = []
cut_events line place opened (c ∷ cs) =
    piece_events line place c.size opened c.piece ++ cut_events line (place + c.size) (opened_behind_cut line opened c.piece) cs

abbrev pub opened_behind_cuts : ℕ → List Open → List Cut → List Open
opened_behind_cuts line opened [] = opened
opened_behind_cuts line opened (c ∷ cs) = opened_behind_cuts line (opened_behind_cut line opened c.piece) cs

-- ---- columns

-- the tokens in front of a line, and the columns that are then open, the greatest first
abbrev pub Front : Type 0
Front = List TokenKind × List ℕ

abbrev pub closing_one : Option Front → Option Front
closing_one front = do
  f ← front
  Some (Dedent ∷ f.0, f.1)

-- a line at a column that is no greater than the last: each greater one is closed, and it is then the last one
abbrev pub closing_to : ℕ → List ℕ → Option Front
closing_to column [] = None
closing_to column (last ∷ columns) =
    if nat_lt column last then closing_one (closing_to column columns)
    else if column == last then Some ([], last ∷ columns)
    else None

-- a line at a column; the first line of all stands at column 0 and opens it
abbrev pub front_at : ℕ → List ℕ → Option Front
front_at column [] = if column == 0 then Some ([], 0 ∷ []) else None
front_at column (last ∷ columns) =
    if nat_lt last column then Some (Indent ∷ [], column ∷ last ∷ columns)
    else closing_to column (last ∷ columns)

abbrev pub is_tab : ℕ → Bool
is_tab c = c == tab

-- a line that begins a logical one: its column is the number of spaces in front, and a tab there is a fault
abbrev pub front_of : List ℕ → List ℕ → Option Front
front_of content columns =
    if list_any is_tab (run is_blank content) then None
    else front_at (prefix_len is_blank content) columns

-- ---- lines

-- what is known where a line begins: its number, its place, and which columns and brackets are open, the last first
pub record State : Type 0 where
  pub line : ℕ
  pub place : ℕ
  pub columns : List ℕ
  pub opened : List Open

-- a line outside brackets that holds only blanks and a comment gives nothing
abbrev pub gives_nothing : State → List ℕ → Bool
gives_nothing s content = is_outside s.opened && list_all is_passed (cuts content)

-- the front of a line: inside brackets a line goes on with one that has begun
abbrev pub front_behind : State → List ℕ → Option Front
front_behind s content =
    if is_outside s.opened && not (gives_nothing s content) then front_of content s.columns
    else Some ([], s.columns)

abbrev pub front_events : State → Option Front → List Event
front_events s (Some front) = map (laid s.place) front.0
front_events s None = fault s.place (BadIndent s.line) ∷ []

abbrev pub columns_behind : State → Option Front → List ℕ
columns_behind s (Some front) = front.1
columns_behind s None = s.columns

abbrev pub opened_behind_line : State → List ℕ → List Open
opened_behind_line s content = opened_behind_cuts s.line s.opened (cuts content)

-- a logical line ends where a line ends with no bracket open
abbrev pub end_events : State → List ℕ → List Event
end_events s content =
    if is_outside (opened_behind_line s content) && not (gives_nothing s content)
    then laid (s.place + length content) Newline ∷ []
    else []

abbrev pub line_events : State → List ℕ → List Event
line_events s content =
    front_events s (front_behind s content) ++ (cut_events s.line s.place s.opened (cuts content) ++ end_events s content)

abbrev pub behind_line : State → Line → State
behind_line s line = record {
  line = s.line + 1;
  place = s.place + length line.content + line.ending;
  columns = columns_behind s (front_behind s line.content);
  opened = opened_behind_line s line.content;
}

-- at the end of the text each column but 0 is closed, and no bracket may be open
abbrev pub last_events : State → List Open → List Event
last_events s [] = map (λ column. laid s.place Dedent) (filter (λ column. nat_lt 0 column) s.columns)
last_events s (o ∷ opened) = fault s.place (BadToken (first_line o.line opened)) ∷ []

-- what some lines give, and the end of the text behind them
abbrev pub events : State → List Line → List Event
events s [] = last_events s s.opened
events s (line ∷ rest) = line_events s line.content ++ events (behind_line s line) rest
