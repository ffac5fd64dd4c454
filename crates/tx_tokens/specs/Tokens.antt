-- The tokens of a text, or its first fault.
use Rattle.std.specs.Prelude.{ℕ, ◌==◌, List, [], ◌∷◌, Result, Ok, Err, if◌then◌else◌}
use Rattle.tx_tokens.specs.Lines.{lines}
use Rattle.tx_tokens.specs.Layout.{Event, State, events}
use Rattle.tx_tokens.specs.Layout.Event.{written, laid, fault}
use Rattle.tx_tokens.specs.declared.token.Token.{Token}
use Rattle.tx_tokens.specs.declared.token.TokenError.{TokenError}

abbrev pub Tokens : Type 0
Tokens = Result (List Token) TokenError

abbrev pub with_first : Token → Tokens → Tokens
with_first t (Ok ts) = Ok (t ∷ ts)
with_first t (Err e) = Err e

-- the tokens, or the first fault; a token of the layout stands at the end of the last written one
abbrev pub tokens_behind : ℕ → ℕ → List Event → Tokens
tokens_behind end line [] = Ok []
tokens_behind end line (written t ∷ es) = with_first t (tokens_behind t.to t.line es)
tokens_behind end line (laid place kind ∷ es) =
    with_first (record { kind = kind; from = end; to = end; line = line }) (tokens_behind end line es)
tokens_behind end line (fault place e ∷ es) = Err e

-- where a text begins, behind so many characters that are dropped
abbrev pub start : ℕ → State
start dropped = record { line = 1; place = dropped; columns = []; opened = [] }

abbrev pub byte_order_mark : ℕ
byte_order_mark = 0xFEFF

-- what a text gives; one byte order mark at its front is dropped
abbrev pub events_of : List ℕ → List Event
events_of [] = events (start 0) []
events_of (c ∷ text) =
    if c == byte_order_mark then events (start 1) (lines text)
    else events (start 0) (lines (c ∷ text))

abbrev pub tokens_of : List ℕ → Tokens
tokens_of text = tokens_behind 0 1 (events_of text)

-- the most characters of a script
abbrev pub most_characters : ℕ
most_characters = 262144
