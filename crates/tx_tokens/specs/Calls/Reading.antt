-- How far the reading of a text has come.
use Rattle.std.specs.Prelude.{◌≡◌, ℕ, ◌&&◌, Bool, not, if◌then◌else◌, List, [], ◌∷◌, ◌++◌, Ok, Err}
use Rattle.tx_tokens.specs.Layout.{Event, State, is_outside}
use Rattle.tx_tokens.specs.Layout.Event.{laid}
use Rattle.tx_tokens.specs.Tokens.{Tokens, tokens_behind}
use Rattle.tx_tokens.specs.declared.nesting.Open.{Open}
use Rattle.tx_tokens.specs.declared.reader.Reader.{Reader}
use Rattle.tx_tokens.specs.declared.token.TokenKind.TheVariants.{Newline}
use Rattle.tx_tokens.specs.declared.token.Token.{Token}
use Rattle.tx_tokens.specs.declared.token.TokenError.{TokenError}

abbrev pub state_of : Reader → State
state_of r = record { line = r.line; place = r.place; columns = r.columns; opened = r.opened }

-- the tokens so far and those that follow
abbrev pub with_front : List Token → Tokens → Tokens
with_front front (Ok ts) = Ok (front ++ ts)
with_front front (Err e) = Err e

-- the answer, where these events follow
abbrev pub answer : Reader → List Event → Tokens
answer r es = with_front r.tokens (tokens_behind r.end r.end_line es)

-- the events were read
abbrev pub Gave : Reader → Reader → List Event → Type 0
Gave old new es = (rest : List Event) → answer old (es ++ rest) ≡ answer new rest

-- the first fault is among the events
abbrev pub Failed : Reader → List Event → TokenError → Type 0
Failed old es e = (rest : List Event) → answer old (es ++ rest) ≡ Err e

-- a logical line ends where no bracket is open, unless the line gives nothing
abbrev pub newline_events : ℕ → List Open → Bool → List Event
newline_events place opened nothing = if is_outside opened && not nothing then laid place Newline ∷ [] else []
