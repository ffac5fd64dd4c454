-- Laws above the definitions.
use Rattle.std.specs.Prelude.{◌≡◌, ℕ, zero, suc, ◌-◌, ◌≤◌, max, ◌==◌, ◌&&◌, Bool, true, false, if◌then◌else◌, List, [], ◌∷◌, Option, Some, None, option_and_then, Ok, ⊤, length, take, drop, pos}
use Rattle.tx_text.specs.Text.{begins}
use Rattle.tx_tokens.specs.Lines.{carriage_return, line_feed}
use Rattle.tx_tokens.specs.Pieces.{hash, is_blank, is_integer, is_quote, quoted, value_of}
use Rattle.tx_tokens.specs.Layout.{Event}
use Rattle.tx_tokens.specs.Layout.Event.{written, laid, fault}
use Rattle.tx_tokens.specs.Tokens.{byte_order_mark, events_of, tokens_of}
use Rattle.tx_tokens.specs.declared.token.Token.{Token}
use Rattle.tx_tokens.specs.declared.token.TokenKind.{TokenKind}
use Rattle.tx_tokens.specs.declared.token.TokenKind.TheVariants.{Name, Int, Text, Mark, Indent, Dedent}

-- ---- the order of a text: the first fault in the list is the first one by its place

abbrev pub place_of : Event → ℕ
place_of (written t) = t.from
place_of (laid place kind) = place
place_of (fault place e) = place

abbrev pub end_of : Event → ℕ
end_of (written t) = t.to
end_of (laid place kind) = place
end_of (fault place e) = place

-- each stands at the end of the one before, or behind it
abbrev pub AreInOrder : ℕ → List Event → Type 0
AreInOrder behind [] = ⊤
AreInOrder behind (e ∷ es) = (behind ≤ place_of e) × ((place_of e ≤ end_of e) × AreInOrder (end_of e) es)

abbrev pub OrderLaw : Type 0
OrderLaw = (text : List ℕ) → AreInOrder 0 (events_of text)

-- ---- spans: each begins at the end of the one before or behind it, so none overlap

abbrev pub SpansRise : ℕ → List Token → Type 0
SpansRise behind [] = ⊤
SpansRise behind (t ∷ ts) = (behind ≤ t.from) × ((t.from ≤ t.to) × SpansRise t.to ts)

abbrev pub SpansLaw : Type 0
SpansLaw = (text : List ℕ) (ts : List Token) → tokens_of text ≡ Ok ts → SpansRise 0 ts

-- ---- Indents and Dedents: each Dedent ends what an Indent began, and none is left open

-- how many are open behind a token; none where a Dedent has no Indent
abbrev pub depth_behind : TokenKind → ℕ → Option ℕ
depth_behind Indent depth = Some (suc depth)
depth_behind Dedent zero = None
depth_behind Dedent (suc depth) = Some depth
depth_behind _ depth = Some depth

abbrev pub depth_at_end : ℕ → List Token → Option ℕ
depth_at_end depth [] = Some depth
depth_at_end depth (t ∷ ts) = option_and_then (λ behind. depth_at_end behind ts) (depth_behind t.kind depth)

abbrev pub BalanceLaw : Type 0
BalanceLaw = (text : List ℕ) (ts : List Token) → tokens_of text ≡ Ok ts → depth_at_end 0 ts ≡ Some 0

-- ---- spelling: what stands in the span of a token writes it

-- the characters of a text from one place to another
abbrev pub part : ℕ → ℕ → List ℕ → List ℕ
part from to text = take (to - from) (drop from text)

-- a quote, characters that stand for those of a text, and the same quote, with which it ends
abbrev pub IsQuoted : List ℕ → List ℕ → Type 0
IsQuoted value [] = ⊥
IsQuoted value (quote ∷ text) = (is_quote quote ≡ true) × (quoted quote text ≡ Some (value, length text))

-- a name and a mark are written as they are, an integer by digits whose value it is; a token of the layout is not written
abbrev pub IsSpelling : TokenKind → List ℕ → Type 0
IsSpelling (Name name) text = text ≡ name
IsSpelling (Int value) text = (is_integer text ≡ true) × (value ≡ pos (value_of text))
IsSpelling (Text value) text = IsQuoted value text
IsSpelling (Mark mark) text = text ≡ mark
IsSpelling _ text = text ≡ []

abbrev pub AreSpelled : List ℕ → List Token → Type 0
AreSpelled text [] = ⊤
AreSpelled text (t ∷ ts) = IsSpelling t.kind (part t.from t.to text) × AreSpelled text ts

abbrev pub SpellingLaw : Type 0
SpellingLaw = (text : List ℕ) (ts : List Token) → tokens_of text ≡ Ok ts → AreSpelled text ts

-- ---- gaps: between two tokens stands nothing of the language

-- blanks, line ends, and comments, each to the end of its line; the flag says that a comment has begun
abbrev pub is_gap : Bool → List ℕ → Bool
is_gap in_comment [] = true
is_gap in_comment (c ∷ text) =
    if c == line_feed then is_gap false text
    else if in_comment then is_gap true text
    else if is_blank c then is_gap false text
    else if c == hash then is_gap true text
    else (c == carriage_return) && (begins (line_feed ∷ []) text && is_gap false text)

-- ahead of the first token, between two, and behind the last one; the greater place is where the tokens so far end, also
-- for a token of the layout
abbrev pub AreApart : List ℕ → ℕ → List Token → Type 0
AreApart text behind [] = is_gap false (drop behind text) ≡ true
AreApart text behind (t ∷ ts) = (is_gap false (part behind t.from text) ≡ true) × AreApart text (max behind t.to) ts

-- how many characters are dropped at the front
abbrev pub dropped : List ℕ → ℕ
dropped [] = 0
dropped (c ∷ text) = if c == byte_order_mark then 1 else 0

abbrev pub GapsLaw : Type 0
GapsLaw = (text : List ℕ) (ts : List Token) → tokens_of text ≡ Ok ts → AreApart text (dropped text) ts
