-- The blocks of a script: the tokens from one line in column 0 to before the next such line.
use Rattle.std.specs.Prelude.{ℕ, zero, ◌+◌, ◌-◌, Bool, true, false, List, [], ◌∷◌, length, if◌then◌else◌}
use Rattle.tx_tokens.specs.declared.token.Token.{Token}
use Rattle.tx_tokens.specs.declared.token.TokenKind.{TokenKind}
use Rattle.tx_tokens.specs.declared.token.TokenKind.TheVariants.{Newline, Indent, Dedent}
use Rattle.tx_parse.specs.declared.cover.Span.{Span}

-- ---- what stands ahead of a token: the tokens ahead of it are a list whose first is the nearest

-- how many indents are open behind a token, where so many are open ahead of it; a Dedent ends one, if one is open
abbrev pub open_behind : TokenKind → ℕ → ℕ
open_behind Indent open_ahead = open_ahead + 1
open_behind Dedent open_ahead = open_ahead - 1
open_behind _ open_ahead = open_ahead

-- how many indents are open behind all of them
abbrev pub open_indents : List Token → ℕ
open_indents [] = 0
open_indents (t ∷ ahead) = open_behind t.kind (open_indents ahead)

-- whether a token is part of a line; an Indent and a Dedent stand in front of one
abbrev pub is_in_line : TokenKind → Bool
is_in_line Indent = false
is_in_line Dedent = false
is_in_line _ = true

-- whether no line has begun behind a token, where this is so or not so ahead of it
abbrev pub fresh_behind : TokenKind → Bool → Bool
fresh_behind Newline fresh = true
fresh_behind Indent fresh = fresh
fresh_behind Dedent fresh = fresh
fresh_behind _ fresh = false

-- whether no line has begun behind all of them: the nearest that is part of a line is a Newline, or there is none
abbrev pub is_fresh : List Token → Bool
is_fresh [] = true
is_fresh (t ∷ ahead) = fresh_behind t.kind (is_fresh ahead)

-- whether a token is the first of a line in column 0
abbrev pub begins : ℕ → Bool → TokenKind → Bool
begins zero true kind = is_in_line kind
begins _ _ kind = false

abbrev pub begins_behind : List Token → Token → Bool
begins_behind ahead t = begins (open_indents ahead) (is_fresh ahead) t.kind

-- ---- blocks

-- of tokens, with those ahead of them, what stands before the first that begins a block
abbrev pub before_next : List Token → List Token → List Token
before_next ahead [] = []
before_next ahead (t ∷ ts) = if begins_behind ahead t then [] else t ∷ before_next (t ∷ ahead) ts

-- a block of each token that begins one: the token, and what stands behind it before the next
abbrev pub blocks_behind : List Token → List Token → List (List Token)
blocks_behind ahead [] = []
blocks_behind ahead (t ∷ ts) =
    if begins_behind ahead t
    then (t ∷ before_next (t ∷ ahead) ts) ∷ blocks_behind (t ∷ ahead) ts
    else blocks_behind (t ∷ ahead) ts

-- the first token begins a block, whatever it is
abbrev pub blocks_of : List Token → List (List Token)
blocks_of [] = []
blocks_of (t ∷ ts) = (t ∷ before_next (t ∷ []) ts) ∷ blocks_behind (t ∷ []) ts

-- ---- where they stand

abbrev pub span : ℕ → ℕ → Span
span from to = record { from = from; to = to }

-- the spans of blocks of which the first begins at a place
abbrev pub spans_from : ℕ → List (List Token) → List Span
spans_from from [] = []
spans_from from (b ∷ bs) = span from (from + length b) ∷ spans_from (from + length b) bs

abbrev pub spans_of : List Token → List Span
spans_of ts = spans_from 0 (blocks_of ts)
