-- One more turn of the loops over statements, arms and links, and one more level.
use Rattle.std.proofs.Common.{◌≡◌, ℕ, zero, suc, ◌+◌, ◌-◌, ◌<◌, Bool, List, Some, None, refl, ap, ◌∙◌, arith}
use Rattle.std.proofs.lemmas.List.{map-append}
use Rattle.tx_tree.specs.declared.symbol.Keyword.TheVariants as word
use Rattle.tx_tree.specs.declared.symbol.Mark.TheVariants as sign
use Rattle.tx_tree.specs.Tree.{Tree, Body, Statement, LinkTree}
use Rattle.tx_parse.specs.declared.symbol.Symbol.TheVariants as symbol
use Rattle.tx_parse.specs.declared.place.Place.TheVariants as place
use Rattle.tx_parse.specs.Lexemes.{Lexeme, line_at}
use Rattle.tx_parse.specs.Calls.Front.{symbol_at, at}
use Rattle.tx_parse.specs.Calls.Reader.{Reader, and_read, read}
use Rattle.tx_parse.specs.Calls.Statements.{value_by, value, starter_of, simple, simple_at, statement_or_end, more_statements, arms_by, arms, statement_by, statement}
use Rattle.tx_parse.specs.Calls.Blocks.{link_by, more_links}
use Rattle.tx_parse.proofs.Turns.{one_fewer}

pub lines_turn : (inner : Reader Statement) (m t : ℕ) (done : List Statement) (ts : List Lexeme) → t < m → more_statements inner (m - t) done ts ≡ statement_or_end inner (more_statements inner (m - (t + 1))) done (at symbol.Dedent ts) ts
lines_turn inner m t done ts h = ap (λ x. more_statements inner x done ts) (one_fewer m t h)

pub arms_turn : (test : Reader Tree) (suite : Reader Body) (m t : ℕ) (done : List (Tree × Body)) (ts : List Lexeme) → t < m → arms test suite (m - t) done ts ≡ arms_by test suite (arms test suite (m - (t + 1))) done (at (symbol.Keyword word.Elif) ts) ts
arms_turn test suite m t done ts h = ap (λ x. arms test suite x done ts) (one_fewer m t h)

pub links_turn : (n m t : ℕ) (done : List LinkTree) (ts : List Lexeme) → t < m → more_links n (m - t) done ts ≡ link_by n (more_links n (m - (t + 1))) done (at (symbol.Mark sign.Dot) ts) ts
links_turn n m t done ts h = ap (λ x. more_links n x done ts) (one_fewer m t h)

pub statement_more : (n : ℕ) (looped : Bool) (ts : List Lexeme) → 0 < n → statement n looped ts ≡ statement_by (n - 1) (statement (n - 1)) looped (starter_of (symbol_at ts)) ts
statement_more zero looped ts h = absurd (omega arith)
statement_more (suc n) looped ts h = let e : n ≡ suc n - 1 = omega arith in ap (λ m. statement_by m (statement m) looped (starter_of (symbol_at ts)) ts) e

pub simple_more : (n : ℕ) (looped : Bool) (ts : List Lexeme) → 0 < n → simple_at n looped ts ≡ simple (n - 1) looped ts
simple_more zero looped ts h = absurd (omega arith)
simple_more (suc n) looped ts h = let e : n ≡ suc n - 1 = omega arith in ap (λ m. simple m looped ts) e

-- the value behind its first test
pub value_none : (n : ℕ) (ts : List Lexeme) → read n place.Test ts ≡ None → value n ts ≡ None
value_none zero ts h = refl
value_none (suc n) ts h = ap (λ o. and_read o (λ a r. value_by n (line_at ts) a (at (symbol.Mark sign.Comma) r) r)) h

pub value_some : (n : ℕ) (ts : List Lexeme) (a : Tree) (r : List Lexeme) → read n place.Test ts ≡ Some (a, r) → value n ts ≡ value_by (n - 1) (line_at ts) a (at (symbol.Mark sign.Comma) r) r
value_some zero ts a r h = cc
value_some (suc n) ts a r h =
    let e : n ≡ suc n - 1 = omega arith in
    ap (λ o. and_read o (λ a r. value_by n (line_at ts) a (at (symbol.Mark sign.Comma) r) r)) h
    ∙ ap (λ m. value_by m (line_at ts) a (at (symbol.Mark sign.Comma) r) r) e

pub ruleset statement_turns = (lines_turn, arms_turn, links_turn, statement_more, simple_more, value_none, value_some, map-append)
