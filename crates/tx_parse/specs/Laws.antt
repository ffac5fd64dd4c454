-- Laws above the definitions.
use Rattle.std.specs.Prelude.{◌≡◌, ℕ, zero, suc, ◌<◌, Bool, true, false, List, [], ◌∷◌, None, Some, All, map, length, ⊤}
use Rattle.tx_tokens.specs.declared.token.Token.{Token}
use Rattle.tx_tree.specs.Tree.{BlockTree}
use Rattle.tx_tree.specs.Spell.{spelling}
use Rattle.tx_tree.specs.Form.{well_formed}
use Rattle.tx_tree.specs.Bare.{Alike}
use Rattle.tx_parse.specs.declared.cover.Span.{Span}
use Rattle.tx_parse.specs.Lexemes.{Lexeme, kinds}
use Rattle.tx_parse.specs.Spells.{SpellsBlock}
use Rattle.tx_parse.specs.Block.{IsBlock}
use Rattle.tx_parse.specs.Faults.{first_outside}
use Rattle.tx_parse.specs.Spans.{begins_behind, spans_of}

-- ---- the spelling with lines and the spelling without

-- lexemes of the same spelling spell the same tree but for its lines, which are theirs
pub record Relined (b : BlockTree) (ts : List Lexeme) : Type 0 where
  pub other : BlockTree
  pub spells : SpellsBlock other ts []
  pub same : Alike other b

pub record SpellingLaw : Type 0 where
  pub kinds_of : (b : BlockTree) (ts : List Lexeme) → SpellsBlock b ts [] → kinds ts ≡ map Some (spelling b)
  pub lines_of : (b : BlockTree) (ts : List Lexeme) → well_formed b ≡ true → kinds ts ≡ map Some (spelling b) → Relined b ts

-- ---- one spelling, one tree

abbrev pub OneTreeLaw : Type 0
OneTreeLaw = (b c : BlockTree) → well_formed b ≡ true → well_formed c ≡ true → spelling b ≡ spelling c → Alike b c

-- the same lexemes are no two blocks
abbrev pub OneBlockLaw : Type 0
OneBlockLaw = (b c : BlockTree) (ts : List Lexeme) → IsBlock b ts → IsBlock c ts → b ≡ c

-- ---- keywords: no block has one that is outside the language, so none is refused for one

abbrev pub InProfileLaw : Type 0
InProfileLaw = (b : BlockTree) (ts : List Lexeme) → IsBlock b ts → first_outside ts ≡ None

-- ---- blocks cover the tokens: each has a token, and begins where the one before ends; the first begins at the first token,
-- and the last ends behind the last

abbrev pub Joins : ℕ → List Span → ℕ → Type 0
Joins from [] to = from ≡ to
Joins from (s ∷ ss) to = (s.from ≡ from) × ((s.from < s.to) × Joins s.to ss to)

abbrev pub CoverLaw : Type 0
CoverLaw = (ts : List Token) → Joins 0 (spans_of ts) (length ts)

-- ---- blocks begin where a line begins in column 0, and nowhere else; the first begins at the first token

-- whether the token at a place, of tokens with those ahead of them, is the first of a line in column 0
abbrev pub begins_at : List Token → List Token → ℕ → Bool
begins_at ahead [] place = false
begins_at ahead (t ∷ ts) zero = begins_behind ahead t
begins_at ahead (t ∷ ts) (suc place) = begins_at (t ∷ ahead) ts place

-- no token of a span behind its first
abbrev pub NoneWithin : List Token → Span → Type 0
NoneWithin ts s = (place : ℕ) → s.from < place → place < s.to → begins_at [] ts place ≡ false

abbrev pub BeginsAtLine : List Token → Span → Type 0
BeginsAtLine ts s = (begins_at [] ts s.from ≡ true) × NoneWithin ts s

abbrev pub BeginAtLines : List Token → List Span → Type 0
BeginAtLines ts [] = ⊤
BeginAtLines ts (s ∷ ss) = NoneWithin ts s × All (BeginsAtLine ts) ss

abbrev pub LinesLaw : Type 0
LinesLaw = (ts : List Token) → BeginAtLines ts (spans_of ts)
