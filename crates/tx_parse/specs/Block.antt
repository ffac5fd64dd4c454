-- Which tokens are a block, and of which tree.
use Rattle.std.specs.Prelude.{◌≡◌, ℕ, ◌≤◌, true, List, []}
use Rattle.tx_tree.specs.Tree.{BlockTree}
use Rattle.tx_tree.specs.Form.{well_formed}
use Rattle.tx_tree.specs.Depth.{depth_block}
use Rattle.tx_parse.specs.Lexemes.{Lexeme}
use Rattle.tx_parse.specs.Spells.{SpellsBlock}

-- how deep the tree of a block may be, and in how many brackets and indents a token of it may stand
abbrev pub most_levels : ℕ
most_levels = 64

-- these lexemes spell this tree with its lines, the grammar has it, and it is not too deep
pub record IsBlock (b : BlockTree) (ts : List Lexeme) : Type 0 where
  pub spells : SpellsBlock b ts []
  pub good : well_formed b ≡ true
  pub low : depth_block b ≤ most_levels

abbrev pub NoBlock : List Lexeme → Type 0
NoBlock ts = (b : BlockTree) → IsBlock b ts → ⊥
