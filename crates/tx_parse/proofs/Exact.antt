-- What the reader's answer on all lexemes of a block says of the trees that they spell.
use Rattle.std.proofs.Common.{◌≡◌, ◌<◌, ◌≤◌, List, [], ◌∷◌, length, Some, None, sym, ap, ◌∙◌, arith}
use Rattle.tx_tree.specs.Tree.{BlockTree}
use Rattle.tx_parse.specs.Lexemes.{Lexeme}
use Rattle.tx_parse.specs.Block.{IsBlock, NoBlock, most_levels}
use Rattle.tx_parse.specs.Calls.Blocks.{block}
use Rattle.tx_parse.specs.Laws.{OneBlockLaw}
use Rattle.tx_parse.proofs.Options.{one_some}
use Rattle.tx_parse.proofs.Chains.Sound.{block_sound}
use Rattle.tx_parse.proofs.Chains.Complete.{block_complete}

reads : (b : BlockTree) (ts : List Lexeme) → IsBlock b ts → block most_levels ts ≡ Some (b, [])
reads b ts is = block_complete most_levels b ts [] is.spells is.good is.low

pub none_read : (ts : List Lexeme) → block most_levels ts ≡ None → NoBlock ts
none_read ts h b is = let a = reads b ts is in cc

pub rest_left : (ts : List Lexeme) (b : BlockTree) (r : List Lexeme) → block most_levels ts ≡ Some (b, r) → 0 < length r → NoBlock ts
rest_left ts b r h l c is =
    let q : ◌≡◌ {A = BlockTree × List Lexeme} (b, r) (c, []) = one_some _ _ (sym h ∙ reads c ts is) in
    absurd (omega (arith, ap (λ (p : BlockTree × List Lexeme). length p.1) q))

pub found : (ts : List Lexeme) (b : BlockTree) (r : List Lexeme) → block most_levels ts ≡ Some (b, r) → length r ≤ 0 → IsBlock b ts
found ts b [] h l = let f = block_sound most_levels ts b [] h in record { spells = f.spells; good = f.good; low = f.low }
found ts b (x ∷ r) h l = absurd (omega arith)

pub one_block : OneBlockLaw
one_block b c ts ib ic =
    let q : ◌≡◌ {A = BlockTree × List Lexeme} (b, []) (c, []) = one_some _ _ (sym (reads b ts ib) ∙ reads c ts ic) in
    ap (λ (p : BlockTree × List Lexeme). p.0) q
