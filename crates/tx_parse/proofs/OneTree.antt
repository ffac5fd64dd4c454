-- One spelling is that of one tree, but for its lines.
use Rattle.std.proofs.Common.{◌≡◌, max, true, List, [], ◌∷◌, map, Some, refl, sym, ap, ◌∙◌, arith}
use Rattle.tx_tree.specs.Kind.{Kind}
use Rattle.tx_tree.specs.Tree.{BlockTree}
use Rattle.tx_tree.specs.Spell.{spelling}
use Rattle.tx_tree.specs.Form.{well_formed}
use Rattle.tx_tree.specs.Depth.{depth_block}
use Rattle.tx_tree.specs.Bare.{bare_block}
use Rattle.tx_parse.specs.Lexemes.{Lexeme, lexeme, kinds}
use Rattle.tx_parse.specs.Laws.{OneTreeLaw}
use Rattle.tx_parse.proofs.Options.{one_some}
use Rattle.tx_parse.proofs.Lines.{lines_of}
use Rattle.tx_parse.proofs.Chains.Complete.{block_complete}

-- the lexemes of a spelling, all on line 0
abbrev unlined : List Kind → List Lexeme
unlined [] = []
unlined (k ∷ ks) = lexeme k 0 ∷ unlined ks

kinds-unlined : (ks : List Kind) → kinds (unlined ks) ≡ map Some ks
kinds-unlined [] = refl
kinds-unlined (k ∷ ks) = ap (λ z. Some k ∷ z) (kinds-unlined ks)

-- the form of a tree does not look at its lines
abbrev pub LinesFree : Type 0
LinesFree = (t : BlockTree) → well_formed (bare_block t) ≡ well_formed t

still_formed : LinesFree → (u b : BlockTree) → bare_block u ≡ bare_block b → well_formed b ≡ true → well_formed u ≡ true
still_formed free u b e w = sym (free u) ∙ ap well_formed e ∙ free b ∙ w

pub one_tree : LinesFree → OneTreeLaw
one_tree free b c wb wc e =
    let x = lines_of b (unlined (spelling b)) (kinds-unlined (spelling b)) in
    let y = lines_of c (unlined (spelling b)) (kinds-unlined (spelling b) ∙ ap (λ z. map Some z) e) in
    let n = max (depth_block x.other) (depth_block y.other) in
    let p = block_complete n x.other (unlined (spelling b)) [] x.spells (still_formed free x.other b x.same wb) (omega arith) in
    let q = block_complete n y.other (unlined (spelling b)) [] y.spells (still_formed free y.other c y.same wc) (omega arith) in
    let same : ◌≡◌ {A = BlockTree × List Lexeme} (x.other, []) (y.other, []) = one_some _ _ (sym p ∙ q) in
    sym x.same ∙ ap (λ (z : BlockTree × List Lexeme). bare_block z.0) same ∙ y.same
