-- Lexemes of a spelling spell the same tree with their lines.
use Rattle.std.proofs.Common.{◌≡◌, ℕ, Bool, true, false, List, [], ◌∷◌, map, Option, Some, None, refl, ap, ◌∙◌, subst}
use Rattle.tx_tree.specs.declared.operator.CompareOp.{CompareOp}
use Rattle.tx_tree.specs.declared.operator.CompareOp.TheVariants as op
use Rattle.tx_tree.specs.declared.symbol.Keyword.{Keyword}
use Rattle.tx_tree.specs.declared.symbol.Keyword.TheVariants as word
use Rattle.tx_tree.specs.declared.symbol.Mark.TheVariants as sign
use Rattle.tx_tree.specs.declared.target.Word.{Word}
use Rattle.tx_tree.specs.declared.target.Target.{Target}
use Rattle.tx_tree.specs.declared.target.Target.TheVariants as target
use Rattle.tx_tree.specs.Words.{binary_mark, augment_mark, unary_mark}
use Rattle.tx_tree.specs.Kind.{Kind, named, keyword, number, quoted, mark, newline, indent, dedent}
use Rattle.std.proofs.Common.{option_map}
use Rattle.tx_tree.specs.Spell.{spell_comma, spell_more_names, spell_names, texts_of, spell_target, truth_word, spell_op, spell, spell_items, spell_more_items, spell_pairs, spell_more_pairs, spell_behind, spell_operands, spell_maybe, spell_condition, spell_statement, spell_body, spell_statements, spell_tail, spell_arg, spell_more_args, spell_arg_list, spell_args, spell_head_args, spell_head, spell_links, spell_chain_in, spell_block, spelling}
use Rattle.tx_tree.specs.Tree.{Tree, nil, truth, int, text, name, paren, tuple, bare_tuple, list, dict, comprehension, call, method, index, slice, unary, binary, compare, negation, conjunction, disjunction, conditional, Trees, none, more, PairTrees, no_pair, pair, Operands, no_operand, operand, MaybeTree, absent, present, Statement, pass, break, continue, return, assign, augment, express, branch, repeat, Body, line, indented, Statements, finish, next, Tail, nothing, otherwise, elif, ArgTree, lambda, plain, ArgTrees, HeadTree, LinkTree, ChainTree, BlockTree, define, pipeline, alone}
use Rattle.tx_tree.specs.Bare.{bare_word, bare_target, bare, bare_each, bare_pairs, bare_operands, bare_maybe, bare_statement, bare_body, bare_statements, bare_tail, bare_arg, bare_args, bare_head, bare_link, bare_chain, bare_block}
use Rattle.tx_parse.specs.Lexemes.{Lexeme, lexeme, line_at, kinds}
use Rattle.tx_parse.specs.Spells.{Span, one, SpellsComma, SpellsWord, SpellsMore, SpellsList, SpellsNames, SpellsTarget, SpellsOp, Spells, SpellsItems, SpellsMoreItems, SpellsPairs, SpellsMorePairs, SpellsBehind, SpellsOperands, SpellsMaybe, SpellsCondition, SpellsStatement, SpellsBody, SpellsStatements, SpellsTail, SpellsArg, SpellsArgs, SpellsHeadArgs, SpellsHead, SpellsLinks, SpellsChainIn, SpellsChain, SpellsBlock}
use Rattle.tx_parse.specs.Laws.{Relined, SpellingLaw}
use Rattle.tx_parse.proofs.Targets.{SpellsName}
use Rattle.tx_parse.proofs.Spellings.{Are, kinds_of}

-- a lexeme of this kind, and what follows
record Front (k : Kind) (ks : List Kind) (ts : List Lexeme) : Type 0 where
  at : ℕ
  rest : List Lexeme
  same : ts ≡ lexeme k at ∷ rest
  behind : Are ks rest

front_of : {ks : List Kind} (k : Kind) (ts : List Lexeme) → Are (k ∷ ks) ts → Front k ks ts
front_of k [] e = let h = e.same in cc
front_of {ks = ks} k (x ∷ ts) e =
    let h = e.same in
    let q : x.kind ≡ Some k = cc in
    record { at = x.line; rest = ts; same = ap (λ (z : Option Kind). (record { kind = z; line = x.line }) ∷ ts) q; behind = record { same = cc } }

-- a tree with its lines, which is the same but for them
record Lined {A : Type 0} (Spelled : A → Span) (plain : A → A) (t : A) (ts : List Lexeme) (ks : List Kind) : Type 0 where
  tree : A
  rest : List Lexeme
  spells : Spelled tree ts rest
  behind : Are ks rest
  same : plain tree ≡ plain t

-- a comma where there is one
record Ended (c : Bool) (ts : List Lexeme) (ks : List Kind) : Type 0 where
  rest : List Lexeme
  spells : SpellsComma c ts rest
  behind : Are ks rest

comma_ends : {ks : List Kind} (c : Bool) (ts : List Lexeme) → Are (spell_comma c ks) ts → Ended c ts ks
comma_ends true ts e = let f = front_of (mark sign.Comma) ts e in record { rest = f.rest; spells = record { at = f.at; same = f.same }; behind = f.behind }
comma_ends false ts e = record { rest = ts; spells = refl; behind = e }

more_words_lined : {ks : List Kind} (c : Bool) (ws : List Word) (ts : List Lexeme) → Are (spell_more_names (texts_of ws) c ks) ts → Lined (λ ws. SpellsMore SpellsWord ws c) (map bare_word) ws ts ks
more_words_lined c [] ts e = let z = comma_ends c ts e in record { tree = []; rest = z.rest; spells = z.spells; behind = z.behind; same = refl }
more_words_lined c (w ∷ ws) ts e =
    let f = front_of (mark sign.Comma) ts e in
    let g = front_of (named w.text) f.rest f.behind in
    let x = more_words_lined c ws g.rest g.behind in
    record { tree = (record { line = g.at; text = w.text }) ∷ x.tree; rest = x.rest; spells = record { between = f.rest; before = record { at = f.at; same = f.same }; behind = record { between = g.rest; before = g.same; behind = x.spells } }; behind = x.behind; same = ap (λ z. bare_word w ∷ z) x.same }

words_lined : {ks : List Kind} (c : Bool) (ws : List Word) (ts : List Lexeme) → Are (spell_names (texts_of ws) c ks) ts → Lined (λ ws. SpellsList SpellsWord ws c) (map bare_word) ws ts ks
words_lined c [] ts e = let z = comma_ends c ts e in record { tree = []; rest = z.rest; spells = z.spells; behind = z.behind; same = refl }
words_lined c (w ∷ ws) ts e =
    let g = front_of (named w.text) ts e in
    let x = more_words_lined c ws g.rest g.behind in
    record { tree = (record { line = g.at; text = w.text }) ∷ x.tree; rest = x.rest; spells = record { between = g.rest; before = g.same; behind = x.spells }; behind = x.behind; same = ap (λ z. bare_word w ∷ z) x.same }

record Listed (ns : List (List ℕ)) (c : Bool) (ts : List Lexeme) (ks : List Kind) : Type 0 where
  rest : List Lexeme
  spells : SpellsNames ns c ts rest
  behind : Are ks rest

record ListedMore (ns : List (List ℕ)) (c : Bool) (ts : List Lexeme) (ks : List Kind) : Type 0 where
  rest : List Lexeme
  spells : SpellsMore SpellsName ns c ts rest
  behind : Are ks rest

more_names_listed : {ks : List Kind} (ns : List (List ℕ)) (c : Bool) (ts : List Lexeme) → Are (spell_more_names ns c ks) ts → ListedMore ns c ts ks
more_names_listed [] c ts e = let z = comma_ends c ts e in record { rest = z.rest; spells = z.spells; behind = z.behind }
more_names_listed (n ∷ ns) c ts e =
    let f = front_of (mark sign.Comma) ts e in
    let g = front_of (named n) f.rest f.behind in
    let x = more_names_listed ns c g.rest g.behind in
    record { rest = x.rest; spells = record { between = f.rest; before = record { at = f.at; same = f.same }; behind = record { between = g.rest; before = record { at = g.at; same = g.same }; behind = x.spells } }; behind = x.behind }

names_listed : {ks : List Kind} (ns : List (List ℕ)) (c : Bool) (ts : List Lexeme) → Are (spell_names ns c ks) ts → Listed ns c ts ks
names_listed [] c ts e = let z = comma_ends c ts e in record { rest = z.rest; spells = z.spells; behind = z.behind }
names_listed (n ∷ ns) c ts e =
    let g = front_of (named n) ts e in
    let x = more_names_listed ns c g.rest g.behind in
    record { rest = x.rest; spells = record { between = g.rest; before = record { at = g.at; same = g.same }; behind = x.spells }; behind = x.behind }

target_lined : {ks : List Kind} (t : Target) (ts : List Lexeme) → Are (spell_target t ks) ts → Lined SpellsTarget bare_target t ts ks
target_lined (target.Name w) ts e = let f = front_of (named w.text) ts e in record { tree = target.Name (record { line = f.at; text = w.text }); rest = f.rest; spells = f.same; behind = f.behind; same = refl }
target_lined (target.Names ws c) ts e = let x = words_lined c ws ts e in record { tree = target.Names x.tree c; rest = x.rest; spells = x.spells; behind = x.behind; same = ap (λ z. target.Names z c) x.same }
target_lined (target.Bracketed l ws c) ts e =
    let f = front_of (mark sign.Open) ts e in
    let x = words_lined c ws f.rest f.behind in
    let g = front_of (mark sign.Close) x.rest x.behind in
    record { tree = target.Bracketed f.at x.tree c; rest = g.rest; spells = record { between = f.rest; before = f.same; behind = record { between = x.rest; before = x.spells; behind = record { at = g.at; same = g.same } } }; behind = g.behind; same = ap (λ z. target.Bracketed 0 z c) x.same }

record Operated (o : CompareOp) (ts : List Lexeme) (ks : List Kind) : Type 0 where
  rest : List Lexeme
  spells : SpellsOp o ts rest
  behind : Are ks rest

op_lined : {ks : List Kind} (o : CompareOp) (ts : List Lexeme) → Are (spell_op o ks) ts → Operated o ts ks
op_lined op.Equal ts e = let f = front_of (mark sign.Equal) ts e in record { rest = f.rest; spells = record { at = f.at; same = f.same }; behind = f.behind }
op_lined op.NotEqual ts e = let f = front_of (mark sign.NotEqual) ts e in record { rest = f.rest; spells = record { at = f.at; same = f.same }; behind = f.behind }
op_lined op.Less ts e = let f = front_of (mark sign.Less) ts e in record { rest = f.rest; spells = record { at = f.at; same = f.same }; behind = f.behind }
op_lined op.LessEqual ts e = let f = front_of (mark sign.LessEqual) ts e in record { rest = f.rest; spells = record { at = f.at; same = f.same }; behind = f.behind }
op_lined op.Greater ts e = let f = front_of (mark sign.Greater) ts e in record { rest = f.rest; spells = record { at = f.at; same = f.same }; behind = f.behind }
op_lined op.GreaterEqual ts e = let f = front_of (mark sign.GreaterEqual) ts e in record { rest = f.rest; spells = record { at = f.at; same = f.same }; behind = f.behind }
op_lined op.In ts e = let f = front_of (keyword word.In) ts e in record { rest = f.rest; spells = record { at = f.at; same = f.same }; behind = f.behind }
op_lined op.Is ts e = let f = front_of (keyword word.Is) ts e in record { rest = f.rest; spells = record { at = f.at; same = f.same }; behind = f.behind }
op_lined op.NotIn ts e = let f = front_of (keyword word.Not) ts e in let g = front_of (keyword word.In) f.rest f.behind in record { rest = g.rest; spells = record { between = f.rest; before = record { at = f.at; same = f.same }; behind = record { at = g.at; same = g.same } }; behind = g.behind }
op_lined op.IsNot ts e = let f = front_of (keyword word.Is) ts e in let g = front_of (keyword word.Not) f.rest f.behind in record { rest = g.rest; spells = record { between = f.rest; before = record { at = f.at; same = f.same }; behind = record { at = g.at; same = g.same } }; behind = g.behind }

mutual
  tree_lined : {ks : List Kind} (t : Tree) (ts : List Lexeme) → Are (spell t ks) ts → Lined Spells bare t ts ks
  tree_lined (nil l) ts e =
      let x0 = front_of (keyword word.None) ts e in
      record { tree = nil x0.at; rest = x0.rest; spells = x0.same; behind = x0.behind; same = refl }
  tree_lined (truth l b) ts e =
      let x0 = front_of (keyword (truth_word b)) ts e in
      record { tree = truth x0.at b; rest = x0.rest; spells = x0.same; behind = x0.behind; same = refl }
  tree_lined (int l v) ts e =
      let x0 = front_of (number v) ts e in
      record { tree = int x0.at v; rest = x0.rest; spells = x0.same; behind = x0.behind; same = refl }
  tree_lined (text l v) ts e =
      let x0 = front_of (quoted v) ts e in
      record { tree = text x0.at v; rest = x0.rest; spells = x0.same; behind = x0.behind; same = refl }
  tree_lined (name l v) ts e =
      let x0 = front_of (named v) ts e in
      record { tree = name x0.at v; rest = x0.rest; spells = x0.same; behind = x0.behind; same = refl }
  tree_lined (paren l a) ts e =
      let x0 = front_of (mark sign.Open) ts e in
      let x1 = tree_lined a x0.rest x0.behind in
      let x2 = front_of (mark sign.Close) x1.rest x1.behind in
      record { tree = paren x0.at x1.tree; rest = x2.rest; spells = record { between = x0.rest; before = x0.same; behind = record { between = x1.rest; before = x1.spells; behind = record { at = x2.at; same = x2.same } } }; behind = x2.behind; same = ap (λ z. paren 0 z) x1.same }
  tree_lined (tuple l es c) ts e =
      let x0 = front_of (mark sign.Open) ts e in
      let x1 = items_lined c es x0.rest x0.behind in
      let x2 = front_of (mark sign.Close) x1.rest x1.behind in
      record { tree = tuple x0.at x1.tree c; rest = x2.rest; spells = record { between = x0.rest; before = x0.same; behind = record { between = x1.rest; before = x1.spells; behind = record { at = x2.at; same = x2.same } } }; behind = x2.behind; same = ap (λ z. tuple 0 z c) x1.same }
  tree_lined (bare_tuple l es c) ts e =
      let x0 = items_lined c es ts e in
      record { tree = bare_tuple (line_at ts) x0.tree c; rest = x0.rest; spells = record { start = refl; span = x0.spells }; behind = x0.behind; same = ap (λ z. bare_tuple 0 z c) x0.same }
  tree_lined (list l es c) ts e =
      let x0 = front_of (mark sign.OpenSquare) ts e in
      let x1 = items_lined c es x0.rest x0.behind in
      let x2 = front_of (mark sign.CloseSquare) x1.rest x1.behind in
      record { tree = list x0.at x1.tree c; rest = x2.rest; spells = record { between = x0.rest; before = x0.same; behind = record { between = x1.rest; before = x1.spells; behind = record { at = x2.at; same = x2.same } } }; behind = x2.behind; same = ap (λ z. list 0 z c) x1.same }
  tree_lined (dict l ps c) ts e =
      let x0 = front_of (mark sign.OpenBrace) ts e in
      let x1 = pairs_lined c ps x0.rest x0.behind in
      let x2 = front_of (mark sign.CloseBrace) x1.rest x1.behind in
      record { tree = dict x0.at x1.tree c; rest = x2.rest; spells = record { between = x0.rest; before = x0.same; behind = record { between = x1.rest; before = x1.spells; behind = record { at = x2.at; same = x2.same } } }; behind = x2.behind; same = ap (λ z. dict 0 z c) x1.same }
  tree_lined (comprehension l a t i c) ts e =
      let x0 = front_of (mark sign.OpenSquare) ts e in
      let x1 = tree_lined a x0.rest x0.behind in
      let x2 = front_of (keyword word.For) x1.rest x1.behind in
      let x3 = target_lined t x2.rest x2.behind in
      let x4 = front_of (keyword word.In) x3.rest x3.behind in
      let x5 = tree_lined i x4.rest x4.behind in
      let x6 = condition_lined c x5.rest x5.behind in
      let x7 = front_of (mark sign.CloseSquare) x6.rest x6.behind in
      record { tree = comprehension x0.at x1.tree x3.tree x5.tree x6.tree; rest = x7.rest; spells = record { between = x0.rest; before = x0.same; behind = record { between = x1.rest; before = x1.spells; behind = record { between = x2.rest; before = record { at = x2.at; same = x2.same }; behind = record { between = x3.rest; before = x3.spells; behind = record { between = x4.rest; before = record { at = x4.at; same = x4.same }; behind = record { between = x5.rest; before = x5.spells; behind = record { between = x6.rest; before = x6.spells; behind = record { at = x7.at; same = x7.same } } } } } } } }; behind = x7.behind; same = ap (λ z. comprehension 0 z (bare_target x3.tree) (bare x5.tree) (bare_maybe x6.tree)) x1.same ∙ ap (λ z. comprehension 0 (bare a) z (bare x5.tree) (bare_maybe x6.tree)) x3.same ∙ ap (λ z. comprehension 0 (bare a) (bare_target t) z (bare_maybe x6.tree)) x5.same ∙ ap (λ z. comprehension 0 (bare a) (bare_target t) (bare i) z) x6.same }
  tree_lined (call l m es c) ts e =
      let x0 = front_of (named m) ts e in
      let x1 = front_of (mark sign.Open) x0.rest x0.behind in
      let x2 = items_lined c es x1.rest x1.behind in
      let x3 = front_of (mark sign.Close) x2.rest x2.behind in
      record { tree = call x0.at m x2.tree c; rest = x3.rest; spells = record { between = x0.rest; before = x0.same; behind = record { between = x1.rest; before = record { at = x1.at; same = x1.same }; behind = record { between = x2.rest; before = x2.spells; behind = record { at = x3.at; same = x3.same } } } }; behind = x3.behind; same = ap (λ z. call 0 m z c) x2.same }
  tree_lined (method l a w es c) ts e =
      let x0 = tree_lined a ts e in
      let x1 = front_of (mark sign.Dot) x0.rest x0.behind in
      let x2 = front_of (named w.text) x1.rest x1.behind in
      let x3 = front_of (mark sign.Open) x2.rest x2.behind in
      let x4 = items_lined c es x3.rest x3.behind in
      let x5 = front_of (mark sign.Close) x4.rest x4.behind in
      record { tree = method (line_at ts) x0.tree (record { line = x2.at; text = w.text }) x4.tree c; rest = x5.rest; spells = record { start = refl; span = record { between = x0.rest; before = x0.spells; behind = record { between = x1.rest; before = record { at = x1.at; same = x1.same }; behind = record { between = x2.rest; before = x2.same; behind = record { between = x3.rest; before = record { at = x3.at; same = x3.same }; behind = record { between = x4.rest; before = x4.spells; behind = record { at = x5.at; same = x5.same } } } } } } }; behind = x5.behind; same = ap (λ z. method 0 z (bare_word w) (bare_each x4.tree) c) x0.same ∙ ap (λ z. method 0 (bare a) (bare_word w) z c) x4.same }
  tree_lined (index l a i) ts e =
      let x0 = tree_lined a ts e in
      let x1 = front_of (mark sign.OpenSquare) x0.rest x0.behind in
      let x2 = tree_lined i x1.rest x1.behind in
      let x3 = front_of (mark sign.CloseSquare) x2.rest x2.behind in
      record { tree = index (line_at ts) x0.tree x2.tree; rest = x3.rest; spells = record { start = refl; span = record { between = x0.rest; before = x0.spells; behind = record { between = x1.rest; before = record { at = x1.at; same = x1.same }; behind = record { between = x2.rest; before = x2.spells; behind = record { at = x3.at; same = x3.same } } } } }; behind = x3.behind; same = ap (λ z. index 0 z (bare x2.tree)) x0.same ∙ ap (λ z. index 0 (bare a) z) x2.same }
  tree_lined (slice l a i j) ts e =
      let x0 = tree_lined a ts e in
      let x1 = front_of (mark sign.OpenSquare) x0.rest x0.behind in
      let x2 = maybe_lined i x1.rest x1.behind in
      let x3 = front_of (mark sign.Colon) x2.rest x2.behind in
      let x4 = maybe_lined j x3.rest x3.behind in
      let x5 = front_of (mark sign.CloseSquare) x4.rest x4.behind in
      record { tree = slice (line_at ts) x0.tree x2.tree x4.tree; rest = x5.rest; spells = record { start = refl; span = record { between = x0.rest; before = x0.spells; behind = record { between = x1.rest; before = record { at = x1.at; same = x1.same }; behind = record { between = x2.rest; before = x2.spells; behind = record { between = x3.rest; before = record { at = x3.at; same = x3.same }; behind = record { between = x4.rest; before = x4.spells; behind = record { at = x5.at; same = x5.same } } } } } } }; behind = x5.behind; same = ap (λ z. slice 0 z (bare_maybe x2.tree) (bare_maybe x4.tree)) x0.same ∙ ap (λ z. slice 0 (bare a) z (bare_maybe x4.tree)) x2.same ∙ ap (λ z. slice 0 (bare a) (bare_maybe i) z) x4.same }
  tree_lined (unary l o a) ts e =
      let x0 = front_of (mark (unary_mark o)) ts e in
      let x1 = tree_lined a x0.rest x0.behind in
      record { tree = unary x0.at o x1.tree; rest = x1.rest; spells = record { between = x0.rest; before = x0.same; behind = x1.spells }; behind = x1.behind; same = ap (λ z. unary 0 o z) x1.same }
  tree_lined (binary l a o b) ts e =
      let x0 = tree_lined a ts e in
      let x1 = front_of (mark (binary_mark o)) x0.rest x0.behind in
      let x2 = tree_lined b x1.rest x1.behind in
      record { tree = binary (line_at ts) x0.tree o x2.tree; rest = x2.rest; spells = record { start = refl; span = record { between = x0.rest; before = x0.spells; behind = record { between = x1.rest; before = record { at = x1.at; same = x1.same }; behind = x2.spells } } }; behind = x2.behind; same = ap (λ z. binary 0 z o (bare x2.tree)) x0.same ∙ ap (λ z. binary 0 (bare a) o z) x2.same }
  tree_lined (compare l a os) ts e =
      let x0 = tree_lined a ts e in
      let x1 = operands_lined os x0.rest x0.behind in
      record { tree = compare (line_at ts) x0.tree x1.tree; rest = x1.rest; spells = record { start = refl; span = record { between = x0.rest; before = x0.spells; behind = x1.spells } }; behind = x1.behind; same = ap (λ z. compare 0 z (bare_operands x1.tree)) x0.same ∙ ap (λ z. compare 0 (bare a) z) x1.same }
  tree_lined (negation l a) ts e =
      let x0 = front_of (keyword word.Not) ts e in
      let x1 = tree_lined a x0.rest x0.behind in
      record { tree = negation x0.at x1.tree; rest = x1.rest; spells = record { between = x0.rest; before = x0.same; behind = x1.spells }; behind = x1.behind; same = ap (λ z. negation 0 z) x1.same }
  tree_lined (conjunction l a es) ts e =
      let x0 = tree_lined a ts e in
      let x1 = behind_lined word.And es x0.rest x0.behind in
      record { tree = conjunction (line_at ts) x0.tree x1.tree; rest = x1.rest; spells = record { start = refl; span = record { between = x0.rest; before = x0.spells; behind = x1.spells } }; behind = x1.behind; same = ap (λ z. conjunction 0 z (bare_each x1.tree)) x0.same ∙ ap (λ z. conjunction 0 (bare a) z) x1.same }
  tree_lined (disjunction l a es) ts e =
      let x0 = tree_lined a ts e in
      let x1 = behind_lined word.Or es x0.rest x0.behind in
      record { tree = disjunction (line_at ts) x0.tree x1.tree; rest = x1.rest; spells = record { start = refl; span = record { between = x0.rest; before = x0.spells; behind = x1.spells } }; behind = x1.behind; same = ap (λ z. disjunction 0 z (bare_each x1.tree)) x0.same ∙ ap (λ z. disjunction 0 (bare a) z) x1.same }
  tree_lined (conditional l a t b) ts e =
      let x0 = tree_lined a ts e in
      let x1 = front_of (keyword word.If) x0.rest x0.behind in
      let x2 = tree_lined t x1.rest x1.behind in
      let x3 = front_of (keyword word.Else) x2.rest x2.behind in
      let x4 = tree_lined b x3.rest x3.behind in
      record { tree = conditional (line_at ts) x0.tree x2.tree x4.tree; rest = x4.rest; spells = record { start = refl; span = record { between = x0.rest; before = x0.spells; behind = record { between = x1.rest; before = record { at = x1.at; same = x1.same }; behind = record { between = x2.rest; before = x2.spells; behind = record { between = x3.rest; before = record { at = x3.at; same = x3.same }; behind = x4.spells } } } } }; behind = x4.behind; same = ap (λ z. conditional 0 z (bare x2.tree) (bare x4.tree)) x0.same ∙ ap (λ z. conditional 0 (bare a) z (bare x4.tree)) x2.same ∙ ap (λ z. conditional 0 (bare a) (bare t) z) x4.same }

  items_lined : {ks : List Kind} (c : Bool) (es : Trees) (ts : List Lexeme) → Are (spell_items es c ks) ts → Lined (λ es. SpellsItems es c) bare_each es ts ks
  items_lined c none ts e = let z = comma_ends c ts e in record { tree = none; rest = z.rest; spells = z.spells; behind = z.behind; same = refl }
  items_lined c (more a es) ts e =
      let x0 = tree_lined a ts e in
      let x1 = more_items_lined c es x0.rest x0.behind in
      record { tree = more x0.tree x1.tree; rest = x1.rest; spells = record { between = x0.rest; before = x0.spells; behind = x1.spells }; behind = x1.behind; same = ap (λ z. more z (bare_each x1.tree)) x0.same ∙ ap (λ z. more (bare a) z) x1.same }

  more_items_lined : {ks : List Kind} (c : Bool) (es : Trees) (ts : List Lexeme) → Are (spell_more_items es c ks) ts → Lined (λ es. SpellsMoreItems es c) bare_each es ts ks
  more_items_lined c none ts e = let z = comma_ends c ts e in record { tree = none; rest = z.rest; spells = z.spells; behind = z.behind; same = refl }
  more_items_lined c (more a es) ts e =
      let x0 = front_of (mark sign.Comma) ts e in
      let x1 = tree_lined a x0.rest x0.behind in
      let x2 = more_items_lined c es x1.rest x1.behind in
      record { tree = more x1.tree x2.tree; rest = x2.rest; spells = record { between = x0.rest; before = record { at = x0.at; same = x0.same }; behind = record { between = x1.rest; before = x1.spells; behind = x2.spells } }; behind = x2.behind; same = ap (λ z. more z (bare_each x2.tree)) x1.same ∙ ap (λ z. more (bare a) z) x2.same }

  pairs_lined : {ks : List Kind} (c : Bool) (ps : PairTrees) (ts : List Lexeme) → Are (spell_pairs ps c ks) ts → Lined (λ ps. SpellsPairs ps c) bare_pairs ps ts ks
  pairs_lined c no_pair ts e = let z = comma_ends c ts e in record { tree = no_pair; rest = z.rest; spells = z.spells; behind = z.behind; same = refl }
  pairs_lined c (pair a b ps) ts e =
      let x = tree_lined a ts e in
      let f = front_of (mark sign.Colon) x.rest x.behind in
      let y = tree_lined b f.rest f.behind in
      let z = more_pairs_lined c ps y.rest y.behind in
      record { tree = pair x.tree y.tree z.tree; rest = z.rest; spells = record { between = y.rest; before = record { between = x.rest; before = x.spells; behind = record { between = f.rest; before = record { at = f.at; same = f.same }; behind = y.spells } }; behind = z.spells }; behind = z.behind; same = ap (λ z2. pair z2 (bare y.tree) (bare_pairs z.tree)) x.same ∙ ap (λ z2. pair (bare a) z2 (bare_pairs z.tree)) y.same ∙ ap (λ z2. pair (bare a) (bare b) z2) z.same }

  more_pairs_lined : {ks : List Kind} (c : Bool) (ps : PairTrees) (ts : List Lexeme) → Are (spell_more_pairs ps c ks) ts → Lined (λ ps. SpellsMorePairs ps c) bare_pairs ps ts ks
  more_pairs_lined c no_pair ts e = let z = comma_ends c ts e in record { tree = no_pair; rest = z.rest; spells = z.spells; behind = z.behind; same = refl }
  more_pairs_lined c (pair a b ps) ts e =
      let k = front_of (mark sign.Comma) ts e in
      let x = tree_lined a k.rest k.behind in
      let f = front_of (mark sign.Colon) x.rest x.behind in
      let y = tree_lined b f.rest f.behind in
      let z = more_pairs_lined c ps y.rest y.behind in
      record { tree = pair x.tree y.tree z.tree; rest = z.rest; spells = record { between = k.rest; before = record { at = k.at; same = k.same }; behind = record { between = y.rest; before = record { between = x.rest; before = x.spells; behind = record { between = f.rest; before = record { at = f.at; same = f.same }; behind = y.spells } }; behind = z.spells } }; behind = z.behind; same = ap (λ z2. pair z2 (bare y.tree) (bare_pairs z.tree)) x.same ∙ ap (λ z2. pair (bare a) z2 (bare_pairs z.tree)) y.same ∙ ap (λ z2. pair (bare a) (bare b) z2) z.same }

  behind_lined : {ks : List Kind} (w : Keyword) (es : Trees) (ts : List Lexeme) → Are (spell_behind w es ks) ts → Lined (SpellsBehind w) bare_each es ts ks
  behind_lined w none ts e = record { tree = none; rest = ts; spells = refl; behind = e; same = refl }
  behind_lined w (more a es) ts e =
      let x0 = front_of (keyword w) ts e in
      let x1 = tree_lined a x0.rest x0.behind in
      let x2 = behind_lined w es x1.rest x1.behind in
      record { tree = more x1.tree x2.tree; rest = x2.rest; spells = record { between = x0.rest; before = record { at = x0.at; same = x0.same }; behind = record { between = x1.rest; before = x1.spells; behind = x2.spells } }; behind = x2.behind; same = ap (λ z. more z (bare_each x2.tree)) x1.same ∙ ap (λ z. more (bare a) z) x2.same }

  operands_lined : {ks : List Kind} (os : Operands) (ts : List Lexeme) → Are (spell_operands os ks) ts → Lined SpellsOperands bare_operands os ts ks
  operands_lined no_operand ts e = record { tree = no_operand; rest = ts; spells = refl; behind = e; same = refl }
  operands_lined (operand o a os) ts e =
      let x0 = op_lined o ts e in
      let x1 = tree_lined a x0.rest x0.behind in
      let x2 = operands_lined os x1.rest x1.behind in
      record { tree = operand o x1.tree x2.tree; rest = x2.rest; spells = record { between = x0.rest; before = x0.spells; behind = record { between = x1.rest; before = x1.spells; behind = x2.spells } }; behind = x2.behind; same = ap (λ z. operand o z (bare_operands x2.tree)) x1.same ∙ ap (λ z. operand o (bare a) z) x2.same }

  maybe_lined : {ks : List Kind} (m : MaybeTree) (ts : List Lexeme) → Are (spell_maybe m ks) ts → Lined SpellsMaybe bare_maybe m ts ks
  maybe_lined absent ts e = record { tree = absent; rest = ts; spells = refl; behind = e; same = refl }
  maybe_lined (present a) ts e =
      let x0 = tree_lined a ts e in
      record { tree = present x0.tree; rest = x0.rest; spells = x0.spells; behind = x0.behind; same = ap (λ z. present z) x0.same }

  condition_lined : {ks : List Kind} (m : MaybeTree) (ts : List Lexeme) → Are (spell_condition m ks) ts → Lined SpellsCondition bare_maybe m ts ks
  condition_lined absent ts e = record { tree = absent; rest = ts; spells = refl; behind = e; same = refl }
  condition_lined (present a) ts e =
      let x0 = front_of (keyword word.If) ts e in
      let x1 = tree_lined a x0.rest x0.behind in
      record { tree = present x1.tree; rest = x1.rest; spells = record { between = x0.rest; before = record { at = x0.at; same = x0.same }; behind = x1.spells }; behind = x1.behind; same = ap (λ z. present z) x1.same }

mutual
  statement_lined : {ks : List Kind} (t : Statement) (ts : List Lexeme) → Are (spell_statement t ks) ts → Lined SpellsStatement bare_statement t ts ks
  statement_lined (pass l) ts e =
      let x0 = front_of (keyword word.Pass) ts e in
      let x1 = front_of (newline) x0.rest x0.behind in
      record { tree = pass x0.at; rest = x1.rest; spells = record { between = x0.rest; before = x0.same; behind = record { at = x1.at; same = x1.same } }; behind = x1.behind; same = refl }
  statement_lined (break l) ts e =
      let x0 = front_of (keyword word.Break) ts e in
      let x1 = front_of (newline) x0.rest x0.behind in
      record { tree = break x0.at; rest = x1.rest; spells = record { between = x0.rest; before = x0.same; behind = record { at = x1.at; same = x1.same } }; behind = x1.behind; same = refl }
  statement_lined (continue l) ts e =
      let x0 = front_of (keyword word.Continue) ts e in
      let x1 = front_of (newline) x0.rest x0.behind in
      record { tree = continue x0.at; rest = x1.rest; spells = record { between = x0.rest; before = x0.same; behind = record { at = x1.at; same = x1.same } }; behind = x1.behind; same = refl }
  statement_lined (return l a) ts e =
      let x0 = front_of (keyword word.Return) ts e in
      let x1 = maybe_lined a x0.rest x0.behind in
      let x2 = front_of (newline) x1.rest x1.behind in
      record { tree = return x0.at x1.tree; rest = x2.rest; spells = record { between = x0.rest; before = x0.same; behind = record { between = x1.rest; before = x1.spells; behind = record { at = x2.at; same = x2.same } } }; behind = x2.behind; same = ap (λ z. return 0 z) x1.same }
  statement_lined (assign l t a) ts e =
      let x0 = target_lined t ts e in
      let x1 = front_of (mark sign.Assign) x0.rest x0.behind in
      let x2 = tree_lined a x1.rest x1.behind in
      let x3 = front_of (newline) x2.rest x2.behind in
      record { tree = assign (line_at ts) x0.tree x2.tree; rest = x3.rest; spells = record { start = refl; span = record { between = x0.rest; before = x0.spells; behind = record { between = x1.rest; before = record { at = x1.at; same = x1.same }; behind = record { between = x2.rest; before = x2.spells; behind = record { at = x3.at; same = x3.same } } } } }; behind = x3.behind; same = ap (λ z. assign 0 z (bare x2.tree)) x0.same ∙ ap (λ z. assign 0 (bare_target t) z) x2.same }
  statement_lined (augment l m o a) ts e =
      let x0 = front_of (named m) ts e in
      let x1 = front_of (mark (augment_mark o)) x0.rest x0.behind in
      let x2 = tree_lined a x1.rest x1.behind in
      let x3 = front_of (newline) x2.rest x2.behind in
      record { tree = augment x0.at m o x2.tree; rest = x3.rest; spells = record { between = x0.rest; before = x0.same; behind = record { between = x1.rest; before = record { at = x1.at; same = x1.same }; behind = record { between = x2.rest; before = x2.spells; behind = record { at = x3.at; same = x3.same } } } }; behind = x3.behind; same = ap (λ z. augment 0 m o z) x2.same }
  statement_lined (express l a) ts e =
      let x0 = tree_lined a ts e in
      let x1 = front_of (newline) x0.rest x0.behind in
      record { tree = express (line_at ts) x0.tree; rest = x1.rest; spells = record { start = refl; span = record { between = x0.rest; before = x0.spells; behind = record { at = x1.at; same = x1.same } } }; behind = x1.behind; same = ap (λ z. express 0 z) x0.same }
  statement_lined (branch l a b t) ts e =
      let x0 = front_of (keyword word.If) ts e in
      let x1 = tree_lined a x0.rest x0.behind in
      let x2 = front_of (mark sign.Colon) x1.rest x1.behind in
      let x3 = body_lined b x2.rest x2.behind in
      let x4 = tail_lined t x3.rest x3.behind in
      record { tree = branch x0.at x1.tree x3.tree x4.tree; rest = x4.rest; spells = record { between = x0.rest; before = x0.same; behind = record { between = x1.rest; before = x1.spells; behind = record { between = x2.rest; before = record { at = x2.at; same = x2.same }; behind = record { between = x3.rest; before = x3.spells; behind = x4.spells } } } }; behind = x4.behind; same = ap (λ z. branch 0 z (bare_body x3.tree) (bare_tail x4.tree)) x1.same ∙ ap (λ z. branch 0 (bare a) z (bare_tail x4.tree)) x3.same ∙ ap (λ z. branch 0 (bare a) (bare_body b) z) x4.same }
  statement_lined (repeat l t a b) ts e =
      let x0 = front_of (keyword word.For) ts e in
      let x1 = target_lined t x0.rest x0.behind in
      let x2 = front_of (keyword word.In) x1.rest x1.behind in
      let x3 = tree_lined a x2.rest x2.behind in
      let x4 = front_of (mark sign.Colon) x3.rest x3.behind in
      let x5 = body_lined b x4.rest x4.behind in
      record { tree = repeat x0.at x1.tree x3.tree x5.tree; rest = x5.rest; spells = record { between = x0.rest; before = x0.same; behind = record { between = x1.rest; before = x1.spells; behind = record { between = x2.rest; before = record { at = x2.at; same = x2.same }; behind = record { between = x3.rest; before = x3.spells; behind = record { between = x4.rest; before = record { at = x4.at; same = x4.same }; behind = x5.spells } } } } }; behind = x5.behind; same = ap (λ z. repeat 0 z (bare x3.tree) (bare_body x5.tree)) x1.same ∙ ap (λ z. repeat 0 (bare_target t) z (bare_body x5.tree)) x3.same ∙ ap (λ z. repeat 0 (bare_target t) (bare a) z) x5.same }

  body_lined : {ks : List Kind} (b : Body) (ts : List Lexeme) → Are (spell_body b ks) ts → Lined SpellsBody bare_body b ts ks
  body_lined (line t) ts e =
      let x0 = statement_lined t ts e in
      record { tree = line x0.tree; rest = x0.rest; spells = x0.spells; behind = x0.behind; same = ap (λ z. line z) x0.same }
  body_lined (indented ss) ts e =
      let x0 = front_of (newline) ts e in
      let x1 = front_of (indent) x0.rest x0.behind in
      let x2 = statements_lined ss x1.rest x1.behind in
      let x3 = front_of (dedent) x2.rest x2.behind in
      record { tree = indented x2.tree; rest = x3.rest; spells = record { between = x0.rest; before = record { at = x0.at; same = x0.same }; behind = record { between = x1.rest; before = record { at = x1.at; same = x1.same }; behind = record { between = x2.rest; before = x2.spells; behind = record { at = x3.at; same = x3.same } } } }; behind = x3.behind; same = ap (λ z. indented z) x2.same }

  statements_lined : {ks : List Kind} (ss : Statements) (ts : List Lexeme) → Are (spell_statements ss ks) ts → Lined SpellsStatements bare_statements ss ts ks
  statements_lined finish ts e = record { tree = finish; rest = ts; spells = refl; behind = e; same = refl }
  statements_lined (next t ss) ts e =
      let x0 = statement_lined t ts e in
      let x1 = statements_lined ss x0.rest x0.behind in
      record { tree = next x0.tree x1.tree; rest = x1.rest; spells = record { between = x0.rest; before = x0.spells; behind = x1.spells }; behind = x1.behind; same = ap (λ z. next z (bare_statements x1.tree)) x0.same ∙ ap (λ z. next (bare_statement t) z) x1.same }

  tail_lined : {ks : List Kind} (t : Tail) (ts : List Lexeme) → Are (spell_tail t ks) ts → Lined SpellsTail bare_tail t ts ks
  tail_lined nothing ts e = record { tree = nothing; rest = ts; spells = refl; behind = e; same = refl }
  tail_lined (otherwise b) ts e =
      let x0 = front_of (keyword word.Else) ts e in
      let x1 = front_of (mark sign.Colon) x0.rest x0.behind in
      let x2 = body_lined b x1.rest x1.behind in
      record { tree = otherwise x2.tree; rest = x2.rest; spells = record { between = x0.rest; before = record { at = x0.at; same = x0.same }; behind = record { between = x1.rest; before = record { at = x1.at; same = x1.same }; behind = x2.spells } }; behind = x2.behind; same = ap (λ z. otherwise z) x2.same }
  tail_lined (elif a b t) ts e =
      let x0 = front_of (keyword word.Elif) ts e in
      let x1 = tree_lined a x0.rest x0.behind in
      let x2 = front_of (mark sign.Colon) x1.rest x1.behind in
      let x3 = body_lined b x2.rest x2.behind in
      let x4 = tail_lined t x3.rest x3.behind in
      record { tree = elif x1.tree x3.tree x4.tree; rest = x4.rest; spells = record { between = x0.rest; before = record { at = x0.at; same = x0.same }; behind = record { between = x1.rest; before = x1.spells; behind = record { between = x2.rest; before = record { at = x2.at; same = x2.same }; behind = record { between = x3.rest; before = x3.spells; behind = x4.spells } } } }; behind = x4.behind; same = ap (λ z. elif z (bare_body x3.tree) (bare_tail x4.tree)) x1.same ∙ ap (λ z. elif (bare a) z (bare_tail x4.tree)) x3.same ∙ ap (λ z. elif (bare a) (bare_body b) z) x4.same }

-- ---- blocks

arg_lined : {ks : List Kind} (a : ArgTree) (ts : List Lexeme) → Are (spell_arg a ks) ts → Lined SpellsArg bare_arg a ts ks
arg_lined (lambda l ps a) ts e =
    let f = front_of (keyword word.Lambda) ts e in
    let x = names_listed ps false f.rest f.behind in
    let g = front_of (mark sign.Colon) x.rest x.behind in
    let y = tree_lined a g.rest g.behind in
    record { tree = lambda f.at ps y.tree; rest = y.rest; spells = record { between = f.rest; before = f.same; behind = record { between = x.rest; before = x.spells; behind = record { between = g.rest; before = record { at = g.at; same = g.same }; behind = y.spells } } }; behind = y.behind; same = ap (lambda 0 ps) y.same }
arg_lined (plain a) ts e = let x = tree_lined a ts e in record { tree = plain x.tree; rest = x.rest; spells = x.spells; behind = x.behind; same = ap plain x.same }

more_args_lined : {ks : List Kind} (c : Bool) (xs : List ArgTree) (ts : List Lexeme) → Are (spell_more_args xs c ks) ts → Lined (λ xs. SpellsMore SpellsArg xs c) (map bare_arg) xs ts ks
more_args_lined c [] ts e = let z = comma_ends c ts e in record { tree = []; rest = z.rest; spells = z.spells; behind = z.behind; same = refl }
more_args_lined c (a ∷ xs) ts e =
    let f = front_of (mark sign.Comma) ts e in
    let x = arg_lined a f.rest f.behind in
    let y = more_args_lined c xs x.rest x.behind in
    record { tree = x.tree ∷ y.tree; rest = y.rest; spells = record { between = f.rest; before = record { at = f.at; same = f.same }; behind = record { between = x.rest; before = x.spells; behind = y.spells } }; behind = y.behind; same = ap (λ z. z ∷ map bare_arg y.tree) x.same ∙ ap (λ z. bare_arg a ∷ z) y.same }

arg_list_lined : {ks : List Kind} (c : Bool) (xs : List ArgTree) (ts : List Lexeme) → Are (spell_arg_list xs c ks) ts → Lined (λ xs. SpellsList SpellsArg xs c) (map bare_arg) xs ts ks
arg_list_lined c [] ts e = let z = comma_ends c ts e in record { tree = []; rest = z.rest; spells = z.spells; behind = z.behind; same = refl }
arg_list_lined c (a ∷ xs) ts e =
    let x = arg_lined a ts e in
    let y = more_args_lined c xs x.rest x.behind in
    record { tree = x.tree ∷ y.tree; rest = y.rest; spells = record { between = x.rest; before = x.spells; behind = y.spells }; behind = y.behind; same = ap (λ z. z ∷ map bare_arg y.tree) x.same ∙ ap (λ z. bare_arg a ∷ z) y.same }

args_lined : {ks : List Kind} (a : ArgTrees) (ts : List Lexeme) → Are (spell_args a ks) ts → Lined SpellsArgs bare_args a ts ks
args_lined a ts e =
    let f = front_of (mark sign.Open) ts e in
    let x = arg_list_lined a.comma a.items f.rest f.behind in
    let g = front_of (mark sign.Close) x.rest x.behind in
    record { tree = record { items = x.tree; comma = a.comma }; rest = g.rest; spells = record { between = f.rest; before = record { at = f.at; same = f.same }; behind = record { between = x.rest; before = x.spells; behind = record { at = g.at; same = g.same } } }; behind = g.behind; same = ap (λ (z : List ArgTree). record { items = z; comma = a.comma }) x.same }

head_args_lined : {ks : List Kind} (o : Option ArgTrees) (ts : List Lexeme) → Are (spell_head_args o ks) ts → Lined SpellsHeadArgs (option_map bare_args) o ts ks
head_args_lined None ts e = record { tree = None; rest = ts; spells = refl; behind = e; same = refl }
head_args_lined (Some a) ts e = let x = args_lined a ts e in record { tree = Some x.tree; rest = x.rest; spells = x.spells; behind = x.behind; same = ap Some x.same }

head_lined : {ks : List Kind} (h : HeadTree) (ts : List Lexeme) → Are (spell_head h ks) ts → Lined SpellsHead bare_head h ts ks
head_lined h ts e =
    let f = front_of (named h.word.text) ts e in
    let x = head_args_lined h.args f.rest f.behind in
    record { tree = record { word = record { line = f.at; text = h.word.text }; args = x.tree }; rest = x.rest; spells = record { between = f.rest; before = f.same; behind = x.spells }; behind = x.behind; same = ap (λ (z : Option ArgTrees). record { word = bare_word h.word; args = z }) x.same }

links_lined : {ks : List Kind} (xs : List LinkTree) (ts : List Lexeme) → Are (spell_links xs ks) ts → Lined SpellsLinks (map bare_link) xs ts ks
links_lined [] ts e = record { tree = []; rest = ts; spells = refl; behind = e; same = refl }
links_lined (x ∷ xs) ts e =
    let f = front_of (mark sign.Dot) ts e in
    let g = front_of (named x.word.text) f.rest f.behind in
    let a = args_lined x.args g.rest g.behind in
    let y = links_lined xs a.rest a.behind in
    record { tree = (record { line = f.at; word = record { line = g.at; text = x.word.text }; args = a.tree }) ∷ y.tree; rest = y.rest; spells = record { between = a.rest; before = record { between = f.rest; before = f.same; behind = record { between = g.rest; before = g.same; behind = a.spells } }; behind = y.spells }; behind = y.behind; same = ap (λ (z : ArgTrees). (record { line = 0; word = bare_word x.word; args = z }) ∷ map bare_link y.tree) a.same ∙ ap (λ z. bare_link x ∷ z) y.same }

record LinedChain (l : ℕ) (b : Bool) (h : HeadTree) (xs : List LinkTree) (ts : List Lexeme) (ks : List Kind) : Type 0 where
  head : HeadTree
  links : List LinkTree
  rest : List Lexeme
  spells : SpellsChainIn b head links ts rest
  behind : Are ks rest
  same_head : bare_head head ≡ bare_head h
  same_links : map bare_link links ≡ map bare_link xs

chain_in_lined : {ks : List Kind} (l : ℕ) (b : Bool) (h : HeadTree) (xs : List LinkTree) (ts : List Lexeme) → Are (spell_chain_in b h xs ks) ts → LinedChain l b h xs ts ks
chain_in_lined l true h xs ts e =
    let f = front_of (mark sign.Open) ts e in
    let x = head_lined h f.rest f.behind in
    let y = links_lined xs x.rest x.behind in
    let g = front_of (mark sign.Close) y.rest y.behind in
    record { head = x.tree; links = y.tree; rest = g.rest; spells = record { between = f.rest; before = record { at = f.at; same = f.same }; behind = record { between = x.rest; before = x.spells; behind = record { between = y.rest; before = y.spells; behind = record { at = g.at; same = g.same } } } }; behind = g.behind; same_head = x.same; same_links = y.same }
chain_in_lined l false h xs ts e =
    let x = head_lined h ts e in
    let y = links_lined xs x.rest x.behind in
    record { head = x.tree; links = y.tree; rest = y.rest; spells = record { between = x.rest; before = x.spells; behind = y.spells }; behind = y.behind; same_head = x.same; same_links = y.same }

chain_lined : {ks : List Kind} (c : ChainTree) (ts : List Lexeme) → Are (spell_chain_in c.in_brackets c.head c.links ks) ts → Lined SpellsChain bare_chain c ts ks
chain_lined c ts e =
    let x = chain_in_lined 0 c.in_brackets c.head c.links ts e in
    record { tree = record { line = line_at ts; in_brackets = c.in_brackets; head = x.head; links = x.links }; rest = x.rest; spells = record { start = refl; span = x.spells }; behind = x.behind; same = ap (λ (z : HeadTree). record { line = 0; in_brackets = c.in_brackets; head = z; links = map bare_link x.links }) x.same_head ∙ ap (λ (z : List LinkTree). record { line = 0; in_brackets = c.in_brackets; head = bare_head c.head; links = z }) x.same_links }

block_lined : {ks : List Kind} (b : BlockTree) (ts : List Lexeme) → Are (spell_block b ks) ts → Lined SpellsBlock bare_block b ts ks
block_lined (define l m ps c b) ts e =
    let f1 = front_of (keyword word.Def) ts e in
    let f2 = front_of (named m) f1.rest f1.behind in
    let f3 = front_of (mark sign.Open) f2.rest f2.behind in
    let x = names_listed ps c f3.rest f3.behind in
    let f4 = front_of (mark sign.Close) x.rest x.behind in
    let f5 = front_of (mark sign.Colon) f4.rest f4.behind in
    let y = body_lined b f5.rest f5.behind in
    record { tree = define f1.at m ps c y.tree; rest = y.rest; spells = record { between = f1.rest; before = f1.same; behind = record { between = f2.rest; before = record { at = f2.at; same = f2.same }; behind = record { between = f3.rest; before = record { at = f3.at; same = f3.same }; behind = record { between = x.rest; before = x.spells; behind = record { between = f4.rest; before = record { at = f4.at; same = f4.same }; behind = record { between = f5.rest; before = record { at = f5.at; same = f5.same }; behind = y.spells } } } } } }; behind = y.behind; same = ap (define 0 m ps c) y.same }
block_lined (pipeline l m c) ts e =
    let f1 = front_of (named m) ts e in
    let f2 = front_of (mark sign.Assign) f1.rest f1.behind in
    let x = chain_lined c f2.rest f2.behind in
    let f3 = front_of newline x.rest x.behind in
    record { tree = pipeline f1.at m x.tree; rest = f3.rest; spells = record { between = f1.rest; before = f1.same; behind = record { between = f2.rest; before = record { at = f2.at; same = f2.same }; behind = record { between = x.rest; before = x.spells; behind = record { at = f3.at; same = f3.same } } } }; behind = f3.behind; same = ap (pipeline 0 m) x.same }
block_lined (alone c) ts e =
    let x = chain_lined c ts e in
    let f = front_of newline x.rest x.behind in
    record { tree = alone x.tree; rest = f.rest; spells = record { between = x.rest; before = x.spells; behind = record { at = f.at; same = f.same } }; behind = f.behind; same = ap alone x.same }

no_lexemes : (ts : List Lexeme) → Are [] ts → ts ≡ []
no_lexemes [] e = refl
no_lexemes (x ∷ ts) e = let h = e.same in cc

pub lines_of : (b : BlockTree) (ts : List Lexeme) → kinds ts ≡ map Some (spelling b) → Relined b ts
lines_of b ts h =
    let e : Are (spelling b) ts = record { same = h } in
    let x = block_lined b ts e in
    record { other = x.tree; spells = subst (SpellsBlock x.tree ts) (no_lexemes x.rest x.behind) x.spells; same = x.same }

pub spelling_law : SpellingLaw
spelling_law = record { kinds_of = kinds_of; lines_of = λ b ts w h. lines_of b ts h }
