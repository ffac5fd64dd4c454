-- What a tree spells with its lines is its spelling.
use Rattle.std.proofs.Common.{◌≡◌, ℕ, Bool, true, false, List, [], ◌∷◌, map, Option, Some, None, refl, ap, ◌∙◌}
use Rattle.tx_tree.specs.declared.operator.CompareOp.{CompareOp}
use Rattle.tx_tree.specs.declared.operator.CompareOp.TheVariants as op
use Rattle.tx_tree.specs.declared.symbol.Keyword.{Keyword}
use Rattle.tx_tree.specs.declared.symbol.Keyword.TheVariants as word
use Rattle.tx_tree.specs.declared.symbol.Mark.TheVariants as sign
use Rattle.tx_tree.specs.declared.target.Word.{Word}
use Rattle.tx_tree.specs.declared.target.Target.{Target}
use Rattle.tx_tree.specs.declared.target.Target.TheVariants as target
use Rattle.tx_tree.specs.Words.{binary_mark, augment_mark, unary_mark}
use Rattle.tx_tree.specs.Kind.{Kind, named, keyword, number, quoted, mark, newline, indent, dedent}
use Rattle.tx_tree.specs.Spell.{spell_comma, spell_more_names, spell_names, texts_of, spell_target, truth_word, spell_op, spell, spell_items, spell_more_items, spell_pairs, spell_more_pairs, spell_behind, spell_operands, spell_maybe, spell_condition, spell_statement, spell_body, spell_statements, spell_tail, spell_arg, spell_more_args, spell_arg_list, spell_args, spell_head_args, spell_head, spell_links, spell_chain_in, spell_block, spelling}
use Rattle.tx_tree.specs.Tree.{Tree, nil, truth, int, text, name, paren, tuple, bare_tuple, list, dict, comprehension, call, method, index, slice, unary, binary, compare, negation, conjunction, disjunction, conditional, Trees, none, more, PairTrees, no_pair, pair, Operands, no_operand, operand, MaybeTree, absent, present, Statement, pass, break, continue, return, assign, augment, express, branch, repeat, Body, line, indented, Statements, finish, next, Tail, nothing, otherwise, elif, ArgTree, lambda, plain, ArgTrees, HeadTree, LinkTree, BlockTree, define, pipeline, alone}
use Rattle.tx_parse.specs.Lexemes.{Lexeme, kinds}
use Rattle.tx_parse.specs.Spells.{Span, Lone, one, SpellsComma, SpellsWord, SpellsMore, SpellsList, SpellsNames, SpellsTarget, SpellsOp, Spells, SpellsItems, SpellsMoreItems, SpellsPairs, SpellsMorePairs, SpellsBehind, SpellsOperands, SpellsMaybe, SpellsCondition, SpellsStatement, SpellsBody, SpellsStatements, SpellsTail, SpellsArg, SpellsArgs, SpellsHeadArgs, SpellsHead, SpellsLinks, SpellsChainIn, SpellsBlock}

abbrev SpellsName : List ℕ → Span
SpellsName n = Lone (named n)

-- the kinds of lexemes, as a record so that they are found
pub record Are (ks : List Kind) (ts : List Lexeme) : Type 0 where
  pub same : kinds ts ≡ map Some ks

one_kinds : {ks : List Kind} (k : Kind) (l : ℕ) (ts r : List Lexeme) → one k l ts r → Are ks r → Are (k ∷ ks) ts
one_kinds k l ts r s e = record { same = ap kinds s ∙ ap (λ z. Some k ∷ z) e.same }

lone_kinds : {ks : List Kind} (k : Kind) (ts r : List Lexeme) → Lone k ts r → Are ks r → Are (k ∷ ks) ts
lone_kinds k ts r s e = record { same = ap kinds s.same ∙ ap (λ z. Some k ∷ z) e.same }

same_kinds : {ks : List Kind} (ts r : List Lexeme) → ts ≡ r → Are ks r → Are ks ts
same_kinds ts r s e = record { same = ap kinds s ∙ e.same }

comma_kinds : {ks : List Kind} (c : Bool) (ts r : List Lexeme) → SpellsComma c ts r → Are ks r → Are (spell_comma c ks) ts
comma_kinds true ts r s e = lone_kinds (mark sign.Comma) ts r s e
comma_kinds false ts r s e = same_kinds ts r s e

more_words_kinds : {ks : List Kind} (ws : List Word) (c : Bool) (ts r : List Lexeme) → SpellsMore SpellsWord ws c ts r → Are ks r → Are (spell_more_names (texts_of ws) c ks) ts
more_words_kinds [] c ts r s e = comma_kinds c ts r s e
more_words_kinds (w ∷ ws) c ts r s e = let x = s.behind in lone_kinds (mark sign.Comma) ts s.between s.before (one_kinds (named w.text) w.line s.between x.between x.before (more_words_kinds ws c x.between r x.behind e))

words_kinds : {ks : List Kind} (ws : List Word) (c : Bool) (ts r : List Lexeme) → SpellsList SpellsWord ws c ts r → Are ks r → Are (spell_names (texts_of ws) c ks) ts
words_kinds [] c ts r s e = comma_kinds c ts r s e
words_kinds (w ∷ ws) c ts r s e = one_kinds (named w.text) w.line ts s.between s.before (more_words_kinds ws c s.between r s.behind e)

more_names_kinds : {ks : List Kind} (ns : List (List ℕ)) (c : Bool) (ts r : List Lexeme) → SpellsMore SpellsName ns c ts r → Are ks r → Are (spell_more_names ns c ks) ts
more_names_kinds [] c ts r s e = comma_kinds c ts r s e
more_names_kinds (n ∷ ns) c ts r s e = let x = s.behind in lone_kinds (mark sign.Comma) ts s.between s.before (lone_kinds (named n) s.between x.between x.before (more_names_kinds ns c x.between r x.behind e))

names_kinds : {ks : List Kind} (ns : List (List ℕ)) (c : Bool) (ts r : List Lexeme) → SpellsNames ns c ts r → Are ks r → Are (spell_names ns c ks) ts
names_kinds [] c ts r s e = comma_kinds c ts r s e
names_kinds (n ∷ ns) c ts r s e = lone_kinds (named n) ts s.between s.before (more_names_kinds ns c s.between r s.behind e)

target_kinds : {ks : List Kind} (t : Target) (ts r : List Lexeme) → SpellsTarget t ts r → Are ks r → Are (spell_target t ks) ts
target_kinds (target.Name w) ts r s e = one_kinds (named w.text) w.line ts r s e
target_kinds (target.Names ws c) ts r s e = words_kinds ws c ts r s e
target_kinds (target.Bracketed l ws c) ts r s e = let x = s.behind in one_kinds (mark sign.Open) l ts s.between s.before (words_kinds ws c s.between x.between x.before (lone_kinds (mark sign.Close) x.between r x.behind e))

op_kinds : {ks : List Kind} (o : CompareOp) (ts r : List Lexeme) → SpellsOp o ts r → Are ks r → Are (spell_op o ks) ts
op_kinds op.Equal ts r s e = lone_kinds (mark sign.Equal) ts r s e
op_kinds op.NotEqual ts r s e = lone_kinds (mark sign.NotEqual) ts r s e
op_kinds op.Less ts r s e = lone_kinds (mark sign.Less) ts r s e
op_kinds op.LessEqual ts r s e = lone_kinds (mark sign.LessEqual) ts r s e
op_kinds op.Greater ts r s e = lone_kinds (mark sign.Greater) ts r s e
op_kinds op.GreaterEqual ts r s e = lone_kinds (mark sign.GreaterEqual) ts r s e
op_kinds op.In ts r s e = lone_kinds (keyword word.In) ts r s e
op_kinds op.NotIn ts r s e = lone_kinds (keyword word.Not) ts s.between s.before (lone_kinds (keyword word.In) s.between r s.behind e)
op_kinds op.Is ts r s e = lone_kinds (keyword word.Is) ts r s e
op_kinds op.IsNot ts r s e = lone_kinds (keyword word.Is) ts s.between s.before (lone_kinds (keyword word.Not) s.between r s.behind e)

mutual
  tree_kinds : {ks : List Kind} (t : Tree) (ts r : List Lexeme) → Spells t ts r → Are ks r → Are (spell t ks) ts
  tree_kinds (nil l) ts r s e = one_kinds (keyword word.None) l ts r s (e)
  tree_kinds (truth l b) ts r s e = one_kinds (keyword (truth_word b)) l ts r s (e)
  tree_kinds (int l v) ts r s e = one_kinds (number v) l ts r s (e)
  tree_kinds (text l v) ts r s e = one_kinds (quoted v) l ts r s (e)
  tree_kinds (name l v) ts r s e = one_kinds (named v) l ts r s (e)
  tree_kinds (paren l a) ts r s e = let x1 = s.behind in one_kinds (mark sign.Open) l ts s.between s.before (tree_kinds a s.between x1.between x1.before (lone_kinds (mark sign.Close) x1.between r x1.behind (e)))
  tree_kinds (tuple l es c) ts r s e = let x1 = s.behind in one_kinds (mark sign.Open) l ts s.between s.before (items_kinds es c s.between x1.between x1.before (lone_kinds (mark sign.Close) x1.between r x1.behind (e)))
  tree_kinds (bare_tuple l es c) ts r s e = items_kinds es c ts r s.span (e)
  tree_kinds (list l es c) ts r s e = let x1 = s.behind in one_kinds (mark sign.OpenSquare) l ts s.between s.before (items_kinds es c s.between x1.between x1.before (lone_kinds (mark sign.CloseSquare) x1.between r x1.behind (e)))
  tree_kinds (dict l ps c) ts r s e = let x1 = s.behind in one_kinds (mark sign.OpenBrace) l ts s.between s.before (pairs_kinds ps c s.between x1.between x1.before (lone_kinds (mark sign.CloseBrace) x1.between r x1.behind (e)))
  tree_kinds (comprehension l a t i c) ts r s e = let x1 = s.behind in let x2 = x1.behind in let x3 = x2.behind in let x4 = x3.behind in let x5 = x4.behind in let x6 = x5.behind in one_kinds (mark sign.OpenSquare) l ts s.between s.before (tree_kinds a s.between x1.between x1.before (lone_kinds (keyword word.For) x1.between x2.between x2.before (target_kinds t x2.between x3.between x3.before (lone_kinds (keyword word.In) x3.between x4.between x4.before (tree_kinds i x4.between x5.between x5.before (condition_kinds c x5.between x6.between x6.before (lone_kinds (mark sign.CloseSquare) x6.between r x6.behind (e))))))))
  tree_kinds (call l m es c) ts r s e = let x1 = s.behind in let x2 = x1.behind in one_kinds (named m) l ts s.between s.before (lone_kinds (mark sign.Open) s.between x1.between x1.before (items_kinds es c x1.between x2.between x2.before (lone_kinds (mark sign.Close) x2.between r x2.behind (e))))
  tree_kinds (method l a w es c) ts r s e = let x0 = s.span in let x1 = x0.behind in let x2 = x1.behind in let x3 = x2.behind in let x4 = x3.behind in tree_kinds a ts x0.between x0.before (lone_kinds (mark sign.Dot) x0.between x1.between x1.before (one_kinds (named w.text) w.line x1.between x2.between x2.before (lone_kinds (mark sign.Open) x2.between x3.between x3.before (items_kinds es c x3.between x4.between x4.before (lone_kinds (mark sign.Close) x4.between r x4.behind (e))))))
  tree_kinds (index l a i) ts r s e = let x0 = s.span in let x1 = x0.behind in let x2 = x1.behind in tree_kinds a ts x0.between x0.before (lone_kinds (mark sign.OpenSquare) x0.between x1.between x1.before (tree_kinds i x1.between x2.between x2.before (lone_kinds (mark sign.CloseSquare) x2.between r x2.behind (e))))
  tree_kinds (slice l a i j) ts r s e = let x0 = s.span in let x1 = x0.behind in let x2 = x1.behind in let x3 = x2.behind in let x4 = x3.behind in tree_kinds a ts x0.between x0.before (lone_kinds (mark sign.OpenSquare) x0.between x1.between x1.before (maybe_kinds i x1.between x2.between x2.before (lone_kinds (mark sign.Colon) x2.between x3.between x3.before (maybe_kinds j x3.between x4.between x4.before (lone_kinds (mark sign.CloseSquare) x4.between r x4.behind (e))))))
  tree_kinds (unary l o a) ts r s e = one_kinds (mark (unary_mark o)) l ts s.between s.before (tree_kinds a s.between r s.behind (e))
  tree_kinds (binary l a o b) ts r s e = let x0 = s.span in let x1 = x0.behind in tree_kinds a ts x0.between x0.before (lone_kinds (mark (binary_mark o)) x0.between x1.between x1.before (tree_kinds b x1.between r x1.behind (e)))
  tree_kinds (compare l a os) ts r s e = let x0 = s.span in tree_kinds a ts x0.between x0.before (operands_kinds os x0.between r x0.behind (e))
  tree_kinds (negation l a) ts r s e = one_kinds (keyword word.Not) l ts s.between s.before (tree_kinds a s.between r s.behind (e))
  tree_kinds (conjunction l a es) ts r s e = let x0 = s.span in tree_kinds a ts x0.between x0.before (behind_kinds word.And es x0.between r x0.behind (e))
  tree_kinds (disjunction l a es) ts r s e = let x0 = s.span in tree_kinds a ts x0.between x0.before (behind_kinds word.Or es x0.between r x0.behind (e))
  tree_kinds (conditional l a t b) ts r s e = let x0 = s.span in let x1 = x0.behind in let x2 = x1.behind in let x3 = x2.behind in tree_kinds a ts x0.between x0.before (lone_kinds (keyword word.If) x0.between x1.between x1.before (tree_kinds t x1.between x2.between x2.before (lone_kinds (keyword word.Else) x2.between x3.between x3.before (tree_kinds b x3.between r x3.behind (e)))))

  items_kinds : {ks : List Kind} (es : Trees) (c : Bool) (ts r : List Lexeme) → SpellsItems es c ts r → Are ks r → Are (spell_items es c ks) ts
  items_kinds none c ts r s e = comma_kinds c ts r s e
  items_kinds (more a es) c ts r s e = tree_kinds a ts s.between s.before (more_items_kinds es c s.between r s.behind (e))

  more_items_kinds : {ks : List Kind} (es : Trees) (c : Bool) (ts r : List Lexeme) → SpellsMoreItems es c ts r → Are ks r → Are (spell_more_items es c ks) ts
  more_items_kinds none c ts r s e = comma_kinds c ts r s e
  more_items_kinds (more a es) c ts r s e = let x1 = s.behind in lone_kinds (mark sign.Comma) ts s.between s.before (tree_kinds a s.between x1.between x1.before (more_items_kinds es c x1.between r x1.behind (e)))

  pairs_kinds : {ks : List Kind} (ps : PairTrees) (c : Bool) (ts r : List Lexeme) → SpellsPairs ps c ts r → Are ks r → Are (spell_pairs ps c ks) ts
  pairs_kinds no_pair c ts r s e = comma_kinds c ts r s e
  pairs_kinds (pair a b ps) c ts r s e = let p = s.before in let q = p.behind in tree_kinds a ts p.between p.before (lone_kinds (mark sign.Colon) p.between q.between q.before (tree_kinds b q.between s.between q.behind (more_pairs_kinds ps c s.between r s.behind e)))

  more_pairs_kinds : {ks : List Kind} (ps : PairTrees) (c : Bool) (ts r : List Lexeme) → SpellsMorePairs ps c ts r → Are ks r → Are (spell_more_pairs ps c ks) ts
  more_pairs_kinds no_pair c ts r s e = comma_kinds c ts r s e
  more_pairs_kinds (pair a b ps) c ts r s e = let x = s.behind in let p = x.before in let q = p.behind in lone_kinds (mark sign.Comma) ts s.between s.before (tree_kinds a s.between p.between p.before (lone_kinds (mark sign.Colon) p.between q.between q.before (tree_kinds b q.between x.between q.behind (more_pairs_kinds ps c x.between r x.behind e))))

  behind_kinds : {ks : List Kind} (w : Keyword) (es : Trees) (ts r : List Lexeme) → SpellsBehind w es ts r → Are ks r → Are (spell_behind w es ks) ts
  behind_kinds w none ts r s e = same_kinds ts r s e
  behind_kinds w (more a es) ts r s e = let x1 = s.behind in lone_kinds (keyword w) ts s.between s.before (tree_kinds a s.between x1.between x1.before (behind_kinds w es x1.between r x1.behind (e)))

  operands_kinds : {ks : List Kind} (os : Operands) (ts r : List Lexeme) → SpellsOperands os ts r → Are ks r → Are (spell_operands os ks) ts
  operands_kinds no_operand ts r s e = same_kinds ts r s e
  operands_kinds (operand o a os) ts r s e = let x1 = s.behind in op_kinds o ts s.between s.before (tree_kinds a s.between x1.between x1.before (operands_kinds os x1.between r x1.behind (e)))

  maybe_kinds : {ks : List Kind} (m : MaybeTree) (ts r : List Lexeme) → SpellsMaybe m ts r → Are ks r → Are (spell_maybe m ks) ts
  maybe_kinds absent ts r s e = same_kinds ts r s e
  maybe_kinds (present a) ts r s e = tree_kinds a ts r s e

  condition_kinds : {ks : List Kind} (m : MaybeTree) (ts r : List Lexeme) → SpellsCondition m ts r → Are ks r → Are (spell_condition m ks) ts
  condition_kinds absent ts r s e = same_kinds ts r s e
  condition_kinds (present a) ts r s e = lone_kinds (keyword word.If) ts s.between s.before (tree_kinds a s.between r s.behind (e))

mutual
  statement_kinds : {ks : List Kind} (t : Statement) (ts r : List Lexeme) → SpellsStatement t ts r → Are ks r → Are (spell_statement t ks) ts
  statement_kinds (pass l) ts r s e = one_kinds (keyword word.Pass) l ts s.between s.before (lone_kinds (newline) s.between r s.behind (e))
  statement_kinds (break l) ts r s e = one_kinds (keyword word.Break) l ts s.between s.before (lone_kinds (newline) s.between r s.behind (e))
  statement_kinds (continue l) ts r s e = one_kinds (keyword word.Continue) l ts s.between s.before (lone_kinds (newline) s.between r s.behind (e))
  statement_kinds (return l a) ts r s e = let x1 = s.behind in one_kinds (keyword word.Return) l ts s.between s.before (maybe_kinds a s.between x1.between x1.before (lone_kinds (newline) x1.between r x1.behind (e)))
  statement_kinds (assign l t a) ts r s e = let x0 = s.span in let x1 = x0.behind in let x2 = x1.behind in target_kinds t ts x0.between x0.before (lone_kinds (mark sign.Assign) x0.between x1.between x1.before (tree_kinds a x1.between x2.between x2.before (lone_kinds (newline) x2.between r x2.behind (e))))
  statement_kinds (augment l m o a) ts r s e = let x1 = s.behind in let x2 = x1.behind in one_kinds (named m) l ts s.between s.before (lone_kinds (mark (augment_mark o)) s.between x1.between x1.before (tree_kinds a x1.between x2.between x2.before (lone_kinds (newline) x2.between r x2.behind (e))))
  statement_kinds (express l a) ts r s e = let x0 = s.span in tree_kinds a ts x0.between x0.before (lone_kinds (newline) x0.between r x0.behind (e))
  statement_kinds (branch l a b t) ts r s e = let x1 = s.behind in let x2 = x1.behind in let x3 = x2.behind in one_kinds (keyword word.If) l ts s.between s.before (tree_kinds a s.between x1.between x1.before (lone_kinds (mark sign.Colon) x1.between x2.between x2.before (body_kinds b x2.between x3.between x3.before (tail_kinds t x3.between r x3.behind (e)))))
  statement_kinds (repeat l t a b) ts r s e = let x1 = s.behind in let x2 = x1.behind in let x3 = x2.behind in let x4 = x3.behind in one_kinds (keyword word.For) l ts s.between s.before (target_kinds t s.between x1.between x1.before (lone_kinds (keyword word.In) x1.between x2.between x2.before (tree_kinds a x2.between x3.between x3.before (lone_kinds (mark sign.Colon) x3.between x4.between x4.before (body_kinds b x4.between r x4.behind (e))))))

  body_kinds : {ks : List Kind} (b : Body) (ts r : List Lexeme) → SpellsBody b ts r → Are ks r → Are (spell_body b ks) ts
  body_kinds (line t) ts r s e = statement_kinds t ts r s e
  body_kinds (indented ss) ts r s e = let x1 = s.behind in let x2 = x1.behind in lone_kinds (newline) ts s.between s.before (lone_kinds (indent) s.between x1.between x1.before (statements_kinds ss x1.between x2.between x2.before (lone_kinds (dedent) x2.between r x2.behind (e))))

  statements_kinds : {ks : List Kind} (ss : Statements) (ts r : List Lexeme) → SpellsStatements ss ts r → Are ks r → Are (spell_statements ss ks) ts
  statements_kinds finish ts r s e = same_kinds ts r s e
  statements_kinds (next t ss) ts r s e = statement_kinds t ts s.between s.before (statements_kinds ss s.between r s.behind (e))

  tail_kinds : {ks : List Kind} (t : Tail) (ts r : List Lexeme) → SpellsTail t ts r → Are ks r → Are (spell_tail t ks) ts
  tail_kinds nothing ts r s e = same_kinds ts r s e
  tail_kinds (otherwise b) ts r s e = let x1 = s.behind in lone_kinds (keyword word.Else) ts s.between s.before (lone_kinds (mark sign.Colon) s.between x1.between x1.before (body_kinds b x1.between r x1.behind (e)))
  tail_kinds (elif a b t) ts r s e = let x1 = s.behind in let x2 = x1.behind in let x3 = x2.behind in lone_kinds (keyword word.Elif) ts s.between s.before (tree_kinds a s.between x1.between x1.before (lone_kinds (mark sign.Colon) x1.between x2.between x2.before (body_kinds b x2.between x3.between x3.before (tail_kinds t x3.between r x3.behind (e)))))

arg_kinds : {ks : List Kind} (a : ArgTree) (ts r : List Lexeme) → SpellsArg a ts r → Are ks r → Are (spell_arg a ks) ts
arg_kinds (lambda l params a) ts r s e = let x1 = s.behind in let x2 = x1.behind in one_kinds (keyword word.Lambda) l ts s.between s.before (names_kinds params false s.between x1.between x1.before (lone_kinds (mark sign.Colon) x1.between x2.between x2.before (tree_kinds a x2.between r x2.behind (e))))
arg_kinds (plain a) ts r s e = tree_kinds a ts r s e

more_args_kinds : {ks : List Kind} (xs : List ArgTree) (c : Bool) (ts r : List Lexeme) → SpellsMore SpellsArg xs c ts r → Are ks r → Are (spell_more_args xs c ks) ts
more_args_kinds [] c ts r s e = comma_kinds c ts r s e
more_args_kinds (a ∷ xs) c ts r s e = let x = s.behind in lone_kinds (mark sign.Comma) ts s.between s.before (arg_kinds a s.between x.between x.before (more_args_kinds xs c x.between r x.behind e))

arg_list_kinds : {ks : List Kind} (xs : List ArgTree) (c : Bool) (ts r : List Lexeme) → SpellsList SpellsArg xs c ts r → Are ks r → Are (spell_arg_list xs c ks) ts
arg_list_kinds [] c ts r s e = comma_kinds c ts r s e
arg_list_kinds (a ∷ xs) c ts r s e = arg_kinds a ts s.between s.before (more_args_kinds xs c s.between r s.behind e)

args_kinds : {ks : List Kind} (a : ArgTrees) (ts r : List Lexeme) → SpellsArgs a ts r → Are ks r → Are (spell_args a ks) ts
args_kinds a ts r s e = let x = s.behind in lone_kinds (mark sign.Open) ts s.between s.before (arg_list_kinds a.items a.comma s.between x.between x.before (lone_kinds (mark sign.Close) x.between r x.behind e))

head_args_kinds : {ks : List Kind} (o : Option ArgTrees) (ts r : List Lexeme) → SpellsHeadArgs o ts r → Are ks r → Are (spell_head_args o ks) ts
head_args_kinds None ts r s e = same_kinds ts r s e
head_args_kinds (Some a) ts r s e = args_kinds a ts r s e

head_kinds : {ks : List Kind} (h : HeadTree) (ts r : List Lexeme) → SpellsHead h ts r → Are ks r → Are (spell_head h ks) ts
head_kinds h ts r s e = one_kinds (named h.word.text) h.word.line ts s.between s.before (head_args_kinds h.args s.between r s.behind e)

links_kinds : {ks : List Kind} (xs : List LinkTree) (ts r : List Lexeme) → SpellsLinks xs ts r → Are ks r → Are (spell_links xs ks) ts
links_kinds [] ts r s e = same_kinds ts r s e
links_kinds (x ∷ xs) ts r s e =
    let a = s.before in
    let b = a.behind in
    one_kinds (mark sign.Dot) x.line ts a.between a.before (one_kinds (named x.word.text) x.word.line a.between b.between b.before (args_kinds x.args b.between s.between b.behind (links_kinds xs s.between r s.behind e)))

chain_in_kinds : {ks : List Kind} (b : Bool) (h : HeadTree) (xs : List LinkTree) (ts r : List Lexeme) → SpellsChainIn b h xs ts r → Are ks r → Are (spell_chain_in b h xs ks) ts
chain_in_kinds true h xs ts r s e = let x = s.behind in let y = x.behind in lone_kinds (mark sign.Open) ts s.between s.before (head_kinds h s.between x.between x.before (links_kinds xs x.between y.between y.before (lone_kinds (mark sign.Close) y.between r y.behind e)))
chain_in_kinds false h xs ts r s e = head_kinds h ts s.between s.before (links_kinds xs s.between r s.behind e)

block_kinds : {ks : List Kind} (b : BlockTree) (ts r : List Lexeme) → SpellsBlock b ts r → Are ks r → Are (spell_block b ks) ts
block_kinds (define l m params c b) ts r s e = let x1 = s.behind in let x2 = x1.behind in let x3 = x2.behind in let x4 = x3.behind in let x5 = x4.behind in one_kinds (keyword word.Def) l ts s.between s.before (lone_kinds (named m) s.between x1.between x1.before (lone_kinds (mark sign.Open) x1.between x2.between x2.before (names_kinds params c x2.between x3.between x3.before (lone_kinds (mark sign.Close) x3.between x4.between x4.before (lone_kinds (mark sign.Colon) x4.between x5.between x5.before (body_kinds b x5.between r x5.behind (e)))))))
block_kinds (pipeline l m c) ts r s e =
    let x = s.behind in
    let y = x.behind in
    let k = y.before in
    one_kinds (named m) l ts s.between s.before (lone_kinds (mark sign.Assign) s.between x.between x.before (chain_in_kinds c.in_brackets c.head c.links x.between y.between k.span (lone_kinds newline y.between r y.behind e)))
block_kinds (alone c) ts r s e = let k = s.before in chain_in_kinds c.in_brackets c.head c.links ts s.between k.span (lone_kinds newline s.between r s.behind e)

pub kinds_of : (b : BlockTree) (ts : List Lexeme) → SpellsBlock b ts [] → kinds ts ≡ map Some (spelling b)
kinds_of b ts s = let e : Are [] [] = record { same = refl } in let x = block_kinds b ts [] s e in x.same
