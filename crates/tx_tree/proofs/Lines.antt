-- The spelling, the depth and well-formedness leave the lines out.
use Rattle.std.proofs.Common.{◌≡◌, ◌+◌, max, ℕ, suc, Bool, true, false, not, ◌&&◌, ◌||◌, List, [], ◌∷◌, Option, Some, None, map, option_map, refl, ap, ◌∙◌, nat_le}
use Rattle.std.specs.List.{list_all}
use Rattle.tx_tree.specs.declared.symbol.Keyword.{Keyword}
use Rattle.tx_tree.specs.declared.symbol.Keyword.TheVariants.{And, Def, Elif, Else, For, If, In, Lambda, Or, Return, Not}
use Rattle.tx_tree.specs.declared.symbol.Mark.TheVariants.{Open, Close, OpenSquare, CloseSquare, OpenBrace, CloseBrace, Comma, Colon, Dot, Assign}
use Rattle.tx_tree.specs.declared.target.Word.{Word}
use Rattle.tx_tree.specs.declared.target.Target.{Target}
use Rattle.tx_tree.specs.declared.target.Target.TheVariants as target
use Rattle.tx_tree.specs.Words.{binary_mark, augment_mark, unary_mark}
use Rattle.tx_tree.specs.Kind.{Kind, named, keyword, mark, newline, indent, dedent}
use Rattle.tx_tree.specs.Spell.{spell_names, texts_of, spell_target, spell_op, spell, spell_items, spell_more_items, spell_pairs, spell_more_pairs, spell_behind, spell_operands, spell_maybe, spell_condition, spell_statement, spell_body, spell_statements, spell_tail, spell_arg, spell_more_args, spell_arg_list, spell_args, spell_head_args, spell_head, spell_links, spell_chain_in, spelling}
use Rattle.tx_tree.specs.Depth.{depth, depth_each, depth_pairs, depth_operands, depth_maybe, depth_statement, depth_body, depth_statements, depth_tail, depth_arg, depth_args, depth_head, depth_links, depth_block}
use Rattle.tx_tree.specs.Form.{amount, amount_of_trees, amount_of_pairs, amount_of_operands, amount_of_statements, has_items, may_end, makes_tuple, is_listed, level, level_of_op, fits, fits_each, fits_pairs, fits_operands, fits_maybe, at_tests, at_test, at_or, at_and, at_not, at_sum, at_unary, at_postfix, derived, derived_target, is_name, are_names, target_is_named, has_names, is_literal, is_identity, is_nil, identities_with_none, compares_with_none, sound, fine, fine_each, fine_pairs, fine_operands, fine_maybe, is_simple, derived_body, derived_tail, derived_statement, statement_has_names, is_in_loop, sound_statement, fine_statement, fine_body, fine_statements, fine_tail, are_params, fine_arg, fine_args, fine_head_args, fine_link, fine_chain, well_formed}
use Rattle.tx_tree.specs.Bare.{bare_word, bare_target, bare, bare_each, bare_pairs, bare_operands, bare_maybe, bare_statement, bare_body, bare_statements, bare_tail, bare_arg, bare_args, bare_head, bare_link, bare_chain, bare_block}
use Rattle.tx_tree.specs.Tree.{Tree, nil, truth, int, text, name, paren, tuple, bare_tuple, list, dict, comprehension, call, method, index, slice, unary, binary, compare, negation, conjunction, disjunction, conditional, Trees, none, more, PairTrees, no_pair, pair, Operands, no_operand, operand, MaybeTree, absent, present, Statement, pass, break, continue, return, assign, augment, express, branch, repeat, Body, line, indented, Statements, finish, next, Tail, nothing, otherwise, elif, ArgTree, lambda, plain, ArgTrees, HeadTree, LinkTree, ChainTree, BlockTree, define, pipeline, alone}

-- ---- depth

deeper : {m n : ℕ} → m ≡ n → (1 + m) ≡ (1 + n)
deeper e = ap (λ k. 1 + k) e

greater : {a b c d : ℕ} → a ≡ b → c ≡ d → max a c ≡ max b d
greater {b = b} {c = c} e f = ap (λ k. max k c) e ∙ ap (λ k. max b k) f

mutual
  depth_bare : (t : Tree) → depth (bare t) ≡ depth t
  depth_bare (nil l) = refl
  depth_bare (truth l b) = refl
  depth_bare (int l n) = refl
  depth_bare (text l t) = refl
  depth_bare (name l n) = refl
  depth_bare (paren l a) = deeper (depth_bare a)
  depth_bare (tuple l es comma) = deeper (depth_bare_each es)
  depth_bare (bare_tuple l es comma) = deeper (depth_bare_each es)
  depth_bare (list l es comma) = deeper (depth_bare_each es)
  depth_bare (dict l ps comma) = deeper (depth_bare_pairs ps)
  depth_bare (comprehension l a t i c) = deeper (greater (depth_bare a) (greater (depth_bare i) (depth_bare_maybe c)))
  depth_bare (call l n es comma) = deeper (depth_bare_each es)
  depth_bare (method l a w es comma) = deeper (greater (depth_bare a) (depth_bare_each es))
  depth_bare (index l a i) = deeper (greater (depth_bare a) (depth_bare i))
  depth_bare (slice l a i j) = deeper (greater (depth_bare a) (greater (depth_bare_maybe i) (depth_bare_maybe j)))
  depth_bare (unary l o a) = deeper (depth_bare a)
  depth_bare (binary l a o b) = deeper (greater (depth_bare a) (depth_bare b))
  depth_bare (compare l a os) = deeper (greater (depth_bare a) (depth_bare_operands os))
  depth_bare (negation l a) = deeper (depth_bare a)
  depth_bare (conjunction l a es) = deeper (greater (depth_bare a) (depth_bare_each es))
  depth_bare (disjunction l a es) = deeper (greater (depth_bare a) (depth_bare_each es))
  depth_bare (conditional l a t b) = deeper (greater (depth_bare a) (greater (depth_bare t) (depth_bare b)))

  depth_bare_each : (es : Trees) → depth_each (bare_each es) ≡ depth_each es
  depth_bare_each none = refl
  depth_bare_each (more a es) = greater (depth_bare a) (depth_bare_each es)

  depth_bare_pairs : (ps : PairTrees) → depth_pairs (bare_pairs ps) ≡ depth_pairs ps
  depth_bare_pairs no_pair = refl
  depth_bare_pairs (pair a b ps) = greater (greater (depth_bare a) (depth_bare b)) (depth_bare_pairs ps)

  depth_bare_operands : (os : Operands) → depth_operands (bare_operands os) ≡ depth_operands os
  depth_bare_operands no_operand = refl
  depth_bare_operands (operand o a os) = greater (depth_bare a) (depth_bare_operands os)

  depth_bare_maybe : (m : MaybeTree) → depth_maybe (bare_maybe m) ≡ depth_maybe m
  depth_bare_maybe absent = refl
  depth_bare_maybe (present a) = depth_bare a

mutual
  depth_bare_statement : (t : Statement) → depth_statement (bare_statement t) ≡ depth_statement t
  depth_bare_statement (pass l) = refl
  depth_bare_statement (break l) = refl
  depth_bare_statement (continue l) = refl
  depth_bare_statement (return l a) = deeper (depth_bare_maybe a)
  depth_bare_statement (assign l t a) = deeper (depth_bare a)
  depth_bare_statement (augment l n o a) = deeper (depth_bare a)
  depth_bare_statement (express l a) = deeper (depth_bare a)
  depth_bare_statement (branch l a b t) = deeper (greater (depth_bare a) (greater (depth_bare_body b) (depth_bare_tail t)))
  depth_bare_statement (repeat l t a b) = deeper (greater (depth_bare a) (depth_bare_body b))

  depth_bare_body : (b : Body) → depth_body (bare_body b) ≡ depth_body b
  depth_bare_body (line t) = depth_bare_statement t
  depth_bare_body (indented ts) = depth_bare_statements ts

  depth_bare_statements : (ts : Statements) → depth_statements (bare_statements ts) ≡ depth_statements ts
  depth_bare_statements finish = refl
  depth_bare_statements (next t ts) = greater (depth_bare_statement t) (depth_bare_statements ts)

  depth_bare_tail : (t : Tail) → depth_tail (bare_tail t) ≡ depth_tail t
  depth_bare_tail nothing = refl
  depth_bare_tail (otherwise b) = depth_bare_body b
  depth_bare_tail (elif a b t) = greater (depth_bare a) (greater (depth_bare_body b) (depth_bare_tail t))

depth_bare_arg : (a : ArgTree) → depth_arg (bare_arg a) ≡ depth_arg a
depth_bare_arg (lambda l params a) = depth_bare a
depth_bare_arg (plain a) = depth_bare a

depth_bare_args : (xs : List ArgTree) → depth_args (map bare_arg xs) ≡ depth_args xs
depth_bare_args [] = refl
depth_bare_args (x ∷ xs) = greater (depth_bare_arg x) (depth_bare_args xs)

depth_bare_head : (x : Option ArgTrees) → depth_head (option_map bare_args x) ≡ depth_head x
depth_bare_head None = refl
depth_bare_head (Some x) = depth_bare_args x.items

depth_bare_links : (xs : List LinkTree) → depth_links (map bare_link xs) ≡ depth_links xs
depth_bare_links [] = refl
depth_bare_links (x ∷ xs) = greater (depth_bare_args x.args.items) (depth_bare_links xs)

pub depth_bare_block : (b : BlockTree) → depth_block (bare_block b) ≡ depth_block b
depth_bare_block (define l n params comma b) = depth_bare_body b
depth_bare_block (pipeline l n c) = greater (depth_bare_head c.head.args) (depth_bare_links c.links)
depth_bare_block (alone c) = greater (depth_bare_head c.head.args) (depth_bare_links c.links)

-- ---- spelling

texts_bare : (ws : List Word) → texts_of (map bare_word ws) ≡ texts_of ws
texts_bare [] = refl
texts_bare (w ∷ ws) = ap (λ ts. w.text ∷ ts) (texts_bare ws)

spell_bare_target : (t : Target) (ks : List Kind) → spell_target (bare_target t) ks ≡ spell_target t ks
spell_bare_target (target.Name w) ks = refl
spell_bare_target (target.Names ws comma) ks = ap (λ ts. spell_names ts comma ks) (texts_bare ws)
spell_bare_target (target.Bracketed l ws comma) ks = ap (λ ts. mark Open ∷ spell_names ts comma (mark Close ∷ ks)) (texts_bare ws)

-- a part, and what stands behind it
both : {f g : List Kind → List Kind} {r s : List Kind} → ((ks : List Kind) → f ks ≡ g ks) → r ≡ s → f r ≡ g s
both {f = f} {s = s} e h = ap f h ∙ e s

mutual
  spell_bare : (t : Tree) (ks : List Kind) → spell (bare t) ks ≡ spell t ks
  spell_bare (nil l) ks = refl
  spell_bare (truth l b) ks = refl
  spell_bare (int l n) ks = refl
  spell_bare (text l t) ks = refl
  spell_bare (name l n) ks = refl
  spell_bare (paren l a) ks = ap (λ r. mark Open ∷ r) (spell_bare a (mark Close ∷ ks))
  spell_bare (tuple l es comma) ks = ap (λ r. mark Open ∷ r) (spell_bare_items es comma (mark Close ∷ ks))
  spell_bare (bare_tuple l es comma) ks = spell_bare_items es comma ks
  spell_bare (list l es comma) ks = ap (λ r. mark OpenSquare ∷ r) (spell_bare_items es comma (mark CloseSquare ∷ ks))
  spell_bare (dict l ps comma) ks = ap (λ r. mark OpenBrace ∷ r) (spell_bare_pairs ps comma (mark CloseBrace ∷ ks))
  spell_bare (comprehension l a t i c) ks = ap (λ r. mark OpenSquare ∷ r) (both {f = spell (bare a)} {g = spell a} (spell_bare a) (ap (λ r. keyword For ∷ r) (both {f = spell_target (bare_target t)} {g = spell_target t} (spell_bare_target t) (ap (λ r. keyword In ∷ r) (both {f = spell (bare i)} {g = spell i} (spell_bare i) (spell_bare_condition c (mark CloseSquare ∷ ks)))))))
  spell_bare (call l n es comma) ks = ap (λ r. named n ∷ mark Open ∷ r) (spell_bare_items es comma (mark Close ∷ ks))
  spell_bare (method l a w es comma) ks = both {f = spell (bare a)} {g = spell a} (spell_bare a) (ap (λ r. mark Dot ∷ named w.text ∷ mark Open ∷ r) (spell_bare_items es comma (mark Close ∷ ks)))
  spell_bare (index l a i) ks = both {f = spell (bare a)} {g = spell a} (spell_bare a) (ap (λ r. mark OpenSquare ∷ r) (spell_bare i (mark CloseSquare ∷ ks)))
  spell_bare (slice l a i j) ks = both {f = spell (bare a)} {g = spell a} (spell_bare a) (ap (λ r. mark OpenSquare ∷ r) (both {f = spell_maybe (bare_maybe i)} {g = spell_maybe i} (spell_bare_maybe i) (ap (λ r. mark Colon ∷ r) (spell_bare_maybe j (mark CloseSquare ∷ ks)))))
  spell_bare (unary l o a) ks = ap (λ r. mark (unary_mark o) ∷ r) (spell_bare a ks)
  spell_bare (binary l a o b) ks = both {f = spell (bare a)} {g = spell a} (spell_bare a) (ap (λ r. mark (binary_mark o) ∷ r) (spell_bare b ks))
  spell_bare (compare l a os) ks = both {f = spell (bare a)} {g = spell a} (spell_bare a) (spell_bare_operands os ks)
  spell_bare (negation l a) ks = ap (λ r. keyword Not ∷ r) (spell_bare a ks)
  spell_bare (conjunction l a es) ks = both {f = spell (bare a)} {g = spell a} (spell_bare a) (spell_bare_behind And es ks)
  spell_bare (disjunction l a es) ks = both {f = spell (bare a)} {g = spell a} (spell_bare a) (spell_bare_behind Or es ks)
  spell_bare (conditional l a t b) ks = both {f = spell (bare a)} {g = spell a} (spell_bare a) (ap (λ r. keyword If ∷ r) (both {f = spell (bare t)} {g = spell t} (spell_bare t) (ap (λ r. keyword Else ∷ r) (spell_bare b ks))))

  spell_bare_items : (es : Trees) (comma : Bool) (ks : List Kind) → spell_items (bare_each es) comma ks ≡ spell_items es comma ks
  spell_bare_items none comma ks = refl
  spell_bare_items (more a es) comma ks = both {f = spell (bare a)} {g = spell a} (spell_bare a) (spell_bare_more es comma ks)

  spell_bare_more : (es : Trees) (comma : Bool) (ks : List Kind) → spell_more_items (bare_each es) comma ks ≡ spell_more_items es comma ks
  spell_bare_more none comma ks = refl
  spell_bare_more (more a es) comma ks = ap (λ r. mark Comma ∷ r) (both {f = spell (bare a)} {g = spell a} (spell_bare a) (spell_bare_more es comma ks))

  spell_bare_pairs : (ps : PairTrees) (comma : Bool) (ks : List Kind) → spell_pairs (bare_pairs ps) comma ks ≡ spell_pairs ps comma ks
  spell_bare_pairs no_pair comma ks = refl
  spell_bare_pairs (pair a b ps) comma ks = both {f = spell (bare a)} {g = spell a} (spell_bare a) (ap (λ r. mark Colon ∷ r) (both {f = spell (bare b)} {g = spell b} (spell_bare b) (spell_bare_more_pairs ps comma ks)))

  spell_bare_more_pairs : (ps : PairTrees) (comma : Bool) (ks : List Kind) → spell_more_pairs (bare_pairs ps) comma ks ≡ spell_more_pairs ps comma ks
  spell_bare_more_pairs no_pair comma ks = refl
  spell_bare_more_pairs (pair a b ps) comma ks = ap (λ r. mark Comma ∷ r) (both {f = spell (bare a)} {g = spell a} (spell_bare a) (ap (λ r. mark Colon ∷ r) (both {f = spell (bare b)} {g = spell b} (spell_bare b) (spell_bare_more_pairs ps comma ks))))

  spell_bare_behind : (w : Keyword) (es : Trees) (ks : List Kind) → spell_behind w (bare_each es) ks ≡ spell_behind w es ks
  spell_bare_behind w none ks = refl
  spell_bare_behind w (more a es) ks = ap (λ r. keyword w ∷ r) (both {f = spell (bare a)} {g = spell a} (spell_bare a) (spell_bare_behind w es ks))

  spell_bare_operands : (os : Operands) (ks : List Kind) → spell_operands (bare_operands os) ks ≡ spell_operands os ks
  spell_bare_operands no_operand ks = refl
  spell_bare_operands (operand o a os) ks = ap (spell_op o) (both {f = spell (bare a)} {g = spell a} (spell_bare a) (spell_bare_operands os ks))

  spell_bare_maybe : (m : MaybeTree) (ks : List Kind) → spell_maybe (bare_maybe m) ks ≡ spell_maybe m ks
  spell_bare_maybe absent ks = refl
  spell_bare_maybe (present a) ks = spell_bare a ks

  spell_bare_condition : (m : MaybeTree) (ks : List Kind) → spell_condition (bare_maybe m) ks ≡ spell_condition m ks
  spell_bare_condition absent ks = refl
  spell_bare_condition (present a) ks = ap (λ r. keyword If ∷ r) (spell_bare a ks)

mutual
  spell_bare_statement : (t : Statement) (ks : List Kind) → spell_statement (bare_statement t) ks ≡ spell_statement t ks
  spell_bare_statement (pass l) ks = refl
  spell_bare_statement (break l) ks = refl
  spell_bare_statement (continue l) ks = refl
  spell_bare_statement (return l a) ks = ap (λ r. keyword Return ∷ r) (spell_bare_maybe a (newline ∷ ks))
  spell_bare_statement (assign l t a) ks = both {f = spell_target (bare_target t)} {g = spell_target t} (spell_bare_target t) (ap (λ r. mark Assign ∷ r) (spell_bare a (newline ∷ ks)))
  spell_bare_statement (augment l n o a) ks = ap (λ r. named n ∷ mark (augment_mark o) ∷ r) (spell_bare a (newline ∷ ks))
  spell_bare_statement (express l a) ks = spell_bare a (newline ∷ ks)
  spell_bare_statement (branch l a b t) ks = ap (λ r. keyword If ∷ r) (both {f = spell (bare a)} {g = spell a} (spell_bare a) (ap (λ r. mark Colon ∷ r) (both {f = spell_body (bare_body b)} {g = spell_body b} (spell_bare_body b) (spell_bare_tail t ks))))
  spell_bare_statement (repeat l t a b) ks = ap (λ r. keyword For ∷ r) (both {f = spell_target (bare_target t)} {g = spell_target t} (spell_bare_target t) (ap (λ r. keyword In ∷ r) (both {f = spell (bare a)} {g = spell a} (spell_bare a) (ap (λ r. mark Colon ∷ r) (spell_bare_body b ks)))))

  spell_bare_body : (b : Body) (ks : List Kind) → spell_body (bare_body b) ks ≡ spell_body b ks
  spell_bare_body (line t) ks = spell_bare_statement t ks
  spell_bare_body (indented ts) ks = ap (λ r. newline ∷ indent ∷ r) (spell_bare_statements ts (dedent ∷ ks))

  spell_bare_statements : (ts : Statements) (ks : List Kind) → spell_statements (bare_statements ts) ks ≡ spell_statements ts ks
  spell_bare_statements finish ks = refl
  spell_bare_statements (next t ts) ks = both {f = spell_statement (bare_statement t)} {g = spell_statement t} (spell_bare_statement t) (spell_bare_statements ts ks)

  spell_bare_tail : (t : Tail) (ks : List Kind) → spell_tail (bare_tail t) ks ≡ spell_tail t ks
  spell_bare_tail nothing ks = refl
  spell_bare_tail (otherwise b) ks = ap (λ r. keyword Else ∷ mark Colon ∷ r) (spell_bare_body b ks)
  spell_bare_tail (elif a b t) ks = ap (λ r. keyword Elif ∷ r) (both {f = spell (bare a)} {g = spell a} (spell_bare a) (ap (λ r. mark Colon ∷ r) (both {f = spell_body (bare_body b)} {g = spell_body b} (spell_bare_body b) (spell_bare_tail t ks))))

spell_bare_arg : (a : ArgTree) (ks : List Kind) → spell_arg (bare_arg a) ks ≡ spell_arg a ks
spell_bare_arg (lambda l params a) ks = ap (λ r. keyword Lambda ∷ spell_names params false (mark Colon ∷ r)) (spell_bare a ks)
spell_bare_arg (plain a) ks = spell_bare a ks

spell_bare_more_args : (xs : List ArgTree) (comma : Bool) (ks : List Kind) → spell_more_args (map bare_arg xs) comma ks ≡ spell_more_args xs comma ks
spell_bare_more_args [] comma ks = refl
spell_bare_more_args (x ∷ xs) comma ks = ap (λ r. mark Comma ∷ r) (both {f = spell_arg (bare_arg x)} {g = spell_arg x} (spell_bare_arg x) (spell_bare_more_args xs comma ks))

spell_bare_arg_list : (xs : List ArgTree) (comma : Bool) (ks : List Kind) → spell_arg_list (map bare_arg xs) comma ks ≡ spell_arg_list xs comma ks
spell_bare_arg_list [] comma ks = refl
spell_bare_arg_list (x ∷ xs) comma ks = both {f = spell_arg (bare_arg x)} {g = spell_arg x} (spell_bare_arg x) (spell_bare_more_args xs comma ks)

spell_bare_args : (x : ArgTrees) (ks : List Kind) → spell_args (bare_args x) ks ≡ spell_args x ks
spell_bare_args x ks = ap (λ r. mark Open ∷ r) (spell_bare_arg_list x.items x.comma (mark Close ∷ ks))

spell_bare_head_args : (x : Option ArgTrees) (ks : List Kind) → spell_head_args (option_map bare_args x) ks ≡ spell_head_args x ks
spell_bare_head_args None ks = refl
spell_bare_head_args (Some x) ks = spell_bare_args x ks

spell_bare_head : (h : HeadTree) (ks : List Kind) → spell_head (bare_head h) ks ≡ spell_head h ks
spell_bare_head h ks = ap (λ r. named h.word.text ∷ r) (spell_bare_head_args h.args ks)

spell_bare_links : (xs : List LinkTree) (ks : List Kind) → spell_links (map bare_link xs) ks ≡ spell_links xs ks
spell_bare_links [] ks = refl
spell_bare_links (x ∷ xs) ks = ap (λ r. mark Dot ∷ named x.word.text ∷ r) (both {f = spell_args (bare_args x.args)} {g = spell_args x.args} (spell_bare_args x.args) (spell_bare_links xs ks))

spell_bare_chain_in : (b : Bool) (h : HeadTree) (xs : List LinkTree) (ks : List Kind) → spell_chain_in b (bare_head h) (map bare_link xs) ks ≡ spell_chain_in b h xs ks
spell_bare_chain_in true h xs ks = ap (λ r. mark Open ∷ r) (both {f = spell_head (bare_head h)} {g = spell_head h} (spell_bare_head h) (spell_bare_links xs (mark Close ∷ ks)))
spell_bare_chain_in false h xs ks = both {f = spell_head (bare_head h)} {g = spell_head h} (spell_bare_head h) (spell_bare_links xs ks)

pub spell_bare_block : (b : BlockTree) → spelling (bare_block b) ≡ spelling b
spell_bare_block (define l n params comma b) = ap (λ r. keyword Def ∷ named n ∷ mark Open ∷ spell_names params comma (mark Close ∷ mark Colon ∷ r)) (spell_bare_body b [])
spell_bare_block (pipeline l n c) = ap (λ r. named n ∷ mark Assign ∷ r) (spell_bare_chain_in c.in_brackets c.head c.links (newline ∷ []))
spell_bare_block (alone c) = spell_bare_chain_in c.in_brackets c.head c.links (newline ∷ [])

-- ---- well-formedness

ands : {a b c d : Bool} → a ≡ b → c ≡ d → (a && c) ≡ (b && d)
ands {b = b} {c = c} e f = ap (λ k. k && c) e ∙ ap (λ k. b && k) f

amount_bare : (es : Trees) → amount_of_trees (bare_each es) ≡ amount_of_trees es
amount_bare none = refl
amount_bare (more a none) = refl
amount_bare (more a (more b es)) = refl

amount_bare_pairs : (ps : PairTrees) → amount_of_pairs (bare_pairs ps) ≡ amount_of_pairs ps
amount_bare_pairs no_pair = refl
amount_bare_pairs (pair a b no_pair) = refl
amount_bare_pairs (pair a b (pair c d ps)) = refl

amount_bare_operands : (os : Operands) → amount_of_operands (bare_operands os) ≡ amount_of_operands os
amount_bare_operands no_operand = refl
amount_bare_operands (operand o a no_operand) = refl
amount_bare_operands (operand o a (operand p b os)) = refl

amount_bare_statements : (ts : Statements) → amount_of_statements (bare_statements ts) ≡ amount_of_statements ts
amount_bare_statements finish = refl
amount_bare_statements (next t finish) = refl
amount_bare_statements (next t (next u ts)) = refl

amount_map : {A B : Type 0} (f : A → B) (xs : List A) → amount (map f xs) ≡ amount xs
amount_map f [] = refl
amount_map f (x ∷ []) = refl
amount_map f (x ∷ y ∷ xs) = refl

level_bare : (t : Tree) → level (bare t) ≡ level t
level_bare (nil l) = refl
level_bare (truth l b) = refl
level_bare (int l n) = refl
level_bare (text l t) = refl
level_bare (name l n) = refl
level_bare (paren l a) = refl
level_bare (tuple l es comma) = refl
level_bare (bare_tuple l es comma) = refl
level_bare (list l es comma) = refl
level_bare (dict l ps comma) = refl
level_bare (comprehension l a t i c) = refl
level_bare (call l n es comma) = refl
level_bare (method l a w es comma) = refl
level_bare (index l a i) = refl
level_bare (slice l a i j) = refl
level_bare (unary l o a) = refl
level_bare (binary l a o b) = refl
level_bare (compare l a os) = refl
level_bare (negation l a) = refl
level_bare (conjunction l a es) = refl
level_bare (disjunction l a es) = refl
level_bare (conditional l a t b) = refl

fits_bare : (place : ℕ) (t : Tree) → fits place (bare t) ≡ fits place t
fits_bare place t = ap (nat_le place) (level_bare t)

fits_bare_each : (place : ℕ) (es : Trees) → fits_each place (bare_each es) ≡ fits_each place es
fits_bare_each place none = refl
fits_bare_each place (more a es) = ands (fits_bare place a) (fits_bare_each place es)

fits_bare_pairs : (ps : PairTrees) → fits_pairs (bare_pairs ps) ≡ fits_pairs ps
fits_bare_pairs no_pair = refl
fits_bare_pairs (pair a b ps) = ands (fits_bare at_test a) (ands (fits_bare at_test b) (fits_bare_pairs ps))

fits_bare_operands : (os : Operands) → fits_operands (bare_operands os) ≡ fits_operands os
fits_bare_operands no_operand = refl
fits_bare_operands (operand o a os) = ands (fits_bare at_sum a) (fits_bare_operands os)

fits_bare_maybe : (place : ℕ) (m : MaybeTree) → fits_maybe place (bare_maybe m) ≡ fits_maybe place m
fits_bare_maybe place absent = refl
fits_bare_maybe place (present a) = fits_bare place a

derived_bare_target : (t : Target) → derived_target (bare_target t) ≡ derived_target t
derived_bare_target (target.Name w) = refl
derived_bare_target (target.Names ws comma) = ap (λ n. is_listed n comma) (amount_map bare_word ws)
derived_bare_target (target.Bracketed l ws comma) = ap (λ n. is_listed n comma) (amount_map bare_word ws)

named_bare_target : (t : Target) → target_is_named (bare_target t) ≡ target_is_named t
named_bare_target (target.Name w) = refl
named_bare_target (target.Names ws comma) = ap are_names (texts_bare ws)
named_bare_target (target.Bracketed l ws comma) = ap are_names (texts_bare ws)

derived_bare : (t : Tree) → derived (bare t) ≡ derived t
derived_bare (nil l) = refl
derived_bare (truth l b) = refl
derived_bare (int l n) = refl
derived_bare (text l t) = refl
derived_bare (name l n) = refl
derived_bare (paren l a) = fits_bare at_test a
derived_bare (tuple l es comma) = ands (ap (λ n. makes_tuple n comma) (amount_bare es)) (fits_bare_each at_test es)
derived_bare (bare_tuple l es comma) = ands (ap (λ n. is_listed n comma) (amount_bare es)) (fits_bare_each at_test es)
derived_bare (list l es comma) = ands (ap (λ n. may_end n comma) (amount_bare es)) (fits_bare_each at_test es)
derived_bare (dict l ps comma) = ands (ap (λ n. may_end n comma) (amount_bare_pairs ps)) (fits_bare_pairs ps)
derived_bare (comprehension l a t i c) = ands (fits_bare at_test a) (ands (derived_bare_target t) (ands (fits_bare at_or i) (fits_bare_maybe at_or c)))
derived_bare (call l n es comma) = ands (ap (λ n. may_end n comma) (amount_bare es)) (fits_bare_each at_test es)
derived_bare (method l a w es comma) = ands (fits_bare at_postfix a) (ands (ap (λ n. may_end n comma) (amount_bare es)) (fits_bare_each at_test es))
derived_bare (index l a i) = ands (fits_bare at_postfix a) (fits_bare at_test i)
derived_bare (slice l a i j) = ands (fits_bare at_postfix a) (ands (fits_bare_maybe at_test i) (fits_bare_maybe at_test j))
derived_bare (unary l o a) = fits_bare at_unary a
derived_bare (binary l a o b) = ands (fits_bare (level_of_op o) a) (fits_bare (suc (level_of_op o)) b)
derived_bare (compare l a os) = ands (fits_bare at_sum a) (ands (ap has_items (amount_bare_operands os)) (fits_bare_operands os))
derived_bare (negation l a) = fits_bare at_not a
derived_bare (conjunction l a es) = ands (fits_bare at_not a) (ands (ap has_items (amount_bare es)) (fits_bare_each at_not es))
derived_bare (disjunction l a es) = ands (fits_bare at_and a) (ands (ap has_items (amount_bare es)) (fits_bare_each at_and es))
derived_bare (conditional l a t b) = ands (fits_bare at_or a) (ands (fits_bare at_or t) (fits_bare at_test b))

names_bare : (t : Tree) → has_names (bare t) ≡ has_names t
names_bare (nil l) = refl
names_bare (truth l b) = refl
names_bare (int l n) = refl
names_bare (text l t) = refl
names_bare (name l n) = refl
names_bare (paren l a) = refl
names_bare (tuple l es comma) = refl
names_bare (bare_tuple l es comma) = refl
names_bare (list l es comma) = refl
names_bare (dict l ps comma) = refl
names_bare (comprehension l a t i c) = named_bare_target t
names_bare (call l n es comma) = refl
names_bare (method l a w es comma) = refl
names_bare (index l a i) = refl
names_bare (slice l a i j) = refl
names_bare (unary l o a) = refl
names_bare (binary l a o b) = refl
names_bare (compare l a os) = refl
names_bare (negation l a) = refl
names_bare (conjunction l a es) = refl
names_bare (disjunction l a es) = refl
names_bare (conditional l a t b) = refl

literal_bare : (t : Tree) → is_literal (bare t) ≡ is_literal t
literal_bare (nil l) = refl
literal_bare (truth l b) = refl
literal_bare (int l n) = refl
literal_bare (text l t) = refl
literal_bare (name l n) = refl
literal_bare (paren l a) = refl
literal_bare (tuple l es comma) = refl
literal_bare (bare_tuple l es comma) = refl
literal_bare (list l es comma) = refl
literal_bare (dict l ps comma) = refl
literal_bare (comprehension l a t i c) = refl
literal_bare (call l n es comma) = refl
literal_bare (method l a w es comma) = refl
literal_bare (index l a i) = refl
literal_bare (slice l a i j) = refl
literal_bare (unary l o a) = refl
literal_bare (binary l a o b) = refl
literal_bare (compare l a os) = refl
literal_bare (negation l a) = refl
literal_bare (conjunction l a es) = refl
literal_bare (disjunction l a es) = refl
literal_bare (conditional l a t b) = refl

nil_bare : (t : Tree) → is_nil (bare t) ≡ is_nil t
nil_bare (nil l) = refl
nil_bare (truth l b) = refl
nil_bare (int l n) = refl
nil_bare (text l t) = refl
nil_bare (name l n) = refl
nil_bare (paren l a) = refl
nil_bare (tuple l es comma) = refl
nil_bare (bare_tuple l es comma) = refl
nil_bare (list l es comma) = refl
nil_bare (dict l ps comma) = refl
nil_bare (comprehension l a t i c) = refl
nil_bare (call l n es comma) = refl
nil_bare (method l a w es comma) = refl
nil_bare (index l a i) = refl
nil_bare (slice l a i j) = refl
nil_bare (unary l o a) = refl
nil_bare (binary l a o b) = refl
nil_bare (compare l a os) = refl
nil_bare (negation l a) = refl
nil_bare (conjunction l a es) = refl
nil_bare (disjunction l a es) = refl
nil_bare (conditional l a t b) = refl

identities_bare : (os : Operands) → identities_with_none (bare_operands os) ≡ identities_with_none os
identities_bare no_operand = refl
identities_bare (operand o a os) = ands (ap (λ k. not (is_identity o) || k) (nil_bare a)) (identities_bare os)

compares_bare : (t : Tree) → compares_with_none (bare t) ≡ compares_with_none t
compares_bare (nil l) = refl
compares_bare (truth l b) = refl
compares_bare (int l n) = refl
compares_bare (text l t) = refl
compares_bare (name l n) = refl
compares_bare (paren l a) = refl
compares_bare (tuple l es comma) = refl
compares_bare (bare_tuple l es comma) = refl
compares_bare (list l es comma) = refl
compares_bare (dict l ps comma) = refl
compares_bare (comprehension l a t i c) = refl
compares_bare (call l n es comma) = refl
compares_bare (method l a w es comma) = refl
compares_bare (index l a i) = refl
compares_bare (slice l a i j) = refl
compares_bare (unary l o a) = refl
compares_bare (binary l a o b) = refl
compares_bare (compare l a os) = identities_bare os
compares_bare (negation l a) = refl
compares_bare (conjunction l a es) = refl
compares_bare (disjunction l a es) = refl
compares_bare (conditional l a t b) = refl

sound_bare : (t : Tree) → sound (bare t) ≡ sound t
sound_bare t = ands (derived_bare t) (ands (names_bare t) (ands (literal_bare t) (compares_bare t)))

mutual
  fine_bare : (t : Tree) → fine (bare t) ≡ fine t
  fine_bare (nil l) = sound_bare (nil l)
  fine_bare (truth l b) = sound_bare (truth l b)
  fine_bare (int l n) = sound_bare (int l n)
  fine_bare (text l t) = sound_bare (text l t)
  fine_bare (name l n) = sound_bare (name l n)
  fine_bare (paren l a) = ands (sound_bare (paren l a)) (fine_bare a)
  fine_bare (tuple l es comma) = ands (sound_bare (tuple l es comma)) (fine_bare_each es)
  fine_bare (bare_tuple l es comma) = ands (sound_bare (bare_tuple l es comma)) (fine_bare_each es)
  fine_bare (list l es comma) = ands (sound_bare (list l es comma)) (fine_bare_each es)
  fine_bare (dict l ps comma) = ands (sound_bare (dict l ps comma)) (fine_bare_pairs ps)
  fine_bare (comprehension l a t i c) = ands (sound_bare (comprehension l a t i c)) (ands (fine_bare a) (ands (fine_bare i) (fine_bare_maybe c)))
  fine_bare (call l n es comma) = ands (sound_bare (call l n es comma)) (fine_bare_each es)
  fine_bare (method l a w es comma) = ands (sound_bare (method l a w es comma)) (ands (fine_bare a) (fine_bare_each es))
  fine_bare (index l a i) = ands (sound_bare (index l a i)) (ands (fine_bare a) (fine_bare i))
  fine_bare (slice l a i j) = ands (sound_bare (slice l a i j)) (ands (fine_bare a) (ands (fine_bare_maybe i) (fine_bare_maybe j)))
  fine_bare (unary l o a) = ands (sound_bare (unary l o a)) (fine_bare a)
  fine_bare (binary l a o b) = ands (sound_bare (binary l a o b)) (ands (fine_bare a) (fine_bare b))
  fine_bare (compare l a os) = ands (sound_bare (compare l a os)) (ands (fine_bare a) (fine_bare_operands os))
  fine_bare (negation l a) = ands (sound_bare (negation l a)) (fine_bare a)
  fine_bare (conjunction l a es) = ands (sound_bare (conjunction l a es)) (ands (fine_bare a) (fine_bare_each es))
  fine_bare (disjunction l a es) = ands (sound_bare (disjunction l a es)) (ands (fine_bare a) (fine_bare_each es))
  fine_bare (conditional l a t b) = ands (sound_bare (conditional l a t b)) (ands (fine_bare a) (ands (fine_bare t) (fine_bare b)))

  fine_bare_each : (es : Trees) → fine_each (bare_each es) ≡ fine_each es
  fine_bare_each none = refl
  fine_bare_each (more a es) = ands (fine_bare a) (fine_bare_each es)

  fine_bare_pairs : (ps : PairTrees) → fine_pairs (bare_pairs ps) ≡ fine_pairs ps
  fine_bare_pairs no_pair = refl
  fine_bare_pairs (pair a b ps) = ands (fine_bare a) (ands (fine_bare b) (fine_bare_pairs ps))

  fine_bare_operands : (os : Operands) → fine_operands (bare_operands os) ≡ fine_operands os
  fine_bare_operands no_operand = refl
  fine_bare_operands (operand o a os) = ands (fine_bare a) (fine_bare_operands os)

  fine_bare_maybe : (m : MaybeTree) → fine_maybe (bare_maybe m) ≡ fine_maybe m
  fine_bare_maybe absent = refl
  fine_bare_maybe (present a) = fine_bare a

simple_bare : (t : Statement) → is_simple (bare_statement t) ≡ is_simple t
simple_bare (pass l) = refl
simple_bare (break l) = refl
simple_bare (continue l) = refl
simple_bare (return l a) = refl
simple_bare (assign l t a) = refl
simple_bare (augment l n o a) = refl
simple_bare (express l a) = refl
simple_bare (branch l a b t) = refl
simple_bare (repeat l t a b) = refl

derived_bare_body : (b : Body) → derived_body (bare_body b) ≡ derived_body b
derived_bare_body (line t) = simple_bare t
derived_bare_body (indented ts) = ap has_items (amount_bare_statements ts)

derived_bare_tail : (t : Tail) → derived_tail (bare_tail t) ≡ derived_tail t
derived_bare_tail nothing = refl
derived_bare_tail (otherwise b) = derived_bare_body b
derived_bare_tail (elif a b t) = ands (fits_bare at_test a) (ands (derived_bare_body b) (derived_bare_tail t))

derived_bare_statement : (t : Statement) → derived_statement (bare_statement t) ≡ derived_statement t
derived_bare_statement (pass l) = refl
derived_bare_statement (break l) = refl
derived_bare_statement (continue l) = refl
derived_bare_statement (return l a) = fits_bare_maybe at_tests a
derived_bare_statement (assign l t a) = ands (derived_bare_target t) (fits_bare at_tests a)
derived_bare_statement (augment l n o a) = fits_bare at_test a
derived_bare_statement (express l a) = fits_bare at_test a
derived_bare_statement (branch l a b t) = ands (fits_bare at_test a) (ands (derived_bare_body b) (derived_bare_tail t))
derived_bare_statement (repeat l t a b) = ands (derived_bare_target t) (ands (fits_bare at_test a) (derived_bare_body b))

names_bare_statement : (t : Statement) → statement_has_names (bare_statement t) ≡ statement_has_names t
names_bare_statement (pass l) = refl
names_bare_statement (break l) = refl
names_bare_statement (continue l) = refl
names_bare_statement (return l a) = refl
names_bare_statement (assign l t a) = named_bare_target t
names_bare_statement (augment l n o a) = refl
names_bare_statement (express l a) = refl
names_bare_statement (branch l a b t) = refl
names_bare_statement (repeat l t a b) = named_bare_target t

loop_bare : (looped : Bool) (t : Statement) → is_in_loop looped (bare_statement t) ≡ is_in_loop looped t
loop_bare looped (pass l) = refl
loop_bare looped (break l) = refl
loop_bare looped (continue l) = refl
loop_bare looped (return l a) = refl
loop_bare looped (assign l t a) = refl
loop_bare looped (augment l n o a) = refl
loop_bare looped (express l a) = refl
loop_bare looped (branch l a b t) = refl
loop_bare looped (repeat l t a b) = refl

sound_bare_statement : (looped : Bool) (t : Statement) → sound_statement looped (bare_statement t) ≡ sound_statement looped t
sound_bare_statement looped t = ands (derived_bare_statement t) (ands (names_bare_statement t) (loop_bare looped t))

mutual
  fine_bare_statement : (looped : Bool) (t : Statement) → fine_statement looped (bare_statement t) ≡ fine_statement looped t
  fine_bare_statement looped (pass l) = sound_bare_statement looped (pass l)
  fine_bare_statement looped (break l) = sound_bare_statement looped (break l)
  fine_bare_statement looped (continue l) = sound_bare_statement looped (continue l)
  fine_bare_statement looped (return l a) = ands (sound_bare_statement looped (return l a)) (fine_bare_maybe a)
  fine_bare_statement looped (assign l t a) = ands (sound_bare_statement looped (assign l t a)) (fine_bare a)
  fine_bare_statement looped (augment l n o a) = ands (sound_bare_statement looped (augment l n o a)) (fine_bare a)
  fine_bare_statement looped (express l a) = ands (sound_bare_statement looped (express l a)) (fine_bare a)
  fine_bare_statement looped (branch l a b t) = ands (sound_bare_statement looped (branch l a b t)) (ands (fine_bare a) (ands (fine_bare_body looped b) (fine_bare_tail looped t)))
  fine_bare_statement looped (repeat l t a b) = ands (sound_bare_statement looped (repeat l t a b)) (ands (fine_bare a) (fine_bare_body true b))

  fine_bare_body : (looped : Bool) (b : Body) → fine_body looped (bare_body b) ≡ fine_body looped b
  fine_bare_body looped (line t) = fine_bare_statement looped t
  fine_bare_body looped (indented ts) = fine_bare_statements looped ts

  fine_bare_statements : (looped : Bool) (ts : Statements) → fine_statements looped (bare_statements ts) ≡ fine_statements looped ts
  fine_bare_statements looped finish = refl
  fine_bare_statements looped (next t ts) = ands (fine_bare_statement looped t) (fine_bare_statements looped ts)

  fine_bare_tail : (looped : Bool) (t : Tail) → fine_tail looped (bare_tail t) ≡ fine_tail looped t
  fine_bare_tail looped nothing = refl
  fine_bare_tail looped (otherwise b) = fine_bare_body looped b
  fine_bare_tail looped (elif a b t) = ands (fine_bare a) (ands (fine_bare_body looped b) (fine_bare_tail looped t))

fine_bare_arg : (a : ArgTree) → fine_arg (bare_arg a) ≡ fine_arg a
fine_bare_arg (lambda l params a) = ap (λ k. are_params params && k) (ands (fits_bare at_test a) (fine_bare a))
fine_bare_arg (plain a) = ands (fits_bare at_test a) (fine_bare a)

fine_bare_arg_list : (xs : List ArgTree) → list_all fine_arg (map bare_arg xs) ≡ list_all fine_arg xs
fine_bare_arg_list [] = refl
fine_bare_arg_list (x ∷ xs) = ands (fine_bare_arg x) (fine_bare_arg_list xs)

fine_bare_args : (x : ArgTrees) → fine_args (bare_args x) ≡ fine_args x
fine_bare_args x = ands (ap (λ n. may_end n x.comma) (amount_map bare_arg x.items)) (fine_bare_arg_list x.items)

fine_bare_head_args : (x : Option ArgTrees) → fine_head_args (option_map bare_args x) ≡ fine_head_args x
fine_bare_head_args None = refl
fine_bare_head_args (Some x) = fine_bare_args x

fine_bare_links : (xs : List LinkTree) → list_all fine_link (map bare_link xs) ≡ list_all fine_link xs
fine_bare_links [] = refl
fine_bare_links (x ∷ xs) = ands (ap (λ k. is_name x.word.text && k) (fine_bare_args x.args)) (fine_bare_links xs)

fine_bare_chain : (c : ChainTree) → fine_chain (bare_chain c) ≡ fine_chain c
fine_bare_chain c = ands (ap (λ k. is_name c.head.word.text && k) (fine_bare_head_args c.head.args)) (fine_bare_links c.links)

pub well_formed_bare : (b : BlockTree) → well_formed (bare_block b) ≡ well_formed b
well_formed_bare (define l n params comma b) = ap (λ k. is_name n && k) (ap (λ k. may_end (amount params) comma && k) (ap (λ k. are_params params && k) (ands (derived_bare_body b) (fine_bare_body false b))))
well_formed_bare (pipeline l n c) = ap (λ k. is_name n && k) (fine_bare_chain c)
well_formed_bare (alone c) = fine_bare_chain c
