-- A spelling has as many tokens as are counted along the tree.
use Rattle.std.proofs.Common.{◌≡◌, ◌+◌, ℕ, suc, Bool, true, false, List, [], ◌∷◌, Option, Some, None, length, refl, ap, ◌∙◌, arith}
use Rattle.tx_tree.specs.declared.operator.CompareOp.{CompareOp}
use Rattle.tx_tree.specs.declared.operator.CompareOp.TheVariants as op
use Rattle.tx_tree.specs.declared.symbol.Keyword.{Keyword}
use Rattle.tx_tree.specs.declared.symbol.Keyword.TheVariants.{And, Else, For, If, In, Or}
use Rattle.tx_tree.specs.declared.symbol.Mark.TheVariants.{Open, Close, OpenSquare, CloseSquare, CloseBrace, Colon, Dot, Assign}
use Rattle.tx_tree.specs.declared.target.Word.{Word}
use Rattle.tx_tree.specs.declared.target.Target.{Target}
use Rattle.tx_tree.specs.declared.target.Target.TheVariants as target
use Rattle.tx_tree.specs.Words.{binary_mark}
use Rattle.tx_tree.specs.Kind.{Kind, named, keyword, mark, newline, dedent}
use Rattle.tx_tree.specs.Spell.{spell_comma, spell_more_names, spell_names, texts_of, spell_target, spell_op, spell, spell_items, spell_more_items, spell_pairs, spell_more_pairs, spell_behind, spell_operands, spell_maybe, spell_condition, spell_statement, spell_body, spell_statements, spell_tail, spell_arg, spell_more_args, spell_arg_list, spell_args, spell_head_args, spell_links, spell_chain_in, spelling}
use Rattle.tx_tree.specs.Calls.Count.{count_comma, count_commas, count_names, count_target, count_op, size, pairs_size, count, count_each, count_pairs, count_operands, count_maybe, count_condition, count_statement, count_body, count_statements, count_tail, count_arg, sum_of_args, count_args, count_head_args, count_head, count_links, count_brackets, count_block}
use Rattle.tx_tree.specs.Tree.{Tree, nil, truth, int, text, name, paren, tuple, bare_tuple, list, dict, comprehension, call, method, index, slice, unary, binary, compare, negation, conjunction, disjunction, conditional, Trees, none, more, PairTrees, no_pair, pair, Operands, no_operand, operand, MaybeTree, absent, present, Statement, pass, break, continue, return, assign, augment, express, branch, repeat, Body, line, indented, Statements, finish, next, Tail, nothing, otherwise, elif, ArgTree, lambda, plain, ArgTrees, HeadTree, LinkTree, BlockTree, define, pipeline, alone}

length_comma : (comma : Bool) (ks : List Kind) → length (spell_comma comma ks) ≡ count_comma comma + length ks
length_comma true ks = omega arith
length_comma false ks = omega arith

length_more_names : (ns : List (List ℕ)) (comma : Bool) (ks : List Kind) → length (spell_more_names ns comma ks) ≡ (length ns + length ns) + (count_comma comma + length ks)
length_more_names [] comma ks = omega (arith, length_comma comma ks)
length_more_names (n ∷ ns) comma ks = omega (arith, length_more_names ns comma ks)

length_names : (ns : List (List ℕ)) (comma : Bool) (ks : List Kind) → length (spell_names ns comma ks) ≡ count_names ns comma + length ks
length_names [] comma ks = omega (arith, length_comma comma ks)
length_names (n ∷ ns) comma ks = omega (arith, length_more_names ns comma ks)

length_texts : (ws : List Word) → length (texts_of ws) ≡ length ws
length_texts [] = refl
length_texts (w ∷ ws) = ap suc (length_texts ws)

length_words : (ws : List Word) (comma : Bool) (ks : List Kind) → length (spell_names (texts_of ws) comma ks) ≡ (length ws + count_commas (length ws) comma) + length ks
length_words ws comma ks = length_names (texts_of ws) comma ks ∙ ap (λ n. (n + count_commas n comma) + length ks) (length_texts ws)

length_target : (t : Target) (ks : List Kind) → length (spell_target t ks) ≡ count_target t + length ks
length_target (target.Name w) ks = omega arith
length_target (target.Names ws comma) ks = length_words ws comma ks
length_target (target.Bracketed l ws comma) ks = omega (arith, length_words ws comma (mark Close ∷ ks))

length_op : (o : CompareOp) (ks : List Kind) → length (spell_op o ks) ≡ count_op o + length ks
length_op op.Equal ks = omega arith
length_op op.NotEqual ks = omega arith
length_op op.Less ks = omega arith
length_op op.LessEqual ks = omega arith
length_op op.Greater ks = omega arith
length_op op.GreaterEqual ks = omega arith
length_op op.In ks = omega arith
length_op op.NotIn ks = omega arith
length_op op.Is ks = omega arith
length_op op.IsNot ks = omega arith

mutual
  pub length_spell : (t : Tree) (ks : List Kind) → length (spell t ks) ≡ count t + length ks
  length_spell (nil l) ks = omega arith
  length_spell (truth l b) ks = omega arith
  length_spell (int l n) ks = omega arith
  length_spell (text l t) ks = omega arith
  length_spell (name l n) ks = omega arith
  length_spell (paren l a) ks = omega (arith, length_spell a (mark Close ∷ ks))
  length_spell (tuple l es comma) ks = omega (arith, length_items es comma (mark Close ∷ ks))
  length_spell (bare_tuple l es comma) ks = length_items es comma ks
  length_spell (list l es comma) ks = omega (arith, length_items es comma (mark CloseSquare ∷ ks))
  length_spell (dict l ps comma) ks = omega (arith, length_pairs ps comma (mark CloseBrace ∷ ks))
  length_spell (comprehension l a t i c) ks = omega (arith, length_spell a (keyword For ∷ spell_target t (keyword In ∷ spell i (spell_condition c (mark CloseSquare ∷ ks)))), length_target t (keyword In ∷ spell i (spell_condition c (mark CloseSquare ∷ ks))), length_spell i (spell_condition c (mark CloseSquare ∷ ks)), length_condition c (mark CloseSquare ∷ ks))
  length_spell (call l n es comma) ks = omega (arith, length_items es comma (mark Close ∷ ks))
  length_spell (method l a w es comma) ks = omega (arith, length_spell a (mark Dot ∷ named w.text ∷ mark Open ∷ spell_items es comma (mark Close ∷ ks)), length_items es comma (mark Close ∷ ks))
  length_spell (index l a i) ks = omega (arith, length_spell a (mark OpenSquare ∷ spell i (mark CloseSquare ∷ ks)), length_spell i (mark CloseSquare ∷ ks))
  length_spell (slice l a i j) ks = omega (arith, length_spell a (mark OpenSquare ∷ spell_maybe i (mark Colon ∷ spell_maybe j (mark CloseSquare ∷ ks))), length_maybe i (mark Colon ∷ spell_maybe j (mark CloseSquare ∷ ks)), length_maybe j (mark CloseSquare ∷ ks))
  length_spell (unary l o a) ks = omega (arith, length_spell a ks)
  length_spell (binary l a o b) ks = omega (arith, length_spell a (mark (binary_mark o) ∷ spell b ks), length_spell b ks)
  length_spell (compare l a os) ks = omega (arith, length_spell a (spell_operands os ks), length_operands os ks)
  length_spell (negation l a) ks = omega (arith, length_spell a ks)
  length_spell (conjunction l a es) ks = omega (arith, length_spell a (spell_behind And es ks), length_behind And es ks)
  length_spell (disjunction l a es) ks = omega (arith, length_spell a (spell_behind Or es ks), length_behind Or es ks)
  length_spell (conditional l a t b) ks = omega (arith, length_spell a (keyword If ∷ spell t (keyword Else ∷ spell b ks)), length_spell t (keyword Else ∷ spell b ks), length_spell b ks)

  length_items : (es : Trees) (comma : Bool) (ks : List Kind) → length (spell_items es comma ks) ≡ (count_each es + count_commas (size es) comma) + length ks
  length_items none comma ks = omega (arith, length_comma comma ks)
  length_items (more a es) comma ks = omega (arith, length_spell a (spell_more_items es comma ks), length_more_items es comma ks)

  length_more_items : (es : Trees) (comma : Bool) (ks : List Kind) → length (spell_more_items es comma ks) ≡ (count_each es + size es) + (count_comma comma + length ks)
  length_more_items none comma ks = omega (arith, length_comma comma ks)
  length_more_items (more a es) comma ks = omega (arith, length_spell a (spell_more_items es comma ks), length_more_items es comma ks)

  length_pairs : (ps : PairTrees) (comma : Bool) (ks : List Kind) → length (spell_pairs ps comma ks) ≡ (count_pairs ps + count_commas (pairs_size ps) comma) + length ks
  length_pairs no_pair comma ks = omega (arith, length_comma comma ks)
  length_pairs (pair a b ps) comma ks = omega (arith, length_spell a (mark Colon ∷ spell b (spell_more_pairs ps comma ks)), length_spell b (spell_more_pairs ps comma ks), length_more_pairs ps comma ks)

  length_more_pairs : (ps : PairTrees) (comma : Bool) (ks : List Kind) → length (spell_more_pairs ps comma ks) ≡ (count_pairs ps + pairs_size ps) + (count_comma comma + length ks)
  length_more_pairs no_pair comma ks = omega (arith, length_comma comma ks)
  length_more_pairs (pair a b ps) comma ks = omega (arith, length_spell a (mark Colon ∷ spell b (spell_more_pairs ps comma ks)), length_spell b (spell_more_pairs ps comma ks), length_more_pairs ps comma ks)

  length_behind : (w : Keyword) (es : Trees) (ks : List Kind) → length (spell_behind w es ks) ≡ (count_each es + size es) + length ks
  length_behind w none ks = omega arith
  length_behind w (more a es) ks = omega (arith, length_spell a (spell_behind w es ks), length_behind w es ks)

  length_operands : (os : Operands) (ks : List Kind) → length (spell_operands os ks) ≡ count_operands os + length ks
  length_operands no_operand ks = omega arith
  length_operands (operand o a os) ks = omega (arith, length_op o (spell a (spell_operands os ks)), length_spell a (spell_operands os ks), length_operands os ks)

  length_maybe : (m : MaybeTree) (ks : List Kind) → length (spell_maybe m ks) ≡ count_maybe m + length ks
  length_maybe absent ks = omega arith
  length_maybe (present a) ks = length_spell a ks

  length_condition : (m : MaybeTree) (ks : List Kind) → length (spell_condition m ks) ≡ count_condition m + length ks
  length_condition absent ks = omega arith
  length_condition (present a) ks = omega (arith, length_spell a ks)

mutual
  pub length_statement : (t : Statement) (ks : List Kind) → length (spell_statement t ks) ≡ count_statement t + length ks
  length_statement (pass l) ks = omega arith
  length_statement (break l) ks = omega arith
  length_statement (continue l) ks = omega arith
  length_statement (return l a) ks = omega (arith, length_maybe a (newline ∷ ks))
  length_statement (assign l t a) ks = omega (arith, length_target t (mark Assign ∷ spell a (newline ∷ ks)), length_spell a (newline ∷ ks))
  length_statement (augment l n o a) ks = omega (arith, length_spell a (newline ∷ ks))
  length_statement (express l a) ks = omega (arith, length_spell a (newline ∷ ks))
  length_statement (branch l a b t) ks = omega (arith, length_spell a (mark Colon ∷ spell_body b (spell_tail t ks)), length_body b (spell_tail t ks), length_tail t ks)
  length_statement (repeat l t a b) ks = omega (arith, length_target t (keyword In ∷ spell a (mark Colon ∷ spell_body b ks)), length_spell a (mark Colon ∷ spell_body b ks), length_body b ks)

  length_body : (b : Body) (ks : List Kind) → length (spell_body b ks) ≡ count_body b + length ks
  length_body (line t) ks = length_statement t ks
  length_body (indented ts) ks = omega (arith, length_statements ts (dedent ∷ ks))

  length_statements : (ts : Statements) (ks : List Kind) → length (spell_statements ts ks) ≡ count_statements ts + length ks
  length_statements finish ks = omega arith
  length_statements (next t ts) ks = omega (arith, length_statement t (spell_statements ts ks), length_statements ts ks)

  length_tail : (t : Tail) (ks : List Kind) → length (spell_tail t ks) ≡ count_tail t + length ks
  length_tail nothing ks = omega arith
  length_tail (otherwise b) ks = omega (arith, length_body b ks)
  length_tail (elif a b t) ks = omega (arith, length_spell a (mark Colon ∷ spell_body b (spell_tail t ks)), length_body b (spell_tail t ks), length_tail t ks)

length_arg : (a : ArgTree) (ks : List Kind) → length (spell_arg a ks) ≡ count_arg a + length ks
length_arg (lambda l params a) ks = omega (arith, length_names params false (mark Colon ∷ spell a ks), length_spell a ks)
length_arg (plain a) ks = length_spell a ks

length_more_args : (xs : List ArgTree) (comma : Bool) (ks : List Kind) → length (spell_more_args xs comma ks) ≡ (sum_of_args xs + length xs) + (count_comma comma + length ks)
length_more_args [] comma ks = omega (arith, length_comma comma ks)
length_more_args (x ∷ xs) comma ks = omega (arith, length_arg x (spell_more_args xs comma ks), length_more_args xs comma ks)

length_arg_list : (xs : List ArgTree) (comma : Bool) (ks : List Kind) → length (spell_arg_list xs comma ks) ≡ (sum_of_args xs + count_commas (length xs) comma) + length ks
length_arg_list [] comma ks = omega (arith, length_comma comma ks)
length_arg_list (x ∷ xs) comma ks = omega (arith, length_arg x (spell_more_args xs comma ks), length_more_args xs comma ks)

length_args : (x : ArgTrees) (ks : List Kind) → length (spell_args x ks) ≡ count_args x + length ks
length_args x ks = omega (arith, length_arg_list x.items x.comma (mark Close ∷ ks))

length_head_args : (x : Option ArgTrees) (ks : List Kind) → length (spell_head_args x ks) ≡ count_head_args x + length ks
length_head_args None ks = omega arith
length_head_args (Some x) ks = length_args x ks

length_links : (xs : List LinkTree) (ks : List Kind) → length (spell_links xs ks) ≡ count_links xs + length ks
length_links [] ks = omega arith
length_links (x ∷ xs) ks = omega (arith, length_args x.args (spell_links xs ks), length_links xs ks)

length_chain_in : (b : Bool) (h : HeadTree) (xs : List LinkTree) (ks : List Kind) → length (spell_chain_in b h xs ks) ≡ (count_brackets b + (count_head h + count_links xs)) + length ks
length_chain_in true h xs ks = omega (arith, length_head_args h.args (spell_links xs (mark Close ∷ ks)), length_links xs (mark Close ∷ ks))
length_chain_in false h xs ks = omega (arith, length_head_args h.args (spell_links xs ks), length_links xs ks)

pub length_block : (b : BlockTree) → length (spelling b) ≡ count_block b
length_block (define l n params comma b) = omega (arith, length_names params comma (mark Close ∷ mark Colon ∷ spell_body b []), length_body b [])
length_block (pipeline l n c) = omega (arith, length_chain_in c.in_brackets c.head c.links (newline ∷ []))
length_block (alone c) = omega (arith, length_chain_in c.in_brackets c.head c.links (newline ∷ []))
