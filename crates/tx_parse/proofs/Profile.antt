-- No keyword outside the language stands in a spelling.
use Rattle.std.proofs.Common.{◌≡◌, ℕ, Bool, true, false, List, [], ◌∷◌, Option, Some, None, refl, ap, ◌∙◌}
use Rattle.tx_tree.specs.declared.operator.CompareOp.{CompareOp}
use Rattle.tx_tree.specs.declared.operator.CompareOp.TheVariants as op
use Rattle.tx_tree.specs.declared.symbol.Keyword.{Keyword}
use Rattle.tx_tree.specs.declared.symbol.Keyword.TheVariants as word
use Rattle.tx_tree.specs.declared.target.Word.{Word}
use Rattle.tx_tree.specs.declared.target.Target.{Target}
use Rattle.tx_tree.specs.declared.target.Target.TheVariants as target
use Rattle.tx_tree.specs.Kind as kind
use Rattle.tx_tree.specs.Tree.{Tree, nil, truth, int, text, name, paren, tuple, bare_tuple, list, dict, comprehension, call, method, index, slice, unary, binary, compare, negation, conjunction, disjunction, conditional, Trees, none, more, PairTrees, no_pair, pair, Operands, no_operand, operand, MaybeTree, absent, present, Statement, pass, break, continue, return, assign, augment, express, branch, repeat, Body, line, indented, Statements, finish, next, Tail, nothing, otherwise, elif, ArgTree, lambda, plain, ArgTrees, HeadTree, LinkTree, BlockTree, define, pipeline, alone}
use Rattle.tx_parse.specs.Lexemes.{Lexeme}
use Rattle.tx_parse.specs.Spells.{Span, Lone, SpellsComma, SpellsWord, SpellsMore, SpellsList, SpellsNames, SpellsTarget, SpellsOp, Spells, SpellsItems, SpellsMoreItems, SpellsPairs, SpellsMorePairs, SpellsBehind, SpellsOperands, SpellsMaybe, SpellsCondition, SpellsStatement, SpellsBody, SpellsStatements, SpellsTail, SpellsArg, SpellsArgs, SpellsHeadArgs, SpellsHead, SpellsLinks, SpellsChainIn, SpellsBlock}
use Rattle.tx_parse.specs.Faults.{first_outside}
use Rattle.tx_parse.specs.Laws.{InProfileLaw}

abbrev Passes : Span → Type 0
Passes A = (ts r : List Lexeme) → A ts r → first_outside ts ≡ first_outside r

-- ---- lists

comma_in : (b : Bool) → Passes (SpellsComma b)
comma_in true ts r s = ap first_outside s.same
comma_in false ts r s = ap first_outside s

more_in : {A : Type 0} (item : A → Span) → ((x : A) → Passes (item x)) → (xs : List A) (c : Bool) → Passes (SpellsMore item xs c)
more_in item f [] c ts r s = comma_in c ts r s
more_in item f (x ∷ xs) c ts r s = let b = s.behind in ap first_outside s.before.same ∙ f x s.between b.between b.before ∙ more_in item f xs c b.between r b.behind

list_in : {A : Type 0} (item : A → Span) → ((x : A) → Passes (item x)) → (xs : List A) (c : Bool) → Passes (SpellsList item xs c)
list_in item f [] c ts r s = comma_in c ts r s
list_in item f (x ∷ xs) c ts r s = f x ts s.between s.before ∙ more_in item f xs c s.between r s.behind

word_in : (w : Word) → Passes (SpellsWord w)
word_in w ts r s = ap first_outside s

names_in : (ns : List (List ℕ)) (c : Bool) → Passes (SpellsNames ns c)
names_in ns c ts r s = list_in (λ n. Lone (kind.named n)) (λ n ts r s. ap first_outside s.same) ns c ts r s

target_in : (t : Target) → Passes (SpellsTarget t)
target_in (target.Name w) ts r s = ap first_outside s
target_in (target.Names ws c) ts r s = list_in SpellsWord word_in ws c ts r s
target_in (target.Bracketed l ws c) ts r s = let b = s.behind in ap first_outside s.before ∙ list_in SpellsWord word_in ws c s.between b.between b.before ∙ ap first_outside b.behind.same

-- ---- expressions

op_in : (o : CompareOp) → Passes (SpellsOp o)
op_in op.Equal ts r s = ap first_outside s.same
op_in op.NotEqual ts r s = ap first_outside s.same
op_in op.Less ts r s = ap first_outside s.same
op_in op.LessEqual ts r s = ap first_outside s.same
op_in op.Greater ts r s = ap first_outside s.same
op_in op.GreaterEqual ts r s = ap first_outside s.same
op_in op.In ts r s = ap first_outside s.same
op_in op.NotIn ts r s = ap first_outside s.before.same ∙ ap first_outside s.behind.same
op_in op.Is ts r s = ap first_outside s.same
op_in op.IsNot ts r s = ap first_outside s.before.same ∙ ap first_outside s.behind.same

truth_in : (b : Bool) (l : ℕ) → Passes (Spells (truth l b))
truth_in true l ts r s = ap first_outside s
truth_in false l ts r s = ap first_outside s

abbrev IsInside : Keyword → Type 0
IsInside w = (l : ℕ) (r : List Lexeme) → first_outside ((record { kind = Some (kind.keyword w); line = l }) ∷ r) ≡ first_outside r

mutual
  tree_in : (t : Tree) → Passes (Spells t)
  tree_in (nil l) ts r s = ap first_outside s
  tree_in (truth l b) ts r s = truth_in b l ts r s
  tree_in (int l v) ts r s = ap first_outside s
  tree_in (text l v) ts r s = ap first_outside s
  tree_in (name l v) ts r s = ap first_outside s
  tree_in (paren l a) ts r s = let x = s.behind in ap first_outside s.before ∙ tree_in a s.between x.between x.before ∙ ap first_outside x.behind.same
  tree_in (tuple l es c) ts r s = let x = s.behind in ap first_outside s.before ∙ items_in es c s.between x.between x.before ∙ ap first_outside x.behind.same
  tree_in (bare_tuple l es c) ts r s = items_in es c ts r s.span
  tree_in (list l es c) ts r s = let x = s.behind in ap first_outside s.before ∙ items_in es c s.between x.between x.before ∙ ap first_outside x.behind.same
  tree_in (dict l ps c) ts r s = let x = s.behind in ap first_outside s.before ∙ pairs_in ps c s.between x.between x.before ∙ ap first_outside x.behind.same
  tree_in (comprehension l a t i c) ts r s =
      let x = s.behind in
      let y = x.behind in
      let z = y.behind in
      let u = z.behind in
      let v = u.behind in
      let w = v.behind in
      ap first_outside s.before ∙ tree_in a s.between x.between x.before ∙ ap first_outside y.before.same ∙ target_in t y.between z.between z.before ∙ ap first_outside u.before.same ∙ tree_in i u.between v.between v.before ∙ condition_in c v.between w.between w.before ∙ ap first_outside w.behind.same
  tree_in (call l m es c) ts r s = let x = s.behind in let y = x.behind in ap first_outside s.before ∙ ap first_outside x.before.same ∙ items_in es c x.between y.between y.before ∙ ap first_outside y.behind.same
  tree_in (method l a w es c) ts r s =
      let b = s.span in
      let x = b.behind in
      let y = x.behind in
      let z = y.behind in
      let u = z.behind in
      tree_in a ts b.between b.before ∙ ap first_outside x.before.same ∙ ap first_outside y.before ∙ ap first_outside z.before.same ∙ items_in es c z.between u.between u.before ∙ ap first_outside u.behind.same
  tree_in (index l a i) ts r s =
      let b = s.span in
      let x = b.behind in
      let y = x.behind in
      tree_in a ts b.between b.before ∙ ap first_outside x.before.same ∙ tree_in i x.between y.between y.before ∙ ap first_outside y.behind.same
  tree_in (slice l a i j) ts r s =
      let b = s.span in
      let x = b.behind in
      let y = x.behind in
      let z = y.behind in
      let u = z.behind in
      tree_in a ts b.between b.before ∙ ap first_outside x.before.same ∙ maybe_in i x.between y.between y.before ∙ ap first_outside z.before.same ∙ maybe_in j z.between u.between u.before ∙ ap first_outside u.behind.same
  tree_in (unary l o a) ts r s = ap first_outside s.before ∙ tree_in a s.between r s.behind
  tree_in (binary l a o b) ts r s = let x = s.span in let y = x.behind in tree_in a ts x.between x.before ∙ ap first_outside y.before.same ∙ tree_in b y.between r y.behind
  tree_in (compare l a os) ts r s = let x = s.span in tree_in a ts x.between x.before ∙ operands_in os x.between r x.behind
  tree_in (negation l a) ts r s = ap first_outside s.before ∙ tree_in a s.between r s.behind
  tree_in (conjunction l a es) ts r s = let x = s.span in tree_in a ts x.between x.before ∙ behind_in word.And (λ l r. refl) es x.between r x.behind
  tree_in (disjunction l a es) ts r s = let x = s.span in tree_in a ts x.between x.before ∙ behind_in word.Or (λ l r. refl) es x.between r x.behind
  tree_in (conditional l a t b) ts r s =
      let x = s.span in
      let y = x.behind in
      let z = y.behind in
      let u = z.behind in
      tree_in a ts x.between x.before ∙ ap first_outside y.before.same ∙ tree_in t y.between z.between z.before ∙ ap first_outside u.before.same ∙ tree_in b u.between r u.behind

  items_in : (es : Trees) (c : Bool) → Passes (SpellsItems es c)
  items_in none c ts r s = comma_in c ts r s
  items_in (more a es) c ts r s = tree_in a ts s.between s.before ∙ more_items_in es c s.between r s.behind

  more_items_in : (es : Trees) (c : Bool) → Passes (SpellsMoreItems es c)
  more_items_in none c ts r s = comma_in c ts r s
  more_items_in (more a es) c ts r s = let x = s.behind in ap first_outside s.before.same ∙ tree_in a s.between x.between x.before ∙ more_items_in es c x.between r x.behind

  pairs_in : (ps : PairTrees) (c : Bool) → Passes (SpellsPairs ps c)
  pairs_in no_pair c ts r s = comma_in c ts r s
  pairs_in (pair a b ps) c ts r s =
      let p = s.before in
      let q = p.behind in
      tree_in a ts p.between p.before ∙ ap first_outside q.before.same ∙ tree_in b q.between s.between q.behind ∙ more_pairs_in ps c s.between r s.behind

  more_pairs_in : (ps : PairTrees) (c : Bool) → Passes (SpellsMorePairs ps c)
  more_pairs_in no_pair c ts r s = comma_in c ts r s
  more_pairs_in (pair a b ps) c ts r s =
      let x = s.behind in
      let p = x.before in
      let q = p.behind in
      ap first_outside s.before.same ∙ tree_in a s.between p.between p.before ∙ ap first_outside q.before.same ∙ tree_in b q.between x.between q.behind ∙ more_pairs_in ps c x.between r x.behind

  behind_in : (w : Keyword) → IsInside w → (es : Trees) → Passes (SpellsBehind w es)
  behind_in w h none ts r s = ap first_outside s
  behind_in w h (more a es) ts r s = let x = s.behind in ap first_outside s.before.same ∙ h s.before.at s.between ∙ tree_in a s.between x.between x.before ∙ behind_in w h es x.between r x.behind

  operands_in : (os : Operands) → Passes (SpellsOperands os)
  operands_in no_operand ts r s = ap first_outside s
  operands_in (operand o a os) ts r s = let x = s.behind in op_in o ts s.between s.before ∙ tree_in a s.between x.between x.before ∙ operands_in os x.between r x.behind

  maybe_in : (m : MaybeTree) → Passes (SpellsMaybe m)
  maybe_in absent ts r s = ap first_outside s
  maybe_in (present a) ts r s = tree_in a ts r s

  condition_in : (m : MaybeTree) → Passes (SpellsCondition m)
  condition_in absent ts r s = ap first_outside s
  condition_in (present a) ts r s = ap first_outside s.before.same ∙ tree_in a s.between r s.behind

-- ---- statements

mutual
  statement_in : (t : Statement) → Passes (SpellsStatement t)
  statement_in (pass l) ts r s = ap first_outside s.before ∙ ap first_outside s.behind.same
  statement_in (break l) ts r s = ap first_outside s.before ∙ ap first_outside s.behind.same
  statement_in (continue l) ts r s = ap first_outside s.before ∙ ap first_outside s.behind.same
  statement_in (return l a) ts r s = let x = s.behind in ap first_outside s.before ∙ maybe_in a s.between x.between x.before ∙ ap first_outside x.behind.same
  statement_in (assign l t a) ts r s =
      let x = s.span in
      let y = x.behind in
      let z = y.behind in
      target_in t ts x.between x.before ∙ ap first_outside y.before.same ∙ tree_in a y.between z.between z.before ∙ ap first_outside z.behind.same
  statement_in (augment l n o a) ts r s = let x = s.behind in let y = x.behind in ap first_outside s.before ∙ ap first_outside x.before.same ∙ tree_in a x.between y.between y.before ∙ ap first_outside y.behind.same
  statement_in (express l a) ts r s = let x = s.span in tree_in a ts x.between x.before ∙ ap first_outside x.behind.same
  statement_in (branch l a b t) ts r s =
      let x = s.behind in
      let y = x.behind in
      let z = y.behind in
      ap first_outside s.before ∙ tree_in a s.between x.between x.before ∙ ap first_outside y.before.same ∙ body_in b y.between z.between z.before ∙ tail_in t z.between r z.behind
  statement_in (repeat l t a b) ts r s =
      let x = s.behind in
      let y = x.behind in
      let z = y.behind in
      let w = z.behind in
      ap first_outside s.before ∙ target_in t s.between x.between x.before ∙ ap first_outside y.before.same ∙ tree_in a y.between z.between z.before ∙ ap first_outside w.before.same ∙ body_in b w.between r w.behind

  body_in : (b : Body) → Passes (SpellsBody b)
  body_in (line t) ts r s = statement_in t ts r s
  body_in (indented ss) ts r s = let x = s.behind in let y = x.behind in ap first_outside s.before.same ∙ ap first_outside x.before.same ∙ statements_in ss x.between y.between y.before ∙ ap first_outside y.behind.same

  statements_in : (ss : Statements) → Passes (SpellsStatements ss)
  statements_in finish ts r s = ap first_outside s
  statements_in (next t ss) ts r s = statement_in t ts s.between s.before ∙ statements_in ss s.between r s.behind

  tail_in : (t : Tail) → Passes (SpellsTail t)
  tail_in nothing ts r s = ap first_outside s
  tail_in (otherwise b) ts r s = let x = s.behind in ap first_outside s.before.same ∙ ap first_outside x.before.same ∙ body_in b x.between r x.behind
  tail_in (elif a b t) ts r s =
      let x = s.behind in
      let y = x.behind in
      let z = y.behind in
      ap first_outside s.before.same ∙ tree_in a s.between x.between x.before ∙ ap first_outside y.before.same ∙ body_in b y.between z.between z.before ∙ tail_in t z.between r z.behind

-- ---- blocks

arg_in : (a : ArgTree) → Passes (SpellsArg a)
arg_in (lambda l params a) ts r s = let x = s.behind in let y = x.behind in ap first_outside s.before ∙ names_in params false s.between x.between x.before ∙ ap first_outside y.before.same ∙ tree_in a y.between r y.behind
arg_in (plain a) ts r s = tree_in a ts r s

args_in : (x : ArgTrees) → Passes (SpellsArgs x)
args_in a ts r s = let x = s.behind in ap first_outside s.before.same ∙ list_in SpellsArg arg_in a.items a.comma s.between x.between x.before ∙ ap first_outside x.behind.same

head_args_in : (o : Option ArgTrees) → Passes (SpellsHeadArgs o)
head_args_in None ts r s = ap first_outside s
head_args_in (Some x) ts r s = args_in x ts r s

head_in : (h : HeadTree) → Passes (SpellsHead h)
head_in h ts r s = ap first_outside s.before ∙ head_args_in h.args s.between r s.behind

links_in : (xs : List LinkTree) → Passes (SpellsLinks xs)
links_in [] ts r s = ap first_outside s
links_in (x ∷ xs) ts r s =
    let a = s.before in
    let b = a.behind in
    ap first_outside a.before ∙ ap first_outside b.before ∙ args_in x.args b.between s.between b.behind ∙ links_in xs s.between r s.behind

chain_in : (b : Bool) (h : HeadTree) (xs : List LinkTree) → Passes (SpellsChainIn b h xs)
chain_in true h xs ts r s = let x = s.behind in let y = x.behind in ap first_outside s.before.same ∙ head_in h s.between x.between x.before ∙ links_in xs x.between y.between y.before ∙ ap first_outside y.behind.same
chain_in false h xs ts r s = head_in h ts s.between s.before ∙ links_in xs s.between r s.behind

block_in : (b : BlockTree) → Passes (SpellsBlock b)
block_in (define l n params c b) ts r s =
    let x = s.behind in
    let y = x.behind in
    let z = y.behind in
    let u = z.behind in
    let v = u.behind in
    ap first_outside s.before ∙ ap first_outside x.before.same ∙ ap first_outside y.before.same ∙ names_in params c y.between z.between z.before ∙ ap first_outside u.before.same ∙ ap first_outside v.before.same ∙ body_in b v.between r v.behind
block_in (pipeline l n c) ts r s =
    let x = s.behind in
    let y = x.behind in
    let k = y.before in
    ap first_outside s.before ∙ ap first_outside x.before.same ∙ chain_in c.in_brackets c.head c.links x.between y.between k.span ∙ ap first_outside y.behind.same
block_in (alone c) ts r s = let k = s.before in chain_in c.in_brackets c.head c.links ts s.between k.span ∙ ap first_outside s.behind.same

pub in_profile : InProfileLaw
in_profile b ts is = block_in b ts [] is.spells
