-- A reader of expressions, as a function of the lexemes that are left. It stands between the code and the grammar: the code
-- is proved to be this function, and this function to undo the spelling. It goes by levels: `read n` finds the trees of at
-- most n levels.
use Rattle.std.specs.Prelude.{ℕ, ℤ, zero, suc, Bool, true, false, nat_le, ◌&&◌, ◌||◌, not, List, [], ◌∷◌, ◌++◌, length, Option, Some, None}
use Rattle.tx_tree.specs.declared.operator.BinaryOp.{BinaryOp}
use Rattle.tx_tree.specs.declared.operator.BinaryOp.TheVariants as binary_op
use Rattle.tx_tree.specs.declared.operator.UnaryOp.{UnaryOp}
use Rattle.tx_tree.specs.declared.operator.CompareOp.{CompareOp}
use Rattle.tx_tree.specs.declared.symbol.Keyword.{Keyword}
use Rattle.tx_tree.specs.declared.symbol.Keyword.TheVariants as word
use Rattle.tx_tree.specs.declared.symbol.Mark.{Mark}
use Rattle.tx_tree.specs.declared.symbol.Mark.TheVariants as sign
use Rattle.tx_tree.specs.declared.target.Word.{Word}
use Rattle.tx_tree.specs.declared.target.Target.{Target}
use Rattle.tx_tree.specs.declared.target.Target.TheVariants as target_of
use Rattle.tx_tree.specs.Tree.{Tree, nil, truth, int, text, name, paren, tuple, list, dict, comprehension, call, method, index, slice, unary, binary, compare, negation, conjunction, disjunction, conditional, none, trees, pair_trees, operands, MaybeTree, absent, present}
use Rattle.tx_tree.specs.Form.{amount, is_listed, is_name, is_literal, is_identity, is_nil}
use Rattle.tx_tree.specs.Depth.{depth}
use Rattle.tx_parse.specs.declared.symbol.Symbol.{Symbol}
use Rattle.tx_parse.specs.declared.symbol.Symbol.TheVariants as symbol
use Rattle.tx_parse.specs.declared.place.Place.{Place}
use Rattle.tx_parse.specs.declared.place.Place.TheVariants as place
use Rattle.tx_parse.specs.Lexemes.{Lexeme, line_at}
use Rattle.tx_parse.specs.Calls.Front.{symbol_at, text_at, number_at, rest_of, at, binary_at, unary_at, compare_at, behind_op}

abbrev pub Reader : Type 0 → Type 0
Reader A = List Lexeme → Option (A × List Lexeme)

abbrev pub give : {A : Type 0} → A → Reader A
give x ts = Some (x, ts)

abbrev pub and_read : {A B : Type 0} → Option (A × List Lexeme) → (A → Reader B) → Option (B × List Lexeme)
and_read None f = None
and_read (Some p) f = f p.0 p.1

abbrev pub when : {A : Type 0} → Bool → Option A → Option A
when true x = x
when false x = None

-- a symbol, and what is read behind it
abbrev pub behind : {A : Type 0} → Symbol → Reader A → Reader A
behind s f ts = when (at s ts) (f (rest_of ts))

-- ---- lists with commas, up to a symbol that is not read

-- the items, and whether a comma stands behind the last
abbrev pub Listed : Type 0 → Type 0
Listed A = List A × Bool

module _ {A : Type 0} (item : Reader A) (end : Symbol) where
  abbrev pub comma_by : (List A → Reader (Listed A)) → List A → Bool → Reader (Listed A)
  comma_by again done true ts = Some ((done, true), ts)
  comma_by again done false ts = and_read (item ts) (λ x. again (done ++ x ∷ []))

  abbrev pub item_by : (List A → Reader (Listed A)) → List A → Bool → Reader (Listed A)
  item_by again done true ts = comma_by again done (at end (rest_of ts)) (rest_of ts)
  item_by again done false ts = Some ((done, false), ts)

  -- at most m more items
  abbrev pub more_items : ℕ → List A → Reader (Listed A)
  more_items zero done ts = Some ((done, false), ts)
  more_items (suc m) done ts = item_by (more_items m) done (at (symbol.Mark sign.Comma) ts) ts

  -- behind the first of some items
  abbrev pub items_behind : A → Reader (Listed A)
  items_behind x ts = more_items (length ts) (x ∷ []) ts

  abbrev pub items_by : Bool → Reader (Listed A)
  items_by true ts = Some (([], false), ts)
  items_by false ts = and_read (item ts) items_behind

  -- none, or some
  abbrev pub items : Reader (Listed A)
  items ts = items_by (at end ts) ts

-- ---- names and targets

-- whether a name stands there, which is no keyword
abbrev pub is_named : List Lexeme → Bool
is_named ts = at symbol.Name ts && is_name (text_at ts)

abbrev pub a_word : Reader Word
a_word ts = when (is_named ts) (Some (record { line = line_at ts; text = text_at ts }, rest_of ts))

abbrev pub a_name : Reader (List ℕ)
a_name ts = when (is_named ts) (Some (text_at ts, rest_of ts))

-- what names without brackets are
abbrev pub named_target : List Word → Bool → Option Target
named_target [] comma = None
named_target (w ∷ []) false = Some (target_of.Name w)
named_target ws comma = Some (target_of.Names ws comma)

abbrev pub given : {A : Type 0} → Option A → Reader A
given None ts = None
given (Some x) ts = Some (x, ts)

abbrev pub bracketed_target : ℕ → Listed Word → Reader Target
bracketed_target l x ts = when (is_listed (amount x.0) x.1) (behind (symbol.Mark sign.Close) (give (target_of.Bracketed l x.0 x.1)) ts)

abbrev pub target_by : Symbol → Bool → Reader Target
target_by end true ts = and_read (items a_word (symbol.Mark sign.Close) (rest_of ts)) (bracketed_target (line_at ts))
target_by end false ts = and_read (items a_word end ts) (λ x. given (named_target x.0 x.1))

-- a target, and not the symbol behind it
abbrev pub target : Symbol → Reader Target
target end ts = target_by end (at (symbol.Mark sign.Open) ts) ts

-- ---- places

-- the place of the parts
abbrev pub tighter : Place → Place
tighter place.Test = place.Or
tighter place.Or = place.And
tighter place.And = place.Not
tighter place.Not = place.Compare
tighter place.Compare = place.Sum
tighter place.Sum = place.Term
tighter place.Term = place.Unary
tighter place.Unary = place.Postfix
tighter place.Postfix = place.Postfix

-- whether a chain of operands stands there, or an operator between two
abbrev pub is_joint : Place → Bool
is_joint place.Or = true
is_joint place.And = true
is_joint _ = false

abbrev pub has_operator : Place → Bool
has_operator place.Sum = true
has_operator place.Term = true
has_operator _ = false

-- the word between the operands
abbrev pub joint : Place → Symbol
joint place.Or = symbol.Keyword word.Or
joint _ = symbol.Keyword word.And

-- a chain of operands, or the one
abbrev pub joined_tree : Place → ℕ → Tree → List Tree → Tree
joined_tree p l a [] = a
joined_tree place.Or l a (b ∷ es) = disjunction l a (trees (b ∷ es))
joined_tree _ l a (b ∷ es) = conjunction l a (trees (b ∷ es))

abbrev pub compared_tree : ℕ → Tree → List (CompareOp × Tree) → Tree
compared_tree l a [] = a
compared_tree l a (o ∷ os) = compare l a (operands (o ∷ os))

abbrev pub place_of_op : BinaryOp → Place
place_of_op binary_op.Add = place.Sum
place_of_op binary_op.Sub = place.Sum
place_of_op _ = place.Term

-- an operator, where it stands at this place
abbrev pub op_in : Place → Place → BinaryOp → Option BinaryOp
op_in place.Sum place.Sum o = Some o
op_in place.Term place.Term o = Some o
op_in _ _ o = None

abbrev pub op_of : Place → Option BinaryOp → Option BinaryOp
op_of p None = None
op_of p (Some o) = op_in p (place_of_op o) o

abbrev pub op_at : Place → List Lexeme → Option BinaryOp
op_at p ts = op_of p (binary_at (symbol_at ts))

-- a keyword that is a literal
abbrev pub literal : Keyword → ℕ → Option Tree
literal word.None l = Some (nil l)
literal word.True l = Some (truth l true)
literal word.False l = Some (truth l false)
literal _ l = None

-- an integer of this value
abbrev pub number : ℕ → ℤ → Reader Tree
number l v ts = when (is_literal (int l v)) (Some (int l v, ts))

-- what stands in round brackets
abbrev pub bracketed_by : ℕ → List Tree → Bool → Tree
bracketed_by l (a ∷ []) false = paren l a
bracketed_by l es comma = tuple l (trees es) comma

abbrev pub bracketed : ℕ → Listed Tree → Tree
bracketed l x = bracketed_by l x.0 x.1

abbrev pub index_of : ℕ → Tree → MaybeTree → Reader Tree
index_of l a absent ts = None
index_of l a (present i) ts = behind (symbol.Mark sign.CloseSquare) (give (index l a i)) ts

-- whether a dot or a square bracket stands there
abbrev pub trails : List Lexeme → Bool
trails ts = at (symbol.Mark sign.Dot) ts || at (symbol.Mark sign.OpenSquare) ts

-- whether an operand may stand behind an operator
abbrev pub may_compare : CompareOp → Tree → Bool
may_compare o a = not (is_identity o) || is_nil a

-- `inner` reads trees of at most n levels, and these readers trees of at most one more
module _ (n : ℕ) (inner : Place → Reader Tree) where
  -- ---- atoms

  -- in round brackets, with the closing one
  abbrev pub args : Reader (Listed Tree)
  args ts = and_read (items (inner place.Test) (symbol.Mark sign.Close) ts) (λ x. behind (symbol.Mark sign.Close) (give x))

  abbrev pub name_by : ℕ → List ℕ → Bool → Reader Tree
  name_by l m true ts = and_read (args (rest_of ts)) (λ x r. Some (call l m (trees x.0) x.1, r))
  name_by l m false ts = Some (name l m, ts)

  -- the parts of a comprehension behind its element
  abbrev pub condition_by : Bool → Reader MaybeTree
  condition_by true ts = and_read (inner place.Or (rest_of ts)) (λ c r. Some (present c, r))
  condition_by false ts = Some (absent, ts)

  abbrev pub condition : Reader MaybeTree
  condition ts = condition_by (at (symbol.Keyword word.If) ts) ts

  abbrev pub conditioned : ℕ → Tree → Target → Tree → Reader Tree
  conditioned l a t i ts = and_read (condition ts) (λ c. behind (symbol.Mark sign.CloseSquare) (give (comprehension l a t i c)))

  abbrev pub iterated : ℕ → Tree → Target → Reader Tree
  iterated l a t ts = and_read (inner place.Or ts) (conditioned l a t)

  abbrev pub comprehended : ℕ → Tree → Reader Tree
  comprehended l a ts = and_read (target (symbol.Keyword word.In) ts) (λ t. behind (symbol.Keyword word.In) (iterated l a t))

  -- in square brackets
  abbrev pub element_by : ℕ → Tree → Bool → Reader Tree
  element_by l a true ts = comprehended l a (rest_of ts)
  element_by l a false ts = and_read (items_behind (inner place.Test) (symbol.Mark sign.CloseSquare) a ts) (λ x. behind (symbol.Mark sign.CloseSquare) (give (list l (trees x.0) x.1)))

  abbrev pub square_by : ℕ → Bool → Reader Tree
  square_by l true ts = Some (list l none false, rest_of ts)
  square_by l false ts = and_read (inner place.Test ts) (λ a r. element_by l a (at (symbol.Keyword word.For) r) r)

  abbrev pub square : ℕ → Reader Tree
  square l ts = square_by l (at (symbol.Mark sign.CloseSquare) ts) ts

  abbrev pub pair : Reader (Tree × Tree)
  pair ts = and_read (inner place.Test ts) (λ a. behind (symbol.Mark sign.Colon) (λ r. and_read (inner place.Test r) (λ b. give (a, b))))

  abbrev pub brace : ℕ → Reader Tree
  brace l ts = and_read (items pair (symbol.Mark sign.CloseBrace) ts) (λ x. behind (symbol.Mark sign.CloseBrace) (give (dict l (pair_trees x.0) x.1)))

  abbrev pub bracket_by : Mark → ℕ → Reader Tree
  bracket_by sign.Open l ts = and_read (args ts) (λ x. give (bracketed l x))
  bracket_by sign.OpenSquare l ts = square l ts
  bracket_by sign.OpenBrace l ts = brace l ts
  bracket_by _ l ts = None

  -- an atom of this symbol, this line and this content, behind its first lexeme
  abbrev pub atom_by : Symbol → ℕ → List ℕ → ℤ → Reader Tree
  atom_by symbol.Name l m v ts = when (is_name m) (name_by l m (at (symbol.Mark sign.Open) ts) ts)
  atom_by symbol.Number l m v ts = number l v ts
  atom_by symbol.Quoted l m v ts = Some (text l m, ts)
  atom_by (symbol.Keyword k) l m v ts = given (literal k l) ts
  atom_by (symbol.Mark s) l m v ts = bracket_by s l ts
  atom_by _ l m v ts = None

  abbrev pub atom : Reader Tree
  atom ts = atom_by (symbol_at ts) (line_at ts) (text_at ts) (number_at ts) (rest_of ts)

  -- ---- behind an atom

  abbrev pub called : ℕ → Tree → Word → Reader Tree
  called l a w ts = and_read (args ts) (λ x. give (method l a w (trees x.0) x.1))

  abbrev pub method_of : ℕ → Tree → Reader Tree
  method_of l a ts = and_read (a_word ts) (λ w. behind (symbol.Mark sign.Open) (called l a w))

  -- an expression, unless this symbol stands there
  abbrev pub bound_by : Bool → Reader MaybeTree
  bound_by true ts = Some (absent, ts)
  bound_by false ts = and_read (inner place.Test ts) (λ a. give (present a))

  abbrev pub bound : Symbol → Reader MaybeTree
  bound end ts = bound_by (at end ts) ts

  abbrev pub subscript_by : ℕ → Tree → MaybeTree → Bool → Reader Tree
  subscript_by l a i true ts = and_read (bound (symbol.Mark sign.CloseSquare) (rest_of ts)) (λ j. behind (symbol.Mark sign.CloseSquare) (give (slice l a i j)))
  subscript_by l a i false ts = index_of l a i ts

  abbrev pub subscript : ℕ → Tree → Reader Tree
  subscript l a ts = and_read (bound (symbol.Mark sign.Colon) ts) (λ i r. subscript_by l a i (at (symbol.Mark sign.Colon) r) r)

  -- behind a dot, or behind a square bracket
  abbrev pub post : Bool → ℕ → Tree → Reader Tree
  post true l a ts = method_of l a ts
  post false l a ts = subscript l a ts

  -- whether one of them stands there, and whether it is a dot
  abbrev pub post_by : (Tree → Reader Tree) → ℕ → Tree → Bool → Bool → Reader Tree
  post_by again l a true dot ts = when (nat_le (depth a) n) (and_read (post dot l a (rest_of ts)) again)
  post_by again l a false dot ts = Some (a, ts)

  -- at most m more
  abbrev pub posts : ℕ → ℕ → Tree → Reader Tree
  posts zero l a ts = Some (a, ts)
  posts (suc m) l a ts = post_by (posts m l) l a (trails ts) (at (symbol.Mark sign.Dot) ts) ts

  abbrev pub postfix : Reader Tree
  postfix ts = and_read (atom ts) (λ a r. posts (length r) (line_at ts) a r)

  -- ---- operators

  abbrev pub unary_by : Option UnaryOp → Reader Tree
  unary_by (Some o) ts = and_read (inner place.Unary (rest_of ts)) (λ a. give (unary (line_at ts) o a))
  unary_by None ts = postfix ts

  abbrev pub signed : Reader Tree
  signed ts = unary_by (unary_at (symbol_at ts)) ts

  module _ (p : Place) where
    abbrev pub operated : (Tree → Reader Tree) → ℕ → Tree → Option BinaryOp → Reader Tree
    operated again l a (Some o) ts = when (nat_le (depth a) n) (and_read (inner (tighter p) (rest_of ts)) (λ b. again (binary l a o b)))
    operated again l a None ts = Some (a, ts)

    -- at most m more operators
    abbrev pub operations : ℕ → ℕ → Tree → Reader Tree
    operations zero l a ts = Some (a, ts)
    operations (suc m) l a ts = operated (operations m l) l a (op_at p ts) ts

    -- what leans to the left, of these parts
    abbrev pub leaning : Reader Tree → Reader Tree
    leaning part ts = and_read (part ts) (λ a r. operations (length r) (line_at ts) a r)

  module _ (a : Tree) where
    abbrev pub compared_by : (List (CompareOp × Tree) → Reader (List (CompareOp × Tree))) → List (CompareOp × Tree) → Option CompareOp → Reader (List (CompareOp × Tree))
    compared_by again done (Some o) ts = when (nat_le (depth a) n) (and_read (inner place.Sum (behind_op o ts)) (λ b r. when (may_compare o b) (again (done ++ (o, b) ∷ []) r)))
    compared_by again done None ts = Some (done, ts)

    -- at most m more operands
    abbrev pub comparisons : ℕ → List (CompareOp × Tree) → Reader (List (CompareOp × Tree))
    comparisons zero done ts = Some (done, ts)
    comparisons (suc m) done ts = compared_by (comparisons m) done (compare_at ts) ts

  abbrev pub comparing : Reader Tree → Reader Tree
  comparing part ts = and_read (part ts) (λ a r. and_read (comparisons a (length r) [] r) (λ os. give (compared_tree (line_at ts) a os)))

  abbrev pub negation_by : Reader Tree → Bool → Reader Tree
  negation_by part true ts = and_read (inner place.Not (rest_of ts)) (λ a. give (negation (line_at ts) a))
  negation_by part false ts = part ts

  abbrev pub negating : Reader Tree → Reader Tree
  negating part ts = negation_by part (at (symbol.Keyword word.Not) ts) ts

  module _ (p : Place) (a : Tree) where
    abbrev pub joint_by : (List Tree → Reader (List Tree)) → List Tree → Bool → Reader (List Tree)
    joint_by again done true ts = when (nat_le (depth a) n) (and_read (inner (tighter p) (rest_of ts)) (λ b. again (done ++ b ∷ [])))
    joint_by again done false ts = Some (done, ts)

    -- at most m more operands
    abbrev pub joints : ℕ → List Tree → Reader (List Tree)
    joints zero done ts = Some (done, ts)
    joints (suc m) done ts = joint_by (joints m) done (at (joint p) ts) ts

  abbrev pub joining : Place → Reader Tree → Reader Tree
  joining p part ts = and_read (part ts) (λ a r. and_read (joints p a (length r) [] r) (λ es. give (joined_tree p (line_at ts) a es)))

  abbrev pub other_arm : ℕ → Tree → Tree → Reader Tree
  other_arm l a t ts = and_read (inner place.Test ts) (λ b. give (conditional l a t b))

  abbrev pub test_by : ℕ → Tree → Bool → Reader Tree
  test_by l a true ts = when (nat_le (depth a) n) (and_read (inner place.Or (rest_of ts)) (λ t. behind (symbol.Keyword word.Else) (other_arm l a t)))
  test_by l a false ts = Some (a, ts)

  abbrev pub choosing : Reader Tree → Reader Tree
  choosing part ts = and_read (part ts) (λ a r. test_by (line_at ts) a (at (symbol.Keyword word.If) r) r)

  -- ---- the productions, the tightest first

  abbrev pub a_term : Reader Tree
  a_term = leaning place.Term signed

  abbrev pub a_sum : Reader Tree
  a_sum = leaning place.Sum a_term

  abbrev pub a_comparison : Reader Tree
  a_comparison = comparing a_sum

  abbrev pub a_negation : Reader Tree
  a_negation = negating a_comparison

  abbrev pub a_conjunction : Reader Tree
  a_conjunction = joining place.And a_negation

  abbrev pub a_disjunction : Reader Tree
  a_disjunction = joining place.Or a_conjunction

  abbrev pub a_test : Reader Tree
  a_test = choosing a_disjunction

  abbrev pub at_place : Place → Reader Tree
  at_place place.Test = a_test
  at_place place.Or = a_disjunction
  at_place place.And = a_conjunction
  at_place place.Not = a_negation
  at_place place.Compare = a_comparison
  at_place place.Sum = a_sum
  at_place place.Term = a_term
  at_place place.Unary = signed
  at_place place.Postfix = postfix

-- an expression of at most n levels at a place
abbrev pub read : ℕ → Place → Reader Tree
read zero p ts = None
read (suc n) p ts = at_place n (read n) p ts
