-- The reader of statements and suites, as a function of the lexemes that are left.
use Rattle.std.specs.Prelude.{ℕ, zero, suc, Bool, true, false, nat_le, List, [], ◌∷◌, ◌++◌, length, Some, None}
use Rattle.tx_tree.specs.declared.operator.BinaryOp.{BinaryOp}
use Rattle.tx_tree.specs.declared.symbol.Keyword.{Keyword}
use Rattle.tx_tree.specs.declared.symbol.Keyword.TheVariants as word
use Rattle.tx_tree.specs.declared.symbol.Mark.TheVariants as sign
use Rattle.tx_tree.specs.declared.target.Target.{Target}
use Rattle.tx_tree.specs.Words.{augment_mark}
use Rattle.tx_tree.specs.Tree.{Tree, bare_tuple, trees, absent, present, Statement, pass, break, continue, return, assign, augment, express, branch, repeat, Body, line, indented, statements, Tail, nothing, otherwise, tail}
use Rattle.tx_tree.specs.Depth.{depth}
use Rattle.tx_parse.specs.declared.symbol.Symbol.{Symbol}
use Rattle.tx_parse.specs.declared.symbol.Symbol.TheVariants as symbol
use Rattle.tx_parse.specs.declared.cursor.Assigns.{Assigns}
use Rattle.tx_parse.specs.declared.cursor.Assigns.TheVariants as assigns
use Rattle.tx_parse.specs.declared.statement.Starter.{Starter}
use Rattle.tx_parse.specs.declared.statement.Starter.TheVariants as starter
use Rattle.tx_parse.specs.declared.place.Place.TheVariants as place
use Rattle.tx_parse.specs.Lexemes.{line_at}
use Rattle.tx_parse.specs.Calls.Front.{symbol_at, rest_of, at, assigns_at}
use Rattle.tx_parse.specs.Calls.Reader.{Reader, give, and_read, when, behind, items_behind, a_name, target, read}

-- ---- the value of an assignment or of a `return`: a test, or a tuple without brackets

module _ (n : ℕ) where
  abbrev pub listed_behind : ℕ → Tree → Reader Tree
  listed_behind l a ts = and_read (items_behind (read n place.Test) symbol.Newline a ts) (λ x. give (bare_tuple l (trees x.0) x.1))

  abbrev pub value_by : ℕ → Tree → Bool → Reader Tree
  value_by l a true ts = when (nat_le (depth a) n) (listed_behind l a ts)
  value_by l a false ts = Some (a, ts)

-- of at most n levels
abbrev pub value : ℕ → Reader Tree
value zero ts = None
value (suc n) ts = and_read (read (suc n) place.Test ts) (λ a r. value_by n (line_at ts) a (at (symbol.Mark sign.Comma) r) r)

-- ---- simple statements

abbrev pub word_starter : Keyword → Starter
word_starter word.Pass = starter.Pass
word_starter word.Break = starter.Break
word_starter word.Continue = starter.Continue
word_starter word.Return = starter.Return
word_starter word.If = starter.If
word_starter word.For = starter.For
word_starter _ = starter.Unmarked

-- what a statement begins with
abbrev pub starter_of : Symbol → Starter
starter_of (symbol.Keyword k) = word_starter k
starter_of _ = starter.Unmarked

-- the end of a line
abbrev pub ended : Statement → Reader Statement
ended s = behind symbol.Newline (give s)

-- of at most one level more than n
module _ (n : ℕ) where
  abbrev pub assigned : ℕ → Target → Reader Statement
  assigned l t ts = and_read (value n ts) (λ a. ended (assign l t a))

  abbrev pub augmented : ℕ → List ℕ → BinaryOp → Reader Statement
  augmented l m o ts = and_read (read n place.Test ts) (λ a. ended (augment l m o a))

  -- a statement without a keyword, by the first mark on its line that assigns
  abbrev pub unmarked : Assigns → Reader Statement
  unmarked assigns.Plain ts = and_read (target (symbol.Mark sign.Assign) ts) (λ t. behind (symbol.Mark sign.Assign) (assigned (line_at ts) t))
  unmarked (assigns.With o) ts = and_read (a_name ts) (λ m. behind (symbol.Mark (augment_mark o)) (augmented (line_at ts) m o))
  unmarked assigns.Nothing ts = and_read (read n place.Test ts) (λ a. ended (express (line_at ts) a))

  abbrev pub returned_by : ℕ → Bool → Reader Statement
  returned_by l true ts = ended (return l absent) ts
  returned_by l false ts = and_read (value n ts) (λ a. ended (return l (present a)))

  abbrev pub returned : ℕ → Reader Statement
  returned l ts = returned_by l (at symbol.Newline ts) ts

  abbrev pub simple_by : Bool → Starter → Reader Statement
  simple_by looped starter.Pass ts = ended (pass (line_at ts)) (rest_of ts)
  simple_by looped starter.Break ts = when looped (ended (break (line_at ts)) (rest_of ts))
  simple_by looped starter.Continue ts = when looped (ended (continue (line_at ts)) (rest_of ts))
  simple_by looped starter.Return ts = returned (line_at ts) (rest_of ts)
  simple_by looped _ ts = unmarked (assigns_at ts) ts

  abbrev pub simple : Bool → Reader Statement
  simple looped ts = simple_by looped (starter_of (symbol_at ts)) ts

-- a simple statement of at most n levels
abbrev pub simple_at : ℕ → Bool → Reader Statement
simple_at zero looped ts = None
simple_at (suc n) looped ts = simple n looped ts

-- ---- suites

module _ (inner : Reader Statement) where
  -- at a statement, or at the end of the suite
  abbrev pub statement_or_end : (List Statement → Reader (List Statement)) → List Statement → Bool → Reader (List Statement)
  statement_or_end again done true ts = Some (done, rest_of ts)
  statement_or_end again done false ts = and_read (inner ts) (λ s. again (done ++ s ∷ []))

  -- at most m steps more
  abbrev pub more_statements : ℕ → List Statement → Reader (List Statement)
  more_statements zero done ts = None
  more_statements (suc m) done ts = statement_or_end (more_statements m) done (at symbol.Dedent ts) ts

  -- behind the line's end
  abbrev pub indented_lines : Reader (List Statement)
  indented_lines ts = behind symbol.Indent (λ r. and_read (inner r) (λ s q. more_statements (length q) (s ∷ []) q)) ts

abbrev pub suite_by : Reader Statement → Reader Statement → Bool → Reader Body
suite_by simple inner true ts = and_read (indented_lines inner (rest_of ts)) (λ ss. give (indented (statements ss)))
suite_by simple inner false ts = and_read (simple ts) (λ s. give (line s))

-- ---- compound statements

-- the arms behind the first one, and the last suite, which has no test
abbrev pub Arms : Type 0
Arms = List (Tree × Body) × Tail

module _ (test : Reader Tree) (suite : Reader Body) where
  abbrev pub armed : Tree → Reader (Tree × Body)
  armed a = behind (symbol.Mark sign.Colon) (λ ts. and_read (suite ts) (λ b. give (a, b)))

  abbrev pub arm : Reader (Tree × Body)
  arm ts = and_read (test ts) armed

  -- what stands behind the last test
  abbrev pub other_suite : Bool → Reader Tail
  other_suite true ts = behind (symbol.Mark sign.Colon) (λ r. and_read (suite r) (λ b. give (otherwise b))) (rest_of ts)
  other_suite false ts = Some (nothing, ts)

  abbrev pub last_arm : List (Tree × Body) → Reader Arms
  last_arm done ts = and_read (other_suite (at (symbol.Keyword word.Else) ts) ts) (λ o. give (done, o))

  -- whether `elif` stands there
  abbrev pub arms_by : (List (Tree × Body) → Reader Arms) → List (Tree × Body) → Bool → Reader Arms
  arms_by again done true ts = and_read (arm (rest_of ts)) (λ a. again (done ++ a ∷ []))
  arms_by again done false ts = last_arm done ts

  -- at most m more arms
  abbrev pub arms : ℕ → List (Tree × Body) → Reader Arms
  arms zero done ts = Some ((done, nothing), ts)
  arms (suc m) done ts = arms_by (arms m) done (at (symbol.Keyword word.Elif) ts) ts

  abbrev pub branched : ℕ → Tree × Body → Reader Statement
  branched l a ts = and_read (arms (length ts) [] ts) (λ x. give (branch l a.0 a.1 (tail x.0 x.1)))

  abbrev pub branching : ℕ → Reader Statement
  branching l ts = and_read (arm ts) (branched l)

  abbrev pub repeated : ℕ → Target → Reader Statement
  repeated l t = behind (symbol.Keyword word.In) (λ ts. and_read (arm ts) (λ a. give (repeat l t a.0 a.1)))

  abbrev pub repeating : ℕ → Reader Statement
  repeating l ts = and_read (target (symbol.Keyword word.In) ts) (repeated l)

-- `inner` reads statements of at most n levels
module _ (n : ℕ) (inner : Bool → Reader Statement) where
  abbrev pub suite : Bool → Reader Body
  suite looped ts = suite_by (simple_at n looped) (inner looped) (at symbol.Newline ts) ts

  abbrev pub statement_by : Bool → Starter → Reader Statement
  statement_by looped starter.If ts = branching (read n place.Test) (suite looped) (line_at ts) (rest_of ts)
  statement_by looped starter.For ts = repeating (read n place.Test) (suite true) (line_at ts) (rest_of ts)
  statement_by looped s ts = simple_by n looped s ts

-- a statement of at most n levels, in a `for` or outside
abbrev pub statement : ℕ → Bool → Reader Statement
statement zero looped ts = None
statement (suc n) looped ts = statement_by n (statement n) looped (starter_of (symbol_at ts)) ts
