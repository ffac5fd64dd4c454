-- The reader of blocks, as a function of the lexemes that are left. What stands in a block has at most n levels.
use Rattle.std.specs.Prelude.{ℕ, zero, suc, Bool, true, false, not, ◌&&◌, List, [], ◌∷◌, ◌++◌, length, Some, None}
use Rattle.tx_tree.specs.declared.symbol.Keyword.TheVariants as word
use Rattle.tx_tree.specs.declared.symbol.Mark.TheVariants as sign
use Rattle.tx_tree.specs.declared.target.Word.{Word}
use Rattle.tx_tree.specs.Tree.{ArgTree, lambda, plain, ArgTrees, HeadTree, LinkTree, ChainTree, BlockTree, define, pipeline, alone}
use Rattle.tx_tree.specs.Form.{are_params}
use Rattle.tx_parse.specs.declared.symbol.Symbol.{Symbol}
use Rattle.tx_parse.specs.declared.symbol.Symbol.TheVariants as symbol
use Rattle.tx_parse.specs.declared.place.Place.TheVariants as place
use Rattle.tx_parse.specs.Lexemes.{line_at}
use Rattle.tx_parse.specs.Calls.Front.{rest_of, at}
use Rattle.tx_parse.specs.Calls.Reader.{Reader, Listed, give, and_read, when, behind, items, a_word, a_name, read}
use Rattle.tx_parse.specs.Calls.Statements.{suite, statement}

-- names that may be parameters, with or without a comma behind the last
abbrev pub params_of : Listed (List ℕ) → Reader (Listed (List ℕ))
params_of x ts = when (are_params x.0) (Some (x, ts))

abbrev pub params : Symbol → Reader (Listed (List ℕ))
params end ts = and_read (items a_name end ts) params_of

module _ (n : ℕ) where
  -- ---- arguments

  abbrev pub lambda_of : ℕ → Listed (List ℕ) → Reader ArgTree
  lambda_of l x ts = when (not x.1) (behind (symbol.Mark sign.Colon) (λ r. and_read (read n place.Test r) (λ a. give (lambda l x.0 a))) ts)

  abbrev pub arg_by : Bool → Reader ArgTree
  arg_by true ts = and_read (params (symbol.Mark sign.Colon) (rest_of ts)) (lambda_of (line_at ts))
  arg_by false ts = and_read (read n place.Test ts) (λ a. give (plain a))

  abbrev pub arg : Reader ArgTree
  arg ts = arg_by (at (symbol.Keyword word.Lambda) ts) ts

  -- in brackets
  abbrev pub chain_args : Reader ArgTrees
  chain_args = behind (symbol.Mark sign.Open) (λ ts. and_read (items arg (symbol.Mark sign.Close) ts) (λ x. behind (symbol.Mark sign.Close) (give (record { items = x.0; comma = x.1 }))))

  -- ---- chains

  abbrev pub head_by : Word → Bool → Reader HeadTree
  head_by w true ts = and_read (chain_args ts) (λ x. give (record { word = w; args = Some x }))
  head_by w false ts = Some (record { word = w; args = None }, ts)

  abbrev pub head : Reader HeadTree
  head ts = and_read (a_word ts) (λ w r. head_by w (at (symbol.Mark sign.Open) r) r)

  -- behind the dot on this line
  abbrev pub link : ℕ → Reader LinkTree
  link l ts = and_read (a_word ts) (λ w r. and_read (chain_args r) (λ x. give (record { line = l; word = w; args = x })))

  abbrev pub link_by : (List LinkTree → Reader (List LinkTree)) → List LinkTree → Bool → Reader (List LinkTree)
  link_by again done true ts = and_read (link (line_at ts) (rest_of ts)) (λ x. again (done ++ x ∷ []))
  link_by again done false ts = Some (done, ts)

  -- at most m more links
  abbrev pub more_links : ℕ → List LinkTree → Reader (List LinkTree)
  more_links zero done ts = Some (done, ts)
  more_links (suc m) done ts = link_by (more_links m) done (at (symbol.Mark sign.Dot) ts) ts

  abbrev pub links : Reader (List LinkTree)
  links ts = more_links (length ts) [] ts

  -- a chain on this line, behind its bracket where it has one
  abbrev pub chain_of : ℕ → Bool → Reader ChainTree
  chain_of l in_brackets ts = and_read (head ts) (λ h r. and_read (links r) (λ xs. give (record { line = l; in_brackets = in_brackets; head = h; links = xs })))

  abbrev pub chain_by : Bool → Reader ChainTree
  chain_by true ts = and_read (chain_of (line_at ts) true (rest_of ts)) (λ c. behind (symbol.Mark sign.Close) (give c))
  chain_by false ts = chain_of (line_at ts) false ts

  -- a chain with the end of its line
  abbrev pub chain : Reader ChainTree
  chain ts = and_read (chain_by (at (symbol.Mark sign.Open) ts) ts) (λ c. behind symbol.Newline (give c))

  -- ---- blocks

  abbrev pub defined : ℕ → List ℕ → Listed (List ℕ) → Reader BlockTree
  defined l m x = behind (symbol.Mark sign.Close) (behind (symbol.Mark sign.Colon) (λ ts. and_read (suite n (statement n) false ts) (λ b. give (define l m x.0 x.1 b))))

  abbrev pub definition : ℕ → Reader BlockTree
  definition l ts = and_read (a_name ts) (λ m. behind (symbol.Mark sign.Open) (λ r. and_read (params (symbol.Mark sign.Close) r) (defined l m)))

  abbrev pub named_chain : Reader BlockTree
  named_chain ts = and_read (a_name ts) (λ m. behind (symbol.Mark sign.Assign) (λ r. and_read (chain r) (λ c. give (pipeline (line_at ts) m c))))

  -- whether `def` stands there, or a name with `=` behind it
  abbrev pub block_by : Bool → Bool → Reader BlockTree
  block_by true named ts = definition (line_at ts) (rest_of ts)
  block_by false true ts = named_chain ts
  block_by false false ts = and_read (chain ts) (λ c. give (alone c))

  abbrev pub block : Reader BlockTree
  block ts = block_by (at (symbol.Keyword word.Def) ts) (at symbol.Name ts && at (symbol.Mark sign.Assign) (rest_of ts)) ts
