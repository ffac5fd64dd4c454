-- What the reader of blocks finds is spelled by what it has read.
use Rattle.std.proofs.Common.{◌≡◌, ℕ, zero, suc, ◌≤◌, Bool, true, false, not, ◌&&◌, List, [], ◌∷◌, ◌++◌, length, Option, Some, None, refl, sym, ap, ◌∙◌, subst, arith, append_assoc, append-nil}
use Rattle.std.specs.List.{list_all}
use Rattle.tx_tree.specs.declared.symbol.Keyword.TheVariants as word
use Rattle.tx_tree.specs.declared.symbol.Mark.TheVariants as sign
use Rattle.tx_tree.specs.declared.target.Word.{Word}
use Rattle.tx_tree.specs.Kind as kind
use Rattle.tx_tree.specs.Tree.{ArgTree, lambda, plain, ArgTrees, HeadTree, LinkTree, ChainTree, BlockTree, define, pipeline, alone}
use Rattle.tx_tree.specs.Form.{amount, may_end, are_params, fine_arg, fine_args, fine_head, fine_link, fine_chain, well_formed}
use Rattle.tx_tree.specs.Depth.{depth_arg, depth_args, depth_head, depth_links, depth_chain, depth_block}
use Rattle.tx_parse.specs.declared.symbol.Symbol.{Symbol}
use Rattle.tx_parse.specs.declared.symbol.Symbol.TheVariants as symbol
use Rattle.tx_parse.specs.declared.place.Place.TheVariants as place
use Rattle.tx_parse.specs.Lexemes.{Lexeme, lexeme, line_at}
use Rattle.tx_parse.specs.Spells.{Lone, Seq, SpellsNames, SpellsWord, SpellsArg, SpellsArgs, SpellsHead, SpellsLink, SpellsLinks, SpellsChainIn, SpellsChain, SpellsBlock}
use Rattle.tx_parse.specs.Calls.Front.{rest_of, at}
use Rattle.tx_parse.specs.Calls.Reader.{Reader, Listed, give, and_read, behind, items, a_word, a_name, read}
use Rattle.tx_parse.specs.Calls.Statements.{suite, statement}
use Rattle.tx_parse.specs.Calls.Blocks as reader
use Rattle.tx_parse.specs.Calls.Blocks.{params_of, params, lambda_of, arg_by, arg, chain_args, head_by, head, link, link_by, more_links, links, chain_by, chain, defined, definition, named_chain, block_by, block}
use Rattle.tx_parse.proofs.Options.{both_of, held, and_both}
use Rattle.tx_parse.proofs.Fronts.{at_mark, at_word, lone, lone_mark, at_newline}
use Rattle.tx_parse.proofs.Lists.{Each, FoundItem, SoundItem, items_sound}
use Rattle.tx_parse.proofs.Targets.{GoodWord, GoodName, SpellsName, word_sound, name_sound}
use Rattle.tx_parse.proofs.Expressions.Sound.{read_sound, there, closed_of}
use Rattle.tx_parse.proofs.Statements.Sound.{suite_sound, statement_sound}

-- ---- parameters

record FoundParams (x : Listed (List ℕ)) (ts r : List Lexeme) : Type 0 where
  spells : SpellsNames x.0 x.1 ts r
  good : are_params x.0 ≡ true
  ends : may_end (amount x.0) x.1 ≡ true

params_sound : (end : Symbol) (ts : List Lexeme) (x : Listed (List ℕ)) (r : List Lexeme) → params end ts ≡ Some (x, r) → FoundParams x ts r
params_sound end ts x r h =
    let y = both_of (items a_name end ts) params_of x r h in
    let f = items_sound SpellsName GoodName a_name end name_sound ts y.first_one y.between y.before in
    let c = held (are_params y.first_one.0) (Some (y.first_one, y.between)) (x, r) y.after in
    there (λ x r. FoundParams x ts r) y.first_one x y.between r c.gives (record { spells = f.spells; good = c.yes; ends = f.ends })

not_false : (b : Bool) → not b ≡ true → b ≡ false
not_false true h = cc
not_false false h = refl

module _ (n : ℕ) where
  -- ---- arguments

  record GoodArg (a : ArgTree) : Type 0 where
    good : fine_arg a ≡ true
    low : depth_arg a ≤ n

  lambda_sound : (ts : List Lexeme) (x : Listed (List ℕ)) (mid : List Lexeme) → at (symbol.Keyword word.Lambda) ts ≡ true → FoundParams x (rest_of ts) mid → (a : ArgTree) (r : List Lexeme) → lambda_of n (line_at ts) x mid ≡ Some (a, r) → FoundItem SpellsArg GoodArg a ts r
  lambda_sound ts x mid e f a r h =
      let c = held (not x.1) (behind (symbol.Mark sign.Colon) (λ r. and_read (read n place.Test r) (λ a. give (lambda (line_at ts) x.0 a))) mid) (a, r) h in
      let d = held (at (symbol.Mark sign.Colon) mid) (and_read (read n place.Test (rest_of mid)) (λ a. give (lambda (line_at ts) x.0 a))) (a, r) c.gives in
      let y = both_of (read n place.Test (rest_of mid)) (λ a. give (lambda (line_at ts) x.0 a)) a r d.gives in
      let g = read_sound n place.Test (rest_of mid) y.first_one y.between y.before in
      there (λ a r. FoundItem SpellsArg GoodArg a ts r) (lambda (line_at ts) x.0 y.first_one) a y.between r y.after (record {
        spells = record { between = rest_of ts; before = at_word word.Lambda ts e; behind = record { between = mid; before = subst (λ z. SpellsNames x.0 z (rest_of ts) mid) (not_false x.1 c.yes) f.spells; behind = record { between = rest_of mid; before = lone_mark sign.Colon mid d.yes; behind = g.spells } } };
        good = record { good = and_both _ _ f.good (and_both _ _ g.place_fits g.good); low = g.low };
      })

  arg_by_sound : (b : Bool) (ts : List Lexeme) → at (symbol.Keyword word.Lambda) ts ≡ b → (a : ArgTree) (r : List Lexeme) → arg_by n b ts ≡ Some (a, r) → FoundItem SpellsArg GoodArg a ts r
  arg_by_sound true ts e a r h =
      let x = both_of (params (symbol.Mark sign.Colon) (rest_of ts)) (lambda_of n (line_at ts)) a r h in
      lambda_sound ts x.first_one x.between e (params_sound (symbol.Mark sign.Colon) (rest_of ts) x.first_one x.between x.before) a r x.after
  arg_by_sound false ts e a r h =
      let y = both_of (read n place.Test ts) (λ a. give (plain a)) a r h in
      let g = read_sound n place.Test ts y.first_one y.between y.before in
      there (λ a r. FoundItem SpellsArg GoodArg a ts r) (plain y.first_one) a y.between r y.after (record { spells = g.spells; good = record { good = and_both _ _ g.place_fits g.good; low = g.low } })

  arg_sound : SoundItem SpellsArg GoodArg (arg n)
  arg_sound ts a r h = arg_by_sound (at (symbol.Keyword word.Lambda) ts) ts refl a r h

  fine_arg_list : (xs : List ArgTree) → Each GoodArg xs → list_all fine_arg xs ≡ true
  fine_arg_list [] g = refl
  fine_arg_list (x ∷ xs) g = and_both _ _ g.0.good (fine_arg_list xs g.1)

  depth_arg_list : (xs : List ArgTree) → Each GoodArg xs → depth_args xs ≤ n
  depth_arg_list [] g = omega arith
  depth_arg_list (x ∷ xs) g = omega (arith, g.0.low, depth_arg_list xs g.1)

  record FoundArgs (x : ArgTrees) (ts r : List Lexeme) : Type 0 where
    spells : SpellsArgs x ts r
    good : fine_args x ≡ true
    low : depth_args x.items ≤ n

  chain_args_sound : (ts : List Lexeme) (x : ArgTrees) (r : List Lexeme) → chain_args n ts ≡ Some (x, r) → FoundArgs x ts r
  chain_args_sound ts x r h =
      let c = held (at (symbol.Mark sign.Open) ts) (and_read (items (arg n) (symbol.Mark sign.Close) (rest_of ts)) (λ x. behind (symbol.Mark sign.Close) (give (record { items = x.0; comma = x.1 })))) (x, r) h in
      let y = both_of (items (arg n) (symbol.Mark sign.Close) (rest_of ts)) (λ x. behind (symbol.Mark sign.Close) (give (record { items = x.0; comma = x.1 }))) x r c.gives in
      let f = items_sound SpellsArg GoodArg (arg n) (symbol.Mark sign.Close) arg_sound (rest_of ts) y.first_one y.between y.before in
      let made : ArgTrees = record { items = y.first_one.0; comma = y.first_one.1 } in
      let d = closed_of (symbol.Mark sign.Close) made x y.between r y.after in
      subst (λ x. FoundArgs x ts r) d.same (record {
        spells = record { between = rest_of ts; before = lone_mark sign.Open ts c.yes; behind = record { between = y.between; before = f.spells; behind = subst (Lone (kind.mark sign.Close) y.between) d.rest (lone_mark sign.Close y.between d.yes) } };
        good = and_both _ _ f.ends (fine_arg_list y.first_one.0 f.good);
        low = depth_arg_list y.first_one.0 f.good;
      })

  -- ---- chains

  record FoundHead (h : HeadTree) (ts r : List Lexeme) : Type 0 where
    spells : SpellsHead h ts r
    good : fine_head h ≡ true
    low : depth_head h.args ≤ n

  head_by_sound : (ts : List Lexeme) (w : Word) (mid : List Lexeme) → FoundItem SpellsWord GoodWord w ts mid → (b : Bool) (x : HeadTree) (r : List Lexeme) → head_by n w b mid ≡ Some (x, r) → FoundHead x ts r
  head_by_sound ts w mid f false x r h = there (λ x r. FoundHead x ts r) (record { word = w; args = None }) x mid r h (record { spells = record { between = mid; before = f.spells; behind = refl }; good = and_both _ _ f.good refl; low = omega arith })
  head_by_sound ts w mid f true x r h =
      let y = both_of (chain_args n mid) (λ x. give (record { word = w; args = Some x })) x r h in
      let g = chain_args_sound mid y.first_one y.between y.before in
      there (λ x r. FoundHead x ts r) (record { word = w; args = Some y.first_one }) x y.between r y.after (record { spells = record { between = mid; before = f.spells; behind = g.spells }; good = and_both _ _ f.good g.good; low = g.low })

  head_sound : (ts : List Lexeme) (x : HeadTree) (r : List Lexeme) → head n ts ≡ Some (x, r) → FoundHead x ts r
  head_sound ts x r h =
      let y = both_of (a_word ts) (λ w r. head_by n w (at (symbol.Mark sign.Open) r) r) x r h in
      head_by_sound ts y.first_one y.between (word_sound ts y.first_one y.between y.before) (at (symbol.Mark sign.Open) y.between) x r y.after

  record FoundLink (x : LinkTree) (ts r : List Lexeme) : Type 0 where
    spells : SpellsLink x ts r
    good : fine_link x ≡ true
    low : depth_args x.args.items ≤ n

  link_sound : (ts : List Lexeme) → at (symbol.Mark sign.Dot) ts ≡ true → (x : LinkTree) (r : List Lexeme) → link n (line_at ts) (rest_of ts) ≡ Some (x, r) → FoundLink x ts r
  link_sound ts e x r h =
      let y = both_of (a_word (rest_of ts)) (λ w r. and_read (chain_args n r) (λ x. give (record { line = line_at ts; word = w; args = x }))) x r h in
      let f = word_sound (rest_of ts) y.first_one y.between y.before in
      let z = both_of (chain_args n y.between) (λ x. give (record { line = line_at ts; word = y.first_one; args = x })) x r y.after in
      let g = chain_args_sound y.between z.first_one z.between z.before in
      there (λ x r. FoundLink x ts r) (record { line = line_at ts; word = y.first_one; args = z.first_one }) x z.between r z.after (record { spells = record { between = rest_of ts; before = at_mark sign.Dot ts e; behind = record { between = y.between; before = f.spells; behind = g.spells } }; good = and_both _ _ f.good g.good; low = g.low })

  record FoundLinks (done all : List LinkTree) (ts r : List Lexeme) : Type 0 where
    others : List LinkTree
    same : all ≡ done ++ others
    spells : SpellsLinks others ts r
    good : list_all fine_link others ≡ true
    low : depth_links others ≤ n

  no_links : (done all : List LinkTree) (ts r : List Lexeme) → ◌≡◌ {A = Option (List LinkTree × List Lexeme)} (Some (done, ts)) (Some (all, r)) → FoundLinks done all ts r
  no_links done all ts r h = there (λ all r. FoundLinks done all ts r) done all ts r h (record { others = []; same = sym (append-nil done); spells = refl; good = refl; low = omega arith })

  link_by_sound : (again : List LinkTree → Reader (List LinkTree)) (done : List LinkTree) → ((x : LinkTree) (ts : List Lexeme) (all : List LinkTree) (r : List Lexeme) → again (done ++ x ∷ []) ts ≡ Some (all, r) → FoundLinks (done ++ x ∷ []) all ts r) → (b : Bool) (ts : List Lexeme) → at (symbol.Mark sign.Dot) ts ≡ b → (all : List LinkTree) (r : List Lexeme) → link_by n again done b ts ≡ Some (all, r) → FoundLinks done all ts r
  link_by_sound again done later false ts e all r h = no_links done all ts r h
  link_by_sound again done later true ts e all r h =
      let x = both_of (link n (line_at ts) (rest_of ts)) (λ x. again (done ++ x ∷ [])) all r h in
      let f = link_sound ts e x.first_one x.between x.before in
      let g = later x.first_one x.between all r x.after in
      record {
        others = x.first_one ∷ g.others;
        same = g.same ∙ append_assoc done (x.first_one ∷ []) g.others;
        spells = record { between = x.between; before = f.spells; behind = g.spells };
        good = and_both _ _ f.good g.good;
        low = omega (arith, f.low, g.low);
      }

  links_sound : (m : ℕ) (done : List LinkTree) (ts : List Lexeme) (all : List LinkTree) (r : List Lexeme) → more_links n m done ts ≡ Some (all, r) → FoundLinks done all ts r
  links_sound zero done ts all r h = no_links done all ts r h
  links_sound (suc m) done ts all r h = link_by_sound (more_links n m) done (λ x. links_sound m (done ++ x ∷ [])) (at (symbol.Mark sign.Dot) ts) ts refl all r h

  record FoundParts (l : ℕ) (b : Bool) (c : ChainTree) (ts r : List Lexeme) : Type 0 where
    line_is : c.line ≡ l
    brackets : c.in_brackets ≡ b
    spells : Seq (SpellsHead c.head) (SpellsLinks c.links) ts r
    good : fine_chain c ≡ true
    low : depth_chain c ≤ n

  parts_sound : (l : ℕ) (b : Bool) (ts : List Lexeme) (c : ChainTree) (r : List Lexeme) → reader.chain_of n l b ts ≡ Some (c, r) → FoundParts l b c ts r
  parts_sound l b ts c r h =
      let x = both_of (head n ts) (λ h r. and_read (links n r) (λ xs. give (record { line = l; in_brackets = b; head = h; links = xs }))) c r h in
      let f = head_sound ts x.first_one x.between x.before in
      let y = both_of (links n x.between) (λ xs. give (record { line = l; in_brackets = b; head = x.first_one; links = xs })) c r x.after in
      let g = links_sound (length x.between) [] x.between y.first_one y.between y.before in
      there (λ c r. FoundParts l b c ts r) (record { line = l; in_brackets = b; head = x.first_one; links = y.first_one }) c y.between r y.after (record {
        line_is = refl;
        brackets = refl;
        spells = record { between = x.between; before = f.spells; behind = subst (λ z. SpellsLinks z x.between y.between) (sym g.same) g.spells };
        good = and_both _ _ f.good (subst (λ z. list_all fine_link z ≡ true) (sym g.same) g.good);
        low = omega (arith, f.low, g.low, ap depth_links g.same);
      })

  record FoundChain (c : ChainTree) (ts r : List Lexeme) : Type 0 where
    spells : SpellsChain c ts r
    good : fine_chain c ≡ true
    low : depth_chain c ≤ n

  chain_by_sound : (b : Bool) (ts : List Lexeme) → at (symbol.Mark sign.Open) ts ≡ b → (c : ChainTree) (r : List Lexeme) → chain_by n b ts ≡ Some (c, r) → FoundChain c ts r
  chain_by_sound false ts e c r h =
      let f = parts_sound (line_at ts) false ts c r h in
      record { spells = record { start = sym f.line_is; span = subst (λ z. SpellsChainIn z c.head c.links ts r) (sym f.brackets) f.spells }; good = f.good; low = f.low }
  chain_by_sound true ts e c r h =
      let x = both_of (reader.chain_of n (line_at ts) true (rest_of ts)) (λ c. behind (symbol.Mark sign.Close) (give c)) c r h in
      let f = parts_sound (line_at ts) true (rest_of ts) x.first_one x.between x.before in
      let s = f.spells in
      let d = closed_of (symbol.Mark sign.Close) x.first_one c x.between r x.after in
      let whole : SpellsChainIn true x.first_one.head x.first_one.links ts r = record { between = rest_of ts; before = lone_mark sign.Open ts e; behind = record { between = s.between; before = s.before; behind = record { between = x.between; before = s.behind; behind = subst (Lone (kind.mark sign.Close) x.between) d.rest (lone_mark sign.Close x.between d.yes) } } } in
      subst (λ c. FoundChain c ts r) d.same (record {
        spells = record { start = sym f.line_is; span = subst (λ z. SpellsChainIn z x.first_one.head x.first_one.links ts r) (sym f.brackets) whole };
        good = f.good;
        low = f.low;
      })

  record FoundLine (c : ChainTree) (ts r : List Lexeme) : Type 0 where
    between : List Lexeme
    found : FoundChain c ts between
    newline : Lone kind.newline between r

  chain_sound : (ts : List Lexeme) (c : ChainTree) (r : List Lexeme) → chain n ts ≡ Some (c, r) → FoundLine c ts r
  chain_sound ts c r h =
      let x = both_of (chain_by n (at (symbol.Mark sign.Open) ts) ts) (λ c. behind symbol.Newline (give c)) c r h in
      let f = chain_by_sound (at (symbol.Mark sign.Open) ts) ts refl x.first_one x.between x.before in
      let d = closed_of symbol.Newline x.first_one c x.between r x.after in
      record { between = x.between; found = subst (λ c. FoundChain c ts x.between) d.same f; newline = subst (Lone kind.newline x.between) d.rest (lone kind.newline (line_at x.between) x.between (rest_of x.between) (at_newline x.between d.yes)) }

  -- ---- blocks

  pub record FoundBlock (b : BlockTree) (ts r : List Lexeme) : Type 0 where
    pub spells : SpellsBlock b ts r
    pub good : well_formed b ≡ true
    pub low : depth_block b ≤ n

  definition_sound : (ts : List Lexeme) → at (symbol.Keyword word.Def) ts ≡ true → (b : BlockTree) (r : List Lexeme) → definition n (line_at ts) (rest_of ts) ≡ Some (b, r) → FoundBlock b ts r
  definition_sound ts e b r h =
      let x = both_of (a_name (rest_of ts)) (λ m. behind (symbol.Mark sign.Open) (λ r. and_read (params (symbol.Mark sign.Close) r) (defined n (line_at ts) m))) b r h in
      let f = name_sound (rest_of ts) x.first_one x.between x.before in
      let c = held (at (symbol.Mark sign.Open) x.between) (and_read (params (symbol.Mark sign.Close) (rest_of x.between)) (defined n (line_at ts) x.first_one)) (b, r) x.after in
      let y = both_of (params (symbol.Mark sign.Close) (rest_of x.between)) (defined n (line_at ts) x.first_one) b r c.gives in
      let g = params_sound (symbol.Mark sign.Close) (rest_of x.between) y.first_one y.between y.before in
      let d = held (at (symbol.Mark sign.Close) y.between) (behind (symbol.Mark sign.Colon) (λ ts2. and_read (suite n (statement n) false ts2) (λ b. give (define (line_at ts) x.first_one y.first_one.0 y.first_one.1 b))) (rest_of y.between)) (b, r) y.after in
      let k = held (at (symbol.Mark sign.Colon) (rest_of y.between)) (and_read (suite n (statement n) false (rest_of (rest_of y.between))) (λ b. give (define (line_at ts) x.first_one y.first_one.0 y.first_one.1 b))) (b, r) d.gives in
      let z = both_of (suite n (statement n) false (rest_of (rest_of y.between))) (λ b. give (define (line_at ts) x.first_one y.first_one.0 y.first_one.1 b)) b r k.gives in
      let s = suite_sound n (statement n) (statement_sound n) false (rest_of (rest_of y.between)) z.first_one z.between z.before in
      there (λ b r. FoundBlock b ts r) (define (line_at ts) x.first_one y.first_one.0 y.first_one.1 z.first_one) b z.between r z.after (record {
        spells = record { between = rest_of ts; before = at_word word.Def ts e; behind = record { between = x.between; before = f.spells; behind = record { between = rest_of x.between; before = lone_mark sign.Open x.between c.yes; behind = record { between = y.between; before = g.spells; behind = record { between = rest_of y.between; before = lone_mark sign.Close y.between d.yes; behind = record { between = rest_of (rest_of y.between); before = lone_mark sign.Colon (rest_of y.between) k.yes; behind = s.spells } } } } } };
        good = and_both _ _ f.good (and_both _ _ g.ends (and_both _ _ g.good s.good));
        low = s.low;
      })

  named_sound : (ts : List Lexeme) (b : BlockTree) (r : List Lexeme) → named_chain n ts ≡ Some (b, r) → FoundBlock b ts r
  named_sound ts b r h =
      let x = both_of (a_name ts) (λ m. behind (symbol.Mark sign.Assign) (λ r. and_read (chain n r) (λ c. give (pipeline (line_at ts) m c)))) b r h in
      let f = name_sound ts x.first_one x.between x.before in
      let c = held (at (symbol.Mark sign.Assign) x.between) (and_read (chain n (rest_of x.between)) (λ c. give (pipeline (line_at ts) x.first_one c))) (b, r) x.after in
      let y = both_of (chain n (rest_of x.between)) (λ c. give (pipeline (line_at ts) x.first_one c)) b r c.gives in
      let g = chain_sound (rest_of x.between) y.first_one y.between y.before in
      let k = g.found in
      let s = f.spells in
      there (λ b r. FoundBlock b ts r) (pipeline (line_at ts) x.first_one y.first_one) b y.between r y.after (record {
        spells = record { between = x.between; before = s.same ∙ ap (λ l. lexeme (kind.named x.first_one) l ∷ x.between) (sym (ap line_at s.same)); behind = record { between = rest_of x.between; before = lone_mark sign.Assign x.between c.yes; behind = record { between = g.between; before = k.spells; behind = g.newline } } };
        good = and_both _ _ f.good k.good;
        low = k.low;
      })

  block_by_sound : (d m : Bool) (ts : List Lexeme) → at (symbol.Keyword word.Def) ts ≡ d → (b : BlockTree) (r : List Lexeme) → block_by n d m ts ≡ Some (b, r) → FoundBlock b ts r
  block_by_sound true m ts e b r h = definition_sound ts e b r h
  block_by_sound false true ts e b r h = named_sound ts b r h
  block_by_sound false false ts e b r h =
      let y = both_of (chain n ts) (λ c. give (alone c)) b r h in
      let g = chain_sound ts y.first_one y.between y.before in
      let k = g.found in
      there (λ b r. FoundBlock b ts r) (alone y.first_one) b y.between r y.after (record { spells = record { between = g.between; before = k.spells; behind = g.newline }; good = k.good; low = k.low })

  pub block_sound : (ts : List Lexeme) (b : BlockTree) (r : List Lexeme) → block n ts ≡ Some (b, r) → FoundBlock b ts r
  block_sound ts b r h = block_by_sound (at (symbol.Keyword word.Def) ts) (at symbol.Name ts && at (symbol.Mark sign.Assign) (rest_of ts)) ts refl b r h
