-- The reader of blocks finds the tree of each spelling, with its lines.
use Rattle.std.proofs.Common.{◌≡◌, ℕ, zero, suc, ◌<◌, ◌≤◌, Bool, true, false, ◌&&◌, List, [], ◌∷◌, ◌++◌, length, Option, Some, None, refl, sym, ap, ◌∙◌, arith, append_assoc, append-nil}
use Rattle.std.specs.List.{list_all}
use Rattle.tx_tree.specs.declared.symbol.Keyword.TheVariants as word
use Rattle.tx_tree.specs.declared.symbol.Mark.TheVariants as sign
use Rattle.tx_tree.specs.declared.target.Word.{Word}
use Rattle.tx_tree.specs.Kind as kind
use Rattle.tx_tree.specs.Tree.{Body, ArgTree, lambda, plain, ArgTrees, HeadTree, LinkTree, ChainTree, BlockTree, define, pipeline, alone}
use Rattle.tx_tree.specs.Form.{fits, amount, may_end, is_name, are_params, derived_body, fine_arg, fine_args, fine_head_args, fine_head, fine_link, fine_chain, well_formed}
use Rattle.tx_tree.specs.Depth.{depth_body, depth_arg, depth_args, depth_head, depth_links, depth_chain, depth_block}
use Rattle.tx_parse.specs.declared.symbol.Symbol.{Symbol}
use Rattle.tx_parse.specs.declared.symbol.Symbol.TheVariants as symbol
use Rattle.tx_parse.specs.declared.place.Place.TheVariants as place
use Rattle.tx_parse.specs.Lexemes.{Lexeme, lexeme, line_at}
use Rattle.tx_parse.specs.Spells.{Lone, Seq, SpellsNames, SpellsWord, SpellsArg, SpellsArgs, SpellsHeadArgs, SpellsHead, SpellsLinks, SpellsChainIn, SpellsChain, SpellsBlock}
use Rattle.tx_parse.specs.Calls.Front.{rest_of, same_symbol, at}
use Rattle.tx_parse.specs.Calls.Reader.{give, and_read, when, behind, items, a_name, read}
use Rattle.tx_parse.specs.Calls.Statements.{suite, statement}
use Rattle.tx_parse.specs.Calls.Blocks as reader
use Rattle.tx_parse.specs.Calls.Blocks.{params_of, params, lambda_of, arg_by, arg, chain_args, head_by, head, link, link_by, more_links, links, chain_by, chain, defined, block_by, block}
use Rattle.tx_parse.proofs.Options.{and_left, and_right}
use Rattle.tx_parse.proofs.Fronts.{at_only}
use Rattle.tx_parse.proofs.Lists.{Each, Ends, CompleteItem, items_complete, list_longer}
use Rattle.tx_parse.proofs.Targets.{GoodName, SpellsName, word_complete, name_complete, ListEnd, names_items, named_names}
use Rattle.tx_parse.proofs.Expressions.Trees.{spelled_begins, no_longer, strictly}
use Rattle.tx_parse.proofs.Expressions.Complete.{read_complete, opens_apart, stops_end}
use Rattle.tx_parse.proofs.Statements.Complete.{suite_complete, statement_complete}

close_end : ListEnd (symbol.Mark sign.Close)
close_end = record { no_name = λ m l r. refl; apart = λ ts y. ap (λ s. same_symbol (symbol.Mark sign.Comma) s) (sym (at_only (symbol.Mark sign.Close) ts y)) }

colon_end : ListEnd (symbol.Mark sign.Colon)
colon_end = record { no_name = λ m l r. refl; apart = λ ts y. ap (λ s. same_symbol (symbol.Mark sign.Comma) s) (sym (at_only (symbol.Mark sign.Colon) ts y)) }

-- ---- parameters

params_complete : (end : Symbol) → ListEnd end → (ns : List (List ℕ)) (c : Bool) (ts r : List Lexeme) → SpellsNames ns c ts r → are_params ns ≡ true → may_end (amount ns) c ≡ true → at end r ≡ true → params end ts ≡ Some ((ns, c), r)
params_complete end e ns c ts r s g w h =
    ap (λ o. and_read o params_of) (items_complete SpellsName GoodName end a_name (names_items end e) ns c ts r s (named_names ns (and_left _ _ g)) w h)
    ∙ ap (λ b. when b (Some ((ns, c), r))) g

no_trailing : (ns : List (List ℕ)) → may_end (amount ns) false ≡ true
no_trailing [] = refl
no_trailing (n ∷ []) = refl
no_trailing (n ∷ m ∷ ns) = refl

module _ (n : ℕ) where
  -- ---- arguments

  record GoodArg (a : ArgTree) : Type 0 where
    good : fine_arg a ≡ true
    low : depth_arg a ≤ n

  arg_complete : (a : ArgTree) (ts r : List Lexeme) → SpellsArg a ts r → GoodArg a → Ends (symbol.Mark sign.Close) r → arg n ts ≡ Some (a, r)
  arg_complete (lambda l ps a) ts r s g e =
      let x = s.behind in
      let y = x.behind in
      let w = and_right (are_params ps) _ g.good in
      ap (arg n) s.before
      ∙ ap (λ o. and_read o (lambda_of n l)) (params_complete (symbol.Mark sign.Colon) colon_end ps false s.between x.between x.before (and_left _ _ g.good) (no_trailing ps) (ap (at (symbol.Mark sign.Colon)) y.before.same))
      ∙ ap (behind (symbol.Mark sign.Colon) (λ r. and_read (read n place.Test r) (λ a. give (lambda l ps a)))) y.before.same
      ∙ ap (λ o. and_read o (λ a. give (lambda l ps a))) (read_complete n place.Test a y.between r y.behind (and_right (fits 1 a) _ w) (and_left _ _ w) g.low (stops_end (symbol.Mark sign.Close) r refl e))
  arg_complete (plain a) ts r s g e =
      let w = g.good in
      let b = spelled_begins a ts r s (and_right (fits 1 a) _ w) in
      ap (λ b. arg_by n b ts) (opens_apart (symbol.Keyword word.Lambda) ts 1 (omega arith) (omega (arith, b.1)))
      ∙ ap (λ o. and_read o (λ a. give (plain a))) (read_complete n place.Test a ts r s (and_right (fits 1 a) _ w) (and_left _ _ w) g.low (stops_end (symbol.Mark sign.Close) r refl e))

  name_longer : (m : List ℕ) (ts r : List Lexeme) → SpellsName m ts r → length r ≤ length ts
  name_longer m ts r s = omega (arith, ap length s.same)

  names_longer : (ps : List (List ℕ)) (c : Bool) (ts r : List Lexeme) → SpellsNames ps c ts r → length r ≤ length ts
  names_longer ps c ts r s = list_longer SpellsName name_longer ps c ts r s

  arg_items : CompleteItem SpellsArg GoodArg (symbol.Mark sign.Close) (arg n)
  arg_items = record {
    finds = arg_complete;
    begins = arg_begins;
    shorter = arg_shorter;
    apart = λ ts y. ap (λ s. same_symbol (symbol.Mark sign.Comma) s) (sym (at_only (symbol.Mark sign.Close) ts y));
  }
    where
      arg_begins : (a : ArgTree) (ts r : List Lexeme) → SpellsArg a ts r → GoodArg a → at (symbol.Mark sign.Close) ts ≡ false
      arg_begins (lambda l ps a) ts r s g = ap (at (symbol.Mark sign.Close)) s.before
      arg_begins (plain a) ts r s g = let b = spelled_begins a ts r s (and_right (fits 1 a) _ g.good) in opens_apart (symbol.Mark sign.Close) ts 1 (omega arith) (omega (arith, b.1))

      arg_shorter : (a : ArgTree) (ts r : List Lexeme) → SpellsArg a ts r → GoodArg a → length r < length ts
      arg_shorter (lambda l ps a) ts r s g = let x = s.behind in let y = x.behind in omega (arith, ap length s.before, names_longer ps false s.between x.between x.before, ap length y.before.same, no_longer a y.between r y.behind)
      arg_shorter (plain a) ts r s g = strictly a ts r s (and_right (fits 1 a) _ g.good)

  good_args : (xs : List ArgTree) → list_all fine_arg xs ≡ true → depth_args xs ≤ n → Each GoodArg xs
  good_args [] w d = tt
  good_args (x ∷ xs) w d = (record { good = and_left _ _ w; low = omega arith }, good_args xs (and_right (fine_arg x) _ w) (omega arith))

  chain_args_complete : (x : ArgTrees) (ts r : List Lexeme) → SpellsArgs x ts r → fine_args x ≡ true → depth_args x.items ≤ n → chain_args n ts ≡ Some (x, r)
  chain_args_complete x ts r s w d =
      let y = s.behind in
      ap (chain_args n) s.before.same
      ∙ ap (λ o. and_read o (λ x. behind (symbol.Mark sign.Close) (give (record { items = x.0; comma = x.1 })))) (items_complete SpellsArg GoodArg (symbol.Mark sign.Close) (arg n) arg_items x.items x.comma s.between y.between y.before (good_args x.items (and_right (may_end (amount x.items) x.comma) _ w) d) (and_left _ _ w) (ap (at (symbol.Mark sign.Close)) y.behind.same))
      ∙ ap (behind (symbol.Mark sign.Close) (give x)) y.behind.same

  arg_longer : (a : ArgTree) (ts r : List Lexeme) → SpellsArg a ts r → length r ≤ length ts
  arg_longer (lambda l ps a) ts r s = let x = s.behind in let y = x.behind in omega (arith, ap length s.before, names_longer ps false s.between x.between x.before, ap length y.before.same, no_longer a y.between r y.behind)
  arg_longer (plain a) ts r s = no_longer a ts r s

  args_longer : (x : ArgTrees) (ts r : List Lexeme) → SpellsArgs x ts r → length r ≤ length ts
  args_longer x ts r s = let y = s.behind in omega (arith, ap length s.before.same, list_longer SpellsArg arg_longer x.items x.comma s.between y.between y.before, ap length y.behind.same)

  -- ---- chains

  head_complete : (x : HeadTree) (ts r : List Lexeme) → SpellsHead x ts r → fine_head x ≡ true → depth_head x.args ≤ n → at (symbol.Mark sign.Open) r ≡ false → head n ts ≡ Some (x, r)
  head_complete x ts r s w d h =
      ap (λ o. and_read o (λ w r. head_by n w (at (symbol.Mark sign.Open) r) r)) (word_complete x.word ts s.between s.before (and_left _ _ w))
      ∙ by_args x.word x.args s.between s.behind (and_right (is_name x.word.text) _ w) d
    where
      by_args : (m : Word) (o : Option ArgTrees) (mid : List Lexeme) → SpellsHeadArgs o mid r → fine_head_args o ≡ true → depth_head o ≤ n → head_by n m (at (symbol.Mark sign.Open) mid) mid ≡ Some (record { word = m; args = o }, r)
      by_args m None mid s w d = ap (λ z. head_by n m (at (symbol.Mark sign.Open) z) z) s ∙ ap (λ b. head_by n m b r) h
      by_args m (Some y) mid s w d =
          ap (λ b. head_by n m b mid) (ap (at (symbol.Mark sign.Open)) s.before.same)
          ∙ ap (λ o. and_read o (λ x. give (record { word = m; args = Some x }))) (chain_args_complete y mid r s w d)

  link_complete : (x : LinkTree) (ts r : List Lexeme) → Seq (SpellsWord x.word) (SpellsArgs x.args) ts r → fine_link x ≡ true → depth_args x.args.items ≤ n → link n x.line ts ≡ Some (x, r)
  link_complete x ts r s w d =
      ap (λ o. and_read o (λ w r. and_read (chain_args n r) (λ y. give (record { line = x.line; word = w; args = y })))) (word_complete x.word ts s.between s.before (and_left _ _ w))
      ∙ ap (λ o. and_read o (λ y. give (record { line = x.line; word = x.word; args = y }))) (chain_args_complete x.args s.between r s.behind (and_right (is_name x.word.text) _ w) d)

  links_complete : (xs : List LinkTree) (m : ℕ) (done : List LinkTree) (ts r : List Lexeme) → SpellsLinks xs ts r → list_all fine_link xs ≡ true → depth_links xs ≤ n → length ts ≤ m → at (symbol.Mark sign.Dot) r ≡ false → more_links n m done ts ≡ Some (done ++ xs, r)
  links_complete [] zero done ts r s w d l h = ap (λ z. Some (done, z)) s ∙ ap (λ z. Some (z, r)) (sym (append-nil done))
  links_complete [] (suc m) done ts r s w d l h = ap (more_links n (suc m) done) s ∙ ap (λ b. link_by n (more_links n m) done b r) h ∙ ap (λ z. Some (z, r)) (sym (append-nil done))
  links_complete (x ∷ xs) zero done ts r s w d l h = let a = s.before in absurd (omega (arith, ap length a.before))
  links_complete (x ∷ xs) (suc m) done ts r s w d l h =
      let a = s.before in
      let b = a.behind in
      ap (more_links n (suc m) done) a.before
      ∙ ap (λ o. and_read o (λ x. more_links n m (done ++ x ∷ []))) (link_complete x a.between s.between b (and_left _ _ w) (omega arith))
      ∙ links_complete xs m (done ++ x ∷ []) s.between r s.behind (and_right (fine_link x) _ w) (omega arith) (omega (arith, ap length a.before, ap length b.before, args_longer x.args b.between s.between b.behind)) h
      ∙ ap (λ z. Some (z, r)) (append_assoc done (x ∷ []) xs)

  links_no_open : (xs : List LinkTree) (ts r : List Lexeme) → SpellsLinks xs ts r → at (symbol.Mark sign.Open) r ≡ false → at (symbol.Mark sign.Open) ts ≡ false
  links_no_open [] ts r s h = ap (at (symbol.Mark sign.Open)) s ∙ h
  links_no_open (x ∷ xs) ts r s h = let a = s.before in ap (at (symbol.Mark sign.Open)) a.before

  parts_complete : (c : ChainTree) (ts r : List Lexeme) → Seq (SpellsHead c.head) (SpellsLinks c.links) ts r → fine_chain c ≡ true → depth_chain c ≤ n → at (symbol.Mark sign.Dot) r ≡ false → at (symbol.Mark sign.Open) r ≡ false → reader.chain_of n c.line c.in_brackets ts ≡ Some (c, r)
  parts_complete c ts r s w d h k =
      ap (λ o. and_read o (λ h r. and_read (links n r) (λ xs. give (record { line = c.line; in_brackets = c.in_brackets; head = h; links = xs })))) (head_complete c.head ts s.between s.before (and_left _ _ w) (omega arith) (links_no_open c.links s.between r s.behind k))
      ∙ ap (λ o. and_read o (λ xs. give (record { line = c.line; in_brackets = c.in_brackets; head = c.head; links = xs }))) (links_complete c.links (length s.between) [] s.between r s.behind (and_right (fine_head c.head) _ w) (omega arith) (omega arith) h)

  head_no_open : (x : HeadTree) (ts r : List Lexeme) → SpellsHead x ts r → at (symbol.Mark sign.Open) ts ≡ false
  head_no_open x ts r s = ap (at (symbol.Mark sign.Open)) s.before

  by_brackets : (l : ℕ) (b : Bool) (h : HeadTree) (xs : List LinkTree) (ts mid r : List Lexeme) → line_at ts ≡ l → SpellsChainIn b h xs ts mid → fine_chain (record { line = l; in_brackets = b; head = h; links = xs }) ≡ true → depth_chain (record { line = l; in_brackets = b; head = h; links = xs }) ≤ n → Lone kind.newline mid r → chain n ts ≡ Some (record { line = l; in_brackets = b; head = h; links = xs }, r)
  by_brackets l false h xs ts mid r e s w d k =
      let c : ChainTree = record { line = l; in_brackets = false; head = h; links = xs } in
      ap (λ b. and_read (chain_by n b ts) (λ c. behind symbol.Newline (give c))) (head_no_open h ts s.between s.before)
      ∙ ap (λ z. and_read (reader.chain_of n z false ts) (λ c. behind symbol.Newline (give c))) e
      ∙ ap (λ o. and_read o (λ c. behind symbol.Newline (give c))) (parts_complete c ts mid s w d (ap (at (symbol.Mark sign.Dot)) k.same) (ap (at (symbol.Mark sign.Open)) k.same))
      ∙ ap (behind symbol.Newline (give c)) k.same
  by_brackets l true h xs ts mid r e s w d k =
      let c : ChainTree = record { line = l; in_brackets = true; head = h; links = xs } in
      let x = s.behind in
      let y = x.behind in
      ap (λ b. and_read (chain_by n b ts) (λ c. behind symbol.Newline (give c))) (ap (at (symbol.Mark sign.Open)) s.before.same)
      ∙ ap (λ z. and_read (and_read (reader.chain_of n z true (rest_of ts)) (λ c. behind (symbol.Mark sign.Close) (give c))) (λ c. behind symbol.Newline (give c))) e
      ∙ ap (λ z. and_read (and_read (reader.chain_of n l true (rest_of z)) (λ c. behind (symbol.Mark sign.Close) (give c))) (λ c. behind symbol.Newline (give c))) s.before.same
      ∙ ap (λ o. and_read (and_read o (λ c. behind (symbol.Mark sign.Close) (give c))) (λ c. behind symbol.Newline (give c))) (parts_complete c s.between y.between (record { between = x.between; before = x.before; behind = y.before }) w d (ap (at (symbol.Mark sign.Dot)) y.behind.same) (ap (at (symbol.Mark sign.Open)) y.behind.same))
      ∙ ap (λ z. and_read (behind (symbol.Mark sign.Close) (give c) z) (λ c. behind symbol.Newline (give c))) y.behind.same
      ∙ ap (behind symbol.Newline (give c)) k.same

  chain_complete : (c : ChainTree) (ts mid r : List Lexeme) → SpellsChain c ts mid → fine_chain c ≡ true → depth_chain c ≤ n → Lone kind.newline mid r → chain n ts ≡ Some (c, r)
  chain_complete c ts mid r s w d k = by_brackets c.line c.in_brackets c.head c.links ts mid r s.start s.span w d k

  -- ---- blocks

  definition_complete : (l : ℕ) (m : List ℕ) (ps : List (List ℕ)) (c : Bool) (b : Body) (ts r : List Lexeme) → SpellsBlock (define l m ps c b) ts r → well_formed (define l m ps c b) ≡ true → depth_body b ≤ n → block n ts ≡ Some (define l m ps c b, r)
  definition_complete l m ps c b ts r s w d =
      let x = s.behind in
      let y = x.behind in
      let z = y.behind in
      let u = z.behind in
      let v = u.behind in
      let w1 = and_right (is_name m) _ w in
      let w2 = and_right (may_end (amount ps) c) _ w1 in
      let w3 = and_right (are_params ps) _ w2 in
      ap (block n) s.before
      ∙ ap (λ o. and_read o (λ m. behind (symbol.Mark sign.Open) (λ r. and_read (params (symbol.Mark sign.Close) r) (defined n l m)))) (name_complete m s.between x.between x.before (and_left _ _ w))
      ∙ ap (behind (symbol.Mark sign.Open) (λ r. and_read (params (symbol.Mark sign.Close) r) (defined n l m))) y.before.same
      ∙ ap (λ o. and_read o (defined n l m)) (params_complete (symbol.Mark sign.Close) close_end ps c y.between z.between z.before (and_left _ _ w2) (and_left _ _ w1) (ap (at (symbol.Mark sign.Close)) u.before.same))
      ∙ ap (defined n l m (ps, c)) u.before.same
      ∙ ap (behind (symbol.Mark sign.Colon) (λ ts. and_read (suite n (statement n) false ts) (λ b. give (define l m ps c b)))) v.before.same
      ∙ ap (λ o. and_read o (λ b. give (define l m ps c b))) (suite_complete n (statement n) (statement_complete n) false b v.between r v.behind (and_left _ _ w3) (and_right (derived_body b) _ w3) d)

  named_complete : (l : ℕ) (m : List ℕ) (c : ChainTree) (ts r : List Lexeme) → SpellsBlock (pipeline l m c) ts r → well_formed (pipeline l m c) ≡ true → depth_chain c ≤ n → block n ts ≡ Some (pipeline l m c, r)
  named_complete l m c ts r s w d =
      let x = s.behind in
      let y = x.behind in
      ap (block n) s.before
      ∙ ap (λ b. block_by n false b (lexeme (kind.named m) l ∷ s.between)) (ap (at (symbol.Mark sign.Assign)) x.before.same)
      ∙ ap (λ o. and_read o (λ m. behind (symbol.Mark sign.Assign) (λ r. and_read (chain n r) (λ c. give (pipeline l m c))))) (name_complete m (lexeme (kind.named m) l ∷ s.between) s.between (record { at = l; same = refl }) (and_left _ _ w))
      ∙ ap (behind (symbol.Mark sign.Assign) (λ r. and_read (chain n r) (λ c. give (pipeline l m c)))) x.before.same
      ∙ ap (λ o. and_read o (λ c. give (pipeline l m c))) (chain_complete c x.between y.between r y.before (and_right (is_name m) _ w) d y.behind)

  -- a chain begins with no `def`, and behind its first name stands no `=`
  args_no_assign : (o : Option ArgTrees) (xs : List LinkTree) (ts r : List Lexeme) → Seq (SpellsHeadArgs o) (SpellsLinks xs) ts r → at (symbol.Mark sign.Assign) r ≡ false → at (symbol.Mark sign.Assign) ts ≡ false
  args_no_assign (Some y) xs ts r s h = let a = s.before in ap (at (symbol.Mark sign.Assign)) a.before.same
  args_no_assign None [] ts r s h = ap (at (symbol.Mark sign.Assign)) (s.before ∙ s.behind) ∙ h
  args_no_assign None (x ∷ xs) ts r s h = let a = s.behind in let b = a.before in ap (at (symbol.Mark sign.Assign)) (s.before ∙ b.before)

  no_def : (b : Bool) (h : HeadTree) (xs : List LinkTree) (ts r : List Lexeme) → SpellsChainIn b h xs ts r → at (symbol.Keyword word.Def) ts ≡ false
  no_def true h xs ts r s = ap (at (symbol.Keyword word.Def)) s.before.same
  no_def false h xs ts r s = let a = s.before in ap (at (symbol.Keyword word.Def)) a.before

  no_name : (b : Bool) (h : HeadTree) (xs : List LinkTree) (ts r : List Lexeme) → SpellsChainIn b h xs ts r → at (symbol.Mark sign.Assign) r ≡ false → (at symbol.Name ts && at (symbol.Mark sign.Assign) (rest_of ts)) ≡ false
  no_name true h xs ts r s k = ap (λ z. at symbol.Name z && at (symbol.Mark sign.Assign) (rest_of z)) s.before.same
  no_name false h xs ts r s k =
      let a = s.before in
      ap (λ z. at symbol.Name z && at (symbol.Mark sign.Assign) (rest_of z)) a.before ∙ args_no_assign h.args xs a.between r (record { between = s.between; before = a.behind; behind = s.behind }) k

  alone_complete : (c : ChainTree) (ts r : List Lexeme) → SpellsBlock (alone c) ts r → fine_chain c ≡ true → depth_chain c ≤ n → block n ts ≡ Some (alone c, r)
  alone_complete c ts r s w d =
      let k = s.before in
      ap (λ b. block_by n b (at symbol.Name ts && at (symbol.Mark sign.Assign) (rest_of ts)) ts) (no_def c.in_brackets c.head c.links ts s.between k.span)
      ∙ ap (λ b. block_by n false b ts) (no_name c.in_brackets c.head c.links ts s.between k.span (ap (at (symbol.Mark sign.Assign)) s.behind.same))
      ∙ ap (λ o. and_read o (λ c. give (alone c))) (chain_complete c ts s.between r k w d s.behind)

  pub block_complete : (b : BlockTree) (ts r : List Lexeme) → SpellsBlock b ts r → well_formed b ≡ true → depth_block b ≤ n → block n ts ≡ Some (b, r)
  block_complete (define l m ps c b) ts r s w d = definition_complete l m ps c b ts r s w d
  block_complete (pipeline l m c) ts r s w d = named_complete l m c ts r s w d
  block_complete (alone c) ts r s w d = alone_complete c ts r s w d
