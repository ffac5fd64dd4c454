-- What the reader of statements finds is spelled by what it has read.
use Rattle.std.proofs.Common.{◌≡◌, ℕ, zero, suc, ◌≤◌, Bool, true, false, ◌&&◌, nat_le, List, [], ◌∷◌, ◌++◌, length, Option, Some, refl, sym, ap, ◌∙◌, subst, arith, append_assoc, append-nil}
use Rattle.std.proofs.lemmas.Bool.{leb-true, le-leb}
use Rattle.tx_tree.specs.declared.symbol.Keyword.{Keyword}
use Rattle.tx_tree.specs.declared.symbol.Keyword.TheVariants as word
use Rattle.tx_tree.specs.declared.symbol.Mark.{Mark}
use Rattle.tx_tree.specs.declared.symbol.Mark.TheVariants as sign
use Rattle.tx_tree.specs.Words.{augment_mark}
use Rattle.tx_tree.specs.Kind as kind
use Rattle.tx_tree.specs.Tree.{Tree, bare_tuple, trees, absent, present, Statement, pass, break, continue, return, assign, augment, express, branch, repeat, Body, line, indented, Statements, finish, next, statements, Tail, nothing, otherwise, tail}
use Rattle.tx_tree.specs.Form.{level, fits, amount, amount_of_statements, has_items, is_listed, derived, fine, is_simple, derived_body, derived_tail, fine_statement, fine_body, fine_statements, fine_tail}
use Rattle.tx_tree.specs.Depth.{depth, depth_statement, depth_body, depth_statements, depth_tail}
use Rattle.tx_parse.specs.declared.symbol.Symbol.{Symbol}
use Rattle.tx_parse.specs.declared.symbol.Symbol.TheVariants as symbol
use Rattle.tx_parse.specs.declared.cursor.Assigns.{Assigns}
use Rattle.tx_parse.specs.declared.cursor.Assigns.TheVariants as assigns
use Rattle.tx_parse.specs.declared.statement.Starter.{Starter}
use Rattle.tx_parse.specs.declared.statement.Starter.TheVariants as starter
use Rattle.tx_parse.specs.declared.place.Place.TheVariants as place
use Rattle.tx_parse.specs.Lexemes.{Lexeme, lexeme, line_at}
use Rattle.tx_parse.specs.Spells.{Span, Lone, Seq, one, SpellsMore, Spells, SpellsStatement, SpellsBody, SpellsStatements, SpellsTail}
use Rattle.tx_parse.specs.Calls.Front.{symbol_at, rest_of, same_symbol, at, assigns_at}
use Rattle.tx_parse.specs.Calls.Reader.{Reader, give, and_read, behind, items_behind, a_name, target, read}
use Rattle.tx_parse.specs.Calls.Statements.{listed_behind, value_by, value, starter_of, ended, assigned, augmented, unmarked, returned_by, simple_by, simple, simple_at, statement_or_end, more_statements, indented_lines, suite_by, Arms, armed, arm, other_suite, arms_by, arms, branched, branching, repeated, repeating, suite, statement_by, statement}
use Rattle.tx_parse.proofs.Options.{both_of, held, and_both, and_left, and_right}
use Rattle.tx_parse.proofs.Fronts.{at_only, word_front, at_newline, lone, lone_mark, lone_word, at_indent, at_dedent}
use Rattle.tx_parse.proofs.Lists.{behind_sound, whole_list}
use Rattle.tx_parse.proofs.Targets.{name_sound, target_sound}
use Rattle.tx_parse.proofs.Expressions.Trees.{GoodTree, amount-trees}
use Rattle.tx_parse.proofs.Expressions.Sound.{Found, read_sound, test_item, trees_found, there, closed_of}

-- a span with what is asked of its tree
pub record Good (A : Span) (asked : Bool) (depth n : ℕ) (ts r : List Lexeme) : Type 0 where
  pub spells : A ts r
  pub good : asked ≡ true
  pub low : depth ≤ n

-- any tree may stand where a tuple without brackets may
fits_any : (t : Tree) → fits 0 t ≡ true
fits_any t = le-leb 0 (level t) (omega arith)

pub no_comma : (ts : List Lexeme) → at symbol.Newline ts ≡ true → at (symbol.Mark sign.Comma) ts ≡ false
no_comma ts h = ap (λ s. same_symbol (symbol.Mark sign.Comma) s) (sym (at_only symbol.Newline ts h))

-- ---- values

-- a tuple of one has a comma, unless one follows
pub record FoundValue (n : ℕ) (t : Tree) (ts r : List Lexeme) : Type 0 where
  pub spells : Spells t ts r
  pub good : at (symbol.Mark sign.Comma) r ≡ false → fine t ≡ true
  pub low : depth t ≤ n

listed_by : (a : Tree) (others : List Tree) (c : Bool) (mid r : List Lexeme) → SpellsMore Spells others c mid r → at (symbol.Mark sign.Comma) mid ≡ true → at (symbol.Mark sign.Comma) r ≡ false → is_listed (amount (a ∷ others)) c ≡ true
listed_by a [] false mid r s e f = let q = sym e ∙ ap (at (symbol.Mark sign.Comma)) s ∙ f in cc
listed_by a [] true mid r s e f = refl
listed_by a (b ∷ others) c mid r s e f = refl

value_by_sound : (n : ℕ) (ts : List Lexeme) (a : Tree) (mid : List Lexeme) → Found 1 (suc n) a ts mid → (b : Bool) → at (symbol.Mark sign.Comma) mid ≡ b → (t : Tree) (r : List Lexeme) → value_by n (line_at ts) a b mid ≡ Some (t, r) → FoundValue (suc n) t ts r
value_by_sound n ts a mid f false e t r h = there (λ t r. FoundValue (suc n) t ts r) a t mid r h (record { spells = f.spells; good = λ q. f.good; low = f.low })
value_by_sound n ts a mid f true e t r h =
    let c = held (nat_le (depth a) n) (listed_behind n (line_at ts) a mid) (t, r) h in
    let x = both_of (items_behind (read n place.Test) symbol.Newline a mid) (λ x. give (bare_tuple (line_at ts) (trees x.0) x.1)) t r c.gives in
    let item = test_item n (read n) (read_sound n) in
    let g = behind_sound Spells (GoodTree 1 n) (read n place.Test) symbol.Newline item a mid x.first_one x.between x.before in
    let w = whole_list Spells (GoodTree 1 n) (read n place.Test) symbol.Newline item a ts mid x.between x.first_one (record { spells = f.spells; good = record { good = f.good; place_fits = f.place_fits; low = leb-true (depth a) n c.yes } }) g in
    let k = trees_found n (read n) (read_sound n) x.first_one ts x.between w in
    there (λ t r. FoundValue (suc n) t ts r) (bare_tuple (line_at ts) (trees x.first_one.0) x.first_one.1) t x.between r x.after (record {
      spells = record { start = refl; span = k.spells };
      good = λ q. and_both _ _ (and_both _ _ (and_both _ _ (ap (λ z. is_listed z x.first_one.1) (amount-trees x.first_one.0) ∙ ap (λ z. is_listed (amount z) x.first_one.1) g.all ∙ listed_by a g.others x.first_one.1 mid x.between g.spells e q) k.place_fits) refl) k.good;
      low = omega (arith, k.low);
    })

pub value_sound : (n : ℕ) (ts : List Lexeme) (t : Tree) (r : List Lexeme) → value n ts ≡ Some (t, r) → FoundValue n t ts r
value_sound zero ts t r h = cc
value_sound (suc n) ts t r h =
    let x = both_of (read (suc n) place.Test ts) (λ a r. value_by n (line_at ts) a (at (symbol.Mark sign.Comma) r) r) t r h in
    value_by_sound n ts x.first_one x.between (read_sound (suc n) place.Test ts x.first_one x.between x.before) (at (symbol.Mark sign.Comma) x.between) refl t r x.after

-- ---- simple statements

pub record FoundSimple (looped : Bool) (n : ℕ) (s : Statement) (ts r : List Lexeme) : Type 0 where
  pub spells : SpellsStatement s ts r
  pub good : fine_statement looped s ≡ true
  pub low : depth_statement s ≤ n
  pub easy : is_simple s ≡ true

record Ended (s t : Statement) (ts r : List Lexeme) : Type 0 where
  same : s ≡ t
  newline : Lone kind.newline ts r
  comma : at (symbol.Mark sign.Comma) ts ≡ false

ended_sound : (s t : Statement) (ts r : List Lexeme) → ended s ts ≡ Some (t, r) → Ended s t ts r
ended_sound s t ts r h =
    let c = closed_of symbol.Newline s t ts r h in
    record { same = c.same; newline = subst (Lone kind.newline ts) c.rest (lone kind.newline (line_at ts) ts (rest_of ts) (at_newline ts c.yes)); comma = no_comma ts c.yes }

-- the word that a statement begins with
abbrev pub starts_with : Starter → Symbol → Type 0
starts_with starter.Pass s = s ≡ symbol.Keyword word.Pass
starts_with starter.Break s = s ≡ symbol.Keyword word.Break
starts_with starter.Continue s = s ≡ symbol.Keyword word.Continue
starts_with starter.Return s = s ≡ symbol.Keyword word.Return
starts_with starter.If s = s ≡ symbol.Keyword word.If
starts_with starter.For s = s ≡ symbol.Keyword word.For
starts_with starter.Unmarked s = Unit {0}

starter_starts : (s : Symbol) → starts_with (starter_of s) s
starter_starts (symbol.Keyword word.Pass) = refl
starter_starts (symbol.Keyword word.Break) = refl
starter_starts (symbol.Keyword word.Continue) = refl
starter_starts (symbol.Keyword word.Return) = refl
starter_starts (symbol.Keyword word.If) = refl
starter_starts (symbol.Keyword word.For) = refl
starter_starts (symbol.Keyword _) = tt
starter_starts _ = tt

pub starter_front : (w : Starter) (ts : List Lexeme) → starter_of (symbol_at ts) ≡ w → starts_with w (symbol_at ts)
starter_front w ts e = subst (λ z. starts_with z (symbol_at ts)) e (starter_starts (symbol_at ts))

module _ (n : ℕ) where
  unmarked_sound : (looped : Bool) (a : Assigns) (ts : List Lexeme) (t : Statement) (r : List Lexeme) → unmarked n a ts ≡ Some (t, r) → FoundSimple looped (suc n) t ts r
  unmarked_sound looped assigns.Plain ts t r h =
      let x = both_of (target (symbol.Mark sign.Assign) ts) (λ t. behind (symbol.Mark sign.Assign) (assigned n (line_at ts) t)) t r h in
      let g = target_sound (symbol.Mark sign.Assign) ts x.first_one x.between x.before in
      let c = held (at (symbol.Mark sign.Assign) x.between) (assigned n (line_at ts) x.first_one (rest_of x.between)) (t, r) x.after in
      let y = both_of (value n (rest_of x.between)) (λ a. ended (assign (line_at ts) x.first_one a)) t r c.gives in
      let f = value_sound n (rest_of x.between) y.first_one y.between y.before in
      let z = ended_sound (assign (line_at ts) x.first_one y.first_one) t y.between r y.after in
      subst (λ s. FoundSimple looped (suc n) s ts r) z.same (record {
        spells = record { start = refl; span = record { between = x.between; before = g.spells; behind = record { between = rest_of x.between; before = lone_mark sign.Assign x.between c.yes; behind = record { between = y.between; before = f.spells; behind = z.newline } } } };
        good = and_both _ _ (and_both _ _ (and_both _ _ g.derived (fits_any y.first_one)) (and_both _ _ g.named refl)) (f.good z.comma);
        low = omega (arith, f.low);
        easy = refl;
      })
  unmarked_sound looped (assigns.With o) ts t r h =
      let x = both_of (a_name ts) (λ m. behind (symbol.Mark (augment_mark o)) (augmented n (line_at ts) m o)) t r h in
      let g = name_sound ts x.first_one x.between x.before in
      let c = held (at (symbol.Mark (augment_mark o)) x.between) (augmented n (line_at ts) x.first_one o (rest_of x.between)) (t, r) x.after in
      let y = both_of (read n place.Test (rest_of x.between)) (λ a. ended (augment (line_at ts) x.first_one o a)) t r c.gives in
      let f = read_sound n place.Test (rest_of x.between) y.first_one y.between y.before in
      let z = ended_sound (augment (line_at ts) x.first_one o y.first_one) t y.between r y.after in
      let k = g.spells in
      subst (λ s. FoundSimple looped (suc n) s ts r) z.same (record {
        spells = record { between = x.between; before = k.same ∙ ap (λ l. lexeme (kind.named x.first_one) l ∷ x.between) (sym (ap line_at k.same)); behind = record { between = rest_of x.between; before = lone_mark (augment_mark o) x.between c.yes; behind = record { between = y.between; before = f.spells; behind = z.newline } } };
        good = and_both _ _ (and_both _ _ f.place_fits (and_both _ _ g.good refl)) f.good;
        low = omega (arith, f.low);
        easy = refl;
      })
  unmarked_sound looped assigns.Nothing ts t r h =
      let y = both_of (read n place.Test ts) (λ a. ended (express (line_at ts) a)) t r h in
      let f = read_sound n place.Test ts y.first_one y.between y.before in
      let z = ended_sound (express (line_at ts) y.first_one) t y.between r y.after in
      subst (λ s. FoundSimple looped (suc n) s ts r) z.same (record {
        spells = record { start = refl; span = record { between = y.between; before = f.spells; behind = z.newline } };
        good = and_both _ _ (and_both _ _ f.place_fits refl) f.good;
        low = omega (arith, f.low);
        easy = refl;
      })

  returned_sound : (looped b : Bool) (l : ℕ) (whole ts : List Lexeme) → one (kind.keyword word.Return) l whole ts → (t : Statement) (r : List Lexeme) → returned_by n l b ts ≡ Some (t, r) → FoundSimple looped (suc n) t whole r
  returned_sound looped true l whole ts s t r h =
      let z = ended_sound (return l absent) t ts r h in
      subst (λ s. FoundSimple looped (suc n) s whole r) z.same (record { spells = record { between = ts; before = s; behind = record { between = ts; before = refl; behind = z.newline } }; good = refl; low = omega arith; easy = refl })
  returned_sound looped false l whole ts s t r h =
      let y = both_of (value n ts) (λ a. ended (return l (present a))) t r h in
      let f = value_sound n ts y.first_one y.between y.before in
      let z = ended_sound (return l (present y.first_one)) t y.between r y.after in
      subst (λ s. FoundSimple looped (suc n) s whole r) z.same (record { spells = record { between = ts; before = s; behind = record { between = y.between; before = f.spells; behind = z.newline } }; good = and_both _ _ (and_both _ _ (fits_any y.first_one) refl) (f.good z.comma); low = omega (arith, f.low); easy = refl })

  one_word : (k : Keyword) (ts : List Lexeme) → symbol_at ts ≡ symbol.Keyword k → one (kind.keyword k) (line_at ts) ts (rest_of ts)
  one_word k ts e = word_front k ts (sym e)

  pub simple_by_sound : (looped : Bool) (w : Starter) (ts : List Lexeme) → starts_with w (symbol_at ts) → (t : Statement) (r : List Lexeme) → simple_by n looped w ts ≡ Some (t, r) → FoundSimple looped (suc n) t ts r
  simple_by_sound looped starter.Pass ts e t r h =
      let z = ended_sound (pass (line_at ts)) t (rest_of ts) r h in
      subst (λ s. FoundSimple looped (suc n) s ts r) z.same (record { spells = record { between = rest_of ts; before = one_word word.Pass ts e; behind = z.newline }; good = refl; low = omega arith; easy = refl })
  simple_by_sound looped starter.Break ts e t r h =
      let c = held looped (ended (break (line_at ts)) (rest_of ts)) (t, r) h in
      let z = ended_sound (break (line_at ts)) t (rest_of ts) r c.gives in
      subst (λ s. FoundSimple looped (suc n) s ts r) z.same (record { spells = record { between = rest_of ts; before = one_word word.Break ts e; behind = z.newline }; good = c.yes; low = omega arith; easy = refl })
  simple_by_sound looped starter.Continue ts e t r h =
      let c = held looped (ended (continue (line_at ts)) (rest_of ts)) (t, r) h in
      let z = ended_sound (continue (line_at ts)) t (rest_of ts) r c.gives in
      subst (λ s. FoundSimple looped (suc n) s ts r) z.same (record { spells = record { between = rest_of ts; before = one_word word.Continue ts e; behind = z.newline }; good = c.yes; low = omega arith; easy = refl })
  simple_by_sound looped starter.Return ts e t r h = returned_sound looped (at symbol.Newline (rest_of ts)) (line_at ts) ts (rest_of ts) (one_word word.Return ts e) t r h
  simple_by_sound looped starter.If ts e t r h = unmarked_sound looped (assigns_at ts) ts t r h
  simple_by_sound looped starter.For ts e t r h = unmarked_sound looped (assigns_at ts) ts t r h
  simple_by_sound looped starter.Unmarked ts e t r h = unmarked_sound looped (assigns_at ts) ts t r h

  simple_sound : (looped : Bool) (ts : List Lexeme) (t : Statement) (r : List Lexeme) → simple n looped ts ≡ Some (t, r) → FoundSimple looped (suc n) t ts r
  simple_sound looped ts t r h = simple_by_sound looped (starter_of (symbol_at ts)) ts (starter_front (starter_of (symbol_at ts)) ts refl) t r h

simple_at_sound : (n : ℕ) (looped : Bool) (ts : List Lexeme) (t : Statement) (r : List Lexeme) → simple_at n looped ts ≡ Some (t, r) → FoundSimple looped n t ts r
simple_at_sound zero looped ts t r h = cc
simple_at_sound (suc n) looped ts t r h = simple_sound n looped ts t r h

-- ---- suites

abbrev pub FoundStatement : Bool → ℕ → Statement → List Lexeme → List Lexeme → Type 0
FoundStatement looped n s = Good (SpellsStatement s) (fine_statement looped s) (depth_statement s) n

abbrev pub FoundBody : Bool → ℕ → Body → List Lexeme → List Lexeme → Type 0
FoundBody looped n b = Good (SpellsBody b) (derived_body b && fine_body looped b) (depth_body b) n

abbrev SoundStatements : Bool → ℕ → Reader Statement → Type 0
SoundStatements looped n f = (ts : List Lexeme) (s : Statement) (r : List Lexeme) → f ts ≡ Some (s, r) → FoundStatement looped n s ts r

abbrev pub SoundBodies : Bool → ℕ → Reader Body → Type 0
SoundBodies looped n f = (ts : List Lexeme) (b : Body) (r : List Lexeme) → f ts ≡ Some (b, r) → FoundBody looped n b ts r

-- statements behind those that are done, and the end of the suite
record FoundLines (looped : Bool) (n : ℕ) (done all : List Statement) (ts r : List Lexeme) : Type 0 where
  others : List Statement
  same : all ≡ done ++ others
  good : Good (Seq (SpellsStatements (statements others)) (Lone kind.dedent)) (fine_statements looped (statements others)) (depth_statements (statements others)) n ts r

has_statement : (s : Statement) (ss : Statements) → has_items (amount_of_statements (next s ss)) ≡ true
has_statement s finish = refl
has_statement s (next t ss) = refl

module _ (looped : Bool) (n : ℕ) (inner : Reader Statement) (sound_inner : SoundStatements looped n inner) where
  next_sound : (again : List Statement → Reader (List Statement)) (done : List Statement) → ((s : Statement) (ts : List Lexeme) (ss : List Statement) (r : List Lexeme) → again (done ++ s ∷ []) ts ≡ Some (ss, r) → FoundLines looped n (done ++ s ∷ []) ss ts r) → (ts : List Lexeme) (ss : List Statement) (r : List Lexeme) (b : Bool) → at symbol.Dedent ts ≡ b → statement_or_end inner again done b ts ≡ Some (ss, r) → FoundLines looped n done ss ts r
  next_sound again done later ts ss r true e h =
      there (λ ss r. FoundLines looped n done ss ts r) done ss (rest_of ts) r h (record {
        others = [];
        same = sym (append-nil done);
        good = record { spells = record { between = ts; before = refl; behind = lone kind.dedent (line_at ts) ts (rest_of ts) (at_dedent ts e) }; good = refl; low = omega arith };
      })
  next_sound again done later ts ss r false e h =
      let x = both_of (inner ts) (λ s. again (done ++ s ∷ [])) ss r h in
      let a = sound_inner ts x.first_one x.between x.before in
      let f = later x.first_one x.between ss r x.after in
      let g = f.good in
      let z = g.spells in
      record {
        others = x.first_one ∷ f.others;
        same = f.same ∙ append_assoc done (x.first_one ∷ []) f.others;
        good = record { spells = record { between = z.between; before = record { between = x.between; before = a.spells; behind = z.before }; behind = z.behind }; good = and_both _ _ a.good g.good; low = omega (arith, a.low, g.low) };
      }

  lines_sound : (m : ℕ) (done : List Statement) (ts : List Lexeme) (ss : List Statement) (r : List Lexeme) → more_statements inner m done ts ≡ Some (ss, r) → FoundLines looped n done ss ts r
  lines_sound zero done ts ss r h = cc
  lines_sound (suc m) done ts ss r h = next_sound (more_statements inner m) done (λ s. lines_sound m (done ++ s ∷ [])) ts ss r (at symbol.Dedent ts) refl h

  indented_sound : (ts : List Lexeme) (ss : List Statement) (r : List Lexeme) → indented_lines inner ts ≡ Some (ss, r) → Good (Seq (Lone kind.indent) (Seq (SpellsStatements (statements ss)) (Lone kind.dedent))) (has_items (amount_of_statements (statements ss)) && fine_statements looped (statements ss)) (depth_statements (statements ss)) n ts r
  indented_sound ts ss r h =
      let c = held (at symbol.Indent ts) (and_read (inner (rest_of ts)) (λ s q. more_statements inner (length q) (s ∷ []) q)) (ss, r) h in
      let x = both_of (inner (rest_of ts)) (λ s q. more_statements inner (length q) (s ∷ []) q) ss r c.gives in
      let a = sound_inner (rest_of ts) x.first_one x.between x.before in
      let f = lines_sound (length x.between) (x.first_one ∷ []) x.between ss r x.after in
      let g = f.good in
      let z = g.spells in
      subst (λ l. Good (Seq (Lone kind.indent) (Seq (SpellsStatements (statements l)) (Lone kind.dedent))) (has_items (amount_of_statements (statements l)) && fine_statements looped (statements l)) (depth_statements (statements l)) n ts r) (sym f.same) (record {
        spells = record { between = rest_of ts; before = lone kind.indent (line_at ts) ts (rest_of ts) (at_indent ts c.yes); behind = record { between = z.between; before = record { between = x.between; before = a.spells; behind = z.before }; behind = z.behind } };
        good = and_both _ _ (has_statement x.first_one (statements f.others)) (and_both _ _ a.good g.good);
        low = omega (arith, a.low, g.low);
      })

  suite_by_sound : (simple : Reader Statement) → ((ts : List Lexeme) (t : Statement) (r : List Lexeme) → simple ts ≡ Some (t, r) → FoundSimple looped n t ts r) → (v : Bool) (ts : List Lexeme) (b : Body) (r : List Lexeme) → at symbol.Newline ts ≡ v → suite_by simple inner v ts ≡ Some (b, r) → FoundBody looped n b ts r
  suite_by_sound simple easy true ts b r e h =
      let x = both_of (indented_lines inner (rest_of ts)) (λ ss. give (indented (statements ss))) b r h in
      let f = indented_sound (rest_of ts) x.first_one x.between x.before in
      there (λ b r. FoundBody looped n b ts r) (indented (statements x.first_one)) b x.between r x.after (record { spells = record { between = rest_of ts; before = lone kind.newline (line_at ts) ts (rest_of ts) (at_newline ts e); behind = f.spells }; good = f.good; low = f.low })
  suite_by_sound simple easy false ts b r e h =
      let x = both_of (simple ts) (λ s. give (line s)) b r h in
      let f = easy ts x.first_one x.between x.before in
      there (λ b r. FoundBody looped n b ts r) (line x.first_one) b x.between r x.after (record { spells = f.spells; good = and_both _ _ f.easy f.good; low = f.low })

-- ---- compound statements

abbrev ArmSpan : Tree × Body → Span
ArmSpan a = Seq (Spells a.0) (Seq (Lone (kind.mark sign.Colon)) (SpellsBody a.1))

record FoundArm (looped : Bool) (n : ℕ) (a : Tree × Body) (ts r : List Lexeme) : Type 0 where
  spells : ArmSpan a ts r
  test_fits : fits 1 a.0 ≡ true
  test_fine : fine a.0 ≡ true
  body_derived : derived_body a.1 ≡ true
  body_fine : fine_body looped a.1 ≡ true
  test_low : depth a.0 ≤ n
  body_low : depth_body a.1 ≤ n

record FoundTail (looped : Bool) (n : ℕ) (t : Tail) (ts r : List Lexeme) : Type 0 where
  spells : SpellsTail t ts r
  derived : derived_tail t ≡ true
  good : fine_tail looped t ≡ true
  low : depth_tail t ≤ n

-- the arms behind those that are done
record FoundArms (looped : Bool) (n : ℕ) (done : List (Tree × Body)) (a : Arms) (ts r : List Lexeme) : Type 0 where
  others : List (Tree × Body)
  same : a.0 ≡ done ++ others
  found : FoundTail looped n (tail others a.1) ts r

module _ (looped : Bool) (n : ℕ) (body : Reader Body) (sound_body : SoundBodies looped n body) where
  arm_sound : (ts : List Lexeme) (a : Tree × Body) (r : List Lexeme) → arm (read n place.Test) body ts ≡ Some (a, r) → FoundArm looped n a ts r
  arm_sound ts a r h =
      let x = both_of (read n place.Test ts) (armed (read n place.Test) body) a r h in
      let f = read_sound n place.Test ts x.first_one x.between x.before in
      let c = held (at (symbol.Mark sign.Colon) x.between) (and_read (body (rest_of x.between)) (λ b. give (x.first_one, b))) (a, r) x.after in
      let y = both_of (body (rest_of x.between)) (λ b. give (x.first_one, b)) a r c.gives in
      let g = sound_body (rest_of x.between) y.first_one y.between y.before in
      there (λ a r. FoundArm looped n a ts r) (x.first_one, y.first_one) a y.between r y.after (record {
        spells = record { between = x.between; before = f.spells; behind = record { between = rest_of x.between; before = lone_mark sign.Colon x.between c.yes; behind = g.spells } };
        test_fits = f.place_fits;
        test_fine = f.good;
        body_derived = and_left _ _ g.good;
        body_fine = and_right (derived_body y.first_one) _ g.good;
        test_low = f.low;
        body_low = g.low;
      })

  other_sound : (b : Bool) (ts : List Lexeme) (o : Tail) (r : List Lexeme) → at (symbol.Keyword word.Else) ts ≡ b → other_suite (read n place.Test) body b ts ≡ Some (o, r) → FoundTail looped n o ts r
  other_sound false ts o r e h = there (λ o r. FoundTail looped n o ts r) nothing o ts r h (record { spells = refl; derived = refl; good = refl; low = omega arith })
  other_sound true ts o r e h =
      let c = held (at (symbol.Mark sign.Colon) (rest_of ts)) (and_read (body (rest_of (rest_of ts))) (λ b. give (otherwise b))) (o, r) h in
      let y = both_of (body (rest_of (rest_of ts))) (λ b. give (otherwise b)) o r c.gives in
      let g = sound_body (rest_of (rest_of ts)) y.first_one y.between y.before in
      there (λ o r. FoundTail looped n o ts r) (otherwise y.first_one) o y.between r y.after (record {
        spells = record { between = rest_of ts; before = lone_word word.Else ts e; behind = record { between = rest_of (rest_of ts); before = lone_mark sign.Colon (rest_of ts) c.yes; behind = g.spells } };
        derived = and_left _ _ g.good;
        good = and_right (derived_body y.first_one) _ g.good;
        low = g.low;
      })

  arms_by_sound : (again : List (Tree × Body) → Reader Arms) (done : List (Tree × Body)) → ((x : Tree × Body) (ts : List Lexeme) (a : Arms) (r : List Lexeme) → again (done ++ x ∷ []) ts ≡ Some (a, r) → FoundArms looped n (done ++ x ∷ []) a ts r) → (b : Bool) (ts : List Lexeme) (a : Arms) (r : List Lexeme) → at (symbol.Keyword word.Elif) ts ≡ b → arms_by (read n place.Test) body again done b ts ≡ Some (a, r) → FoundArms looped n done a ts r
  arms_by_sound again done later true ts a r e h =
      let x = both_of (arm (read n place.Test) body (rest_of ts)) (λ a. again (done ++ a ∷ [])) a r h in
      let f = arm_sound (rest_of ts) x.first_one x.between x.before in
      let g = later x.first_one x.between a r x.after in
      let y = f.spells in
      let z = y.behind in
      let w = g.found in
      record {
        others = x.first_one ∷ g.others;
        same = g.same ∙ append_assoc done (x.first_one ∷ []) g.others;
        found = record {
          spells = record { between = rest_of ts; before = lone_word word.Elif ts e; behind = record { between = y.between; before = y.before; behind = record { between = z.between; before = z.before; behind = record { between = x.between; before = z.behind; behind = w.spells } } } };
          derived = and_both _ _ f.test_fits (and_both _ _ f.body_derived w.derived);
          good = and_both _ _ f.test_fine (and_both _ _ f.body_fine w.good);
          low = omega (arith, f.test_low, f.body_low, w.low);
        };
      }
  arms_by_sound again done later false ts a r e h =
      let x = both_of (other_suite (read n place.Test) body (at (symbol.Keyword word.Else) ts) ts) (λ o. give (done, o)) a r h in
      let f = other_sound (at (symbol.Keyword word.Else) ts) ts x.first_one x.between refl x.before in
      there (λ a r. FoundArms looped n done a ts r) (done, x.first_one) a x.between r x.after (record { others = []; same = sym (append-nil done); found = f })

  no_fuel : (done : List (Tree × Body)) (ts : List Lexeme) (a : Arms) (r : List Lexeme) → ◌≡◌ {A = Option (Arms × List Lexeme)} (Some ((done, nothing), ts)) (Some (a, r)) → FoundArms looped n done a ts r
  no_fuel done ts a r h = there (λ a r. FoundArms looped n done a ts r) (done, nothing) a ts r h (record { others = []; same = sym (append-nil done); found = record { spells = refl; derived = refl; good = refl; low = omega arith } })

  arms_sound : (m : ℕ) (done : List (Tree × Body)) (ts : List Lexeme) (a : Arms) (r : List Lexeme) → arms (read n place.Test) body m done ts ≡ Some (a, r) → FoundArms looped n done a ts r
  arms_sound zero done ts a r h = no_fuel done ts a r h
  arms_sound (suc m) done ts a r h = arms_by_sound (arms (read n place.Test) body m) done (λ x. arms_sound m (done ++ x ∷ [])) (at (symbol.Keyword word.Elif) ts) ts a r refl h

  branch_sound : (ts : List Lexeme) (s : Statement) (r : List Lexeme) → symbol_at ts ≡ symbol.Keyword word.If → branching (read n place.Test) body (line_at ts) (rest_of ts) ≡ Some (s, r) → FoundStatement looped (suc n) s ts r
  branch_sound ts s r e h =
      let x = both_of (arm (read n place.Test) body (rest_of ts)) (branched (read n place.Test) body (line_at ts)) s r h in
      let f = arm_sound (rest_of ts) x.first_one x.between x.before in
      let y = both_of (arms (read n place.Test) body (length x.between) [] x.between) (λ z. give (branch (line_at ts) x.first_one.0 x.first_one.1 (tail z.0 z.1))) s r x.after in
      let g = arms_sound (length x.between) [] x.between y.first_one y.between y.before in
      let a = f.spells in
      let b = a.behind in
      let w = g.found in
      there (λ s r. FoundStatement looped (suc n) s ts r) (branch (line_at ts) x.first_one.0 x.first_one.1 (tail y.first_one.0 y.first_one.1)) s y.between r y.after (subst (λ z. FoundStatement looped (suc n) (branch (line_at ts) x.first_one.0 x.first_one.1 (tail z y.first_one.1)) ts y.between) (sym g.same) (record {
        spells = record { between = rest_of ts; before = word_front word.If ts (sym e); behind = record { between = a.between; before = a.before; behind = record { between = b.between; before = b.before; behind = record { between = x.between; before = b.behind; behind = w.spells } } } };
        good = and_both _ _ (and_both _ _ (and_both _ _ f.test_fits (and_both _ _ f.body_derived w.derived)) refl) (and_both _ _ f.test_fine (and_both _ _ f.body_fine w.good));
        low = omega (arith, f.test_low, f.body_low, w.low);
      }))

  repeat_sound : (outer : Bool) → looped ≡ true → (ts : List Lexeme) (s : Statement) (r : List Lexeme) → symbol_at ts ≡ symbol.Keyword word.For → repeating (read n place.Test) body (line_at ts) (rest_of ts) ≡ Some (s, r) → FoundStatement outer (suc n) s ts r
  repeat_sound outer inside ts s r e h =
      let x = both_of (target (symbol.Keyword word.In) (rest_of ts)) (repeated (read n place.Test) body (line_at ts)) s r h in
      let k = target_sound (symbol.Keyword word.In) (rest_of ts) x.first_one x.between x.before in
      let c = held (at (symbol.Keyword word.In) x.between) (and_read (arm (read n place.Test) body (rest_of x.between)) (λ a. give (repeat (line_at ts) x.first_one a.0 a.1))) (s, r) x.after in
      let y = both_of (arm (read n place.Test) body (rest_of x.between)) (λ a. give (repeat (line_at ts) x.first_one a.0 a.1)) s r c.gives in
      let f = arm_sound (rest_of x.between) y.first_one y.between y.before in
      there (λ s r. FoundStatement outer (suc n) s ts r) (repeat (line_at ts) x.first_one y.first_one.0 y.first_one.1) s y.between r y.after (record {
        spells = record { between = rest_of ts; before = word_front word.For ts (sym e); behind = record { between = x.between; before = k.spells; behind = record { between = rest_of x.between; before = lone_word word.In x.between c.yes; behind = f.spells } } };
        good = and_both _ _ (and_both _ _ (and_both _ _ k.derived (and_both _ _ f.test_fits f.body_derived)) (and_both _ _ k.named refl)) (and_both _ _ f.test_fine (subst (λ v. fine_body v y.first_one.1 ≡ true) inside f.body_fine));
        low = omega (arith, f.test_low, f.body_low);
      })

-- `inner` reads statements of at most n levels
module _ (n : ℕ) (inner : Bool → Reader Statement) (sound_inner : (looped : Bool) → SoundStatements looped n (inner looped)) where
  pub suite_sound : (looped : Bool) → SoundBodies looped n (suite n inner looped)
  suite_sound looped ts b r h = suite_by_sound looped n (inner looped) (sound_inner looped) (simple_at n looped) (simple_at_sound n looped) (at symbol.Newline ts) ts b r refl h

  easy_sound : (looped : Bool) (w : Starter) (ts : List Lexeme) → starts_with w (symbol_at ts) → (s : Statement) (r : List Lexeme) → simple_by n looped w ts ≡ Some (s, r) → FoundStatement looped (suc n) s ts r
  easy_sound looped w ts e s r h =
      let f = simple_by_sound n looped w ts e s r h in
      record { spells = f.spells; good = f.good; low = f.low }

  statement_by_sound : (looped : Bool) (w : Starter) (ts : List Lexeme) → starts_with w (symbol_at ts) → (s : Statement) (r : List Lexeme) → statement_by n inner looped w ts ≡ Some (s, r) → FoundStatement looped (suc n) s ts r
  statement_by_sound looped starter.If ts e s r h = branch_sound looped n (suite n inner looped) (suite_sound looped) ts s r e h
  statement_by_sound looped starter.For ts e s r h = repeat_sound true n (suite n inner true) (suite_sound true) looped refl ts s r e h
  statement_by_sound looped starter.Pass ts e s r h = easy_sound looped starter.Pass ts e s r h
  statement_by_sound looped starter.Break ts e s r h = easy_sound looped starter.Break ts e s r h
  statement_by_sound looped starter.Continue ts e s r h = easy_sound looped starter.Continue ts e s r h
  statement_by_sound looped starter.Return ts e s r h = easy_sound looped starter.Return ts e s r h
  statement_by_sound looped starter.Unmarked ts e s r h = easy_sound looped starter.Unmarked ts e s r h

pub statement_sound : (n : ℕ) (looped : Bool) (ts : List Lexeme) (s : Statement) (r : List Lexeme) → statement n looped ts ≡ Some (s, r) → FoundStatement looped n s ts r
statement_sound zero looped ts s r h = cc
statement_sound (suc n) looped ts s r h = statement_by_sound n (statement n) (statement_sound n) looped (starter_of (symbol_at ts)) ts (starter_front (starter_of (symbol_at ts)) ts refl) s r h
