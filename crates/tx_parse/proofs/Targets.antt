-- The reader of names and targets undoes their spelling.
use Rattle.std.proofs.Common.{◌≡◌, ℕ, ◌≤◌, Bool, true, false, List, [], ◌∷◌, ◌++◌, length, Some, None, refl, sym, ap, ◌∙◌, subst, arith}
use Rattle.std.proofs.lemmas.Bool.{true≢false}
use Rattle.tx_tree.specs.declared.symbol.Mark.TheVariants as sign
use Rattle.tx_tree.specs.declared.target.Word.{Word}
use Rattle.tx_tree.specs.declared.target.Target.{Target}
use Rattle.tx_tree.specs.declared.target.Target.TheVariants as target_of
use Rattle.tx_tree.specs.Kind as kind
use Rattle.tx_tree.specs.Spell.{texts_of}
use Rattle.tx_tree.specs.Form.{amount, may_end, is_listed, derived_target, is_name, are_names, target_is_named}
use Rattle.tx_parse.specs.declared.symbol.Symbol.{Symbol}
use Rattle.tx_parse.specs.declared.symbol.Symbol.TheVariants as symbol
use Rattle.tx_parse.specs.Lexemes.{Lexeme, line_at}
use Rattle.tx_parse.specs.Spells.{Span, Lone, SpellsWord, SpellsList, SpellsTarget}
use Rattle.tx_parse.specs.Calls.Front.{text_at, rest_of, at}
use Rattle.tx_parse.specs.Calls.Reader.{give, and_read, when, behind, given, items, is_named, a_word, a_name, named_target, bracketed_target, target_by, target}
use Rattle.tx_parse.proofs.Options.{both_of, held, one_some, given_of, and_both, and_left, and_right}
use Rattle.tx_parse.proofs.Fronts.{at_name, at_mark, lone, lone_mark, lone_shorter, one_shorter}
use Rattle.tx_parse.proofs.Lists.{Each, FoundItem, FoundList, SoundItem, CompleteItem, items_sound, items_complete, list_longer}

-- ---- names

abbrev pub GoodWord : Word → Type 0
GoodWord w = is_name w.text ≡ true

abbrev pub GoodName : List ℕ → Type 0
GoodName n = is_name n ≡ true

abbrev pub SpellsName : List ℕ → Span
SpellsName n = Lone (kind.named n)

pub word_sound : SoundItem SpellsWord GoodWord a_word
word_sound ts w r h =
    let c = held (is_named ts) (Some ((record { line = line_at ts; text = text_at ts }), rest_of ts)) (w, r) h in
    let q : ◌≡◌ {A = Word × List Lexeme} (record { line = line_at ts; text = text_at ts }, rest_of ts) (w, r) = one_some _ _ c.gives in
    subst (λ (p : Word × List Lexeme). FoundItem SpellsWord GoodWord p.0 ts p.1) q (record { spells = at_name ts (and_left _ _ c.yes); good = and_right (at symbol.Name ts) _ c.yes })

pub name_sound : SoundItem SpellsName GoodName a_name
name_sound ts n r h =
    let c = held (is_named ts) (Some (text_at ts, rest_of ts)) (n, r) h in
    let q : ◌≡◌ {A = List ℕ × List Lexeme} (text_at ts, rest_of ts) (n, r) = one_some _ _ c.gives in
    subst (λ (p : List ℕ × List Lexeme). FoundItem SpellsName GoodName p.0 ts p.1) q (record { spells = lone (kind.named (text_at ts)) (line_at ts) ts (rest_of ts) (at_name ts (and_left _ _ c.yes)); good = and_right (at symbol.Name ts) _ c.yes })

pub word_complete : (w : Word) (ts r : List Lexeme) → SpellsWord w ts r → GoodWord w → a_word ts ≡ Some (w, r)
word_complete w ts r s g = ap a_word s ∙ ap (λ b. when b (Some (w, r))) g

pub name_complete : (n : List ℕ) (ts r : List Lexeme) → SpellsName n ts r → GoodName n → a_name ts ≡ Some (n, r)
name_complete n ts r s g = ap a_name s.same ∙ ap (λ b. when b (Some (n, r))) g

-- the lists of them, up to a symbol that is neither a comma nor a name
pub record ListEnd (end : Symbol) : Type 0 where
  pub no_name : (n : List ℕ) (l : ℕ) (r : List Lexeme) → at end ((record { kind = Some (kind.named n); line = l }) ∷ r) ≡ false
  pub apart : (ts : List Lexeme) → at end ts ≡ true → at (symbol.Mark sign.Comma) ts ≡ false

pub words_items : (end : Symbol) → ListEnd end → CompleteItem SpellsWord GoodWord end a_word
words_items end e = record {
  finds = λ w ts r s g f. word_complete w ts r s g;
  begins = λ w ts r s g. ap (at end) s ∙ e.no_name w.text w.line r;
  shorter = λ w ts r s g. one_shorter (kind.named w.text) w.line ts r s;
  apart = e.apart;
}

pub names_items : (end : Symbol) → ListEnd end → CompleteItem SpellsName GoodName end a_name
names_items end e = record {
  finds = λ n ts r s g f. name_complete n ts r s g;
  begins = λ n ts r s g. ap (at end) s.same ∙ e.no_name n s.at r;
  shorter = λ n ts r s g. lone_shorter (kind.named n) ts r s;
  apart = e.apart;
}

pub words_named : (ws : List Word) → Each GoodWord ws → are_names (texts_of ws) ≡ true
words_named [] g = refl
words_named (w ∷ ws) g = and_both _ _ g.0 (words_named ws g.1)

pub named_words : (ws : List Word) → are_names (texts_of ws) ≡ true → Each GoodWord ws
named_words [] g = tt
named_words (w ∷ ws) g = (and_left _ _ g, named_words ws (and_right (is_name w.text) _ g))

pub names_named : (ns : List (List ℕ)) → Each GoodName ns → are_names ns ≡ true
names_named [] g = refl
names_named (n ∷ ns) g = and_both _ _ g.0 (names_named ns g.1)

pub named_names : (ns : List (List ℕ)) → are_names ns ≡ true → Each GoodName ns
named_names [] g = tt
named_names (n ∷ ns) g = (and_left _ _ g, named_names ns (and_right (is_name n) _ g))

-- ---- targets

pub record FoundTarget (t : Target) (ts r : List Lexeme) : Type 0 where
  pub spells : SpellsTarget t ts r
  pub derived : derived_target t ≡ true
  pub named : target_is_named t ≡ true

named_sound : (ws : List Word) (comma : Bool) (ts r : List Lexeme) → FoundList SpellsWord GoodWord (ws, comma) ts r → (t : Target) → named_target ws comma ≡ Some t → FoundTarget t ts r
named_sound [] comma ts r f t h = cc
named_sound (w ∷ []) false ts r f t h =
    let q : target_of.Name w ≡ t = one_some _ _ h in
    let s = f.spells in
    let b : SpellsWord w ts r = subst (SpellsWord w ts) s.behind s.before in
    subst (λ z. FoundTarget z ts r) q (record { spells = b; derived = refl; named = f.good.0 })
named_sound (w ∷ []) true ts r f t h =
    let q : target_of.Names (w ∷ []) true ≡ t = one_some _ _ h in
    subst (λ z. FoundTarget z ts r) q (record { spells = f.spells; derived = refl; named = words_named (w ∷ []) f.good })
named_sound (w ∷ v ∷ ws) comma ts r f t h =
    let q : target_of.Names (w ∷ v ∷ ws) comma ≡ t = one_some _ _ h in
    subst (λ z. FoundTarget z ts r) q (record { spells = f.spells; derived = refl; named = words_named (w ∷ v ∷ ws) f.good })

target_by_sound : (end : Symbol) (b : Bool) (ts : List Lexeme) → at (symbol.Mark sign.Open) ts ≡ b → (t : Target) (r : List Lexeme) → target_by end b ts ≡ Some (t, r) → FoundTarget t ts r
target_by_sound end true ts e t r h =
    let x = both_of (items a_word (symbol.Mark sign.Close) (rest_of ts)) (bracketed_target (line_at ts)) t r h in
    let f = items_sound SpellsWord GoodWord a_word (symbol.Mark sign.Close) word_sound (rest_of ts) x.first_one x.between x.before in
    let c = held (is_listed (amount x.first_one.0) x.first_one.1) (behind (symbol.Mark sign.Close) (give (target_of.Bracketed (line_at ts) x.first_one.0 x.first_one.1)) x.between) (t, r) x.after in
    let d = held (at (symbol.Mark sign.Close) x.between) (Some (target_of.Bracketed (line_at ts) x.first_one.0 x.first_one.1, rest_of x.between)) (t, r) c.gives in
    let q : ◌≡◌ {A = Target × List Lexeme} (target_of.Bracketed (line_at ts) x.first_one.0 x.first_one.1, rest_of x.between) (t, r) = one_some _ _ d.gives in
    subst (λ (p : Target × List Lexeme). FoundTarget p.0 ts p.1) q (record {
      spells = record { between = rest_of ts; before = at_mark sign.Open ts e; behind = record { between = x.between; before = f.spells; behind = lone_mark sign.Close x.between d.yes } };
      derived = c.yes;
      named = words_named x.first_one.0 f.good;
    })
target_by_sound end false ts e t r h =
    let x = both_of (items a_word end ts) (λ x. given (named_target x.0 x.1)) t r h in
    let f = items_sound SpellsWord GoodWord a_word end word_sound ts x.first_one x.between x.before in
    let g = given_of (named_target x.first_one.0 x.first_one.1) x.between t r x.after in
    subst (FoundTarget t ts) g.same (named_sound x.first_one.0 x.first_one.1 ts x.between f t g.gives)

pub target_sound : (end : Symbol) (ts : List Lexeme) (t : Target) (r : List Lexeme) → target end ts ≡ Some (t, r) → FoundTarget t ts r
target_sound end ts t r h = target_by_sound end (at (symbol.Mark sign.Open) ts) ts refl t r h

close_ends : ListEnd (symbol.Mark sign.Close)
close_ends = record { no_name = λ n l r. refl; apart = close_apart }
  where
    close_apart : (ts : List Lexeme) → at (symbol.Mark sign.Close) ts ≡ true → at (symbol.Mark sign.Comma) ts ≡ false
    close_apart ts h = ap (at (symbol.Mark sign.Comma)) (at_mark sign.Close ts h)

target_of_names : (end : Symbol) → ListEnd end → (ws : List Word) (comma : Bool) (t : Target) (ts r : List Lexeme) → SpellsList SpellsWord ws comma ts r → at (symbol.Mark sign.Open) ts ≡ false → are_names (texts_of ws) ≡ true → may_end (amount ws) comma ≡ true → named_target ws comma ≡ Some t → at end r ≡ true → target end ts ≡ Some (t, r)
target_of_names end e ws comma t ts r s o g w n h =
    ap (λ b. target_by end b ts) o
    ∙ ap (λ z. and_read z (λ x. given (named_target x.0 x.1))) (items_complete SpellsWord GoodWord end a_word (words_items end e) ws comma ts r s (named_words ws g) w h)
    ∙ ap (λ z. given z r) n

named_of_listed : (ws : List Word) (comma : Bool) → is_listed (amount ws) comma ≡ true → named_target ws comma ≡ Some (target_of.Names ws comma)
named_of_listed [] comma h = cc
named_of_listed (w ∷ []) false h = cc
named_of_listed (w ∷ []) true h = refl
named_of_listed (w ∷ v ∷ ws) comma h = refl

pub listed_ends : {A : Type 0} (xs : List A) (comma : Bool) → is_listed (amount xs) comma ≡ true → may_end (amount xs) comma ≡ true
listed_ends [] comma h = cc
listed_ends (x ∷ []) comma h = refl
listed_ends (x ∷ y ∷ xs) comma h = refl

listed_no_open : (ws : List Word) (comma : Bool) (ts r : List Lexeme) → is_listed (amount ws) comma ≡ true → SpellsList SpellsWord ws comma ts r → at (symbol.Mark sign.Open) ts ≡ false
listed_no_open [] comma ts r h s = cc
listed_no_open (w ∷ ws) comma ts r h s = ap (at (symbol.Mark sign.Open)) s.before

pub target_complete : (end : Symbol) → ListEnd end → (t : Target) (ts r : List Lexeme) → SpellsTarget t ts r → derived_target t ≡ true → target_is_named t ≡ true → at end r ≡ true → target end ts ≡ Some (t, r)
target_complete end e (target_of.Name w) ts r s d n h =
    target_of_names end e (w ∷ []) false (target_of.Name w) ts r (record { between = r; before = s; behind = refl }) (ap (at (symbol.Mark sign.Open)) s) (and_both _ _ n refl) refl refl h
target_complete end e (target_of.Names ws comma) ts r s d n h =
    target_of_names end e ws comma (target_of.Names ws comma) ts r s (listed_no_open ws comma ts r d s) n (listed_ends ws comma d) (named_of_listed ws comma d) h
target_complete end e (target_of.Bracketed l ws comma) ts r s d n h =
    let b = s.behind in
    ap (target end) s.before
    ∙ ap (λ o. and_read o (bracketed_target l)) (items_complete SpellsWord GoodWord (symbol.Mark sign.Close) a_word (words_items (symbol.Mark sign.Close) close_ends) ws comma s.between b.between b.before (named_words ws n) (listed_ends ws comma d) (ap (at (symbol.Mark sign.Close)) b.behind.same))
    ∙ ap (λ b. when b (behind (symbol.Mark sign.Close) (give (target_of.Bracketed l ws comma)) (s.behind.between))) d
    ∙ ap (behind (symbol.Mark sign.Close) (give (target_of.Bracketed l ws comma))) b.behind.same

word_longer : (w : Word) (ts r : List Lexeme) → SpellsWord w ts r → length r ≤ length ts
word_longer w ts r s = omega (arith, ap length s)

pub target_shorter : (t : Target) (ts r : List Lexeme) → SpellsTarget t ts r → length r ≤ length ts
target_shorter (target_of.Name w) ts r s = omega (arith, ap length s)
target_shorter (target_of.Names ws comma) ts r s = list_longer SpellsWord word_longer ws comma ts r s
target_shorter (target_of.Bracketed l ws comma) ts r s =
    let b = s.behind in
    omega (arith, ap length s.before, list_longer SpellsWord word_longer ws comma s.between b.between b.before, ap length b.behind.same)

-- ---- the target that some names are

pub named_target-listed : (ws : List Word) (comma : Bool) → is_listed (amount ws) comma ≡ true → named_target ws comma ≡ Some (target_of.Names ws comma)
named_target-listed [] comma h = cc
named_target-listed (w ∷ []) true h = refl
named_target-listed (w ∷ []) false h = cc
named_target-listed (w ∷ v ∷ ws) comma h = refl

pub named_target-one : (ws rest : List Word) (w : Word) (comma : Bool) → ws ≡ rest ++ w ∷ [] → is_listed (amount ws) comma ≡ false → named_target ws comma ≡ Some (target_of.Name w)
named_target-one ws [] w true e h = absurd (true≢false (sym (ap (λ x. is_listed (amount x) true) e) ∙ h))
named_target-one ws [] w false e h = ap (λ x. named_target x false) e
named_target-one ws (v ∷ []) w comma e h = absurd (true≢false (sym (ap (λ x. is_listed (amount x) comma) e) ∙ h))
named_target-one ws (v ∷ u ∷ rest) w comma e h = absurd (true≢false (sym (ap (λ x. is_listed (amount x) comma) e) ∙ h))

pub named_target-none : (ws : List Word) (comma : Bool) → length ws ≡ 0 → named_target ws comma ≡ None
named_target-none [] comma h = refl
named_target-none (w ∷ ws) comma h = absurd (omega (arith, h))

pub ruleset named_targets = (named_target-listed, named_target-one, named_target-none)
