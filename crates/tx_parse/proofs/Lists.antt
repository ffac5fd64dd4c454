-- The reader of lists with commas undoes their spelling, where that of their items does.
use Rattle.std.proofs.Common.{◌≡◌, ◌⊎◌, inl, inr, ℕ, zero, suc, ◌≤◌, ◌<◌, Bool, true, false, List, [], ◌∷◌, ◌++◌, length, Some, refl, sym, ap, ◌∙◌, subst, arith, append_assoc, append-nil}
use Rattle.tx_tree.specs.declared.symbol.Mark.TheVariants as sign
use Rattle.tx_tree.specs.Form.{amount, may_end}
use Rattle.tx_parse.specs.declared.symbol.Symbol.{Symbol}
use Rattle.tx_parse.specs.declared.symbol.Symbol.TheVariants as symbol
use Rattle.tx_parse.specs.Lexemes.{Lexeme}
use Rattle.tx_parse.specs.Spells.{Span, SpellsMore, SpellsList}
use Rattle.tx_parse.specs.Calls.Front.{rest_of, at}
use Rattle.tx_parse.specs.Calls.Reader.{Reader, Listed, and_read, comma_by, item_by, more_items, items_behind, items_by, items}
use Rattle.tx_parse.proofs.Options.{both_of, one_some}
use Rattle.tx_parse.proofs.Fronts.{lone_mark}

abbrev pub Each : {A : Type 0} → (A → Type 0) → List A → Type 0
Each P [] = Unit {0}
Each P (x ∷ xs) = P x × Each P xs

pub may_end-cons : {A : Type 0} (x : A) (xs : List A) (comma : Bool) → may_end (amount (x ∷ xs)) comma ≡ true
may_end-cons x [] comma = refl
may_end-cons x (y ∷ ys) comma = refl

-- ---- what is read is spelled

module _ {A : Type 0} (Item : A → Span) (Good : A → Type 0) where
  pub record FoundItem (x : A) (ts r : List Lexeme) : Type 0 where
    pub spells : Item x ts r
    pub good : Good x

  pub record FoundMore (done : List A) (x : Listed A) (ts r : List Lexeme) : Type 0 where
    pub others : List A
    pub all : x.0 ≡ done ++ others
    pub spells : SpellsMore Item others x.1 ts r
    pub good : Each Good others

  pub record FoundList (x : Listed A) (ts r : List Lexeme) : Type 0 where
    pub spells : SpellsList Item x.0 x.1 ts r
    pub good : Each Good x.0
    pub ends : may_end (amount x.0) x.1 ≡ true

  abbrev pub SoundItem : Reader A → Type 0
  SoundItem item = (ts : List Lexeme) (x : A) (r : List Lexeme) → item ts ≡ Some (x, r) → FoundItem x ts r

  no_more : (done : List A) (x : Listed A) (ts r : List Lexeme) → ◌≡◌ {A = Listed A × List Lexeme} ((done, false), ts) (x, r) → FoundMore done x ts r
  no_more done x ts r q =
      subst (λ (p : Listed A × List Lexeme). FoundMore done p.0 ts p.1) q (record { others = []; all = sym (append-nil done); spells = refl; good = tt })

  module _ (item : Reader A) (end : Symbol) (sound : SoundItem item) where
    abbrev Later : (List A → Reader (Listed A)) → List A → Type 0
    Later again done = (y : A) (ts : List Lexeme) (x : Listed A) (r : List Lexeme) → again (done ++ y ∷ []) ts ≡ Some (x, r) → FoundMore (done ++ y ∷ []) x ts r

    comma_sound : (again : List A → Reader (Listed A)) (done : List A) → Later again done → (ts : List Lexeme) (x : Listed A) (r : List Lexeme) → at (symbol.Mark sign.Comma) ts ≡ true → (b : Bool) → comma_by item end again done b (rest_of ts) ≡ Some (x, r) → FoundMore done x ts r
    comma_sound again done later ts x r e true h =
        let q : ◌≡◌ {A = Listed A × List Lexeme} ((done, true), rest_of ts) (x, r) = one_some _ _ h in
        subst (λ (p : Listed A × List Lexeme). FoundMore done p.0 ts p.1) q (record { others = []; all = sym (append-nil done); spells = lone_mark sign.Comma ts e; good = tt })
    comma_sound again done later ts x r e false h =
        let y = both_of (item (rest_of ts)) (λ y. again (done ++ y ∷ [])) x r h in
        let a = sound (rest_of ts) y.first_one y.between y.before in
        let f = later y.first_one y.between x r y.after in
        record {
          others = y.first_one ∷ f.others;
          all = f.all ∙ append_assoc done (y.first_one ∷ []) f.others;
          spells = record { between = rest_of ts; before = lone_mark sign.Comma ts e; behind = record { between = y.between; before = a.spells; behind = f.spells } };
          good = (a.good, f.good);
        }

    item_sound : (again : List A → Reader (Listed A)) (done : List A) → Later again done → (ts : List Lexeme) (x : Listed A) (r : List Lexeme) (b : Bool) → at (symbol.Mark sign.Comma) ts ≡ b → item_by item end again done b ts ≡ Some (x, r) → FoundMore done x ts r
    item_sound again done later ts x r true e h = comma_sound again done later ts x r e (at end (rest_of ts)) h
    item_sound again done later ts x r false e h = no_more done x ts r (one_some _ _ h)

    pub more_sound : (m : ℕ) (done : List A) (ts : List Lexeme) (x : Listed A) (r : List Lexeme) → more_items item end m done ts ≡ Some (x, r) → FoundMore done x ts r
    more_sound zero done ts x r h = no_more done x ts r (one_some _ _ h)
    more_sound (suc m) done ts x r h = item_sound (more_items item end m) done (λ y. more_sound m (done ++ y ∷ [])) ts x r (at (symbol.Mark sign.Comma) ts) refl h

    -- behind the first one
    pub behind_sound : (a : A) (ts : List Lexeme) (x : Listed A) (r : List Lexeme) → items_behind item end a ts ≡ Some (x, r) → FoundMore (a ∷ []) x ts r
    behind_sound a ts x r h = more_sound (length ts) (a ∷ []) ts x r h

    pub whole_list : (a : A) (ts mid r : List Lexeme) (x : Listed A) → FoundItem a ts mid → FoundMore (a ∷ []) x mid r → FoundList x ts r
    whole_list a ts mid r x f g =
        subst (λ (z : List A). FoundList (z, x.1) ts r) (sym g.all) (record {
          spells = record { between = mid; before = f.spells; behind = g.spells };
          good = (f.good, g.good);
          ends = may_end-cons a g.others x.1;
        })

    items_by_sound : (b : Bool) (ts : List Lexeme) (x : Listed A) (r : List Lexeme) → items_by item end b ts ≡ Some (x, r) → FoundList x ts r
    items_by_sound true ts x r h =
        let q : ◌≡◌ {A = Listed A × List Lexeme} (([], false), ts) (x, r) = one_some _ _ h in
        subst (λ (p : Listed A × List Lexeme). FoundList p.0 ts p.1) q (record { spells = refl; good = tt; ends = refl })
    items_by_sound false ts x r h =
        let y = both_of (item ts) (items_behind item end) x r h in
        whole_list y.first_one ts y.between r x (sound ts y.first_one y.between y.before) (behind_sound y.first_one y.between x r y.after)

    pub items_sound : (ts : List Lexeme) (x : Listed A) (r : List Lexeme) → items item end ts ≡ Some (x, r) → FoundList x ts r
    items_sound ts x r h = items_by_sound (at end ts) ts x r h

-- ---- what is spelled is read

-- an item ends at a comma, or at the end of the list
abbrev pub Ends : Symbol → List Lexeme → Type 0
Ends end ts = (at (symbol.Mark sign.Comma) ts ≡ true) ⊎ (at end ts ≡ true)

module _ {A : Type 0} (Item : A → Span) (Good : A → Type 0) (end : Symbol) where
  pub ends_more : (xs : List A) (comma : Bool) (ts r : List Lexeme) → SpellsMore Item xs comma ts r → at end r ≡ true → Ends end ts
  ends_more [] false ts r s e = inr (ap (at end) s ∙ e)
  ends_more [] true ts r s e = inl (ap (at (symbol.Mark sign.Comma)) s.same)
  ends_more (x ∷ xs) comma ts r s e = inl (ap (at (symbol.Mark sign.Comma)) s.before.same)

  pub record CompleteItem (item : Reader A) : Type 0 where
    pub finds : (x : A) (ts r : List Lexeme) → Item x ts r → Good x → Ends end r → item ts ≡ Some (x, r)
    pub begins : (x : A) (ts r : List Lexeme) → Item x ts r → Good x → at end ts ≡ false
    pub shorter : (x : A) (ts r : List Lexeme) → Item x ts r → Good x → length r < length ts
    pub apart : (ts : List Lexeme) → at end ts ≡ true → at (symbol.Mark sign.Comma) ts ≡ false

  module _ (item : Reader A) (complete : CompleteItem item) where
    more_complete : (xs : List A) (comma : Bool) (m : ℕ) (done : List A) (ts r : List Lexeme) → SpellsMore Item xs comma ts r → Each Good xs → length ts ≤ m → at end r ≡ true → more_items item end m done ts ≡ Some ((done ++ xs, comma), r)
    more_complete [] false zero done ts r s g l e = ap (λ z. Some ((done, false), z)) s ∙ ap (λ z. Some ((z, false), r)) (sym (append-nil done))
    more_complete [] false (suc m) done ts r s g l e =
        ap (λ b. item_by item end (more_items item end m) done b ts) (ap (at (symbol.Mark sign.Comma)) s ∙ complete.apart r e)
        ∙ ap (λ z. Some ((done, false), z)) s ∙ ap (λ z. Some ((z, false), r)) (sym (append-nil done))
    more_complete [] true zero done ts r s g l e = absurd (omega (arith, ap length s.same))
    more_complete [] true (suc m) done ts r s g l e =
        ap (more_items item end (suc m) done) s.same
        ∙ ap (λ b. comma_by item end (more_items item end m) done b r) e
        ∙ ap (λ z. Some ((z, true), r)) (sym (append-nil done))
    more_complete (x ∷ xs) comma zero done ts r s g l e = absurd (omega (arith, ap length s.before.same))
    more_complete (x ∷ xs) comma (suc m) done ts r s g l e =
        let b = s.behind in
        ap (more_items item end (suc m) done) s.before.same
        ∙ ap (λ z. comma_by item end (more_items item end m) done z s.between) (complete.begins x s.between b.between b.before g.0)
        ∙ ap (λ o. and_read o (λ y. more_items item end m (done ++ y ∷ []))) (complete.finds x s.between b.between b.before g.0 (ends_more xs comma b.between r b.behind e))
        ∙ more_complete xs comma m (done ++ x ∷ []) b.between r b.behind g.1 (omega (arith, ap length s.before.same, complete.shorter x s.between b.between b.before g.0)) e
        ∙ ap (λ z. Some ((z, comma), r)) (append_assoc done (x ∷ []) xs)

    pub behind_complete : (x : A) (xs : List A) (comma : Bool) (ts r : List Lexeme) → SpellsMore Item xs comma ts r → Each Good xs → at end r ≡ true → items_behind item end x ts ≡ Some ((x ∷ xs, comma), r)
    behind_complete x xs comma ts r s g e = more_complete xs comma (length ts) (x ∷ []) ts r s g (omega arith) e

    pub items_complete : (xs : List A) (comma : Bool) (ts r : List Lexeme) → SpellsList Item xs comma ts r → Each Good xs → may_end (amount xs) comma ≡ true → at end r ≡ true → items item end ts ≡ Some ((xs, comma), r)
    items_complete [] false ts r s g w e = ap (λ b. items_by item end b ts) (ap (at end) s ∙ e) ∙ ap (λ z. Some (([], false), z)) s
    items_complete [] true ts r s g w e = cc
    items_complete (x ∷ xs) comma ts r s g w e =
        ap (λ b. items_by item end b ts) (complete.begins x ts s.between s.before g.0)
        ∙ ap (λ o. and_read o (items_behind item end)) (complete.finds x ts s.between s.before g.0 (ends_more xs comma s.between r s.behind e))
        ∙ behind_complete x xs comma s.between r s.behind g.1 e

-- ---- no list grows where no item does

pub more_longer : {A : Type 0} (Item : A → Span) → ((x : A) (ts r : List Lexeme) → Item x ts r → length r ≤ length ts) → (xs : List A) (comma : Bool) (ts r : List Lexeme) → SpellsMore Item xs comma ts r → length r ≤ length ts
more_longer Item f [] false ts r s = omega (arith, ap length s)
more_longer Item f [] true ts r s = omega (arith, ap length s.same)
more_longer Item f (x ∷ xs) comma ts r s =
    let b = s.behind in
    omega (arith, ap length s.before.same, f x s.between b.between b.before, more_longer Item f xs comma b.between r b.behind)

pub list_longer : {A : Type 0} (Item : A → Span) → ((x : A) (ts r : List Lexeme) → Item x ts r → length r ≤ length ts) → (xs : List A) (comma : Bool) (ts r : List Lexeme) → SpellsList Item xs comma ts r → length r ≤ length ts
list_longer Item f [] false ts r s = omega (arith, ap length s)
list_longer Item f [] true ts r s = omega (arith, ap length s.same)
list_longer Item f (x ∷ xs) comma ts r s = omega (arith, f x ts s.between s.before, more_longer Item f xs comma s.between r s.behind)
