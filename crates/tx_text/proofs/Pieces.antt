-- The pieces of a text between the occurrences of a separator.
use Rattle.std.proofs.Common.{◌≡◌, ◌≢◌, ◌∙◌, ◌+◌, ◌-◌, ◌<◌, ◌==◌, ℕ, zero, suc, Bool, true, false, List, [], ◌∷◌, ◌++◌, Option, Some, None, if◌then◌else◌, option_map, length, take, drop, length-append, take-append-drop, sym, refl, ap, subst, arith, append_assoc, append-nil}
use Rattle.std.specs.List.{AllByRecursion}
use Rattle.std.specs.Str.{IsUtf8, chars}
use Rattle.std.proofs.Math.Utf8.{encodes}
use Rattle.std.proofs.lemmas.Str.{encodes-chars}
use Rattle.std.proofs.lemmas.Bool.{and_parts, and_from, eqb-true, false_from_ne_true, true≢false}
use Rattle.std.proofs.lemmas.List.{length-take}
use Rattle.std.proofs.lemmas.Option.{same_Some}
use Rattle.tx_text.specs.Text.{begins, first_place, joined, onto_first, pieces, pieces_from}
use Rattle.tx_text.specs.Laws.{EndAtFirstPlaces, FirstCutsLaw, IsFirstSplit, IsLeastPlace}
use Rattle.tx_text.proofs.Places.{begins-append, first_place-IsLeast}

-- ---- a part at the front

begins_splits : (part text : List ℕ) → begins part text ≡ true → text ≡ part ++ drop (length part) text
begins_splits [] text e = refl
begins_splits (c ∷ part) [] e = cc e
begins_splits (c ∷ part) (x ∷ text) e =
    let both = and_parts (c == x) (begins part text) e in
    ap (λ y. y ∷ text) (sym (eqb-true c x both.0)) ∙ ap (λ ys. c ∷ ys) (begins_splits part text both.1)

begins_front : (part front rest : List ℕ) → begins part front ≡ true → begins part (front ++ rest) ≡ true
begins_front [] front rest e = refl
begins_front (c ∷ part) [] rest e = cc e
begins_front (c ∷ part) (x ∷ front) rest e =
    let both = and_parts (c == x) (begins part front) e in
    and_from (c == x) (begins part (front ++ rest)) both.0 (begins_front part front rest both.1)

-- what a place further on, or none, says of this one
later : (here : Bool) (rest : Option ℕ) (n : ℕ) → (if here then Some 0 else option_map suc rest) ≡ Some (suc n) → (here ≡ false) × (rest ≡ Some n)
later true rest n e = let h : 0 ≡ suc n = same_Some 0 (suc n) e in absurd (omega arith)
later false None n e = cc e
later false (Some m) n e = let h : suc m ≡ suc n = same_Some (suc m) (suc n) e in (refl, ap Some (omega arith))

nowhere : (here : Bool) (rest : Option ℕ) → (if here then Some 0 else option_map suc rest) ≡ None → (here ≡ false) × (rest ≡ None)
nowhere true rest e = cc e
nowhere false None e = (refl, refl)
nowhere false (Some m) e = cc e

-- ---- one cut

pub chars-some : (bs : List ℕ) → IsUtf8 bs → bs ≢ [] → chars bs ≢ []
chars-some bs u some e = some (sym (encodes-chars bs u) ∙ ap encodes e)

skipped : (sep part text : List ℕ) → pieces_from sep (length part) (part ++ text) ≡ pieces_from sep 0 text
skipped sep [] text = refl
skipped sep (c ∷ part) text = skipped sep part text

here : (c : ℕ) (part behind : List ℕ) → pieces (c ∷ part) ((c ∷ part) ++ behind) ≡ [] ∷ pieces (c ∷ part) behind
here c part behind =
    let e : suc (length part) - 1 ≡ length part = omega arith in
    rw (begins-append (c ∷ part) behind, e) (ap (λ t. [] ∷ t) (skipped (c ∷ part) part behind))

cut_at : (c : ℕ) (part before behind : List ℕ) → first_place (c ∷ part) (before ++ ((c ∷ part) ++ behind)) ≡ Some (length before)
    → pieces (c ∷ part) (before ++ ((c ∷ part) ++ behind)) ≡ before ∷ pieces (c ∷ part) behind
cut_at c part [] behind e = here c part behind
cut_at c part (x ∷ before) behind e =
    let rest = before ++ ((c ∷ part) ++ behind) in
    let (off, place) = later (begins (c ∷ part) (x ∷ rest)) (first_place (c ∷ part) rest) (length before) e in
    rw (off, cut_at c part before behind place) refl

pub pieces_cut : (sep text before behind : List ℕ) → sep ≢ [] → IsFirstSplit sep text before behind → pieces sep text ≡ before ∷ pieces sep behind
pieces_cut [] text before behind some cut = absurd (some refl)
pieces_cut (c ∷ part) text before behind some cut = rw cut.whole (cut_at c part before behind (rw cut.whole at cut.place))

pub pieces_uncut : (sep text : List ℕ) → first_place sep text ≡ None → pieces sep text ≡ text ∷ []
pieces_uncut sep [] e = refl
pieces_uncut sep (x ∷ text) e =
    let (off, rest) = nowhere (begins sep (x ∷ text)) (first_place sep text) e in
    rw (off, pieces_uncut sep text rest) refl

-- ---- a loop over the cuts

pub found_more : (sep text before behind item : List ℕ) (all found next : List (List ℕ)) → sep ≢ [] → IsFirstSplit sep text before behind
    → all ≡ found ++ pieces sep text → item ≡ before → next ≡ found ++ item ∷ [] → all ≡ next ++ pieces sep behind
found_more sep text before behind item all found next some cut a i n =
    a ∙ ap (λ t. found ++ t) (pieces_cut sep text before behind some cut) ∙ ap (λ t. found ++ (t ∷ pieces sep behind)) (sym i)
    ∙ sym (ap (λ t. t ++ pieces sep behind) n ∙ append_assoc found (item ∷ []) (pieces sep behind))

pub found_all : (sep text item : List ℕ) (all found next : List (List ℕ)) → first_place sep text ≡ None
    → all ≡ found ++ pieces sep text → item ≡ text → next ≡ found ++ item ∷ [] → next ≡ all
found_all sep text item all found next none a i n =
    n ∙ ap (λ t. found ++ t ∷ []) i ∙ sym (a ∙ ap (λ t. found ++ t) (pieces_uncut sep text none))

pub counted_more : (sep text before behind : List ℕ) (all count : ℕ) → sep ≢ [] → IsFirstSplit sep text before behind
    → all ≡ count + length (pieces sep text) → all ≡ count + 1 + length (pieces sep behind)
counted_more sep text before behind all count some cut a =
    let e : length (pieces sep text) ≡ suc (length (pieces sep behind)) = ap length (pieces_cut sep text before behind some cut) in
    omega (arith, a, e)

pub counted_all : (sep text : List ℕ) (all count : ℕ) → first_place sep text ≡ None
    → all ≡ count + length (pieces sep text) → all ≡ count + 1
counted_all sep text all count none a =
    let e : length (pieces sep text) ≡ 1 = ap length (pieces_uncut sep text none) in
    omega (arith, a, e)

-- ---- the law

onto_first-some : (x : ℕ) (texts : List (List ℕ)) → onto_first x texts ≢ []
onto_first-some x [] e = cc e
onto_first-some x (text ∷ texts) e = cc e

step-some : (x : ℕ) (here : Bool) (behind rest : List (List ℕ)) → (if here then [] ∷ behind else onto_first x rest) ≢ []
step-some x true behind rest e = cc e
step-some x false behind rest e = onto_first-some x rest e

pub pieces_from-some : (sep : List ℕ) (skip : ℕ) (text : List ℕ) → pieces_from sep skip text ≢ []
pieces_from-some sep skip [] e = cc e
pieces_from-some sep (suc skip) (x ∷ text) e = pieces_from-some sep skip text e
pieces_from-some sep zero (x ∷ text) e =
    step-some x (begins sep (x ∷ text)) (pieces_from sep (length sep - 1) text) (pieces_from sep zero text) e

pub joined-cons : (sep text : List ℕ) (texts : List (List ℕ)) → texts ≢ [] → joined sep (text ∷ texts) ≡ text ++ (sep ++ joined sep texts)
joined-cons sep text [] some = absurd (some refl)
joined-cons sep text (next ∷ texts) some = refl

joined-onto_first : (sep : List ℕ) (x : ℕ) (texts : List (List ℕ)) → texts ≢ [] → joined sep (onto_first x texts) ≡ x ∷ joined sep texts
joined-onto_first sep x [] some = absurd (some refl)
joined-onto_first sep x (text ∷ []) some = refl
joined-onto_first sep x (text ∷ next ∷ texts) some = refl

drop-nil : (n : ℕ) → drop {A = ℕ} n [] ≡ []
drop-nil zero = refl
drop-nil (suc n) = refl

module _ (c : ℕ) (part : List ℕ) where
  joined_step : (x : ℕ) (text : List ℕ) (here : Bool) → begins (c ∷ part) (x ∷ text) ≡ here
      → joined (c ∷ part) (pieces_from (c ∷ part) (length part) text) ≡ drop (length part) text
      → joined (c ∷ part) (pieces_from (c ∷ part) 0 text) ≡ text
      → joined (c ∷ part) (if here then [] ∷ pieces_from (c ∷ part) (length (c ∷ part) - 1) text else onto_first x (pieces_from (c ∷ part) 0 text)) ≡ x ∷ text
  joined_step x text true b skip on =
      let e : suc (length part) - 1 ≡ length part = omega arith in
      rw e (joined-cons (c ∷ part) [] (pieces_from (c ∷ part) (length part) text) (pieces_from-some (c ∷ part) (length part) text)
      ∙ ap (λ t. (c ∷ part) ++ t) skip ∙ sym (begins_splits (c ∷ part) (x ∷ text) b))
  joined_step x text false b skip on =
      joined-onto_first (c ∷ part) x (pieces_from (c ∷ part) 0 text) (pieces_from-some (c ∷ part) 0 text) ∙ ap (λ t. x ∷ t) on

  pub joined-pieces_from : (skip : ℕ) (text : List ℕ) → joined (c ∷ part) (pieces_from (c ∷ part) skip text) ≡ drop skip text
  joined-pieces_from skip [] = sym (drop-nil skip)
  joined-pieces_from (suc skip) (x ∷ text) = joined-pieces_from skip text
  joined-pieces_from zero (x ∷ text) =
      joined_step x text (begins (c ∷ part) (x ∷ text)) refl (joined-pieces_from (length part) text) (joined-pieces_from zero text)

pub joined-pieces : (sep text : List ℕ) → sep ≢ [] → joined sep (pieces sep text) ≡ text
joined-pieces [] text some = absurd (some refl)
joined-pieces (c ∷ part) text some = joined-pieces_from c part 0 text

-- the first piece stands at the front of the text
joined_front : (sep text : List ℕ) (texts : List (List ℕ)) → (rest : List ℕ) × (joined sep (text ∷ texts) ≡ text ++ rest)
joined_front sep text [] = ([], sym (append-nil text))
joined_front sep text (next ∷ texts) = (sep ++ joined sep (next ∷ texts), refl)

module _ (c : ℕ) (part : List ℕ) where
  abbrev lacks : List ℕ → Type 0
  lacks piece = first_place (c ∷ part) piece ≡ None

  lacks_front : (x : ℕ) (piece rest text : List ℕ) → text ≡ piece ++ rest → begins (c ∷ part) (x ∷ text) ≡ false → lacks piece → lacks (x ∷ piece)
  lacks_front x piece rest text whole off lack =
      let never : begins (c ∷ part) (x ∷ piece) ≡ false =
      false_from_ne_true _ (λ there. true≢false (sym (begins_front (c ∷ part) (x ∷ piece) rest there) ∙ (rw whole at off))) in
      rw (never, lack) refl

  lacks_onto : (x : ℕ) (text : List ℕ) (texts : List (List ℕ)) → texts ≢ [] → joined (c ∷ part) texts ≡ text → begins (c ∷ part) (x ∷ text) ≡ false
      → AllByRecursion lacks texts → AllByRecursion lacks (onto_first x texts)
  lacks_onto x text [] some whole off lack = absurd (some refl)
  lacks_onto x text (piece ∷ texts) some whole off lack =
      let (rest, front) = joined_front (c ∷ part) piece texts in
      (lacks_front x piece rest text (sym whole ∙ front) off lack.0, lack.1)

  lacks_step : (x : ℕ) (text : List ℕ) (here : Bool) → begins (c ∷ part) (x ∷ text) ≡ here
      → AllByRecursion lacks (pieces_from (c ∷ part) (length part) text)
      → AllByRecursion lacks (pieces_from (c ∷ part) 0 text)
      → AllByRecursion lacks (if here then [] ∷ pieces_from (c ∷ part) (length (c ∷ part) - 1) text else onto_first x (pieces_from (c ∷ part) 0 text))
  lacks_step x text true b skip on =
      let e : suc (length part) - 1 ≡ length part = omega arith in
      rw e (refl, skip)
  lacks_step x text false b skip on =
      lacks_onto x text (pieces_from (c ∷ part) 0 text) (pieces_from-some (c ∷ part) 0 text) (joined-pieces_from c part 0 text) b on

  pub pieces_lack : (skip : ℕ) (text : List ℕ) → AllByRecursion lacks (pieces_from (c ∷ part) skip text)
  pieces_lack skip [] = (refl, tt)
  pieces_lack (suc skip) (x ∷ text) = pieces_lack skip text
  pieces_lack zero (x ∷ text) =
      lacks_step x text (begins (c ∷ part) (x ∷ text)) refl (pieces_lack (length part) text) (pieces_lack zero text)

pub pieces_law : (sep text : List ℕ) → sep ≢ []
    → (joined sep (pieces sep text) ≡ text) × AllByRecursion (λ piece. first_place sep piece ≡ None) (pieces sep text)
pieces_law [] text some = absurd (some refl)
pieces_law (c ∷ part) text some = (joined-pieces_from c part 0 text, pieces_lack c part 0 text)

-- ---- the pieces are the only list whose pieces end at first places

at_first_places : (sep text : List ℕ) (texts : List (List ℕ)) → sep ≢ [] → EndAtFirstPlaces sep text texts → texts ≡ pieces sep text
at_first_places sep text [] some ends = absurd ends
at_first_places sep text (piece ∷ []) some ends = ap (λ t. t ∷ []) ends.0 ∙ sym (pieces_uncut sep text ends.1)
at_first_places sep text (piece ∷ next ∷ texts) some ends =
    let rest : next ∷ texts ≡ pieces sep ends.0 = at_first_places sep ends.0 (next ∷ texts) some ends.1.1 in
    ap (λ t. piece ∷ t) rest ∙ sym (pieces_cut sep text piece ends.0 some ends.1.0)

-- a text is cut at the first place of a part
first_split_at : (sep text : List ℕ) (place : ℕ) → first_place sep text ≡ Some place
    → IsFirstSplit sep text (take place text) (drop (length sep) (drop place text))
first_split_at sep text place found =
    let least : IsLeastPlace sep text (Some place) = rw found at (first_place-IsLeast sep text) in
    record {
      whole = sym (take-append-drop place text) ∙ ap (λ t. take place text ++ t) (begins_splits sep (drop place text) least.1.0);
      place = found ∙ ap Some (omega (arith, length-take place text, least.0));
    }

shorter : (sep text before behind : List ℕ) → sep ≢ [] → text ≡ before ++ (sep ++ behind) → length behind < length text
shorter [] text before behind some whole = absurd (some refl)
shorter (c ∷ sep) text before behind some whole =
    omega (arith, ap length whole, length-append before ((c ∷ sep) ++ behind), length-append (c ∷ sep) behind)

onto_front : (sep text piece behind : List ℕ) (texts : List (List ℕ)) → texts ≢ [] → IsFirstSplit sep text piece behind
    → EndAtFirstPlaces sep behind texts → EndAtFirstPlaces sep text (piece ∷ texts)
onto_front sep text piece behind [] some cut ends = absurd (some refl)
onto_front sep text piece behind (next ∷ texts) some cut ends = (behind, (cut, ends))

ends_where : (sep text : List ℕ) (found : Option ℕ) → sep ≢ [] → first_place sep text ≡ found
    → ((behind : List ℕ) → length behind < length text → EndAtFirstPlaces sep behind (pieces sep behind)) → EndAtFirstPlaces sep text (pieces sep text)
ends_where sep text None some found rest = subst (EndAtFirstPlaces sep text) (sym (pieces_uncut sep text found)) (refl, found)
ends_where sep text (Some place) some found rest =
    let before : List ℕ = take place text in
    let behind : List ℕ = drop (length sep) (drop place text) in
    let cut : IsFirstSplit sep text before behind = first_split_at sep text place found in
    let ends : EndAtFirstPlaces sep behind (pieces sep behind) = rest behind (shorter sep text before behind some cut.whole) in
    subst (EndAtFirstPlaces sep text) (sym (pieces_cut sep text before behind some cut))
    (onto_front sep text before behind (pieces sep behind) (pieces_from-some sep 0 behind) cut ends)

pieces_end : (n : ℕ) (sep text : List ℕ) → sep ≢ [] → length text < n → EndAtFirstPlaces sep text (pieces sep text)
pieces_end zero sep text some l = absurd (omega arith)
pieces_end (suc n) sep text some l =
    ends_where sep text (first_place sep text) some refl (λ behind less. pieces_end n sep behind some (omega arith))

pub first_cuts_law : FirstCutsLaw
first_cuts_law sep text texts some = (
  λ is. subst (EndAtFirstPlaces sep text) (sym is) (pieces_end (suc (length text)) sep text some (omega arith)),
  at_first_places sep text texts some,
)
