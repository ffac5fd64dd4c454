-- Where a part stands: the least and the greatest place, and that a search of the bytes finds them.
use Rattle.std.proofs.Common.{◌≡◌, ◌∙◌, sym, refl, ap, ap₂, subst, ℕ, zero, suc, ◌<◌, ◌≤◌, ◌==◌, Bool, true, false, true≢false, List, [], ◌∷◌, ◌++◌, Option, Some, None, option_map, if◌then◌else◌, length, take, drop, get_or, add-zero, get_or-drop, ⊎_elim, IsUtf8, IsCharBoundary, arith, length-append, take-append-drop, take_at, drop_at}
use Rattle.std.specs.Str.{chars}
use Rattle.std.specs.Str.Pattern.{LacksTextAt, HasTextAt}
use Rattle.std.proofs.Math.Utf8.{encode, encodes}
use Rattle.std.proofs.lemmas.Bool.{and_parts, both_ways, cases_order, eq-eqb, eqb-true, false_from_ne_true}
use Rattle.std.proofs.lemmas.Str.{chars-append, encodes-append, encodes-chars, length-encode, len_utf8_bounds, IsCharBoundary-start, IsUtf8-take}
use Rattle.tx_text.specs.Text.{begins, first_place, last_place, later_place}
use Rattle.tx_text.specs.Laws.{StandsAt, StandsNot, IsLeastPlace, IsGreatestPlace, PlacesLaw, IsFirstSplit}

pub begins-append : (part rest : List ℕ) → begins part (part ++ rest) ≡ true
begins-append [] rest = refl
begins-append (c ∷ part) rest = rw (eq-eqb c c refl) (begins-append part rest)

pub behind_begins : (part text : List ℕ) → begins part text ≡ true → (rest : List ℕ) × (text ≡ part ++ rest)
behind_begins [] text e = (text, refl)
behind_begins (c ∷ part) [] e = absurd (true≢false (sym e))
behind_begins (c ∷ part) (x ∷ text) e =
    let both = and_parts (c == x) (begins part text) e in
    let (rest, h) = behind_begins part text both.1 in
    (rest, ap (λ y. y ∷ text) (sym (eqb-true c x both.0)) ∙ ap (λ ys. c ∷ ys) h)

-- ---- the laws

not_in_empty : (part : List ℕ) → begins part [] ≡ false → (k : ℕ) → k ≤ 0 → StandsNot part [] k
not_in_empty part e zero l = e
not_in_empty part e (suc k) l = e

not_in_longer : (part : List ℕ) (x : ℕ) (text : List ℕ) → begins part (x ∷ text) ≡ false → ((k : ℕ) → k ≤ length text → StandsNot part text k) → (k : ℕ) → k ≤ suc (length text) → StandsNot part (x ∷ text) k
not_in_longer part x text e h zero l = e
not_in_longer part x text e h (suc k) l = h k (omega arith)

not_before : (part : List ℕ) (x : ℕ) (text : List ℕ) (p : ℕ) → begins part (x ∷ text) ≡ false → ((k : ℕ) → k < p → StandsNot part text k) → (k : ℕ) → k < suc p → StandsNot part (x ∷ text) k
not_before part x text p e h zero l = e
not_before part x text p e h (suc k) l = h k (omega arith)

not_behind : (part : List ℕ) (x : ℕ) (text : List ℕ) (p : ℕ) → ((k : ℕ) → p < k → k ≤ length text → StandsNot part text k) → (k : ℕ) → suc p < k → k ≤ suc (length text) → StandsNot part (x ∷ text) k
not_behind part x text p h zero l w = absurd (omega arith)
not_behind part x text p h (suc k) l w = h k (omega arith) (omega arith)

not_behind_first : (part : List ℕ) (x : ℕ) (text : List ℕ) → ((k : ℕ) → k ≤ length text → StandsNot part text k) → (k : ℕ) → 0 < k → k ≤ suc (length text) → StandsNot part (x ∷ text) k
not_behind_first part x text h zero l w = absurd (omega arith)
not_behind_first part x text h (suc k) l w = h k (omega arith)

least_in_empty : (part : List ℕ) (b : Bool) → begins part [] ≡ b → IsLeastPlace part [] (if b then Some 0 else None)
least_in_empty part true e = (omega arith, (e, λ k l. absurd (omega arith)))
least_in_empty part false e = not_in_empty part e

least_in_longer : (part : List ℕ) (x : ℕ) (text : List ℕ) (b : Bool) (o : Option ℕ) → begins part (x ∷ text) ≡ b → IsLeastPlace part text o → IsLeastPlace part (x ∷ text) (if b then Some 0 else option_map suc o)
least_in_longer part x text true o e h = (omega arith, (e, λ k l. absurd (omega arith)))
least_in_longer part x text false None e h = not_in_longer part x text e h
least_in_longer part x text false (Some p) e h = (omega (arith, h.0), (h.1.0, not_before part x text p e h.1.1))

pub first_place-IsLeast : (part text : List ℕ) → IsLeastPlace part text (first_place part text)
first_place-IsLeast part [] = least_in_empty part (begins part []) refl
first_place-IsLeast part (x ∷ text) = least_in_longer part x text (begins part (x ∷ text)) (first_place part text) refl (first_place-IsLeast part text)

greatest_in_empty : (part : List ℕ) (b : Bool) → begins part [] ≡ b → IsGreatestPlace part [] (if b then Some 0 else None)
greatest_in_empty part true e = (omega arith, (e, λ k l w. absurd (omega arith)))
greatest_in_empty part false e = not_in_empty part e

greatest_in_longer : (part : List ℕ) (x : ℕ) (text : List ℕ) (b : Bool) (o : Option ℕ) → begins part (x ∷ text) ≡ b → IsGreatestPlace part text o → IsGreatestPlace part (x ∷ text) (later_place b o)
greatest_in_longer part x text b (Some p) e h = (omega (arith, h.0), (h.1.0, not_behind part x text p h.1.1))
greatest_in_longer part x text true None e h = (omega arith, (e, not_behind_first part x text h))
greatest_in_longer part x text false None e h = not_in_longer part x text e h

pub last_place-IsGreatest : (part text : List ℕ) → IsGreatestPlace part text (last_place part text)
last_place-IsGreatest part [] = greatest_in_empty part (begins part []) refl
last_place-IsGreatest part (x ∷ text) = greatest_in_longer part x text (begins part (x ∷ text)) (last_place part text) refl (last_place-IsGreatest part text)

pub places_law : PlacesLaw
places_law part text = (first_place-IsLeast part text, last_place-IsGreatest part text)

-- there is one such place

module _ (part text : List ℕ) where
  pub first_place_none : ((k : ℕ) → k ≤ length text → StandsNot part text k) → first_place part text ≡ None
  first_place_none n = by (first_place part text) (first_place-IsLeast part text)
    where
      by : (o : Option ℕ) → IsLeastPlace part text o → o ≡ None
      by None h = refl
      by (Some q) h = absurd (both_ways (begins part (drop q text)) (n q h.0) h.1.0)

  pub last_place_none : ((k : ℕ) → k ≤ length text → StandsNot part text k) → last_place part text ≡ None
  last_place_none n = by (last_place part text) (last_place-IsGreatest part text)
    where
      by : (o : Option ℕ) → IsGreatestPlace part text o → o ≡ None
      by None h = refl
      by (Some q) h = absurd (both_ways (begins part (drop q text)) (n q h.0) h.1.0)

  pub first_place_is : (p : ℕ) → p ≤ length text → StandsAt part text p → ((k : ℕ) → k < p → StandsNot part text k) → first_place part text ≡ Some p
  first_place_is p w s n = by (first_place part text) (first_place-IsLeast part text)
    where
      by : (o : Option ℕ) → IsLeastPlace part text o → o ≡ Some p
      by None h = absurd (both_ways (begins part (drop p text)) (h p w) s)
      by (Some q) h = ⊎_elim
          (λ e. ap Some (sym e))
          (λ other. ⊎_elim
          (λ l. absurd (both_ways (begins part (drop p text)) (h.1.1 p l) s))
          (λ l. absurd (both_ways (begins part (drop q text)) (n q l) h.1.0))
          other)
          (cases_order p q)

  pub last_place_is : (p : ℕ) → p ≤ length text → StandsAt part text p → ((k : ℕ) → p < k → k ≤ length text → StandsNot part text k) → last_place part text ≡ Some p
  last_place_is p w s n = by (last_place part text) (last_place-IsGreatest part text)
    where
      by : (o : Option ℕ) → IsGreatestPlace part text o → o ≡ Some p
      by None h = absurd (both_ways (begins part (drop p text)) (h p w) s)
      by (Some q) h = ⊎_elim
          (λ e. ap Some (sym e))
          (λ other. ⊎_elim
          (λ l. absurd (both_ways (begins part (drop q text)) (n q l h.0) h.1.0))
          (λ l. absurd (both_ways (begins part (drop p text)) (h.1.1 p l w) s))
          other)
          (cases_order p q)

-- ---- in bytes

-- the bytes of more characters are more
encodes_longer : (cs : List ℕ) (m k : ℕ) → m < k → k ≤ length cs → length (encodes (take m cs)) < length (encodes (take k cs))
encodes_longer cs m zero l w = absurd (omega arith)
encodes_longer [] m (suc k) l w = absurd (omega arith)
encodes_longer (c ∷ cs) zero (suc k) l w = omega (arith, length-append (encode c) (encodes (take k cs)), length-encode c, (len_utf8_bounds c).0)
encodes_longer (c ∷ cs) (suc m) (suc k) l w =
    let h : length (encodes (take m cs)) < length (encodes (take k cs)) = encodes_longer cs m k (omega arith) (omega arith) in
    omega (arith, h, length-append (encode c) (encodes (take m cs)), length-append (encode c) (encodes (take k cs)))

encodes_within : (cs : List ℕ) (k : ℕ) → length (encodes (take k cs)) ≤ length (encodes cs)
encodes_within cs k =
    let e : length (encodes cs) ≡ length (encodes (take k cs) ++ encodes (drop k cs)) = ap (λ x. length (encodes x)) (sym (take-append-drop k cs)) ∙ ap length (encodes-append (take k cs) (drop k cs)) in
    omega (arith, e, length-append (encodes (take k cs)) (encodes (drop k cs)))

-- a text may be cut where a part begins
cut_at : (p s : List ℕ) (i j : ℕ) → IsUtf8 p → HasTextAt p s i j → IsCharBoundary s i
cut_at [] s i j u has = subst (IsCharBoundary s) (add-zero i) has.after
cut_at (b ∷ bs) s i j u has =
    let byte : get_or s i 0 ≡ b = sym (get_or-drop i s 0 0 ∙ ap (λ k. get_or s k 0) (add-zero i)) ∙ ap (λ x. get_or x 0 0) has.split in
    let lead : 128 ≤ b → 192 ≤ b = (IsCharBoundary-start (b ∷ bs) u).1 (omega arith) in
    (omega (arith, has.after.0), λ l h. omega (arith, byte, lead (omega (arith, byte, h))))

-- where a part stands by code points it stands by bytes
module _ (p s : List ℕ) (up : IsUtf8 p) (us : IsUtf8 s) where
  stands_in_bytes : (k : ℕ) → StandsAt (chars p) (chars s) k → LacksTextAt p s (length (encodes (take k (chars s)))) → ⊥
  stands_in_bytes k e lacks =
      let (t, h) = behind_begins (chars p) (drop k (chars s)) e in
      let whole : s ≡ encodes (take k (chars s)) ++ (p ++ encodes t) =
      sym (encodes-chars s us) ∙ (ap encodes (sym (take-append-drop k (chars s))) ∙ (encodes-append (take k (chars s)) (drop k (chars s))
      ∙ ap (λ x. encodes (take k (chars s)) ++ x) (ap encodes h ∙ (encodes-append (chars p) t ∙ ap (λ x. x ++ encodes t) (encodes-chars p up))))) in
      lacks (encodes t) (ap (drop (length (encodes (take k (chars s))))) whole ∙ drop_at (encodes (take k (chars s))) (p ++ encodes t) (length (encodes (take k (chars s)))) refl)

  byte_within : (k : ℕ) → length (encodes (take k (chars s))) ≤ length s
  byte_within k = omega (arith, encodes_within (chars s) k, ap length (encodes-chars s us))

  pub nowhere_by_bytes : ((i : ℕ) → i ≤ length s → LacksTextAt p s i) → (k : ℕ) → k ≤ length (chars s) → StandsNot (chars p) (chars s) k
  nowhere_by_bytes lacks k l = false_from_ne_true (begins (chars p) (drop k (chars s))) (λ e. stands_in_bytes k e (lacks (length (encodes (take k (chars s)))) (byte_within k)))

  module _ (front back : List ℕ) (i j : ℕ) (has : HasTextAt p s i j) (f : front ≡ take i s) (b : back ≡ drop j s) (n : length front ≡ i) where
    uf : IsUtf8 front
    uf = subst IsUtf8 (sym f) (IsUtf8-take s i us (cut_at p s i j up has))

    whole_bytes : s ≡ front ++ (p ++ back)
    whole_bytes = sym (take-append-drop i s) ∙ ap₂ (λ x y. x ++ y) (sym f) (has.split ∙ ap (λ y. p ++ y) (sym b))

    pub whole_chars : chars s ≡ chars front ++ (chars p ++ chars back)
    whole_chars = ap chars whole_bytes ∙ (chars-append front (p ++ back) uf ∙ ap (λ x. chars front ++ x) (chars-append p back up))

    place_within : length (chars front) ≤ length (chars s)
    place_within = omega (arith, ap length whole_chars, length-append (chars front) (chars p ++ chars back))

    stands_here : StandsAt (chars p) (chars s) (length (chars front))
    stands_here = ap (λ x. begins (chars p) (drop (length (chars front)) x)) whole_chars
        ∙ (ap (begins (chars p)) (drop_at (chars front) (chars p ++ chars back) (length (chars front)) refl) ∙ begins-append (chars p) (chars back))

    byte_here : length (encodes (take (length (chars front)) (chars s))) ≡ i
    byte_here =
        let e : take (length (chars front)) (chars s) ≡ chars front = ap (take (length (chars front))) whole_chars ∙ take_at (chars front) (chars p ++ chars back) (length (chars front)) refl in
        ap (λ x. length (encodes x)) e ∙ (ap length (encodes-chars front uf) ∙ n)

    pub first_by_bytes : ((k : ℕ) → k < i → LacksTextAt p s k) → first_place (chars p) (chars s) ≡ Some (length (chars front))
    first_by_bytes lacks = first_place_is (chars p) (chars s) (length (chars front)) place_within stands_here
        (λ k l. false_from_ne_true (begins (chars p) (drop k (chars s)))
        (λ e. stands_in_bytes k e (lacks (length (encodes (take k (chars s)))) (omega (arith, byte_here, encodes_longer (chars s) k (length (chars front)) l place_within)))))

    pub last_by_bytes : ((k : ℕ) → i < k → k ≤ length s → LacksTextAt p s k) → last_place (chars p) (chars s) ≡ Some (length (chars front))
    last_by_bytes lacks = last_place_is (chars p) (chars s) (length (chars front)) place_within stands_here
        (λ k l w. false_from_ne_true (begins (chars p) (drop k (chars s)))
        (λ e. stands_in_bytes k e (lacks (length (encodes (take k (chars s)))) (omega (arith, byte_here, encodes_longer (chars s) (length (chars front)) k l w)) (byte_within k))))

    pub first_split_by_bytes : ((k : ℕ) → k < i → LacksTextAt p s k) → IsFirstSplit (chars p) (chars s) (chars front) (chars back)
    first_split_by_bytes lacks = record { whole = whole_chars; place = first_by_bytes lacks }

-- a part with bytes has characters
