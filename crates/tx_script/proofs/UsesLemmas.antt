-- How often names are used.
use Rattle.std.proofs.Common.{◌≡◌, ℕ, zero, suc, ◌+◌, ◌<◌, ◌≤◌, Bool, true, false, cond, not, ◌||◌, nat_lt, List, [], ◌∷◌, ◌++◌, map, take, length, get_or, Option, Some, None, option_to_list, filter_map, count_by, drop, ◌-◌, refl, sym, ap, ◌∙◌, subst, arith}
use Rattle.std.specs.List.{flat_map, cons_option}
use Rattle.std.specs.Cmp.Lexicographic.{bytes_decides}
use Rattle.std.proofs.lemmas.Bool.{lt-ltb, le-ltb, ltb-true, ltb-false}
use Rattle.std.proofs.lemmas.List.{map-append, take_more}
use Rattle.std.proofs.lemmas.List.Sums.{sum_by-cons, sum_by-append}
use Rattle.std.proofs.lemmas.Grind.{flat_map-append}
use Rattle.tx_tree.specs.Words.{same_text}
use Rattle.tx_name_set.specs.NameSet.{is_in, add}
use Rattle.tx_names.specs.Scope.{Text}
use Rattle.tx_script.specs.Written.{Link, Entry}
use Rattle.tx_script.specs.Checks.{joined_in, names_in, pipe_use}
use Rattle.tx_script.specs.Calls.Counts.{Counts, link_names, head_names}
use Rattle.tx_script.specs.declared.written.Link as declared_link
use Rattle.tx_script.specs.declared.written.Entry as declared_entry
use Rattle.tx_script.specs.Calls.View.{link_of, entry_view}
use Rattle.tx_script.proofs.Items.{item_next}
use Rattle.tx_script.proofs.Added.{or_nothing, added}

abbrev pub count : Text → List Text → ℕ
count n names = count_by (same_text n) names

-- ---- one name more

count-cons : (n m : Text) (names : List Text) → count n (m ∷ names) ≡ cond (same_text n m) 1 0 + count n names
count-cons n m names = sum_by-cons (λ x. cond (same_text n x) 1 0) m names

count-append : (n : Text) (xs ys : List Text) → count n (xs ++ ys) ≡ count n xs + count n ys
count-append n xs ys = sum_by-append (λ x. cond (same_text n x) 1 0) xs ys

zero_plus : (c : ℕ) → c ≡ 0 + c
zero_plus c = omega arith

or_true : (b : Bool) → (b || true) ≡ true
or_true true = refl
or_true false = refl

used : (b : Bool) (c : ℕ) → (nat_lt 0 c || b) ≡ nat_lt 0 (cond b 1 0 + c)
used true c = or_true (nat_lt 0 c) ∙ sym (lt-ltb 0 (1 + c) (omega arith))
used false c = or_nothing (nat_lt 0 c) ∙ ap (λ n. nat_lt 0 n) (zero_plus c)

first_time : (b : Bool) (c : ℕ) → (b ≡ true → nat_lt 0 c ≡ false) → nat_lt 1 c ≡ nat_lt 1 (cond b 1 0 + c)
first_time true c h =
    let none = ltb-false 0 c (h refl) in
    le-ltb 1 c (omega (arith, none)) ∙ sym (le-ltb 1 (1 + c) (omega (arith, none)))
first_time false c h = ap (λ n. nat_lt 1 n) (zero_plus c)

another_time : (b : Bool) (c : ℕ) → (b ≡ true → nat_lt 0 c ≡ true) → (nat_lt 1 c || b) ≡ nat_lt 1 (cond b 1 0 + c)
another_time true c h =
    let one = ltb-true 0 c (h refl) in
    or_true (nat_lt 1 c) ∙ sym (lt-ltb 1 (1 + c) (omega (arith, one)))
another_time false c h = or_nothing (nat_lt 1 c) ∙ ap (λ n. nat_lt 1 n) (zero_plus c)

module _ (once twice names : List Text) (m : Text) (counts : Counts once twice names) where
  is_used : (b : Bool) → is_in once m ≡ b → (n : Text) → same_text n m ≡ true → nat_lt 0 (count n names) ≡ b
  is_used b e n same = sym (counts.some n) ∙ ap (is_in once) ((bytes_decides n m).0 same) ∙ e

  some_more : (n : Text) → is_in (add once m) n ≡ nat_lt 0 (count n (m ∷ names))
  some_more n =
      added once m n
      ∙ ap (λ b. b || same_text n m) (counts.some n)
      ∙ used (same_text n m) (count n names)
      ∙ ap (λ c. nat_lt 0 c) (sym (count-cons n m names))

  pub counts_first : is_in once m ≡ false → Counts (add once m) twice (m ∷ names)
  counts_first e = record {
    some = some_more;
    more = λ n.
        counts.more n
        ∙ first_time (same_text n m) (count n names) (is_used false e n)
        ∙ ap (λ c. nat_lt 1 c) (sym (count-cons n m names));
  }

  pub counts_again : is_in once m ≡ true → Counts (add once m) (add twice m) (m ∷ names)
  counts_again e = record {
    some = some_more;
    more = λ n.
        added twice m n
        ∙ ap (λ b. b || same_text n m) (counts.more n)
        ∙ another_time (same_text n m) (count n names) (is_used true e n)
        ∙ ap (λ c. nat_lt 1 c) (sym (count-cons n m names));
  }

is_true : (b : Bool) → false ≡ not b → b ≡ true
is_true true e = refl
is_true false e = cc

is_false : (b : Bool) → true ≡ not b → b ≡ false
is_false false e = refl
is_false true e = cc

pub counts_new : (once twice more now : List Text) (m : Text) → Counts once twice more → true ≡ not (is_in once m) → now ≡ add once m → Counts now twice (m ∷ more)
counts_new once twice more now m counts is e = subst (λ l. Counts l twice (m ∷ more)) (sym e) (counts_first once twice more m counts (is_false (is_in once m) is))

pub counts_old : (once twice more now again : List Text) (m : Text) → Counts once twice more → false ≡ not (is_in once m) → now ≡ add once m → again ≡ add twice m → Counts now again (m ∷ more)
counts_old once twice more now again m counts is e f =
    subst (λ l. Counts l again (m ∷ more)) (sym e) (subst (λ l. Counts (add once m) l (m ∷ more)) (sym f) (counts_again once twice more m counts (is_true (is_in once m) is)))

pub counts_none : Counts [] [] []
counts_none = record { some = λ n. refl; more = λ n. refl }

-- ---- the same names in another order

counts_same : (once twice xs ys : List Text) → ((n : Text) → count n xs ≡ count n ys) → Counts once twice xs → Counts once twice ys
counts_same once twice xs ys same counts = record {
  some = λ n. counts.some n ∙ ap (λ c. nat_lt 0 c) (same n);
  more = λ n. counts.more n ∙ ap (λ c. nat_lt 1 c) (same n);
}

count_behind : (n : Text) (a b c : List Text) → count n (a ++ (b ++ c)) ≡ count n ((b ++ a) ++ c)
count_behind n a b c =
    let e = count-append n a (b ++ c) in
    let f = count-append n b c in
    let g = count-append n (b ++ a) c in
    let h = count-append n b a in
    omega (arith, e, f, g, h)

pub counts_behind : (once twice a b c : List Text) → Counts once twice (a ++ (b ++ c)) → Counts once twice ((b ++ a) ++ c)
counts_behind once twice a b c = counts_same once twice (a ++ (b ++ c)) ((b ++ a) ++ c) (λ n. count_behind n a b c)

-- the names of the links up to a place, and those of the link there
append_nothing : {A : Type 0} (xs : List A) → xs ++ [] ≡ xs
append_nothing [] = refl
append_nothing (x ∷ xs) = ap (λ l. x ∷ l) (append_nothing xs)

abbrev pub names_to : ℕ → List declared_link.Link → List Text
names_to i xs = flat_map link_names (map link_of (take i xs))

names_to-next : (i : ℕ) (xs : List declared_link.Link) (x : declared_link.Link) → i < length xs → x ≡ get_or xs i x → names_to (i + 1) xs ≡ names_to i xs ++ link_names (link_of x)
names_to-next i xs x within is =
    ap (λ l. flat_map link_names (map link_of l)) (take_more xs i x within ∙ ap (λ y. take i xs ++ y ∷ []) (sym is))
    ∙ ap (flat_map link_names) (map-append link_of (take i xs) (x ∷ []))
    ∙ flat_map-append link_names (map link_of (take i xs)) (link_of x ∷ [])
    ∙ ap (λ l. names_to i xs ++ l) (append_nothing (link_names (link_of x)))

take_all : {A : Type 0} (i : ℕ) (xs : List A) → length xs ≤ i → take i xs ≡ xs
take_all zero [] h = refl
take_all zero (x ∷ xs) h = absurd (omega (arith, h))
take_all (suc i) [] h = refl
take_all (suc i) (x ∷ xs) h = ap (λ l. x ∷ l) (take_all i xs (omega (arith, h)))

pub counts_all : (once twice names : List Text) (i : ℕ) (xs : List declared_link.Link) → length xs ≤ i → Counts once twice (names_to i xs ++ names) → Counts once twice (flat_map link_names (map link_of xs) ++ names)
counts_all once twice names i xs h = subst (λ l. Counts once twice (flat_map link_names (map link_of l) ++ names)) (take_all i xs h)

pub counts_next : (once twice names : List Text) (i : ℕ) (xs : List declared_link.Link) (x : declared_link.Link) → i < length xs → x ≡ get_or xs i x → Counts once twice (link_names (link_of x) ++ (names_to i xs ++ names)) → Counts once twice (names_to (i + 1) xs ++ names)
counts_next once twice names i xs x within is counts = subst (λ l. Counts once twice (l ++ names)) (sym (names_to-next i xs x within is)) (counts_behind once twice (link_names (link_of x)) (names_to i xs) names counts)

-- ---- the names of a block

joined : (xs : List Link) → map (λ w. w.text) (filter_map (λ x. joined_in x.part) xs) ≡ flat_map link_names xs
joined [] = refl
joined (x ∷ xs) = by_link (joined_in x.part) ∙ ap (λ l. link_names x ++ l) (joined xs)
  where
    by_link : (o : Option _) → map (λ w. w.text) (cons_option o (filter_map (λ y. joined_in y.part) xs)) ≡ map (λ w. w.text) (option_to_list o) ++ map (λ w. w.text) (filter_map (λ y. joined_in y.part) xs)
    by_link None = refl
    by_link (Some w) = refl

names_split : (e : Entry) → names_in e ≡ head_names e.block ++ flat_map link_names e.links
names_split e = map-append (λ w. w.text) _ (filter_map (λ x. joined_in x.part) e.links) ∙ ap (λ l. head_names e.block ++ l) (joined e.links)

pub counts_entry : (once twice names : List Text) (e : Entry) → Counts once twice (flat_map link_names e.links ++ (head_names e.block ++ names)) → Counts once twice (names_in e ++ names)
counts_entry once twice names e counts = subst (λ l. Counts once twice (l ++ names)) (sym (names_split e)) (counts_behind once twice (flat_map link_names e.links) (head_names e.block) names counts)

-- ---- blocks from the end

none_behind : {A : Type 0} (xs : List A) → drop (length xs) xs ≡ []
none_behind [] = refl
none_behind (x ∷ xs) = none_behind xs

pub counts_start : (once twice : List Text) (es : List declared_entry.Entry) → once ≡ [] → twice ≡ [] → Counts once twice (flat_map names_in (map entry_view (drop (length es) es)))
counts_start once twice es e f =
    subst (λ l. Counts once twice (flat_map names_in (map entry_view l))) (sym (none_behind es))
    (subst (λ l. Counts l twice []) (sym e) (subst (λ l. Counts [] l []) (sym f) counts_none))

pub found_start : (es : List declared_entry.Entry) → None ≡ pipe_use (map entry_view (drop (length es) es))
found_start es = ap (λ l. pipe_use (map entry_view l)) (sym (none_behind es))

pub entry_next : (es : List declared_entry.Entry) (at : ℕ) (e : declared_entry.Entry) → 0 < at → at ≤ length es → e ≡ get_or es (at - 1) e → drop (at - 1) es ≡ e ∷ drop at es
entry_next es at e positive within is =
    let same : (at - 1) + 1 ≡ at = omega (arith, positive) in
    item_next es (at - 1) e (omega (arith, positive, within)) is ∙ ap (λ n. e ∷ drop n es) same
