-- The names that entries still use, and the operators that they stand for.
use Rattle.std.proofs.Common.{◌≡◌, ℕ, zero, suc, ◌+◌, ◌≤◌, ◌==◌, Bool, true, false, not, cond, List, [], ◌∷◌, ◌++◌, length, Option, Some, None, slice_get, count_by, refl, sym, ap, ◌∙◌, subst, arith}
use Rattle.std.specs.List.{flat_map}
use Rattle.std.specs.Cmp.Lexicographic.{bytes_decides}
use Rattle.std.proofs.lemmas.List.Sums.{sum_by-cons}
use Rattle.std.proofs.lemmas.Bool.{or_parts, lt-leb}
use Rattle.tx_tree.specs.Words.{same_text}
use Rattle.tx_name_set.specs.NameSet.{is_in, place_in}
use Rattle.tx_names.specs.Scope.{Text}
use Rattle.tx_script.specs.Written.{Entry}
use Rattle.tx_script.specs.Linked.{Ahead, nothing_ahead, with_pipeline}
use Rattle.tx_script.specs.Checks.{names_in}
use Rattle.tx_script.specs.Checks as checks
use Rattle.tx_script.proofs.LawfulShapeCounts.{one, upto, is_number, is_end, ending, ending-append}
use Rattle.tx_script.proofs.LawfulShapeFed.{Within, EndsWithin}

-- how many names in these entries stand for an operator
abbrev pub owed : Ahead → ℕ → List Entry → ℕ
owed a k es = ending a k (flat_map names_in es)

pub owed-cons : (a : Ahead) (k : ℕ) (e : Entry) (es : List Entry) → owed a k (e ∷ es) ≡ ending a k (names_in e) + owed a k es
owed-cons a k e es = ending-append a k (names_in e) (flat_map names_in es)

-- ---- nothing ahead

none_ending : (k : ℕ) (ns : List Text) → ending nothing_ahead k ns ≡ 0
none_ending k [] = refl
none_ending k (n ∷ ns) = sum_by-cons (λ m. cond (is_end nothing_ahead k m) 1 0) n ns ∙ (let h = none_ending k ns in omega arith)

pub none_owed : (k : ℕ) (es : List Entry) → 1 ≤ k → 0 + owed nothing_ahead k es ≡ upto k 0
none_owed k es h = let o = none_ending k (flat_map names_in es) in let e : upto k 0 ≡ 0 = ap (λ b. cond b 1 0) (lt-leb k 0 h) in omega arith

-- ---- a name more

same_turned : (m n : Text) → same_text m n ≡ same_text n m
same_turned m n = by_test (same_text m n) (same_text n m) (λ e. (bytes_decides n m).1 (sym ((bytes_decides m n).0 e))) (λ e. (bytes_decides m n).1 (sym ((bytes_decides n m).0 e)))
  where
    by_test : (b c : Bool) → (b ≡ true → c ≡ true) → (c ≡ true → b ≡ true) → b ≡ c
    by_test true c f g = sym (f refl)
    by_test false true f g = g refl
    by_test false false f g = refl

abbrev bit : Bool → ℕ
bit b = cond b 1 0

-- a number where the condition holds, else zero
abbrev only : Bool → ℕ → ℕ
only b n = cond b n 0

no_cond : (b : Bool) → only b 0 ≡ 0
no_cond true = refl
no_cond false = refl

next_place : {A : Type 0} (x : A) (xs : List A) (i : ℕ) → slice_get (x ∷ xs) (1 + i) ≡ slice_get xs i
next_place x xs i = let e : 1 + i ≡ suc i = omega arith in ap (λ j. slice_get (x ∷ xs) j) e

module _ (k end : ℕ) (n m : Text) where
  alone_new : (b : Bool) → bit (is_number k (slice_get (end ∷ []) (cond (not b) 1 0))) ≡ 0 + only (end == k) (bit b)
  alone_new true = omega arith
  alone_new false = let z = no_cond (end == k) in omega arith

  -- a name stands for what it stood for, and the new one for the new end
  one_new : (ns : List Text) (xs : List ℕ) → length ns ≡ length xs → is_in ns n ≡ false
      → bit (is_number k (slice_get (xs ++ end ∷ []) (place_in (ns ++ n ∷ []) m))) ≡ bit (is_number k (slice_get xs (place_in ns m))) + only (end == k) (bit (same_text n m))
  one_new [] [] l i = alone_new (same_text m n) ∙ ap (λ b. 0 + only (end == k) (bit b)) (same_turned m n)
  one_new [] (x ∷ xs) l i = absurd (omega arith)
  one_new (c ∷ ns) [] l i = absurd (omega arith)
  one_new (c ∷ ns) (x ∷ xs) l i = let p = or_parts (same_text n c) (is_in ns n) i in by_test (same_text m c) refl p.0 (one_new ns xs (omega arith) p.1)
    where
      by_test : (b : Bool) → same_text m c ≡ b → same_text n c ≡ false
          → bit (is_number k (slice_get (xs ++ end ∷ []) (place_in (ns ++ n ∷ []) m))) ≡ bit (is_number k (slice_get xs (place_in ns m))) + only (end == k) (bit (same_text n m))
          → bit (is_number k (slice_get (x ∷ (xs ++ end ∷ [])) (cond (not b) (1 + place_in (ns ++ n ∷ []) m) 0)))
          ≡ bit (is_number k (slice_get (x ∷ xs) (cond (not b) (1 + place_in ns m) 0))) + only (end == k) (bit (same_text n m))
      by_test true e f rest =
          let g : same_text n m ≡ false = subst (λ (t : Text). same_text n t ≡ false) (sym ((bytes_decides m c).0 e)) f in
          let z : only (end == k) (bit (same_text n m)) ≡ 0 = ap (λ b. only (end == k) (bit b)) g ∙ no_cond (end == k) in
          omega arith
      by_test false e f rest =
          ap (λ (o : Option ℕ). bit (is_number k o)) (next_place x (xs ++ end ∷ []) (place_in (ns ++ n ∷ []) m))
          ∙ rest
          ∙ ap (λ (o : Option ℕ). bit (is_number k o) + only (end == k) (bit (same_text n m))) (sym (next_place x xs (place_in ns m)))

apart : (b : Bool) (i j : ℕ) → only b (i + j) ≡ only b i + only b j
apart true i j = refl
apart false i j = refl

each_new : (b : Bool) (p q r : Text → Bool) → ((m : Text) → bit (p m) ≡ bit (q m) + only b (bit (r m))) → (ms : List Text) → count_by p ms ≡ count_by q ms + only b (count_by r ms)
each_new b p q r h [] = let z = no_cond b in omega arith
each_new b p q r h (m ∷ ms) =
    let rest = each_new b p q r h ms in
    let o = h m in
    let x = sum_by-cons (λ n. bit (p n)) m ms in
    let y = sum_by-cons (λ n. bit (q n)) m ms in
    let z : only b (count_by r (m ∷ ms)) ≡ only b (bit (r m)) + only b (count_by r ms) = ap (λ i. only b i) (sum_by-cons (λ n. bit (r n)) m ms) ∙ apart b (bit (r m)) (count_by r ms) in
    omega arith

pub owed_new : (a : Ahead) (k : ℕ) (n : Text) (end : ℕ) (es : List Entry) → length a.pipelines ≡ length a.ends → is_in a.pipelines n ≡ false → checks.uses n es ≡ 1
    → owed (with_pipeline a n end) k es ≡ owed a k es + one end k
owed_new a k n end es l i u =
    each_new (end == k) (is_end (with_pipeline a n end) k) (is_end a k) (same_text n) (λ m. one_new k end n m a.pipelines a.ends l i) (flat_map names_in es)
    ∙ ap (λ c. owed a k es + only (end == k) c) u

-- ---- an end more

no_some : {A : Type 0} (x : A) → None ≡ Some x → ⊥
no_some x e = cc

some_is : {A : Type 0} (x y : A) → Some x ≡ Some y → x ≡ y
some_is x y e = cc

push_each : (P : ℕ → Type 0) (xs : List ℕ) (y : ℕ) → ((i x : ℕ) → slice_get xs i ≡ Some x → P x) → P y → (i x : ℕ) → slice_get (xs ++ y ∷ []) i ≡ Some x → P x
push_each P [] y h q zero x e = subst P (some_is y x e) q
push_each P [] y h q (suc i) x e = absurd (no_some x e)
push_each P (z ∷ zs) y h q zero x e = h zero x e
push_each P (z ∷ zs) y h q (suc i) x e = push_each P zs y (λ j w. h (suc j) w) q i x e

pub ends_new : (a : Ahead) (d : ℕ) (n : Text) (end : ℕ) → EndsWithin a d → Within d end → EndsWithin (with_pipeline a n end) d
ends_new a d n end h w = push_each (Within d) a.ends end h w

pub none_ends : (d : ℕ) → EndsWithin nothing_ahead d
none_ends d i x e = absurd (no_some x e)
