-- A linked function is sound, where the earlier defs are.
use Rattle.std.proofs.Common.{◌≡◌, ℕ, suc, List, [], ◌∷◌, ◌++◌, length, map, Option, Some, None, Result, Ok, Err, refl, sym, ap, ◌∙◌, subst, Bool, true, false, not, ◌&&◌, ◌||◌, ◌==◌, if◌then◌else◌, nat_eq, arith}
use Rattle.std.specs.Prelude.{is_some, nat_le}
use Rattle.std.specs.List.{list_all}
use Rattle.std.specs.Cmp.Lexicographic.{bytes_decides}
use Rattle.std.proofs.lemmas.Bool.{true≢false}
use Rattle.std.proofs.lemmas.Bool.Decides.{Decides-eqb, nat_tests}
use Rattle.std.proofs.lemmas.List.Folds.{list_any-append}
use Rattle.tx_tree.specs.declared.target.Word.{Word}
use Rattle.tx_tree.specs.declared.target.Target as declared
use Rattle.tx_tree.specs.declared.target.Target.TheVariants as target
use Rattle.tx_tree.specs.declared.function.Method.{Method}
use Rattle.tx_tree.specs.declared.function.Builtin.{Builtin}
use Rattle.tx_tree.specs.declared.function.Walk.{Walk}
use Rattle.tx_tree.specs.Words.{same_text, walk_word}
use Rattle.tx_tree.specs.Spell.{texts_of}
use Rattle.tx_tree.specs.Takes.{exactly, allows, builtin_takes, method_takes, walk_takes, is_view}
use Rattle.tx_tree.specs.Tree as t
use Rattle.tx_tree.specs.Tree.{Tree, Trees, PairTrees, Operands, MaybeTree, Body, Tail}
use Rattle.tx_name_set.specs.NameSet.{is_in, add, add_all, place_in}
use Rattle.tx_names.specs.declared.role.Role.{Role}
use Rattle.tx_names.specs.declared.role.Role.TheVariants.{Plain}
use Rattle.tx_names.specs.declared.fault.Fault.{Fault}
use Rattle.tx_names.specs.declared.fault.FaultKind.TheVariants.{Arity}
use Rattle.tx_names.specs.Named.{with_word, builtin_at, method_at, walk_function_at, view_at, walk_functions, views}
use Rattle.tx_names.specs.Scope.{Text, number_of, names_of, Scope, is_name_of, is_variable, within, role_size, plain_params, assigned, assigned_body, assigned_each, assigned_tail, with_inner, with_inner_each, with_inner_pairs, with_inner_operands, with_inner_maybe, with_inner_of, with_inner_body, with_inner_all, with_inner_tail, locals_of_def, locals_of_lambda, names_of_def, names_of_lambda, scope_of_def, scope_of_lambda}
use Rattle.tx_names.specs.Faults.{fault, cell_in}
use Rattle.tx_names.specs.Function as f
use Rattle.tx_names.specs.Function.{Target, one, several, Function, function, params_of}
use Rattle.tx_names.specs.Linked as l
use Rattle.tx_names.specs.Linked.{◌>>=◌, counted, Callee, builtin_function, earlier_def, call_of, by_def, by_builtin, by_walk, by_view, by_cell, as_value, walk_in, def_named, by_method, told_at, has_params}
use Rattle.tx_names.specs.Sound.{size, is_local, sound_target, sound_expr, sound_exprs, sound_pairs, sound_comparisons, sound_maybe, sound_iterable, sound_statement, sound_statements, sound_arms, sound}
use Rattle.tx_names.specs.Laws.{SoundLaw}
use Rattle.tx_names.proofs.InnerNames.{or_assoc}
use Rattle.tx_names.proofs.Meeting.{Front, stays, further, add_all_front, inner_front, each_front, pairs_front, operands_front, maybe_front, body_front, all_front, tail_front, still_in, or_true}

-- what an answer is, where there is one
pub record Good {A : Type 0} (P : A → Type 0) (o : Result A Fault) : Type 0 where
  pub good : (a : A) → o ≡ Ok a → P a

err_ok : {A : Type 0} {e : Fault} {a : A} → ◌≡◌ {A = Result A Fault} (Err e) (Ok a) → ⊥
err_ok h = cc

ok_one : {A : Type 0} {a b : A} → ◌≡◌ {A = Result A Fault} (Ok a) (Ok b) → a ≡ b
ok_one h = cc

here : {A : Type 0} {P : A → Type 0} {a : A} → P a → Good P (Ok a)
here {P = P} h = record { good = λ b e. subst P (ok_one e) h }

fails : {A : Type 0} {P : A → Type 0} {e : Fault} → Good P (Err e)
fails = record { good = λ b e. absurd (err_ok e) }

go : {A B : Type 0} {P : A → Type 0} {Q : B → Type 0} {o : Result A Fault} {k : A → Result B Fault} → Good P o → ((a : A) → P a → Good Q (k a)) → Good Q (o >>= k)
go {o = Ok a} h r = r a (h.good a refl)
go {o = Err e} h r = fails

-- a test that passes
if_true : {A : Type 0} {P : A → Type 0} (a : A) (e : Fault) (b : Bool) → (b ≡ true → P a) → Good P (if b then Ok a else Err e)
if_true a e true h = here (h refl)
if_true a e false h = fails

unless : {A : Type 0} {P : A → Type 0} {o : Result A Fault} (e : Fault) (b : Bool) → (b ≡ false → Good P o) → Good P (if b then Err e else o)
unless e true h = fails
unless e false h = h refl

both : {a b : Bool} → a ≡ true → b ≡ true → (a && b) ≡ true
both {a = true} h r = r
both {a = false} h r = absurd (true≢false (sym h))

left : {a : Bool} (b : Bool) → (a && b) ≡ true → a ≡ true
left {a = true} b h = refl
left {a = false} b h = h

right : (a : Bool) {b : Bool} → (a && b) ≡ true → b ≡ true
right true h = h
right false h = absurd (true≢false (sym h))

or_cases : (a b : Bool) {P : Type 0} → (a || b) ≡ true → (a ≡ true → P) → (b ≡ true → P) → P
or_cases true b h r s = r refl
or_cases false b h r s = s h

-- ---- names

or_comm_by : (a b c : Bool) → (c ≡ true → a ≡ true) → a ≡ (a || c)
or_comm_by true b c h = refl
or_comm_by false b true h = absurd (true≢false (sym (h refl)))
or_comm_by false b false h = refl

in_added : (met : List Text) (m n : Text) → is_in (add met m) n ≡ (is_in met n || same_text n m)
in_added met m n = by_test (is_in met m) refl
  where
    one_more : is_in (met ++ m ∷ []) n ≡ (is_in met n || same_text n m)
    one_more = list_any-append (same_text n) met (m ∷ []) ∙ ap (λ b. is_in met n || b) (or_false (same_text n m))
      where
        or_false : (b : Bool) → (b || false) ≡ b
        or_false true = refl
        or_false false = refl

    by_test : (b : Bool) → is_in met m ≡ b → is_in (if b then met else met ++ m ∷ []) n ≡ (is_in met n || same_text n m)
    by_test true e = or_comm_by (is_in met n) false (same_text n m) (λ h. subst (λ (x : Text). is_in met x ≡ true) (sym ((bytes_decides n m).0 h)) e)
    by_test false e = one_more

pub in_all_added : (met ns : List Text) (n : Text) → is_in (add_all met ns) n ≡ (is_in met n || is_in ns n)
in_all_added met [] n = or_comm_by (is_in met n) false false (λ h. absurd (true≢false (sym h)))
in_all_added met (m ∷ ns) n = in_all_added (add met m) ns n ∙ ap (λ b. b || is_in ns n) (in_added met m n) ∙ or_assoc (is_in met n) (same_text n m) (is_in ns n)

or_right : (a b : Bool) → b ≡ true → (a || b) ≡ true
or_right true b h = refl
or_right false b h = h

-- each of some names is among others
record Among (some others : List Text) : Type 0 where
  among : (n : Text) → is_in some n ≡ true → is_in others n ≡ true

in_front : {a b : List Text} → Front a b → Among a b
in_front f = record { among = λ n. still_in n f }

among_left : {a : List Text} (b : List Text) {c : List Text} → Among (a ++ b) c → Among a c
among_left {a = a} b h = record { among = λ n e. h.among n (list_any-append (same_text n) a b ∙ or_true (is_in a n) (is_in b n) e) }

among_right : (a : List Text) {b c : List Text} → Among (a ++ b) c → Among b c
among_right a {b = b} h = record { among = λ n e. h.among n (list_any-append (same_text n) a b ∙ or_right (is_in a n) (is_in b n) e) }

among_both : {a b c : List Text} → Among a c → Among b c → Among (a ++ b) c
among_both {a = a} {b = b} h r = record { among = λ n e. or_cases (is_in a n) (is_in b n) (sym (list_any-append (same_text n) a b) ∙ e) (h.among n) (r.among n) }

added_among : (met : List Text) {ns all : List Text} → Among (add_all met ns) all → Among ns all
added_among met {ns = ns} h = record { among = λ n e. h.among n (in_all_added met ns n ∙ or_right (is_in met n) (is_in ns n) e) }

once_among : {ns all : List Text} → Among ns all → Among (add_all [] ns) all
once_among {ns = ns} h = record { among = λ n e. h.among n (sym (in_all_added [] ns n) ∙ e) }

head_among : {n : Text} {ns all : List Text} → Among (n ∷ ns) all → is_in all n ≡ true
head_among {n = n} {ns = ns} h = h.among n (or_true (same_text n n) (is_in ns n) ((bytes_decides n n).1 refl))

tail_among : {n : Text} {ns all : List Text} → Among (n ∷ ns) all → Among ns all
tail_among {n = n} {ns = ns} h = record { among = λ m e. h.among m (or_right (same_text m n) (is_in ns m) e) }

-- ---- words

none_some : {A : Type 0} {y : A} → None ≡ Some y → ⊥
none_some k = cc

some_one : {A : Type 0} {a b : A} → Some a ≡ Some b → a ≡ b
some_one k = cc

list_all_word : {A : Type 0} (word : A → List ℕ) (p : A → Bool) (xs : List A) (n : List ℕ) (x : A) → list_all p xs ≡ true → with_word word xs n ≡ Some x → p x ≡ true
list_all_word word p [] n x h e = absurd (none_some e)
list_all_word word p (y ∷ ys) n x h e = by_test (same_text n (word y)) (λ k. list_all_word word p ys n x (right (p y) h) k) e
  where
    by_test : (b : Bool) → (with_word word ys n ≡ Some x → p x ≡ true) → (if b then Some y else with_word word ys n) ≡ Some x → p x ≡ true
    by_test true r k = subst (λ z. p z ≡ true) (some_one k) (left _ h)
    by_test false r k = r k

functions_are_no_views : (n : Text) (w : Walk) → walk_function_at n ≡ Some w → not (is_view w) ≡ true
functions_are_no_views n w e = list_all_word walk_word (λ v. not (is_view v)) walk_functions n w refl e

views_are_views : (n : Text) (w : Walk) → view_at n ≡ Some w → is_view w ≡ true
views_are_views n w e = list_all_word walk_word is_view views n w refl e

-- ---- counts

exact_count : (k count : ℕ) → allows (exactly k) count ≡ true → count ≡ k
exact_count k count h = let a : nat_le k count ≡ true = left _ h in let b : nat_le count k ≡ true = right (nat_le k count) h in grind (arith, nat_tests)

-- ---- all nodes

module _ {K : Type 0} (same : K → K → Bool) (same_self : (k : K) → same k k ≡ true) (slot : Text → K) (ds : List (Text × Function K)) (names : List Text) (ds_sound : list_all (λ d. sound same d.1) ds ≡ true) where
  abbrev ls : List K
  ls = map slot names

  slot_in : (ns : List Text) (n : Text) → is_in ns n ≡ true → is_local same (map slot ns) (slot n) ≡ true
  slot_in [] n h = h
  slot_in (m ∷ ns) n h = or_cases (same_text n m) (is_in ns n) h
      (λ e. or_true (same (slot n) (slot m)) (is_local same (map slot ns) (slot n)) (subst (λ (x : Text). same (slot n) (slot x) ≡ true) ((bytes_decides n m).0 e) (same_self (slot n))))
      (λ e. or_right (same (slot n) (slot m)) (is_local same (map slot ns) (slot n)) (slot_in ns n e))

  slots_in : (ns : List Text) → Among ns names → list_all (is_local same ls) (map slot ns) ≡ true
  slots_in [] h = refl
  slots_in (n ∷ ns) h = both (slot_in names n (head_among h)) (slots_in ns (tail_among h))

  abbrev IsSlot : K → Type 0
  IsSlot k = is_local same ls k ≡ true

  abbrev AreSlots : List K → Type 0
  AreSlots ks = list_all (is_local same ls) ks ≡ true

  abbrev Sound : f.Expr K → Type 0
  Sound x = sound_expr same ls x ≡ true

  abbrev SoundEach : ℕ → f.Exprs K → Type 0
  SoundEach count xs = (size xs ≡ count) × (sound_exprs same ls xs ≡ true)

  abbrev SoundCallee : ℕ → Callee K → Type 0
  SoundCallee count (builtin_function b) = allows (builtin_takes b) count ≡ true
  SoundCallee count (earlier_def g) = (count ≡ length (params_of g)) × (sound same g ≡ true)

  abbrev SoundItems : f.Iterable K → Type 0
  SoundItems x = sound_iterable same ls x ≡ true

  abbrev Statements : f.Statements K → Type 0
  Statements x = sound_statements same ls x ≡ true

  def_sound : (es : List (Text × Function K)) → list_all (λ d. sound same d.1) es ≡ true → (n : Text) (g : Function K) → def_named es n ≡ Some g → sound same g ≡ true
  def_sound [] h n g e = absurd (none_some e)
  def_sound (d ∷ es) h n g e = by_test (same_text d.0 n) (def_sound es (right (sound same d.1) h) n g) e
    where
      by_test : (b : Bool) → (def_named es n ≡ Some g → sound same g ≡ true) → (if b then Some d.1 else def_named es n) ≡ Some g → sound same g ≡ true
      by_test true r k = subst (λ x. sound same x ≡ true) (some_one k) (left _ h)
      by_test false r k = r k

  def_good : (line count : ℕ) (d : Option (Function K)) → ((g : Function K) → d ≡ Some g → sound same g ≡ true) → Good (SoundCallee count) (by_def line count d)
  def_good line count None h = fails
  def_good line count (Some g) h = if_true _ _ (allows (exactly (length (params_of g))) count) (λ e. (exact_count (length (params_of g)) count e, h g refl))

  builtin_good : (line count : ℕ) (b : Option Builtin) {o : Result (Callee K) Fault} → Good (SoundCallee count) o → Good (SoundCallee count) (by_builtin line count b o)
  builtin_good line count None h = h
  builtin_good line count (Some b) h = if_true _ _ (allows (builtin_takes b) count) (λ e. e)

  called_good : (s : Scope) (line : ℕ) (n : Text) (count : ℕ) → Good (SoundCallee count) (l.called slot ds s line n count)
  called_good s line n count = unless _ (is_name_of s.own n) (λ a. unless _ (is_variable s n) (λ b. builtin_good line count (builtin_at n)
      (unless _ (is_some (walk_function_at n)) (λ c. def_good line count (def_named ds n) (def_sound ds ds_sound n)))))

  call_sound : (count : ℕ) (c : Callee K) (xs : f.Exprs K) → SoundCallee count c → SoundEach count xs → Sound (call_of c xs)
  call_sound count (builtin_function b) xs h r = both (ap (allows (builtin_takes b)) r.0 ∙ h) r.1
  call_sound count (earlier_def g) xs h r = both ((Decides-eqb (size xs) (length (params_of g))).1 (r.0 ∙ h.0)) (both h.1 r.1)

  method_good : (line count : ℕ) (m : Option Method) → Good (λ v. allows (method_takes v) count ≡ true) (by_method line count m)
  method_good line count None = fails
  method_good line count (Some m) = if_true _ _ (allows (method_takes m) count) (λ e. e)

  -- each name that is local is among the names
  abbrev Covers : Scope → Type 0
  Covers s = Among s.locals names

  read_good : (s : Scope) → Covers s → (line : ℕ) (n : Text) → Good Sound (l.read slot ds s line n)
  read_good s c line n = unless _ (is_name_of s.row n) (λ a. if_true _ _ (is_in s.locals n) (λ e. slot_in names n (c.among n e)))

  assigned_good : (s : Scope) (line : ℕ) (n : Text) → is_in names n ≡ true → Good IsSlot (l.assigned_slot slot ds s line n)
  assigned_good s line n e = unless _ (is_name_of s.row n) (λ a. here (slot_in names n e))

  slots_good : (s : Scope) (ws : List Word) → Among (texts_of ws) names → Good AreSlots (l.assigned_slots slot ds s ws)
  slots_good s [] h = here refl
  slots_good s (w ∷ ws) h = go (assigned_good s w.line w.text (head_among h)) λ k e. go (slots_good s ws (tail_among h)) λ ks r. here (both e r)

  target_good : (s : Scope) (u : declared.Target) → Among (names_of u) names → Good (λ p. sound_target same ls p ≡ true) (l.linked_target slot ds s u)
  target_good s (target.Name w) h = go (assigned_good s w.line w.text (head_among h)) λ k e. here e
  target_good s (target.Names ws comma) h = go (slots_good s ws h) λ ks e. here e
  target_good s (target.Bracketed i ws comma) h = go (slots_good s ws h) λ ks e. here e

  value_good : {o : Result (f.Expr K) Fault} → Good Sound o → Good SoundItems (as_value o)
  value_good h = go h λ x e. here e

  walk_good : (line count : ℕ) (w : Option Walk) → ((v : Walk) → w ≡ Some v → not (is_view v) ≡ true) → {a : Result (f.Exprs K) Fault} {o : Result (f.Expr K) Fault} → Good (SoundEach count) a → Good Sound o → Good SoundItems (by_walk w line count a o)
  walk_good line count None q h r = value_good r
  walk_good line count (Some w) q h r = go (if_true {P = λ v. (v ≡ w) × (allows (walk_takes w) count ≡ true)} _ _ (allows (walk_takes w) count) (λ e. (refl, e))) λ v e. go h λ xs s. here
      (subst (λ (x : Walk). sound_iterable same ls (f.walk x xs) ≡ true) (sym e.0) (both (q w refl) (both (ap (allows (walk_takes w)) s.0 ∙ e.1) s.1)))

  view_good : (line count : ℕ) (w : Option Walk) → ((v : Walk) → w ≡ Some v → is_view v ≡ true) → {c : Result (f.Expr K) Fault} {a : Result (f.Exprs K) Fault} {o : Result (f.Expr K) Fault} → Good Sound c → Good (SoundEach count) a → Good Sound o → Good SoundItems (by_view w line count c a o)
  view_good line count None q p h r = value_good r
  view_good line count (Some w) q p h r = go p λ x d. go (if_true {P = λ v. v ≡ w} _ _ (allows (walk_takes w) count) (λ e. refl)) λ v e. go h λ xs s. here
      (subst (λ (y : Walk). sound_iterable same ls (f.view x y) ≡ true) (sym e) (both (q w refl) d))

  cell_good : (c : Option Text) {o : Result (f.Expr K) Fault} → Good Sound o → Good Sound (by_cell c o)
  cell_good None h = h
  cell_good (Some c) h = here refl

  walk_in_no_view : (s : Scope) (n : Text) (w : Walk) → walk_in s n ≡ Some w → not (is_view w) ≡ true
  walk_in_no_view s n w e = by_test (is_name_of s.own n || is_variable s n) e
    where
      by_test : (b : Bool) → (if b then None else walk_function_at n) ≡ Some w → not (is_view w) ≡ true
      by_test true k = absurd (none_some k)
      by_test false k = functions_are_no_views n w k

  within_covers : (s : Scope) (u : declared.Target) → Covers s → Among (names_of u) names → Covers (within s u)
  within_covers s u c h = among_both (once_among h) c

  mutual
    linked_good : (s : Scope) → Covers s → (a : Tree) (met : List Text) → Front (with_inner a met) names → Good Sound (l.linked slot ds s a)
    linked_good s c (t.nil i) met h = here refl
    linked_good s c (t.truth i b) met h = here refl
    linked_good s c (t.int i n) met h = here refl
    linked_good s c (t.text i x) met h = here refl
    linked_good s c (t.name i n) met h = read_good s c i n
    linked_good s c (t.paren i a) met h = go (linked_good s c a met h) λ x e. here e
    linked_good s c (t.tuple i es comma) met h = go (each_good s c es met h) λ x e. here e.1
    linked_good s c (t.bare_tuple i es comma) met h = go (each_good s c es met h) λ x e. here e.1
    linked_good s c (t.list i es comma) met h = go (each_good s c es met h) λ x e. here e.1
    linked_good s c (t.dict i ps comma) met h = go (pairs_good s c ps met h) λ x e. here e
    linked_good s c (t.comprehension i a u j w) met h =
        let m1 : List Text = with_inner a met in
        let m2 : List Text = add_all m1 (names_of u) in
        let h3 : Front (with_inner j m2) names = further (maybe_front w (with_inner j m2)) h in
        let h2 : Front m2 names = further (inner_front j m2) h3 in
        let own : Among (names_of u) names = added_among (m1) (in_front h2) in
        let inside : Covers (within s u) = within_covers s u c own in
        go (linked_good (within s u) inside a met (further (add_all_front m1 (names_of u)) h2)) λ x e. go (target_good s u own) λ p d. go (iterable_good s c j m2 h3 (linked_good s c j m2 h3)) λ y r. go (maybe_good (within s u) inside w (with_inner j m2) h) λ z q. here (both e (both d (both r q)))
    linked_good s c (t.call i n es comma) met h = go (called_good s i n (number_of es)) λ g d. go (each_good s c es met h) λ xs e. here (call_sound (number_of es) g xs d e)
    linked_good s c (t.method i a w es comma) met h = go (linked_good s c a met (further (each_front es _) h)) λ x d. go (method_good w.line (number_of es) (method_at w.text)) λ m q. go (each_good s c es (with_inner a met) h) λ xs e. here (both (ap (allows (method_takes m)) e.0 ∙ q) (both d e.1))
    linked_good s c (t.index i a j) met h = cell_good (cell_in s.row a j) (go (linked_good s c a met (further (inner_front j _) h)) λ x d. go (linked_good s c j (with_inner a met) h) λ y e. here (both d e))
    linked_good s c (t.slice i a j k) met h = go (linked_good s c a met (further (maybe_front j _) (further (maybe_front k _) h))) λ x d. go (maybe_good s c j (with_inner a met) (further (maybe_front k _) h)) λ y e. go (maybe_good s c k (with_inner_maybe j (with_inner a met)) h) λ z q. here (both d (both e q))
    linked_good s c (t.unary i op a) met h = go (linked_good s c a met h) λ x e. here e
    linked_good s c (t.binary i a op b) met h = go (linked_good s c a met (further (inner_front b _) h)) λ x d. go (linked_good s c b (with_inner a met) h) λ y e. here (both d e)
    linked_good s c (t.compare i a os) met h = go (linked_good s c a met (further (operands_front os _) h)) λ x d. go (operands_good s c os (with_inner a met) h) λ y e. here (both d e)
    linked_good s c (t.negation i a) met h = go (linked_good s c a met h) λ x e. here e
    linked_good s c (t.conjunction i a es) met h = go (linked_good s c a met (further (each_front es _) h)) λ x d. go (each_good s c es (with_inner a met) h) λ y e. here (both d e.1)
    linked_good s c (t.disjunction i a es) met h = go (linked_good s c a met (further (each_front es _) h)) λ x d. go (each_good s c es (with_inner a met) h) λ y e. here (both d e.1)
    linked_good s c (t.conditional i a b d) met h = go (linked_good s c a met (further (inner_front b _) (further (inner_front d _) h))) λ x q. go (linked_good s c b (with_inner a met) (further (inner_front d _) h)) λ y e. go (linked_good s c d (with_inner b (with_inner a met)) h) λ z r. here (both q (both e r))

    each_good : (s : Scope) → Covers s → (es : Trees) (met : List Text) → Front (with_inner_each es met) names → Good (SoundEach (number_of es)) (l.linked_each slot ds s es)
    each_good s c t.none met h = here (refl, refl)
    each_good s c (t.more a es) met h = go (linked_good s c a met (further (each_front es _) h)) λ x d. go (each_good s c es (with_inner a met) h) λ y e. here (ap suc e.0, both d e.1)

    pairs_good : (s : Scope) → Covers s → (ps : PairTrees) (met : List Text) → Front (with_inner_pairs ps met) names → Good (λ x. sound_pairs same ls x ≡ true) (l.linked_pairs slot ds s ps)
    pairs_good s c t.no_pair met h = here refl
    pairs_good s c (t.pair a b ps) met h = go (linked_good s c a met (further (inner_front b _) (further (pairs_front ps _) h))) λ x q. go (linked_good s c b (with_inner a met) (further (pairs_front ps _) h)) λ y e. go (pairs_good s c ps (with_inner b (with_inner a met)) h) λ z r. here (both q (both e r))

    operands_good : (s : Scope) → Covers s → (os : Operands) (met : List Text) → Front (with_inner_operands os met) names → Good (λ x. sound_comparisons same ls x ≡ true) (l.linked_operands slot ds s os)
    operands_good s c t.no_operand met h = here refl
    operands_good s c (t.operand op a os) met h = go (linked_good s c a met (further (operands_front os _) h)) λ x d. go (operands_good s c os (with_inner a met) h) λ y e. here (both d e)

    maybe_good : (s : Scope) → Covers s → (a : MaybeTree) (met : List Text) → Front (with_inner_maybe a met) names → Good (λ x. sound_maybe same ls x ≡ true) (l.linked_maybe slot ds s a)
    maybe_good s c t.absent met h = here refl
    maybe_good s c (t.present a) met h = go (linked_good s c a met h) λ x e. here e

    iterable_good : (s : Scope) → Covers s → (a : Tree) (met : List Text) → Front (with_inner a met) names → {o : Result (f.Expr K) Fault} → Good Sound o → Good SoundItems (l.linked_iterable slot ds s a o)
    iterable_good s c (t.call i n es comma) met h r = walk_good i (number_of es) (walk_in s n) (walk_in_no_view s n) (each_good s c es met h) r
    iterable_good s c (t.method i a w es comma) met h r = view_good w.line (number_of es) (view_at w.text) (views_are_views w.text) (linked_good s c a met (further (each_front es _) h)) (each_good s c es (with_inner a met) h) r
    iterable_good s c _ met h r = value_good r

  mutual
    does_good : (s : Scope) → Covers s → (a : t.Statement) (met : List Text) → Among (assigned a) names → Front (with_inner_of a met) names → Good (λ x. sound_statement same ls x ≡ true) (l.does slot ds s a)
    does_good s c (t.pass i) met g h = here refl
    does_good s c (t.break i) met g h = here refl
    does_good s c (t.continue i) met g h = here refl
    does_good s c (t.return i a) met g h = go (maybe_good s c a met h) λ x e. here e
    does_good s c (t.assign i u a) met g h = go (target_good s u g) λ p d. go (linked_good s c a met h) λ x e. here (both d e)
    does_good s c (t.augment i n op a) met g h = go (assigned_good s i n (head_among g)) λ k d. go (linked_good s c a met h) λ x e. here (both d e)
    does_good s c (t.express i a) met g h = go (linked_good s c a met h) λ x e. here e
    does_good s c (t.branch i a b rest) met g h = go (linked_good s c a met (further (body_front b _) (further (tail_front rest _) h))) λ x q. go (body_good s c b (with_inner a met) (among_left _ g) (further (tail_front rest _) h)) λ y e. go (arms_good s c rest (with_inner_body b (with_inner a met)) (among_right (assigned_body b) g) h) λ z r. go (other_good s c rest (with_inner_body b (with_inner a met)) (among_right (assigned_body b) g) h) λ w k. here (both (both q (both e r)) k)
    does_good s c (t.repeat i u j b) met g h = go (target_good s u (among_left _ g)) λ p d. go (iterable_good s c j met (further (body_front b _) h) (linked_good s c j met (further (body_front b _) h))) λ y e. go (body_good s c b (with_inner j met) (among_right (names_of u) g) h) λ z r. here (both d (both e r))

    body_good : (s : Scope) → Covers s → (b : Body) (met : List Text) → Among (assigned_body b) names → Front (with_inner_body b met) names → Good Statements (l.does_body slot ds s b)
    body_good s c (t.line a) met g h = go (does_good s c a met g h) λ x e. here (both e refl)
    body_good s c (t.indented ss) met g h = all_good s c ss met g h

    all_good : (s : Scope) → Covers s → (ss : t.Statements) (met : List Text) → Among (assigned_each ss) names → Front (with_inner_all ss met) names → Good Statements (l.does_all slot ds s ss)
    all_good s c t.finish met g h = here refl
    all_good s c (t.next a ss) met g h = go (does_good s c a met (among_left _ g) (further (all_front ss _) h)) λ x d. go (all_good s c ss (with_inner_of a met) (among_right (assigned a) g) h) λ y e. here (both d e)

    arms_good : (s : Scope) → Covers s → (rest : Tail) (met : List Text) → Among (assigned_tail rest) names → Front (with_inner_tail rest met) names → Good (λ x. sound_arms same ls x ≡ true) (l.arms_of slot ds s rest)
    arms_good s c t.nothing met g h = here refl
    arms_good s c (t.otherwise b) met g h = here refl
    arms_good s c (t.elif a b rest) met g h = go (linked_good s c a met (further (body_front b _) (further (tail_front rest _) h))) λ x q. go (body_good s c b (with_inner a met) (among_left _ g) (further (tail_front rest _) h)) λ y e. go (arms_good s c rest (with_inner_body b (with_inner a met)) (among_right (assigned_body b) g) h) λ z r. here (both q (both e r))

    other_good : (s : Scope) → Covers s → (rest : Tail) (met : List Text) → Among (assigned_tail rest) names → Front (with_inner_tail rest met) names → Good Statements (l.other_of slot ds s rest)
    other_good s c t.nothing met g h = here refl
    other_good s c (t.otherwise b) met g h = body_good s c b met g h
    other_good s c (t.elif a b rest) met g h = other_good s c rest (with_inner_body b (with_inner a met)) (among_right (assigned_body b) g) h

-- ---- functions

module _ {K : Type 0} (same : K → K → Bool) (same_self : (k : K) → same k k ≡ true) (slot : Text → K) (ds : List (Text × Function K)) (ds_sound : list_all (λ d. sound same d.1) ds ≡ true) where
  params_among : (role : Role) (params : List Text) (met all : List Text) → Front (add_all (add_all [] (plain_params role params)) met) all → Among (plain_params role params) all
  params_among role params met all h = added_among ([]) (in_front (further (add_all_front (add_all [] (plain_params role params)) met) h))

  unless_params : {P : Function K → Type 0} {o : Result (Function K) Fault} (role : Role) (at : ℕ) (params : List Text) → Good P o → Good P (has_params slot ds role at params o)
  unless_params {P = P} {o = o} role at params h = by_test (length params == role_size role)
    where
      by_test : (b : Bool) → Good P (if b then o else Err (fault Arity at))
      by_test true = h
      by_test false = fails

  told_good : {A : Type 0} {P : A → Type 0} {o : Result A Fault} (at : ℕ) → Good P o → Good P (told_at slot ds at o)
  told_good {o = Ok a} at h = here (h.good a refl)
  told_good {o = Err e} at h = fails

  pub lambda_good : (role : Role) (at : ℕ) (params : List Text) (a : Tree) → Good (λ g. sound same g ≡ true) (l.function_of_lambda slot ds (names_of_lambda role params a) role at params a)
  lambda_good role at params a =
      let names : List Text = names_of_lambda role params a in
      let h : Front (with_inner a (locals_of_lambda role params)) names = stays in
      let c : Among (locals_of_lambda role params) names = in_front (inner_front a (locals_of_lambda role params)) in
      unless_params role at params (go (linked_good same same_self slot ds names ds_sound (scope_of_lambda role params) c a (locals_of_lambda role params) h)
      λ x e. here (both (slots_in same same_self slot ds names ds_sound (plain_params role params) (added_among ([]) c)) e))

  pub def_good_function : (role : Role) (at : ℕ) (n : Text) (params : List Text) (b : Body) → Good (λ g. sound same g ≡ true) (l.function_of_def slot ds (names_of_def role params b) role at n params b)
  def_good_function role at n params b =
      let names : List Text = names_of_def role params b in
      let met : List Text = locals_of_def role params b in
      let h : Front (with_inner_body b met) names = stays in
      let h0 : Front met names = body_front b met in
      let c : Among met names = in_front h0 in
      let ahead : Good {A = f.Statements K} (λ x. Unit {0}) (l.does_body slot ds (scope_of_def (Plain (length params)) n params b) b) = record { good = λ x e. tt } in
      go ahead λ y u. unless_params role at params (go (told_good at (body_good same same_self slot ds names ds_sound (scope_of_def role n params b) c b met (added_among (add_all [] (plain_params role params)) c) h))
      λ x e. here (both (slots_in same same_self slot ds names ds_sound (plain_params role params) (params_among role params (assigned_body b) names h0)) e))

text_self : (n : Text) → same_text n n ≡ true
text_self n = (bytes_decides n n).1 refl

nat_self : (n : ℕ) → nat_eq n n ≡ true
nat_self n = (Decides-eqb n n).1 refl

pub soundness : SoundLaw
soundness = record {
  def_with_slots = λ ds role at n params b g h e. (def_good_function nat_eq nat_self (place_in (names_of_def role params b)) ds h role at n params b).good g e;
  def_with_names = λ ds role at n params b g h e. (def_good_function same_text text_self (λ m. m) ds h role at n params b).good g e;
  lambda_with_slots = λ ds role at params a g h e. (lambda_good nat_eq nat_self (place_in (names_of_lambda role params a)) ds h role at params a).good g e;
  lambda_with_names = λ ds role at params a g h e. (lambda_good same_text text_self (λ m. m) ds h role at params a).good g e;
}
