-- Words that may not be defined.
use Rattle.std.proofs.Common.{◌≡◌, ◌↔◌, ℕ, List, [], ◌∷◌, ◌++◌, map, Option, Some, None, is_some, refl, sym, ap, ◌∙◌, Bool, true, false, not, ◌||◌, if◌then◌else◌}
use Rattle.std.specs.Prelude.{IsTrue}
use Rattle.std.specs.Str.{chars}
use Rattle.std.specs.Cmp.Lexicographic.{bytes_decides}
use Rattle.tx_tree.specs.declared.function.Builtin.{Builtin}
use Rattle.tx_tree.specs.declared.function.Builtin.TheVariants as builtin
use Rattle.tx_tree.specs.declared.function.Walk.{Walk}
use Rattle.tx_tree.specs.declared.function.Walk.TheVariants as walk
use Rattle.tx_tree.specs.Takes.{is_view}
use Rattle.tx_tree.specs.Words.{same_text, builtin_word, walk_word}
use Rattle.tx_name_set.specs.NameSet.{is_in}
use Rattle.tx_names.specs.Named.{with_word, builtins, walk_functions}
use Rattle.tx_script.specs.Calls.Behind.{is_function}

none_some : {A : Type 0} {x : A} → None ≡ Some x → ⊥
none_some h = cc

-- an answer that names what has the word
abbrev Names : {A : Type 0} → (A → List ℕ) → Option A → List ℕ → Type 0
Names {A = A} word answer cs = (x : A) → (answer ≡ Some x) ↔ (cs ≡ word x)

none_in : {A : Type 0} (word : A → List ℕ) (xs : List A) (n : List ℕ) → ((x : A) → n ≡ word x → ⊥) → is_in (map word xs) n ≡ false
none_in word [] n h = refl
none_in word (y ∷ ys) n h = by_test (same_text n (word y)) (λ e. h y ((bytes_decides n (word y)).0 e)) (none_in word ys n h)
  where
    by_test : (b : Bool) → (b ≡ true → ⊥) → is_in (map word ys) n ≡ false → (b || is_in (map word ys) n) ≡ false
    by_test true k r = absurd (k refl)
    by_test false k r = r

names_in : {A : Type 0} (word : A → List ℕ) (xs : List A) (test : A → Bool) → ((x : A) → is_in (map word xs) (word x) ≡ test x) → (answer : Option A) (cs : List ℕ) → Names word answer cs → is_function test answer ≡ is_in (map word xs) cs
names_in word xs test itself (Some x) cs h = sym (ap (is_in (map word xs)) ((h x).0 refl) ∙ itself x)
names_in word xs test itself None cs h = sym (none_in word xs cs (λ x e. none_some ((h x).1 e)))

builtin_itself : (b : Builtin) → is_in (map builtin_word builtins) (builtin_word b) ≡ true
builtin_itself builtin.Len = refl
builtin_itself builtin.Int = refl
builtin_itself builtin.Str = refl
builtin_itself builtin.Bool = refl
builtin_itself builtin.Abs = refl
builtin_itself builtin.Min = refl
builtin_itself builtin.Max = refl
builtin_itself builtin.Sum = refl
builtin_itself builtin.Any = refl
builtin_itself builtin.All = refl
builtin_itself builtin.Ord = refl
builtin_itself builtin.List = refl
builtin_itself builtin.Tuple = refl

walk_itself : (w : Walk) → is_in (map walk_word walk_functions) (walk_word w) ≡ not (is_view w)
walk_itself walk.Range = refl
walk_itself walk.Enumerate = refl
walk_itself walk.Zip = refl
walk_itself walk.Items = refl
walk_itself walk.Keys = refl
walk_itself walk.Values = refl

builtin_in : (answer : Option Builtin) (cs : List ℕ) → Names builtin_word answer cs → is_function (λ b. true) answer ≡ is_in (map builtin_word builtins) cs
builtin_in = names_in builtin_word builtins (λ b. true) builtin_itself

walk_in : (answer : Option Walk) (cs : List ℕ) → Names walk_word answer cs → is_function (λ w. not (is_view w)) answer ≡ is_in (map walk_word walk_functions) cs
walk_in = names_in walk_word walk_functions (λ w. not (is_view w)) walk_itself

-- one of some that has a word
pub words_in : {A : Type 0} (word : A → List ℕ) (xs : List A) (n : List ℕ) → is_some (with_word word xs n) ≡ is_in (map word xs) n
words_in word [] n = refl
words_in word (y ∷ ys) n = by_test (same_text n (word y)) (words_in word ys n)
  where
    by_test : (b : Bool) → is_some (with_word word ys n) ≡ is_in (map word ys) n → is_some (if b then Some y else with_word word ys n) ≡ (b || is_in (map word ys) n)
    by_test true r = refl
    by_test false r = r

pub both_in : (xs ys : List (List ℕ)) (n : List ℕ) → is_in (xs ++ ys) n ≡ (is_in xs n || is_in ys n)
both_in [] ys n = refl
both_in (x ∷ xs) ys n = by_test (same_text n x) (both_in xs ys n)
  where
    by_test : (b : Bool) → is_in (xs ++ ys) n ≡ (is_in xs n || is_in ys n) → (b || is_in (xs ++ ys) n) ≡ ((b || is_in xs n) || is_in ys n)
    by_test true r = refl
    by_test false r = r

-- a test of two texts
pub same_text_is : (b : Bool) (s t : List ℕ) → (IsTrue b ↔ (s ≡ t)) → b ≡ same_text s t
same_text_is true s t h = sym ((bytes_decides s t).1 (h.0 refl))
same_text_is false s t h = by_test (same_text s t) refl
  where
    by_test : (c : Bool) → same_text s t ≡ c → false ≡ c
    by_test false e = refl
    by_test true e = h.1 ((bytes_decides s t).0 e)

some_is : (answer : Option Builtin) → is_some answer ≡ is_function (λ b. true) answer
some_is (Some b) = refl
some_is None = refl

pub builtin_is : (answer : Option Builtin) (s cs : List ℕ) → ((x : Builtin) → (answer ≡ Some x) ↔ (chars s ≡ builtin_word x)) → chars s ≡ cs → is_some answer ≡ is_in (map builtin_word builtins) cs
builtin_is answer s cs h e = some_is answer ∙ builtin_in answer cs (λ x. ((λ p. sym e ∙ (h x).0 p), (λ q. (h x).1 (e ∙ q))))

pub walk_is : (answer : Option Walk) (s cs : List ℕ) → ((x : Walk) → (answer ≡ Some x) ↔ (chars s ≡ walk_word x)) → chars s ≡ cs → is_function (λ w. not (is_view w)) answer ≡ is_in (map walk_word walk_functions) cs
walk_is answer s cs h e = walk_in answer cs (λ x. ((λ p. sym e ∙ (h x).0 p), (λ q. (h x).1 (e ∙ q))))
