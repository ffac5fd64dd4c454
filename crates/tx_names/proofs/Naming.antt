-- The built-in function, the method, the walk of a word, from the calls that name them.
use Rattle.std.proofs.Common.{◌≡◌, ◌↔◌, ℕ, List, [], ◌∷◌, Option, Some, None, refl, sym, ap, ◌∙◌, Bool, true, false, if◌then◌else◌}
use Rattle.std.specs.Cmp.Lexicographic.{bytes_decides}
use Rattle.tx_tree.specs.declared.function.Method.{Method}
use Rattle.tx_tree.specs.declared.function.Method.TheVariants as method
use Rattle.tx_tree.specs.declared.function.Builtin.{Builtin}
use Rattle.tx_tree.specs.declared.function.Builtin.TheVariants as builtin
use Rattle.tx_tree.specs.declared.function.Walk.{Walk}
use Rattle.tx_tree.specs.declared.function.Walk.TheVariants as walk
use Rattle.tx_tree.specs.Takes.{is_view}
use Rattle.tx_tree.specs.Words.{same_text, method_word, builtin_word, walk_word}
use Rattle.tx_names.specs.Named.{with_word, builtins, methods, walk_functions, views, builtin_at, method_at, walk_function_at, view_at}

none_some : {A : Type 0} {x : A} → None ≡ Some x → ⊥
none_some h = cc

-- no word of these
none_with : {A : Type 0} (word : A → List ℕ) (xs : List A) (n : List ℕ) → ((x : A) → n ≡ word x → ⊥) → with_word word xs n ≡ None
none_with word [] n h = refl
none_with word (y ∷ ys) n h = by_test (same_text n (word y)) (λ e. h y ((bytes_decides n (word y)).0 e)) (none_with word ys n h)
  where
    by_test : (b : Bool) → (b ≡ true → ⊥) → with_word word ys n ≡ None → (if b then Some y else with_word word ys n) ≡ None
    by_test true k r = absurd (k refl)
    by_test false k r = r

-- an answer that names what has the word
abbrev pub Names : {A : Type 0} → (A → List ℕ) → Option A → List ℕ → Type 0
Names {A = A} word answer cs = (x : A) → (answer ≡ Some x) ↔ (cs ≡ word x)

builtin_itself : (b : Builtin) → builtin_at (builtin_word b) ≡ Some b
builtin_itself builtin.Len = refl
builtin_itself builtin.Int = refl
builtin_itself builtin.Str = refl
builtin_itself builtin.Bool = refl
builtin_itself builtin.Abs = refl
builtin_itself builtin.Min = refl
builtin_itself builtin.Max = refl
builtin_itself builtin.Sum = refl
builtin_itself builtin.Any = refl
builtin_itself builtin.All = refl
builtin_itself builtin.Ord = refl
builtin_itself builtin.List = refl
builtin_itself builtin.Tuple = refl

method_itself : (m : Method) → method_at (method_word m) ≡ Some m
method_itself method.Lower = refl
method_itself method.Upper = refl
method_itself method.Strip = refl
method_itself method.Lstrip = refl
method_itself method.Rstrip = refl
method_itself method.Split = refl
method_itself method.Replace = refl
method_itself method.Find = refl
method_itself method.Rfind = refl
method_itself method.Index = refl
method_itself method.Count = refl
method_itself method.StartsWith = refl
method_itself method.EndsWith = refl
method_itself method.Join = refl
method_itself method.Zfill = refl
method_itself method.IsDigit = refl
method_itself method.Get = refl

-- of a walk what is a function, and what is a view
abbrev as_function : Walk → Option Walk
as_function w = if is_view w then None else Some w

abbrev as_view : Walk → Option Walk
as_view w = if is_view w then Some w else None

function_itself : (w : Walk) → walk_function_at (walk_word w) ≡ as_function w
function_itself walk.Range = refl
function_itself walk.Enumerate = refl
function_itself walk.Zip = refl
function_itself walk.Items = refl
function_itself walk.Keys = refl
function_itself walk.Values = refl

view_itself : (w : Walk) → view_at (walk_word w) ≡ as_view w
view_itself walk.Range = refl
view_itself walk.Enumerate = refl
view_itself walk.Zip = refl
view_itself walk.Items = refl
view_itself walk.Keys = refl
view_itself walk.Values = refl

pub builtin_is : (answer : Option Builtin) (n cs : List ℕ) → Names builtin_word answer cs → cs ≡ n → answer ≡ builtin_at n
builtin_is (Some b) n cs h e = sym (ap builtin_at (sym e ∙ (h b).0 refl) ∙ builtin_itself b)
builtin_is None n cs h e = sym (none_with builtin_word builtins n (λ x k. none_some ((h x).1 (e ∙ k))))

pub method_is : (answer : Option Method) (n cs : List ℕ) → Names method_word answer cs → cs ≡ n → answer ≡ method_at n
method_is (Some m) n cs h e = sym (ap method_at (sym e ∙ (h m).0 refl) ∙ method_itself m)
method_is None n cs h e = sym (none_with method_word methods n (λ x k. none_some ((h x).1 (e ∙ k))))

pub function_is : (w : Walk) (n cs : List ℕ) → Names walk_word (Some w) cs → cs ≡ n → is_view w ≡ false → Some w ≡ walk_function_at n
function_is w n cs h e k = sym (ap walk_function_at (sym e ∙ (h w).0 refl) ∙ function_itself w ∙ ap (λ b. if b then None else Some w) k)

pub function_is_none : (w : Walk) (n cs : List ℕ) → Names walk_word (Some w) cs → cs ≡ n → is_view w ≡ true → None ≡ walk_function_at n
function_is_none w n cs h e k = sym (ap walk_function_at (sym e ∙ (h w).0 refl) ∙ function_itself w ∙ ap (λ b. if b then None else Some w) k)

pub no_function : (n cs : List ℕ) → Names walk_word None cs → cs ≡ n → None ≡ walk_function_at n
no_function n cs h e = sym (none_with walk_word walk_functions n (λ x k. none_some ((h x).1 (e ∙ k))))

pub view_is : (w : Walk) (n cs : List ℕ) → Names walk_word (Some w) cs → cs ≡ n → is_view w ≡ true → Some w ≡ view_at n
view_is w n cs h e k = sym (ap view_at (sym e ∙ (h w).0 refl) ∙ view_itself w ∙ ap (λ b. if b then Some w else None) k)

pub view_is_none : (w : Walk) (n cs : List ℕ) → Names walk_word (Some w) cs → cs ≡ n → is_view w ≡ false → None ≡ view_at n
view_is_none w n cs h e k = sym (ap view_at (sym e ∙ (h w).0 refl) ∙ view_itself w ∙ ap (λ b. if b then Some w else None) k)

pub no_view : (n cs : List ℕ) → Names walk_word None cs → cs ≡ n → None ≡ view_at n
no_view n cs h e = sym (none_with walk_word views n (λ x k. none_some ((h x).1 (e ∙ k))))
