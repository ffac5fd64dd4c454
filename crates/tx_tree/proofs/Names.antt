-- A name is the word of no keyword.
use Rattle.std.proofs.Common.{◌≡◌, ◌↔◌, ℕ, Bool, true, false, not, List, Option, Some, None, refl, sym, ap, ◌∙◌}
use Rattle.std.specs.Cmp.Lexicographic.{bytes_decides}
use Rattle.std.proofs.lemmas.Bool.{true≢false}
use Rattle.std.proofs.lemmas.List.Folds.{list_any_none}
use Rattle.tx_tree.specs.declared.symbol.Keyword.{Keyword}
use Rattle.tx_tree.specs.declared.symbol.Keyword.TheVariants as keyword
use Rattle.tx_tree.specs.Words.{keyword_word, keywords, same_text}
use Rattle.tx_tree.specs.Form.{is_name}

same_test : (b c : Bool) → (b ≡ true → c ≡ true) → (c ≡ true → b ≡ true) → b ≡ c
same_test true c f g = sym (f refl)
same_test false true f g = absurd (true≢false (sym (g refl)))
same_test false false f g = refl

is_false : (b : Bool) → (b ≡ true → ⊥) → b ≡ false
is_false true h = absurd (h refl)
is_false false h = refl

-- the test of two texts
pub tests_same : (b : Bool) (s t : List ℕ) → (b ≡ true) ↔ (s ≡ t) → b ≡ same_text s t
tests_same b s t e = same_test b (same_text s t) (λ p. (bytes_decides s t).1 (e.0 p)) (λ p. e.1 ((bytes_decides s t).0 p))

keyword_is_no_name : (k : Keyword) → is_name (keyword_word k) ≡ false
keyword_is_no_name keyword.False = refl
keyword_is_no_name keyword.None = refl
keyword_is_no_name keyword.True = refl
keyword_is_no_name keyword.And = refl
keyword_is_no_name keyword.As = refl
keyword_is_no_name keyword.Assert = refl
keyword_is_no_name keyword.Async = refl
keyword_is_no_name keyword.Await = refl
keyword_is_no_name keyword.Break = refl
keyword_is_no_name keyword.Class = refl
keyword_is_no_name keyword.Continue = refl
keyword_is_no_name keyword.Def = refl
keyword_is_no_name keyword.Del = refl
keyword_is_no_name keyword.Elif = refl
keyword_is_no_name keyword.Else = refl
keyword_is_no_name keyword.Except = refl
keyword_is_no_name keyword.Finally = refl
keyword_is_no_name keyword.For = refl
keyword_is_no_name keyword.From = refl
keyword_is_no_name keyword.Global = refl
keyword_is_no_name keyword.If = refl
keyword_is_no_name keyword.Import = refl
keyword_is_no_name keyword.In = refl
keyword_is_no_name keyword.Is = refl
keyword_is_no_name keyword.Lambda = refl
keyword_is_no_name keyword.Nonlocal = refl
keyword_is_no_name keyword.Not = refl
keyword_is_no_name keyword.Or = refl
keyword_is_no_name keyword.Pass = refl
keyword_is_no_name keyword.Raise = refl
keyword_is_no_name keyword.Return = refl
keyword_is_no_name keyword.Try = refl
keyword_is_no_name keyword.While = refl
keyword_is_no_name keyword.With = refl
keyword_is_no_name keyword.Yield = refl

abbrev is_there : {A : Type 0} → Option A → Bool
is_there None = false
is_there (Some x) = true

-- where an answer names the keyword of these characters
abbrev pub Names : Option Keyword → List ℕ → Type 0
Names answer cs = (k : Keyword) → (answer ≡ Some k) ↔ (cs ≡ keyword_word k)

pub some_named : (answer : Option Keyword) (n cs : List ℕ) (k : Keyword) → Names answer cs → cs ≡ n → answer ≡ Some k → is_name n ≡ false
some_named answer n cs k h e a = ap is_name (sym e ∙ (h k).0 a) ∙ keyword_is_no_name k

none_here : (answer : Option Keyword) (n cs : List ℕ) → Names answer cs → cs ≡ n → answer ≡ None → (k : Keyword) → n ≡ keyword_word k → ⊥
none_here answer n cs h e a k f = true≢false (sym (ap is_there (sym a ∙ (h k).1 (e ∙ f))))

pub none_named : (answer : Option Keyword) (n cs : List ℕ) → Names answer cs → cs ≡ n → answer ≡ None → is_name n ≡ true
none_named answer n cs h e a = ap not (list_any_none (λ k. same_text n (keyword_word k)) keywords (λ i d l. is_false _ (λ p. none_here answer n cs h e a _ ((bytes_decides n _).0 p))))
