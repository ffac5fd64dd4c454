-- A word of ASCII is the same as bytes and as characters.
use Rattle.std.proofs.Common.{◌≡◌, ◌↔◌, ℕ, List, [], ◌∷◌, Option, Some, None, Bool, true, false, if◌then◌else◌, refl, sym, ap, ◌∙◌, nat_lt}
use Rattle.std.specs.Str.{IsAscii, chars}
use Rattle.std.specs.List.{list_all}
use Rattle.std.proofs.lemmas.Str.{chars-IsAscii, encodes-IsAscii}
use Rattle.std.proofs.lemmas.Str.Ascii.{IsAscii-from_all}
use Rattle.std.proofs.lemmas.List.Sums.{AllPass-from_list_all}
use Rattle.std.proofs.lemmas.Bool.{ltb-true}
use lib.Utf8.{encodes}
use Rattle.std.specs.Cmp.Lexicographic.{bytes_decides}
use Rattle.tx_tree.specs.Words.{same_text}
use Rattle.tx_names.specs.Named.{with_word}
use Rattle.tx_pipe.specs.declared.verb.Verb.{Verb}
use Rattle.tx_pipe.specs.declared.verb.Verb.TheVariants as verb
use Rattle.tx_base.specs.declared.class.Class.{Class}
use Rattle.tx_base.specs.declared.class.Class.TheVariants as class
use Rattle.tx_base.specs.Class.{name_of}
use Rattle.tx_pipe.specs.Verbs.{verb_word, verbs, verb_at, classes, class_at}

same_test : (b c : Bool) → (b ≡ true → c ≡ true) → (c ≡ true → b ≡ true) → b ≡ c
same_test true c f g = sym (f refl)
same_test false true f g = let e = g refl in cc
same_test false false f g = refl

module _ {A : Type 0} (word : A → List ℕ) (by_encoding : (x : A) → encodes (word x) ≡ word x) (by_decoding : (x : A) → chars (word x) ≡ word x) where
  same_word : (s t : List ℕ) → s ≡ encodes t → chars s ≡ t → (x : A) → same_text s (word x) ≡ same_text t (word x)
  same_word s t e d x = same_test _ _
      (λ p. (bytes_decides t (word x)).1 (sym d ∙ ap chars ((bytes_decides s (word x)).0 p) ∙ by_decoding x))
      (λ p. (bytes_decides s (word x)).1 (e ∙ ap encodes ((bytes_decides t (word x)).0 p) ∙ by_encoding x))

  -- the one that has a word, by its bytes and by its characters
  pub with_word-bytes : (xs : List A) (s t : List ℕ) → s ≡ encodes t → chars s ≡ t → with_word word xs s ≡ with_word word xs t
  with_word-bytes [] s t e d = refl
  with_word-bytes (x ∷ xs) s t e d =
      ap (λ b. if b then Some x else with_word word xs s) (same_word s t e d x) ∙ ap (λ o. if same_text t (word x) then Some x else o) (with_word-bytes xs s t e d)

abbrev pub is_ascii : List ℕ → Bool
is_ascii = list_all (λ c. nat_lt c 128)

ascii : (w : List ℕ) → is_ascii w ≡ true → IsAscii w
ascii w e = IsAscii-from_all w (λ k d l. ltb-true _ 128 (AllPass-from_list_all (λ c. nat_lt c 128) w e k d l))

pub encoded : (w : List ℕ) → is_ascii w ≡ true → encodes w ≡ w
encoded w e = encodes-IsAscii w (ascii w e)

pub decoded : (w : List ℕ) → is_ascii w ≡ true → chars w ≡ w
decoded w e = chars-IsAscii w (ascii w e)

verb_ascii : (v : Verb) → is_ascii (verb_word v) ≡ true
verb_ascii verb.Csv = refl
verb_ascii verb.Map = refl
verb_ascii verb.Filter = refl
verb_ascii verb.WithColumn = refl
verb_ascii verb.MapColumn = refl
verb_ascii verb.SelectColumns = refl
verb_ascii verb.RenameColumn = refl
verb_ascii verb.Join = refl
verb_ascii verb.LeftJoin = refl
verb_ascii verb.Unique = refl
verb_ascii verb.Aggregate = refl
verb_ascii verb.ToCsv = refl
verb_ascii verb.Resolve = refl
verb_ascii verb.Ignore = refl

pub verb_at-bytes : (s t : List ℕ) → s ≡ encodes t → chars s ≡ t → verb_at s ≡ verb_at t
verb_at-bytes = with_word-bytes verb_word (λ v. encoded _ (verb_ascii v)) (λ v. decoded _ (verb_ascii v)) verbs

-- ---- classes

class_ascii : (c : Class) → is_ascii (name_of c) ≡ true
class_ascii class.TypeError = refl
class_ascii class.ValueError = refl
class_ascii class.KeyError = refl
class_ascii class.IndexError = refl
class_ascii class.ZeroDivisionError = refl
class_ascii class.OverflowError = refl
class_ascii class.AttributeError = refl
class_ascii class.UnboundLocalError = refl
class_ascii class.UnicodeDecodeError = refl
class_ascii class.ProfileError = refl
class_ascii class.RecordError = refl
class_ascii class.ArithmeticError = refl
class_ascii class.LookupError = refl
class_ascii class.NameError = refl
class_ascii class.Exception = refl

class_itself : (c : Class) → class_at (name_of c) ≡ Some c
class_itself class.TypeError = refl
class_itself class.ValueError = refl
class_itself class.KeyError = refl
class_itself class.IndexError = refl
class_itself class.ZeroDivisionError = refl
class_itself class.OverflowError = refl
class_itself class.AttributeError = refl
class_itself class.UnboundLocalError = refl
class_itself class.UnicodeDecodeError = refl
class_itself class.ProfileError = refl
class_itself class.RecordError = refl
class_itself class.ArithmeticError = refl
class_itself class.LookupError = refl
class_itself class.NameError = refl
class_itself class.Exception = refl

none_some : {A : Type 0} {x : A} → None ≡ Some x → ⊥
none_some h = cc

-- no word of these
none_with : {A : Type 0} (word : A → List ℕ) (xs : List A) (n : List ℕ) → ((x : A) → n ≡ word x → ⊥) → with_word word xs n ≡ None
none_with word [] n h = refl
none_with word (y ∷ ys) n h = by_test (same_text n (word y)) (λ e. h y ((bytes_decides n (word y)).0 e)) (none_with word ys n h)
  where
    by_test : (b : Bool) → (b ≡ true → ⊥) → with_word word ys n ≡ None → (if b then Some y else with_word word ys n) ≡ None
    by_test true k r = absurd (k refl)
    by_test false k r = r

-- the class whose name some bytes are
pub class_is : (answer : Option Class) (s t : List ℕ) → ((c : Class) → (answer ≡ Some c) ↔ (s ≡ name_of c)) → s ≡ encodes t → chars s ≡ t → answer ≡ class_at t
class_is (Some c) s t h e d = sym (ap class_at (sym d ∙ ap chars ((h c).0 refl) ∙ decoded _ (class_ascii c)) ∙ class_itself c)
class_is None s t h e d = sym (none_with name_of classes t (λ c k. none_some ((h c).1 (e ∙ ap encodes k ∙ encoded _ (class_ascii c)))))
