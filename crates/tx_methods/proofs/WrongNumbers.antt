-- A number of arguments that is not allowed is TypeError.
use Rattle.std.proofs.Common.{◌≡◌, true, false, List, [], ◌∷◌, length, Err, refl, sym, ◌∙◌, arith}
use Rattle.std.proofs.lemmas.Bool.{true≢false}
use Rattle.std.proofs.lemmas.Bool.Decides.{nat_tests}
use Rattle.tx_base.specs.declared.class.Class.TheVariants.{TypeError}
use Rattle.tx_tree.specs.Takes.{Takes, allows, at_least, between, exactly, method_takes}
use Rattle.tx_tree.specs.declared.function.Method.{Method}
use Rattle.tx_tree.specs.declared.function.Method.TheVariants as method
use Rattle.tx_tree.specs.declared.function.Builtin.TheVariants as builtin
use Rattle.tx_values.specs.declared.value.Value.{Value, out-Value}
use Rattle.tx_values.specs.declared.value.Value.TheOpen.{Value-F}
use Rattle.tx_values.specs.declared.value.Value.TheOpen as v
use Rattle.tx_values.specs.Answer.{Answer}
use Rattle.tx_methods.specs.Builtins.{builtin_of}
use Rattle.tx_methods.specs.Methods.{has_method_in, method_in}
use Rattle.tx_methods.specs.Laws.{BuiltinTakesLaw, MethodTakesLaw}

no : {A : Type 0} → true ≡ false → A
no e = absurd (true≢false e)

-- ---- what raises for other numbers of arguments, raises for each that is not allowed

module _ (f : List Value → Answer Value) where
  abbrev Raises : List Value → Type 0
  Raises args = f args ≡ Err TypeError

  abbrev Refused : Takes → Type 0
  Refused takes = (args : List Value) → allows takes (length args) ≡ false → Raises args

  but_none : ((a : Value) (more : List Value) → Raises (a ∷ more)) → Refused (exactly 0)
  but_none many [] e = no e
  but_none many (a ∷ more) e = many a more

  but_one : Raises [] → ((a b : Value) (more : List Value) → Raises (a ∷ b ∷ more)) → Refused (exactly 1)
  but_one none many [] e = none
  but_one none many (a ∷ []) e = no e
  but_one none many (a ∷ b ∷ more) e = many a b more

  but_some : Raises [] → Refused (at_least 1)
  but_some none [] e = none
  but_some none (a ∷ more) e = no (sym some ∙ e)
    where
      some : allows (at_least 1) (length (a ∷ more)) ≡ true
      some = grind (arith, nat_tests)

  but_none_or_one : ((a b : Value) (more : List Value) → Raises (a ∷ b ∷ more)) → Refused (between 0 1)
  but_none_or_one many [] e = no e
  but_none_or_one many (a ∷ []) e = no e
  but_none_or_one many (a ∷ b ∷ more) e = many a b more

  but_two : Raises [] → ((a : Value) → Raises (a ∷ [])) → ((a b c : Value) (more : List Value) → Raises (a ∷ b ∷ c ∷ more)) → Refused (exactly 2)
  but_two none one many [] e = none
  but_two none one many (a ∷ []) e = one a
  but_two none one many (a ∷ b ∷ []) e = no e
  but_two none one many (a ∷ b ∷ c ∷ more) e = many a b c more

  but_one_or_two : Raises [] → ((a b c : Value) (more : List Value) → Raises (a ∷ b ∷ c ∷ more)) → Refused (between 1 2)
  but_one_or_two none many [] e = none
  but_one_or_two none many (a ∷ []) e = no e
  but_one_or_two none many (a ∷ b ∷ []) e = no e
  but_one_or_two none many (a ∷ b ∷ c ∷ more) e = many a b c more

-- ---- the tables

pub builtins : BuiltinTakesLaw
builtins builtin.Min = but_some (builtin_of builtin.Min) refl
builtins builtin.Max = but_some (builtin_of builtin.Max) refl
builtins builtin.Len = but_one (builtin_of builtin.Len) refl (λ a b more. refl)
builtins builtin.Int = but_one (builtin_of builtin.Int) refl (λ a b more. refl)
builtins builtin.Str = but_one (builtin_of builtin.Str) refl (λ a b more. refl)
builtins builtin.Bool = but_one (builtin_of builtin.Bool) refl (λ a b more. refl)
builtins builtin.Abs = but_one (builtin_of builtin.Abs) refl (λ a b more. refl)
builtins builtin.Sum = but_one (builtin_of builtin.Sum) refl (λ a b more. refl)
builtins builtin.Any = but_one (builtin_of builtin.Any) refl (λ a b more. refl)
builtins builtin.All = but_one (builtin_of builtin.All) refl (λ a b more. refl)
builtins builtin.Ord = but_one (builtin_of builtin.Ord) refl (λ a b more. refl)
builtins builtin.List = but_one (builtin_of builtin.List) refl (λ a b more. refl)
builtins builtin.Tuple = but_one (builtin_of builtin.Tuple) refl (λ a b more. refl)

in_layer : (m : Method) (x : Value-F Value) (args : List Value) → has_method_in m x ≡ true → allows (method_takes m) (length args) ≡ false → method_in m x args ≡ Err TypeError
in_layer method.Lower (v.Text text) args h e = but_none (λ given. method_in method.Lower (v.Text text) given) (λ a more. refl) args e
in_layer method.Upper (v.Text text) args h e = but_none (λ given. method_in method.Upper (v.Text text) given) (λ a more. refl) args e
in_layer method.IsDigit (v.Text text) args h e = but_none (λ given. method_in method.IsDigit (v.Text text) given) (λ a more. refl) args e
in_layer method.Strip (v.Text text) args h e = but_none_or_one (λ given. method_in method.Strip (v.Text text) given) (λ a b more. refl) args e
in_layer method.Lstrip (v.Text text) args h e = but_none_or_one (λ given. method_in method.Lstrip (v.Text text) given) (λ a b more. refl) args e
in_layer method.Rstrip (v.Text text) args h e = but_none_or_one (λ given. method_in method.Rstrip (v.Text text) given) (λ a b more. refl) args e
in_layer method.Split (v.Text text) args h e = but_none_or_one (λ given. method_in method.Split (v.Text text) given) (λ a b more. refl) args e
in_layer method.Replace (v.Text text) args h e = but_two (λ given. method_in method.Replace (v.Text text) given) refl (λ a. refl) (λ a b c more. refl) args e
in_layer method.Find (v.Text text) args h e = but_one (λ given. method_in method.Find (v.Text text) given) refl (λ a b more. refl) args e
in_layer method.Rfind (v.Text text) args h e = but_one (λ given. method_in method.Rfind (v.Text text) given) refl (λ a b more. refl) args e
in_layer method.Index (v.Text text) args h e = but_one (λ given. method_in method.Index (v.Text text) given) refl (λ a b more. refl) args e
in_layer method.Count (v.Text text) args h e = but_one (λ given. method_in method.Count (v.Text text) given) refl (λ a b more. refl) args e
in_layer method.StartsWith (v.Text text) args h e = but_one (λ given. method_in method.StartsWith (v.Text text) given) refl (λ a b more. refl) args e
in_layer method.EndsWith (v.Text text) args h e = but_one (λ given. method_in method.EndsWith (v.Text text) given) refl (λ a b more. refl) args e
in_layer method.Join (v.Text text) args h e = but_one (λ given. method_in method.Join (v.Text text) given) refl (λ a b more. refl) args e
in_layer method.Zfill (v.Text text) args h e = but_one (λ given. method_in method.Zfill (v.Text text) given) refl (λ a b more. refl) args e
in_layer method.Count (v.Tuple items) args h e = but_one (λ given. method_in method.Count (v.Tuple items) given) refl (λ a b more. refl) args e
in_layer method.Index (v.Tuple items) args h e = but_one (λ given. method_in method.Index (v.Tuple items) given) refl (λ a b more. refl) args e
in_layer method.Count (v.List items) args h e = but_one (λ given. method_in method.Count (v.List items) given) refl (λ a b more. refl) args e
in_layer method.Index (v.List items) args h e = but_one (λ given. method_in method.Index (v.List items) given) refl (λ a b more. refl) args e
in_layer method.Get (v.Dict pairs) args h e = but_one_or_two (λ given. method_in method.Get (v.Dict pairs) given) refl (λ a b c more. refl) args e
in_layer _ _ args h e = no (sym h)

pub methods : MethodTakesLaw
methods m a args h e = in_layer m (out-Value a) args h e
