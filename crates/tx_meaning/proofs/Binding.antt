-- What `bind` gives means what the def or the lambda with its names means.
use Rattle.std.proofs.Common.{◌≡◌, ℕ, List, Result, Ok, Err, Bool, true, nat_eq, refl, sym, ap, ◌∙◌, subst}
use Rattle.std.specs.List.{list_all}
use Rattle.tx_tree.specs.Words.{same_text}
use Rattle.tx_tree.specs.Tree as tree
use Rattle.tx_values.specs.declared.value.Value.{Value}
use Rattle.tx_names.specs.declared.role.Role.{Role}
use Rattle.tx_names.specs.declared.fault.Fault.{Fault}
use Rattle.tx_names.specs.Function.{Function}
use Rattle.tx_names.specs.Scope.{Text}
use Rattle.tx_names.specs.Sound.{sound}
use Rattle.tx_names.specs.Numbered.{numbered, numbered_defs}
use Rattle.tx_names.specs.Bind.{bound_def, bound_lambda}
use Rattle.tx_names.specs.Laws.{NumberingLaw, SoundLaw, named_def, named_lambda, numbered_result}
use Rattle.tx_meaning.specs.Maps.{Row}
use Rattle.tx_meaning.specs.Meaning.{applied}
use Rattle.tx_meaning.specs.Laws.{MeansTheSame, BoundLaw}
use Rattle.tx_meaning.proofs.Numbering.{numbered_same}

err_ok : {A B : Type 0} {e : B} {a : A} → ◌≡◌ {A = Result A B} (Err e) (Ok a) → ⊥
err_ok h = cc

ok_one : {A B : Type 0} {a b : A} → ◌≡◌ {A = Result A B} (Ok a) (Ok b) → a ≡ b
ok_one h = cc

means_same : (named : Result (Function Text) Fault) (h : Function ℕ) → ((g : Function Text) → named ≡ Ok g → sound same_text g ≡ true) → numbered_result named ≡ Ok h → MeansTheSame named h
means_same (Ok g) h s e = (g, refl, λ r xs. numbered_same g (s g refl) r xs ∙ ap (λ k. applied nat_eq k r xs) (ok_one e))
means_same (Err f) h s e = absurd (err_ok e)

pub bound_same : NumberingLaw → SoundLaw → BoundLaw
bound_same numbering soundness = record {
  def = λ defs role at n params b h s e. means_same (named_def defs role at n params b) h (λ g. soundness.def_with_names defs role at n params b g s) (sym (numbering.def defs role at n params b) ∙ e);
  lambda = λ defs role at params a h s e. means_same (named_lambda defs role at params a) h (λ g. soundness.lambda_with_names defs role at params a g s) (sym (numbering.lambda defs role at params a) ∙ e);
}
