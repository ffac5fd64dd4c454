-- The names around a whole body.
use Rattle.std.proofs.Common.{◌≡◌, List, Option, sym, ap, ◌∙◌}
use Rattle.tx_names.specs.declared.around.Inner.{Inner, Nothing, fold-roll-Inner}
use Rattle.tx_names.specs.declared.around.Inner.TheVariants.{rolls-Nothing}
use Rattle.tx_names.specs.declared.around.Inner.TheOpen as i
use Rattle.tx_names.specs.Scope.{Text, Scope}
use Rattle.tx_names.specs.Calls.Around.{inner_names, inner_step}

no_inner : (xs : List Text) → inner_names Nothing xs ≡ xs
no_inner xs = ap (λ f. f xs) (ap inner_names (sym rolls-Nothing) ∙ fold-roll-Inner (List Text → List Text) inner_step i.Nothing)

abbrev pub scope : Option Text → List Text → Option Text → Scope
scope own xs r = record { own = own; locals = xs; row = r }

pub outermost : (own : Option Text) (inner : Inner) (xs ys : List Text) (r s : Option Text) → inner ≡ Nothing → xs ≡ ys → r ≡ s
    → scope own (inner_names inner xs) r ≡ scope own ys s
outermost own inner xs ys r s e h k =
    ap (λ (j : Inner). scope own (inner_names j xs) r) e ∙ ap (λ (zs : List Text). scope own zs r) (no_inner xs ∙ h) ∙ ap (λ (z : Option Text). scope own ys z) k
