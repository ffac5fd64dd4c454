use Rattle.std.proofs.Common.{◌≡◌, ◌∙◌, ◌≤◌, ◌<◌, ℕ, zero, suc, List, [], ◌∷◌, None, refl, sym, ap, subst, arith, rules}
use Rattle.tx_names.specs.Function.{Function}
use Rattle.tx_names.specs.Scope.{Text}
use Rattle.tx_pipe.specs.declared.pipe.Node.{Node}
use Rattle.tx_pipe.specs.Pipe.{Operation, csv, rename_column, join, to_csv, PipeNode, node_of, pipe_of}
use Rattle.tx_pipe.specs.Lawful.{uses, Lawful}
use Rattle.tx_pipe.proofs.tests.pipe.Goals as goal

-- a node without handlers, on line 1
abbrev plain : Operation (Function ℕ) ℕ → ℕ → PipeNode (Function ℕ)
plain op input = record { operation = op; input = input; handlers = []; line = 1 }

abbrev example : (f g old new l r out : Text) → List (PipeNode (Function ℕ))
example f g old new l r out =
    plain (csv f None) 0 ∷ plain (csv g None) 0 ∷ plain (rename_column old new) 2 ∷ plain (join 1 l r) 3 ∷ plain (to_csv out) 4 ∷ []

used_once : (f g old new l r out : Text) (number : ℕ) → 1 ≤ number → number < 5 → uses number (example f g old new l r out) ≡ 1
used_once f g old new l r out zero h e = absurd (omega (arith, h))
used_once f g old new l r out (suc zero) h e = refl
used_once f g old new l r out (suc (suc zero)) h e = refl
used_once f g old new l r out (suc (suc (suc zero))) h e = refl
used_once f g old new l r out (suc (suc (suc (suc zero)))) h e = refl
used_once f g old new l r out (suc (suc (suc (suc (suc x))))) h e = absurd (omega (arith, e))

example_is_lawful : (f g old new l r out : Text) → Lawful (example f g old new l r out)
example_is_lawful f g old new l r out = record {
  some = omega arith;
  few = omega arith;
  forms = refl;
  inputs = refl;
  once = used_once f g old new l r out;
  last = refl;
  functions = search rules;
  handlers = refl;
}

same_nodes : {A : Type 0} (a b c d e a' b' c' d' e' : A) → a ≡ a' → b ≡ b' → c ≡ c' → d ≡ d' → e ≡ e' → (a ∷ b ∷ c ∷ d ∷ e ∷ []) ≡ (a' ∷ b' ∷ c' ∷ d' ∷ e' ∷ [])
same_nodes a b c d e a' b' c' d' e' ea eb ec ed ee =
    ap (λ x. x ∷ b ∷ c ∷ d ∷ e ∷ []) ea ∙ ap (λ x. a' ∷ x ∷ c ∷ d ∷ e ∷ []) eb ∙ ap (λ x. a' ∷ b' ∷ x ∷ d ∷ e ∷ []) ec
    ∙ ap (λ x. a' ∷ b' ∷ c' ∷ x ∷ e ∷ []) ed ∙ ap (λ x. a' ∷ b' ∷ c' ∷ d' ∷ x ∷ []) ee

lawful_pipe : (p : List Node) (a b c d e : Node) (f g old new l r out : Text) → p ≡ a ∷ b ∷ c ∷ d ∷ e ∷ []
    → node_of a ≡ plain (csv f None) 0 → node_of b ≡ plain (csv g None) 0 → node_of c ≡ plain (rename_column old new) 2
    → node_of d ≡ plain (join 1 l r) 3 → node_of e ≡ plain (to_csv out) 4 → Lawful (pipe_of p)
lawful_pipe p a b c d e f g old new l r out ep ea eb ec ed ee =
    subst Lawful (sym (ap pipe_of ep ∙ same_nodes _ _ _ _ _ _ _ _ _ _ ea eb ec ed ee)) (example_is_lawful f g old new l r out)

pub returns : goal.returns
returns c =
    lawful_pipe _ _ _ _ _ _ _ _ _ _ _ _ _ (c.from_vec.ensures ∙ c.in_ok-nodes.ensures.items) c.in_ok-right.ensures c.in_ok-left.ensures c.in_ok-rename.ensures c.in_ok-join.ensures c.in_ok-output.ensures
