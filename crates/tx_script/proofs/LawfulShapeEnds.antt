-- Which operators of a chain write.
use Rattle.std.proofs.Common.{◌≡◌, ℕ, ◌+◌, ◌≤◌, Bool, true, false, not, List, [], ◌∷◌, ◌++◌, length, None, is_some, Ok, refl, sym, ap, ◌∙◌, subst, arith}
use Rattle.std.specs.List.{list_all}
use Rattle.std.proofs.lemmas.Bool.{false≢true, and_parts, and_from}
use Rattle.tx_names.specs.Function.{Function}
use Rattle.tx_pipe.specs.Pipe.{PipeNode}
use Rattle.tx_pipe.specs.Lawful.{is_output, ends_once}
use Rattle.tx_script.specs.declared.fault.ScriptKind.TheVariants as kind
use Rattle.tx_script.specs.Written.{Part, operator, handler, Link}
use Rattle.tx_script.specs.Linked.{at, Ahead, Pipe, nodes_by, linked_nodes}
use Rattle.tx_script.specs.Checks.{when, writes, end_in, ends_in_output, end_ahead}
use Rattle.tx_script.proofs.LawfulShapeParts.{ok_is, first_none, when_none}
use Rattle.tx_script.proofs.LawfulShapeNodes.{length_push, adds}

abbrev pub is_silent : PipeNode (Function ℕ) → Bool
is_silent n = not (is_output n)

-- no operator writes
abbrev pub AreSilent : Pipe → Type 0
AreSilent done = list_all is_silent done ≡ true

silent_push : (done : Pipe) (n : PipeNode (Function ℕ)) → AreSilent done → is_output n ≡ false → AreSilent (done ++ n ∷ [])
silent_push [] n e f = and_from (is_silent n) true (ap not f) refl
silent_push (y ∷ ys) n e f = let p = and_parts (is_silent y) (list_all is_silent ys) e in and_from (is_silent y) (list_all is_silent (ys ++ n ∷ [])) p.0 (silent_push ys n p.1 f)

last_push : (done : Pipe) (n : PipeNode (Function ℕ)) → AreSilent done → is_output n ≡ true → ends_once (done ++ n ∷ []) ≡ true
last_push [] n e f = f
last_push (y ∷ []) n e f = let p = and_parts (is_silent y) true e in and_from (is_silent y) (is_output n) p.0 f
last_push (y ∷ z ∷ ys) n e f = let p = and_parts (is_silent y) (list_all is_silent (z ∷ ys)) e in and_from (is_silent y) (ends_once (z ∷ (ys ++ n ∷ []))) p.0 (last_push (z ∷ ys) n p.1 f)

module _ (a : Ahead) where
  silent_part : (part : Part) (line : ℕ) (links : List Link) → writes part ≡ false
      → (P : Pipe × ℕ → Type 0) → ((done : Pipe) (input : ℕ) (r : Pipe × ℕ) → AreSilent done → linked_nodes a done input links ≡ Ok r → P r)
      → (done : Pipe) (input : ℕ) (r : Pipe × ℕ) → AreSilent done → nodes_by a done input line part links (λ p end. linked_nodes a p end links) ≡ Ok r → P r
  silent_part (handler h) line links w P rest done input r s e = rest done input r s e
  silent_part (operator op) line links w P rest done input r s e =
      let n = adds a done input line op links (λ p end. linked_nodes a p end links) r e in
      rest (done ++ n.node ∷ []) (length done + 1) r (silent_push done n.node s (ap is_some n.keeps_all.output ∙ w)) n.goes_on

  pub silent_nodes : (links : List Link) → end_in links ≡ None → (done : Pipe) (input : ℕ) (r : Pipe × ℕ) → AreSilent done → linked_nodes a done input links ≡ Ok r → AreSilent r.0
  silent_nodes [] w done input r s e = subst (λ (z : Pipe × ℕ). AreSilent z.0) (ok_is (done, input) r e) s
  silent_nodes (x ∷ links) w done input r s e =
      let p = first_none (when (writes x.part) (at kind.NoEnd x.line)) (end_in links) w in
      silent_part x.part x.line links (when_none (writes x.part) (at kind.NoEnd x.line) p.0) (λ z. AreSilent z.0) (silent_nodes links p.1) done input r s e

-- a pipe whose last operator, and no other, writes
pub record Ends (r : Pipe × ℕ) : Type 0 where
  pub ended : ends_once r.0 ≡ true
  pub some : 1 ≤ length r.0
  pub end : r.1 ≡ length r.0

module _ (a : Ahead) where
  end_part : (part : Part) (line : ℕ) → writes part ≡ true → (done : Pipe) (input : ℕ) (r : Pipe × ℕ) → AreSilent done → nodes_by a done input line part [] (λ p end. linked_nodes a p end []) ≡ Ok r → Ends r
  end_part (handler h) line w done input r s e = absurd (false≢true w)
  end_part (operator op) line w done input r s e =
      let n = adds a done input line op [] (λ p end. linked_nodes a p end []) r e in
      let l = length_push done n.node in
      subst Ends (ok_is (done ++ n.node ∷ [], length done + 1) r n.goes_on) (record { ended = last_push done n.node s (ap is_some n.keeps_all.output ∙ w); some = omega arith; end = sym l })

  pub end_nodes : (links : List Link) → ends_in_output links ≡ true → end_ahead links ≡ None → (done : Pipe) (input : ℕ) (r : Pipe × ℕ) → AreSilent done → linked_nodes a done input links ≡ Ok r → Ends r
  end_nodes [] w h done input r s e = absurd (false≢true w)
  end_nodes (x ∷ []) w h done input r s e = end_part x.part x.line w done input r s e
  end_nodes (x ∷ y ∷ links) w h done input r s e =
      let p = first_none (when (writes x.part) (at kind.NoEnd x.line)) (end_ahead (y ∷ links)) h in
      silent_part a x.part x.line (y ∷ links) (when_none (writes x.part) (at kind.NoEnd x.line) p.0) Ends (end_nodes (y ∷ links) w p.1) done input r s e
