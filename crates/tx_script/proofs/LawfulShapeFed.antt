-- The links of a chain have inputs that stand ahead.
use Rattle.std.proofs.Common.{◌≡◌, ℕ, ◌+◌, ◌≤◌, ◌==◌, nat_le, nat_lt, Bool, true, ◌&&◌, if◌then◌else◌, List, [], ◌∷◌, ◌++◌, length, Option, Some, None, is_some, option_to_list, slice_get, Ok, refl, sym, ap, ◌∙◌, subst, arith}
use Rattle.std.specs.List.{list_all}
use Rattle.std.proofs.lemmas.Bool.{false≢true, and_parts, and_from, le-leb, lt-ltb}
use Rattle.tx_tree.specs.declared.target.Word.{Word}
use Rattle.tx_name_set.specs.NameSet.{place_in}
use Rattle.tx_names.specs.Scope.{Text}
use Rattle.tx_names.specs.Function.{Function}
use Rattle.tx_pipe.specs.Pipe.{Operation, source_file, PipeNode}
use Rattle.tx_pipe.specs.Lawful.{inputs_of, is_earlier, is_fed, are_fed}
use Rattle.tx_script.specs.Written.{Code, Part, operator, handler, Link}
use Rattle.tx_script.specs.Linked.{Ahead, Pipe, nodes_by, linked_nodes, linked_chain}
use Rattle.tx_script.specs.Checks.{right_of}
use Rattle.tx_script.proofs.LawfulShapeParts.{ok_is}
use Rattle.tx_script.proofs.LawfulShapeForms.{IsNoSource, IsSource, AreNoSources, Begins}
use Rattle.tx_script.proofs.LawfulShapeNodes.{IsRight, unless_source, Keeps, length_push, adds}
use Rattle.tx_script.proofs.LawfulShapeCounts.{chain_nodes, known_is}

abbrev pub Within : ℕ → ℕ → Type 0
Within d x = (1 ≤ x) × (x ≤ d)

-- each pipeline ends in one of these operators
abbrev pub EndsWithin : Ahead → ℕ → Type 0
EndsWithin a d = (i x : ℕ) → slice_get a.ends i ≡ Some x → Within d x

pub wider : (a : Ahead) (d e : ℕ) → d ≤ e → EndsWithin a d → EndsWithin a e
wider a d e h ends i x s = let w = ends i x s in (w.0, omega arith)

fed_push : (m : ℕ) (done : Pipe) (n : PipeNode (Function ℕ)) → are_fed m done ≡ true → is_fed (m + length done) n ≡ true → are_fed m (done ++ n ∷ []) ≡ true
fed_push m [] n e f = and_from (is_fed m n) true (let z : m + 0 ≡ m = omega arith in subst (λ (j : ℕ). is_fed j n ≡ true) z f) refl
fed_push m (y ∷ ys) n e f =
    let p = and_parts (is_fed m y) (are_fed (m + 1) ys) e in
    let z : m + length (y ∷ ys) ≡ (m + 1) + length ys = omega arith in
    and_from (is_fed m y) (are_fed (m + 1) (ys ++ n ∷ [])) p.0 (fed_push (m + 1) ys n p.1 (subst (λ (j : ℕ). is_fed j n ≡ true) z f))

earlier : (d x : ℕ) → Within d x → is_earlier (1 + d) x ≡ true
earlier d x h = and_from (nat_le 1 x) (nat_lt x (1 + d)) (le-leb 1 x h.0) (let w = h.1 in lt-ltb x (1 + d) (omega arith))

right_earlier : (a : Ahead) (d i : ℕ) (w : Option Word) (q : Option ℕ) → EndsWithin a d → Within d i → IsRight a w q → list_all (is_earlier (1 + d)) (i ∷ option_to_list q) ≡ true
right_earlier a d i None None ends h r = and_from (is_earlier (1 + d) i) true (earlier d i h) refl
right_earlier a d i (Some w) (Some q) ends h r =
    and_from (is_earlier (1 + d) i) (is_earlier (1 + d) q && true) (earlier d i h) (and_from (is_earlier (1 + d) q) true (earlier d q (ends (place_in a.pipelines w.text) q r)) refl)
right_earlier a d i None (Some q) ends h r = absurd r
right_earlier a d i (Some w) None ends h r = absurd r

feeds : (a : Ahead) (d : ℕ) (op : Operation Code Word) (n : PipeNode (Function ℕ)) → Keeps a op n.operation → source_file op ≡ None → EndsWithin a d → Within d n.input → is_fed (1 + d) n ≡ true
feeds a d op n h s ends i =
    ap (λ (o : Option Text). if is_some o then n.input == 0 else list_all (is_earlier (1 + d)) (inputs_of n)) (h.source ∙ s)
    ∙ ap (list_all (is_earlier (1 + d))) (h.inputs n.input ∙ ap (λ (o : Option Text). unless_source o (n.input ∷ option_to_list h.right)) s)
    ∙ right_earlier a d n.input (right_of op) h.right ends i h.is_right

feeds_source : (a : Ahead) (d : ℕ) (op : Operation Code Word) (n : PipeNode (Function ℕ)) → Keeps a op n.operation → is_some (source_file op) ≡ true → n.input ≡ 0 → is_fed (1 + d) n ≡ true
feeds_source a d op n h s z =
    ap (λ (b : Bool). if b then n.input == 0 else list_all (is_earlier (1 + d)) (inputs_of n)) (ap is_some h.source ∙ s)
    ∙ ap (λ (i : ℕ). i == 0) z

-- a pipe with its links' operators, and the one that they end in
pub record Fed (d : ℕ) (r : Pipe × ℕ) : Type 0 where
  pub fed : are_fed 1 r.0 ≡ true
  pub longer : d ≤ length r.0
  pub end : Within (length r.0) r.1

module _ (a : Ahead) where
  onward : (done : Pipe) (n : PipeNode (Function ℕ)) (r : Pipe × ℕ) → Fed (length (done ++ n ∷ [])) r → Fed (length done) r
  onward done n r h = let l = length_push done n in let m = h.longer in record { fed = h.fed; longer = omega arith; end = h.end }

  fed_part : (part : Part) (line : ℕ) (links : List Link) → IsNoSource part
      → ((done : Pipe) (input : ℕ) (r : Pipe × ℕ) → EndsWithin a (length done) → Within (length done) input → are_fed 1 done ≡ true → linked_nodes a done input links ≡ Ok r → Fed (length done) r)
      → (done : Pipe) (input : ℕ) (r : Pipe × ℕ) → EndsWithin a (length done) → Within (length done) input → are_fed 1 done ≡ true → nodes_by a done input line part links (λ p end. linked_nodes a p end links) ≡ Ok r → Fed (length done) r
  fed_part (handler h) line links s rest done input r ends i f e = rest done input r ends i f e
  fed_part (operator op) line links s rest done input r ends i f e =
      let n = adds a done input line op links (λ p end. linked_nodes a p end links) r e in
      let l = length_push done n.node in
      let w : Within (length done) n.node.input = subst (λ (j : ℕ). Within (length done) j) (sym n.input_is) i in
      onward done n.node r (rest (done ++ n.node ∷ []) (length done + 1) r
      (wider a (length done) (length (done ++ n.node ∷ [])) (omega arith) ends)
      (omega arith, omega arith)
      (fed_push 1 done n.node f (feeds a (length done) op n.node n.keeps_all s ends w))
      n.goes_on)

  fed_nodes : (links : List Link) → AreNoSources links
      → (done : Pipe) (input : ℕ) (r : Pipe × ℕ) → EndsWithin a (length done) → Within (length done) input → are_fed 1 done ≡ true → linked_nodes a done input links ≡ Ok r → Fed (length done) r
  fed_nodes [] s done input r ends i f e = subst (λ (z : Pipe × ℕ). Fed (length done) z) (ok_is (done, input) r e) (record { fed = f; longer = omega arith; end = i })
  fed_nodes (x ∷ links) s done input r ends i f e = fed_part x.part x.line links s.0 (fed_nodes links s.1) done input r ends i f e

  fed_source : (part : Part) (line : ℕ) (links : List Link) → IsSource part → AreNoSources links
      → (done : Pipe) (input : ℕ) (r : Pipe × ℕ) → EndsWithin a (length done) → input ≡ 0 → are_fed 1 done ≡ true → nodes_by a done input line part links (λ p end. linked_nodes a p end links) ≡ Ok r → Fed (length done) r
  fed_source (handler h) line links s rest done input r ends i f e = absurd (false≢true s)
  fed_source (operator op) line links s rest done input r ends i f e =
      let n = adds a done input line op links (λ p end. linked_nodes a p end links) r e in
      let l = length_push done n.node in
      onward done n.node r (fed_nodes links rest (done ++ n.node ∷ []) (length done + 1) r
      (wider a (length done) (length (done ++ n.node ∷ [])) (omega arith) ends)
      (omega arith, omega arith)
      (fed_push 1 done n.node f (feeds_source a (length done) op n.node n.keeps_all s (n.input_is ∙ i)))
      n.goes_on)

pub fed_chain : (a : Ahead) (done : Pipe) (start : Option Word) (links : List Link) (r : Pipe × ℕ) → Begins start links → EndsWithin a (length done) → are_fed 1 done ≡ true → linked_chain a done start links ≡ Ok r → Fed (length done) r
fed_chain a done (Some w) links r s ends f e =
    let c = chain_nodes a done (Some w) links r e in
    fed_nodes a links s done c.0 r ends (ends (place_in a.pipelines w.text) c.0 (known_is w.line (slice_get a.ends (place_in a.pipelines w.text)) c.0 c.1)) f c.2
fed_chain a done None (x ∷ links) r s ends f e =
    let c = chain_nodes a done None (x ∷ links) r e in
    fed_source a x.part x.line links s.0 s.1 done c.0 r ends (sym (ok_is 0 c.0 c.1)) f c.2
fed_chain a done None [] r s ends f e = absurd s
