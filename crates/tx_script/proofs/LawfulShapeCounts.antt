-- How often the links of a chain use each operator.
use Rattle.std.proofs.Common.{◌≡◌, ℕ, ◌+◌, ◌≤◌, ◌==◌, nat_le, Bool, true, false, cond, List, [], ◌∷◌, ◌++◌, length, Option, Some, None, is_some, option_to_list, filter_map, map, slice_get, count_by, Ok, refl, ap, ◌∙◌, subst, arith, append-nil}
use Rattle.std.specs.List.{flat_map, cons_option}
use Rattle.std.proofs.lemmas.List.Concat.{flat_map-append}
use Rattle.std.proofs.lemmas.List.Sums.{sum_by-append}
use Rattle.std.proofs.lemmas.Bool.{false≢true}
use Rattle.std.proofs.lemmas.Bool.Decides.{nat_tests}
use Rattle.tx_tree.specs.declared.target.Word.{Word}
use Rattle.tx_name_set.specs.NameSet.{place_in}
use Rattle.tx_names.specs.Scope.{Text}
use Rattle.tx_names.specs.Function.{Function}
use Rattle.tx_pipe.specs.Pipe.{Operation, source_file, PipeNode}
use Rattle.tx_pipe.specs.Lawful.{inputs_by, inputs_of, uses}
use Rattle.tx_script.specs.declared.fault.ScriptKind.TheVariants as kind
use Rattle.tx_script.specs.Written.{Code, Part, operator, handler, Link}
use Rattle.tx_script.specs.Linked.{◌>>=◌, at, known_at, Ahead, linked_handlers, Pipe, nodes_by, linked_nodes, linked_start, linked_chain}
use Rattle.tx_script.specs.Checks.{right_of, joined_in}
use Rattle.tx_script.proofs.LawfulShapeParts.{no_ok, ok_is, bind_ok}
use Rattle.tx_script.proofs.LawfulShapeForms.{IsNoSource, IsSource, AreNoSources, Begins}
use Rattle.tx_script.proofs.LawfulShapeNodes.{IsRight, unless_source, Keeps, alone_source, length_push, adds}

-- ---- numbers

abbrev pub one : ℕ → ℕ → ℕ
one x k = cond (x == k) 1 0

abbrev pub upto : ℕ → ℕ → ℕ
upto k d = cond (nat_le k d) 1 0

upto_next : (k d : ℕ) → upto k (d + 1) ≡ upto k d + one (d + 1) k
upto_next k d = grind (arith, nat_tests)

never_zero : (k : ℕ) → 1 ≤ k → one 0 k ≡ 0
never_zero k h = grind (arith, nat_tests)

abbrev pub count_of : ℕ → List ℕ → ℕ
count_of k xs = count_by (λ x. x == k) xs

-- ---- names that stand for an operator

abbrev pub is_number : ℕ → Option ℕ → Bool
is_number k None = false
is_number k (Some x) = x == k

abbrev pub is_end : Ahead → ℕ → Text → Bool
is_end a k n = is_number k (slice_get a.ends (place_in a.pipelines n))

abbrev pub ending : Ahead → ℕ → List Text → ℕ
ending a k ns = count_by (is_end a k) ns

abbrev pub texts : List Word → List Text
texts ws = map (λ w. w.text) ws

abbrev pub joins : List Link → List Word
joins links = filter_map (λ x. joined_in x.part) links

pub ending-append : (a : Ahead) (k : ℕ) (ms ns : List Text) → ending a k (ms ++ ns) ≡ ending a k ms + ending a k ns
ending-append a k ms ns = sum_by-append (λ n. cond (is_end a k n) 1 0) ms ns

cons_is : (o : Option Word) (ws : List Word) → texts (cons_option o ws) ≡ texts (option_to_list o) ++ texts ws
cons_is None ws = refl
cons_is (Some w) ws = refl

ending-cons : (a : Ahead) (k : ℕ) (o : Option Word) (ws : List Word) → ending a k (texts (cons_option o ws)) ≡ ending a k (texts (option_to_list o)) + ending a k (texts ws)
ending-cons a k o ws = ap (ending a k) (cons_is o ws) ∙ ending-append a k (texts (option_to_list o)) (texts ws)

ending_one : (a : Ahead) (k : ℕ) (w : Word) (q : ℕ) → slice_get a.ends (place_in a.pipelines w.text) ≡ Some q → ending a k (w.text ∷ []) ≡ one q k
ending_one a k w q h = let e : cond (is_end a k w.text) 1 0 ≡ one q k = ap (λ (o : Option ℕ). cond (is_number k o) 1 0) h in omega arith

-- ---- one operator

counted_right : (a : Ahead) (k i : ℕ) (w : Option Word) (q : Option ℕ) → IsRight a w q → count_of k (i ∷ option_to_list q) ≡ one i k + ending a k (texts (option_to_list w))
counted_right a k i None None h = omega arith
counted_right a k i (Some w) (Some q) h = let e = ending_one a k w q h in omega arith
counted_right a k i None (Some q) h = absurd h
counted_right a k i (Some w) None h = absurd h

counted_inputs : (a : Ahead) (op : Operation Code Word) (x : Operation (Function ℕ) ℕ) (k i : ℕ) → Keeps a op x → source_file op ≡ None → count_of k (inputs_by x i) ≡ one i k + ending a k (texts (option_to_list (right_of op)))
counted_inputs a op x k i h s =
    ap (count_of k) (h.inputs i ∙ ap (λ (o : Option Text). unless_source o (i ∷ option_to_list h.right)) s) ∙ counted_right a k i (right_of op) h.right h.is_right

no_inputs : (a : Ahead) (op : Operation Code Word) (x : Operation (Function ℕ) ℕ) (k i : ℕ) → Keeps a op x → is_some (source_file op) ≡ true → count_of k (inputs_by x i) ≡ 0
no_inputs a op x k i h s = ap (count_of k) (h.inputs i) ∙ by_file (source_file op) s
  where
    by_file : (o : Option Text) → is_some o ≡ true → count_of k (unless_source o (i ∷ option_to_list h.right)) ≡ 0
    by_file (Some file) e = refl
    by_file None e = absurd (false≢true e)

uses_push : (k : ℕ) (done : Pipe) (n : PipeNode (Function ℕ)) → uses k (done ++ n ∷ []) ≡ uses k done + count_of k (inputs_of n)
uses_push k done n =
    ap (count_of k) (flat_map-append inputs_of done (n ∷ []) ∙ ap (λ (l : List ℕ). flat_map inputs_of done ++ l) (append-nil (inputs_of n)))
    ∙ sum_by-append (λ i. cond (i == k) 1 0) (flat_map inputs_of done) (inputs_of n)

-- ---- the links of a chain

module _ (a : Ahead) (k : ℕ) where
  count_part : (part : Part) (line : ℕ) (links : List Link) → IsNoSource part
      → ((done : Pipe) (input : ℕ) (r : Pipe × ℕ) → linked_nodes a done input links ≡ Ok r → uses k r.0 + one r.1 k + upto k (length done) ≡ uses k done + one input k + ending a k (texts (joins links)) + upto k (length r.0))
      → (done : Pipe) (input : ℕ) (r : Pipe × ℕ) → nodes_by a done input line part links (λ p end. linked_nodes a p end links) ≡ Ok r
      → uses k r.0 + one r.1 k + upto k (length done) ≡ uses k done + one input k + ending a k (texts (cons_option (joined_in part) (joins links))) + upto k (length r.0)
  count_part (handler h) line links s rest done input r e = rest done input r e
  count_part (operator op) line links s rest done input r e =
      let n = adds a done input line op links (λ p end. linked_nodes a p end links) r e in
      let h = rest (done ++ n.node ∷ []) (length done + 1) r n.goes_on in
      let u = uses_push k done n.node in
      let i = counted_inputs a op n.node.operation k n.node.input n.keeps_all s in
      let j : one n.node.input k ≡ one input k = ap (λ m. one m k) n.input_is in
      let l : upto k (length (done ++ n.node ∷ [])) ≡ upto k (length done + 1) = ap (upto k) (length_push done n.node) in
      let t = upto_next k (length done) in
      let c = ending-cons a k (right_of op) (joins links) in
      omega arith

  count_nodes : (links : List Link) → AreNoSources links → (done : Pipe) (input : ℕ) (r : Pipe × ℕ) → linked_nodes a done input links ≡ Ok r
      → uses k r.0 + one r.1 k + upto k (length done) ≡ uses k done + one input k + ending a k (texts (joins links)) + upto k (length r.0)
  count_nodes [] s done input r e = subst (λ (z : Pipe × ℕ). uses k z.0 + one z.1 k + upto k (length done) ≡ uses k done + one input k + ending a k [] + upto k (length z.0)) (ok_is (done, input) r e) (omega arith)
  count_nodes (x ∷ links) s done input r e = count_part x.part x.line links s.0 (count_nodes links s.1) done input r e

  -- a source in front uses no operator
  count_source : (part : Part) (line : ℕ) (links : List Link) → IsSource part → AreNoSources links → (done : Pipe) (input : ℕ) (r : Pipe × ℕ)
      → nodes_by a done input line part links (λ p end. linked_nodes a p end links) ≡ Ok r
      → uses k r.0 + one r.1 k + upto k (length done) ≡ uses k done + ending a k (texts (cons_option (joined_in part) (joins links))) + upto k (length r.0)
  count_source (handler h) line links s rest done input r e = absurd (false≢true s)
  count_source (operator op) line links s rest done input r e =
      let n = adds a done input line op links (λ p end. linked_nodes a p end links) r e in
      let h = count_nodes links rest (done ++ n.node ∷ []) (length done + 1) r n.goes_on in
      let u = uses_push k done n.node in
      let i = no_inputs a op n.node.operation k n.node.input n.keeps_all s in
      let l : upto k (length (done ++ n.node ∷ [])) ≡ upto k (length done + 1) = ap (upto k) (length_push done n.node) in
      let t = upto_next k (length done) in
      let c : ending a k (texts (cons_option (right_of op) (joins links))) ≡ ending a k (texts (joins links)) = ap (λ (o : Option Word). ending a k (texts (cons_option o (joins links)))) (alone_source op s) in
      omega arith

-- ---- a chain

pub chain_nodes : (a : Ahead) (done : Pipe) (start : Option Word) (links : List Link) (r : Pipe × ℕ) → linked_chain a done start links ≡ Ok r → (input : ℕ) × (linked_start a start ≡ Ok input) × (linked_nodes a done input links ≡ Ok r)
chain_nodes a done start links r e =
    let b = bind_ok (linked_start a start) (λ input. linked_handlers a None links >>= (λ strays. linked_nodes a done input links)) r e in
    let c = bind_ok (linked_handlers a None links) (λ strays. linked_nodes a done b.0 links) r b.2 in
    (b.0, b.1, c.2)

pub known_is : (line : ℕ) (o : Option ℕ) (q : ℕ) → known_at line o ≡ Ok q → o ≡ Some q
known_is line (Some x) q e = ap Some (ok_is x q e)
known_is line None q e = absurd (no_ok (at kind.Name line) q e)

pub count_chain : (a : Ahead) (k : ℕ) (done : Pipe) (start : Option Word) (links : List Link) (r : Pipe × ℕ) → Begins start links → linked_chain a done start links ≡ Ok r
    → uses k r.0 + one r.1 k + upto k (length done) ≡ uses k done + ending a k (texts (option_to_list start ++ joins links)) + upto k (length r.0)
count_chain a k done (Some w) links r s e =
    let c = chain_nodes a done (Some w) links r e in
    let h = count_nodes a k links s done c.0 r c.2 in
    let o = ending_one a k w c.0 (known_is w.line (slice_get a.ends (place_in a.pipelines w.text)) c.0 c.1) in
    let m = ending-append a k (w.text ∷ []) (texts (joins links)) in
    omega arith
count_chain a k done None (x ∷ links) r s e =
    let c = chain_nodes a done None (x ∷ links) r e in
    count_source a k x.part x.line links s.0 s.1 done c.0 r c.2
count_chain a k done None [] r s e = absurd s
