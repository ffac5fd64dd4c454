-- The operators of a pipe from a place on.
use Rattle.std.proofs.Common.{◌≡◌, ℕ, zero, suc, ◌+◌, ◌-◌, ◌<◌, ◌≤◌, ◌++◌, List, [], ◌∷◌, drop, get_or, length, map, slice_range, take, refl, sym, ap, ◌∙◌, arith, zero-add}
use Rattle.std.specs.List.{drop-map, take-map}
use Rattle.std.proofs.lemmas.List.{take-append-drop}
use Rattle.std.proofs.lemmas.Option.{slice_get_read}
use Rattle.tx_names.specs.Function.{Function}
use Rattle.tx_pipe.specs.declared.pipe.Node.{Node}
use Rattle.tx_pipe.specs.Pipe.{PipeNode, node_of, pipe_of}
use Rattle.tx_plain.proofs.Walks.{split_there}

none_left : {X : Type 0} (xs : List X) (n : ℕ) → xs ≡ [] → drop n xs ≡ []
none_left {X} xs n e = ap (drop n) e ∙ by n
  where
    by : (k : ℕ) → ◌≡◌ {A = List X} (drop k []) []
    by zero = refl
    by (suc k) = refl

pub drops : {X : Type 0} (n m : ℕ) (xs : List X) → drop m (drop n xs) ≡ drop (n + m) xs
drops zero m xs = ap (λ (k : ℕ). drop k xs) (sym (zero-add m))
drops {X} (suc n) m [] = none_left {X = X} [] m refl ∙ sym (none_left {X = X} [] (suc n + m) refl)
drops {X} (suc n) m (x ∷ xs) = drops n m xs ∙ ap (λ (k : ℕ). drop k (x ∷ xs)) (sym (moved n m))
  where
    moved : (k l : ℕ) → suc k + l ≡ suc (k + l)
    moved k l = omega arith

-- an operator in front of those behind it
pub cut_at : (nodes : List Node) (at : ℕ) (node : Node) → at < length nodes → node ≡ get_or nodes at node → drop at (pipe_of nodes) ≡ node_of node ∷ drop (at + 1) (pipe_of nodes)
cut_at nodes at node h e =
    drop-map node_of at nodes
    ∙ ap (map node_of) (split_there nodes at node (slice_get_read nodes (length nodes) at node refl h e))
    ∙ ap (λ (l : List (PipeNode (Function ℕ))). node_of node ∷ l) (sym (drop-map node_of (at + 1) nodes))

-- so many operators, of which the first is this one
front : {X : Type 0} (count : ℕ) (x : X) (xs all : List X) → 1 ≤ count → all ≡ x ∷ xs → take count all ≡ x ∷ take (count - 1) xs
front {X} count x xs all some e =
    let sum : count ≡ suc (count - 1) = omega (arith, some) in
    ap (take count) e ∙ ap (λ (k : ℕ). take k (x ∷ xs)) sum

-- a run of them in front of those behind it
pub cut_run : {X : Type 0} (p : List X) (at count : ℕ) (n : X) (ns : List X) → take count (drop at p) ≡ n ∷ ns → drop at p ≡ (n ∷ ns) ++ drop (at + count) p
cut_run {X} p at count n ns e =
    sym (take-append-drop count (drop at p)) ∙ ap (λ (l : List X). l ++ drop count (drop at p)) e ∙ ap (λ (l : List X). (n ∷ ns) ++ l) (drops at count p)

pub run_front : (nodes : List Node) (at count : ℕ) (node : Node) → 1 ≤ count → at < length nodes → node ≡ get_or nodes at node
    → take count (drop at (pipe_of nodes)) ≡ node_of node ∷ take (count - 1) (drop (at + 1) (pipe_of nodes))
run_front nodes at count node some h e = front count (node_of node) (drop (at + 1) (pipe_of nodes)) (drop at (pipe_of nodes)) some (cut_at nodes at node h e)

-- the same of a part of the code's nodes
pub part_is : (nodes : List Node) (at count : ℕ) → pipe_of (slice_range nodes at (at + count)) ≡ take count (drop at (pipe_of nodes))
part_is nodes at count =
    let sum : at + count - at ≡ count = omega arith in
    ap (λ (k : ℕ). map node_of (take k (drop at nodes))) sum
    ∙ sym (take-map node_of count (drop at nodes))
    ∙ ap (take count) (sym (drop-map node_of at nodes))
