use Rattle.std.proofs.Common.{◌≡◌, ◌+◌, ◌-◌, ◌≤◌, ◌==◌, ℕ, true, List, ◌∷◌, drop, length, sym, ap, ◌∙◌, arith, eqb-true}
use Rattle.tx_names.specs.Function.{Function}
use Rattle.tx_pipe.specs.Pipe.{PipeNode, node_of, pipe_of}
use Rattle.tx_plain.specs.Laws.{is_row_wise, is_run}
use Rattle.tx_plain.proofs.Cuts.{cut_at}
use Rattle.tx_plain.proofs.Endings.{nodes_length}
use Rattle.tx_plain.proofs.RunLemmas.{both}
use Rattle.tx_plain.proofs.Uses.{ends_some, last_alone, run_more}
use Rattle.tx_plain.proofs.plain.last_run.Goals as goal

pub back-init : goal.back-init
back-init c =
    let same : length (pipe_of c.args.nodes.now) ≡ length c.args.nodes.now = nodes_length c.args.nodes.now in
    let some : 1 ≤ length (pipe_of c.args.nodes.now) = ends_some (pipe_of c.args.nodes.now) c.requires.end in
    (omega (arith, same, some), last_alone (pipe_of c.args.nodes.now) (length c.args.nodes.now - 1) (length c.args.nodes.now - 1 + 1) c.requires.end (omega (arith, same, some)))

pub back-preserved : goal.back-preserved
back-preserved c =
    let p : List (PipeNode (Function ℕ)) = pipe_of c.args.nodes.now in
    let k : ℕ = c.back.start - 1 in
    let e : c.back.start ≡ c.back.start - 1 + 1 = omega (arith, c.back-test.true) in
    let b : PipeNode (Function ℕ) = node_of c.index-nodes-start.result in
    let n : PipeNode (Function ℕ) = node_of c.index-nodes-start-in-back.result in
    let rest : List (PipeNode (Function ℕ)) = drop (c.back.start + 1) p in
    let cut_b : drop (c.back.start - 1) p ≡ b ∷ drop (c.back.start - 1 + 1) p = cut_at c.args.nodes.now (c.back.start - 1) c.index-nodes-start.result (omega (arith, c.back.invariant.0)) c.index-nodes-start.is in
    let cut_n : drop c.back.start p ≡ n ∷ rest = cut_at c.args.nodes.now c.back.start c.index-nodes-start-in-back.result c.back.invariant.0 c.index-nodes-start-in-back.is in
    let both_are : drop (c.back.start - 1) p ≡ b ∷ n ∷ rest = cut_b ∙ ap (λ (j : ℕ). b ∷ drop j p) (sym e) ∙ ap (λ (l : List (PipeNode (Function ℕ))). b ∷ l) cut_n in
    let tests = both (is_row_wise b.operation) (n.input == c.back.start) (sym c.goes_before.ensures ∙ c.if-goes_before.true) in
    let goes : is_run (c.back.start + 1) (n ∷ rest) ≡ true = sym (ap (is_run (c.back.start + 1)) cut_n) ∙ c.back.invariant.1 in (
      omega (arith, c.back.invariant.0),
      ap (is_run (c.back.start - 1 + 1)) both_are ∙ run_more (c.back.start - 1) c.back.start b n rest e tests.0 (eqb-true n.input c.back.start tests.1) goes,
    )
