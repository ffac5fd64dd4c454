use Rattle.std.proofs.Common.{◌≡◌, ◌+◌, ◌++◌, ℕ, List, [], ◌∷◌, ap, drop, sym, subst, ◌∙◌, arith}
use Rattle.std.proofs.lemmas.Result.{on_ok_weaker}
use Rattle.tx_names.specs.Function.{Function}
use Rattle.tx_pipe.specs.Pipe.{PipeNode, node_of, pipe_of}
use Rattle.tx_plain.specs.declared.stored.Stored.{Stored}
use Rattle.tx_plain.specs.Operators.{Made, made_next, operated}
use Rattle.tx_plain.specs.Pipeline.{evaluate}
use Rattle.tx_plain.specs.Calls.Holding.{rows_stored}
use Rattle.tx_plain.specs.Calls.Standing.{Worked}
use Rattle.tx_plain.proofs.Cuts.{cut_at}
use Rattle.tx_plain.proofs.RunSteps.{there_is}
use Rattle.tx_plain.proofs.Stepping.{next_of, whole, whole_most}
use Rattle.tx_plain.proofs.plain.step_whole.Goals as goal

pub operate-requires : goal.operate-requires
operate-requires g c = c.requires.whole (node_of c.index-nodes-at.result) (there_is c.args.nodes.now c.args.at c.index-nodes-at.result c.requires.within c.index-nodes-at.is)

pub returns-in_err-made-clause-most : goal.returns-in_err-made-clause-most
returns-in_err-made-clause-most g c start w =
    let p : List (PipeNode (Function ℕ)) = pipe_of c.args.nodes.now in
    let n : PipeNode (Function ℕ) = node_of c.index-nodes-at.result in
    let cut : drop c.args.at p ≡ n ∷ drop (c.args.at + 1) p = cut_at c.args.nodes.now c.args.at c.index-nodes-at.result c.requires.within c.index-nodes-at.is in
    let next : operated evaluate c.args.sources.now c.args.s.now (c.args.at + 1) n n.operation (rows_stored c.take-lefts.result) (rows_stored c.take-rights.result) ≡ made_next evaluate c.args.sources.now c.args.s.now w.made n
    = next_of c.args.sources.now c.args.s.now p c.requires.lawful c.args.at start c.args.steps.now c.args.work.now.stored.items c.args.work.now.entries n w cut
    c.take-lefts.new.all.items (rows_stored c.take-lefts.result) (rows_stored c.take-rights.result) c.right_input.result c.right_input.ensures c.take-lefts.ensures.taken c.take-lefts.ensures.others c.take-rights.ensures.taken in
    let same = ap (λ (m : Made). m.evaluations) next in
    whole_most c.args.sources.now c.args.s.now p c.requires.lawful c.args.at start c.args.steps.now c.args.work.now.stored.items c.args.work.now.entries n w cut c.operate.new.steps (omega (arith, same, c.operate.ensures.most))

pub returns-clause-most : goal.returns-clause-most
returns-clause-most g c start w =
    let p : List (PipeNode (Function ℕ)) = pipe_of c.args.nodes.now in
    let n : PipeNode (Function ℕ) = node_of c.index-nodes-at.result in
    let cut : drop c.args.at p ≡ n ∷ drop (c.args.at + 1) p = cut_at c.args.nodes.now c.args.at c.index-nodes-at.result c.requires.within c.index-nodes-at.is in
    let next : operated evaluate c.args.sources.now c.args.s.now (c.args.at + 1) n n.operation (rows_stored c.take-lefts.result) (rows_stored c.take-rights.result) ≡ made_next evaluate c.args.sources.now c.args.s.now w.made n
    = next_of c.args.sources.now c.args.s.now p c.requires.lawful c.args.at start c.args.steps.now c.args.work.now.stored.items c.args.work.now.entries n w cut
    c.take-lefts.new.all.items (rows_stored c.take-lefts.result) (rows_stored c.take-rights.result) c.right_input.result c.right_input.ensures c.take-lefts.ensures.taken c.take-lefts.ensures.others c.take-rights.ensures.taken in
    let same = ap (λ (m : Made). m.evaluations) next in
    whole_most c.args.sources.now c.args.s.now p c.requires.lawful c.args.at start c.args.steps.now c.args.work.now.stored.items c.args.work.now.entries n w cut c.operate.new.steps (omega (arith, same, c.operate.ensures.most))

pub returns-clause-worked : goal.returns-clause-worked
returns-clause-worked g c start w =
    let p : List (PipeNode (Function ℕ)) = pipe_of c.args.nodes.now in
    let n : PipeNode (Function ℕ) = node_of c.index-nodes-at.result in
    let cut : drop c.args.at p ≡ n ∷ drop (c.args.at + 1) p = cut_at c.args.nodes.now c.args.at c.index-nodes-at.result c.requires.within c.index-nodes-at.is in
    let next : operated evaluate c.args.sources.now c.args.s.now (c.args.at + 1) n n.operation (rows_stored c.take-lefts.result) (rows_stored c.take-rights.result) ≡ made_next evaluate c.args.sources.now c.args.s.now w.made n
    = next_of c.args.sources.now c.args.s.now p c.requires.lawful c.args.at start c.args.steps.now c.args.work.now.stored.items c.args.work.now.entries n w cut
    c.take-lefts.new.all.items (rows_stored c.take-lefts.result) (rows_stored c.take-rights.result) c.right_input.result c.right_input.ensures c.take-lefts.ensures.taken c.take-lefts.ensures.others c.take-rights.ensures.taken in
    let done : Worked c.args.sources.now c.args.s.now p (c.args.at + 1) start c.operate.new.steps (c.take-rights.new.all.items ++ c.in_ok-made.made ∷ []) c.operate.new.entries
    = whole c.args.sources.now c.args.s.now p c.requires.lawful c.args.at start c.args.steps.now c.args.work.now.stored.items c.args.work.now.entries n w cut
    c.take-rights.new.all.items c.in_ok-made.made c.operate.new.entries c.operate.new.steps
    (c.take-rights.ensures.len ∙ c.take-lefts.ensures.len)
    (λ k left right. c.take-rights.ensures.others k (λ e. right (e ∙ c.right_input.ensures)) ∙ c.take-lefts.ensures.others k left)
    (c.in_ok-made.ensures.rows ∙ ap (λ (m : Made). m.rows) next)
    (c.in_ok-made.ensures.entries ∙ ap (λ (m : Made). c.args.work.now.entries ++ m.entries) next)
    (c.in_ok-made.ensures.steps ∙ ap (λ (m : Made). c.args.steps.now + m.evaluations) next) in
    on_ok_weaker c.add.result
    (λ (h : c.add.new.all.items ≡ c.take-rights.new.all.items ++ c.in_ok-made.made ∷ []).
    subst (λ (l : List Stored). Worked c.args.sources.now c.args.s.now p (c.args.at + 1) start c.operate.new.steps l c.operate.new.entries) (sym h) done)
    c.add.ensures
