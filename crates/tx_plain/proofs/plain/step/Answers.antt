use Rattle.std.proofs.Common.{ℕ, ap, sym, ◌∙◌, arith}
use Rattle.tx_names.specs.Function.{Function}
use Rattle.tx_pipe.specs.Pipe.{PipeNode}
use Rattle.tx_plain.specs.Laws.{is_row_wise}
use Rattle.tx_plain.proofs.RunSteps.{node_there, run_here}
use Rattle.tx_plain.proofs.plain.step.Goals as goal

pub step_run-requires-clause-run : goal.step_run-requires-clause-run
step_run-requires-clause-run g c =
    run_here c.args.nodes.now c.args.at c.args.end c.follow_len-count.result c.index-nodes-at.result (omega (arith, c.requires.before, c.requires.within)) c.index-nodes-at.is
    (sym c.is_row_wise.ensures ∙ c.if-is_row_wise.true) c.follow_len-count.ensures.few c.follow_len-count.ensures.follow

pub step_whole-requires-clause-whole : goal.step_whole-requires-clause-whole
step_whole-requires-clause-whole g c n e =
    ap (λ (k : PipeNode (Function ℕ)). is_row_wise k.operation) (node_there c.args.nodes.now c.args.at c.index-nodes-at.result n (omega (arith, c.requires.before, c.requires.within)) c.index-nodes-at.is e)
    ∙ sym c.is_row_wise.ensures ∙ c.if-is_row_wise.false
