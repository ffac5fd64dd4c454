use Rattle.std.proofs.Common.{◌∷◌, map, sym, ap, ◌∙◌}
use Rattle.tx_pipe.specs.Pipe.{pipe_of}
use Rattle.tx_script.specs.Linked.{linked_nodes}
use Rattle.tx_script.specs.Calls.View.{link_of}
use Rattle.tx_script.specs.Calls.Behind.{ahead_of}
use Rattle.tx_script.proofs.Items.{item_next}
use Rattle.tx_script.proofs.Steps.{next_nodes, first_nodes}
use Rattle.tx_script.proofs.node.add_links.Goals as goal

pub loop-at-preserved : goal.loop-at-preserved
loop-at-preserved c =
    ap (λ l. linked_nodes (ahead_of c.args.ahead.now) (pipe_of c.add_link.new.pipe) c.in-Ok.number (map link_of l)) (sym c.links_behind-behind.ensures)
    ∙ next_nodes (ahead_of c.args.ahead.now) (pipe_of c.loop-at.pipe) c.loop-at.input (link_of c.index-links-at.result) (map link_of c.links_behind-behind.result.now) (pipe_of c.add_link.new.pipe) c.in-Ok.number c.in-Ok.ensures.ok
    ∙ ap (λ l. linked_nodes (ahead_of c.args.ahead.now) (pipe_of c.loop-at.pipe) c.loop-at.input (link_of c.index-links-at.result ∷ map link_of l)) c.links_behind-behind.ensures
    ∙ ap (λ l. linked_nodes (ahead_of c.args.ahead.now) (pipe_of c.loop-at.pipe) c.loop-at.input (map link_of l)) (sym (item_next c.args.links.now c.loop-at.at c.index-links-at.result c.loop-at-test.true c.index-links-at.is))
    ∙ c.loop-at.invariant

pub returns-in-Err-clause-fault : goal.returns-in-Err-clause-fault
returns-in-Err-clause-fault c = λ f h.
    sym c.loop-at.invariant
    ∙ ap (λ l. linked_nodes (ahead_of c.args.ahead.now) (pipe_of c.loop-at.pipe) c.loop-at.input (map link_of l)) (item_next c.args.links.now c.loop-at.at c.index-links-at.result c.loop-at-test.true c.index-links-at.is)
    ∙ ap (λ l. linked_nodes (ahead_of c.args.ahead.now) (pipe_of c.loop-at.pipe) c.loop-at.input (link_of c.index-links-at.result ∷ map link_of l)) (sym c.links_behind-behind.ensures)
    ∙ first_nodes (ahead_of c.args.ahead.now) (pipe_of c.loop-at.pipe) c.loop-at.input (link_of c.index-links-at.result) (map link_of c.links_behind-behind.result.now) f (c.in-Err.ensures.fault f h)
