use Rattle.tx_script.proofs.UsesLemmas.{counts_next, counts_all}
use Rattle.tx_script.proofs.uses.Uses.add_links.Goals as goal

pub loop-link-preserved : goal.loop-link-preserved
loop-link-preserved c names counts = counts_next _ _ names c.loop-link.link-index c.args.links.now c.link-item.result c.loop-link-test.true c.link-item.is (c.in_ok-add_link.ensures _ (c.loop-link.invariant names counts))

pub returns : goal.returns
returns c names counts = counts_all _ _ names c.loop-link.link-index c.args.links.now c.loop-link-test.false (c.loop-link.invariant names counts)
