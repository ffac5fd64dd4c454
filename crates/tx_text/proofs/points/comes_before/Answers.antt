use Rattle.tx_text.proofs.Order.{text_order}
use Rattle.tx_text.proofs.points.comes_before.Goals as goal

pub returns : goal.returns
returns c = text_order c.args.a.now c.args.b.now c.lt.result c.utf8.a c.utf8.b c.lt.ensures
