use Rattle.std.proofs.Common.{[], ◌++◌, Some, None, Err, map, subst, sym, ap, append-nil}
use Rattle.std.proofs.Math.Seq.{drop-cons}
use Rattle.std.proofs.Math.ListN.{drop_of_length-le}
use Rattle.tx_tree.specs.Tree.{block_of}
use Rattle.tx_script.specs.Accepted.{AreRead}
use Rattle.tx_script.specs.Calls.Reading.{parts_of}
use Rattle.tx_script.proofs.Told.{err_same}
use Rattle.tx_script.proofs.read.read_blocks.Goals as goal

pub returns-in-Err-clause-fault : goal.returns-in-Err-clause-fault
returns-in-Err-clause-fault c = λ f h. let g = c.in-Err.ensures.fault f (ap Err (err_same _ _ h)) in (map block_of c.loop-span.done ++ [], c.loop-span.invariant.1 [] (Some f) (subst (λ l. AreRead (parts_of c.args.list.now l) [] (Some f)) (sym (drop-cons c.args.spans.now c.loop-span.span-index (record { from = 0; to = 0 }) c.loop-span-test.true)) g))

pub returns-clause-ok : goal.returns-clause-ok
returns-clause-ok c =
    subst (λ l. AreRead (parts_of c.args.list.now c.args.spans.now) l None) (append-nil (map block_of c.loop-span.done))
    (c.loop-span.invariant.1 [] None (subst (λ l. AreRead (parts_of c.args.list.now l) [] None) (sym (drop_of_length-le c.args.spans.now c.loop-span-test.false)) tt))
