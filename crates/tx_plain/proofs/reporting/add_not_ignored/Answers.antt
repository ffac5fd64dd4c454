use Rattle.std.proofs.Common.{Bool, List, length, map, not, refl}
use Rattle.std.proofs.lemmas.List.Elements.{filter-append}
use Rattle.std.proofs.lemmas.Option.{slice_get_read}
use Rattle.tx_report.specs.declared.report.Entry.{Entry}
use Rattle.tx_pipe.specs.Pipe.{handling_of}
use Rattle.tx_plain.specs.Handlers.{is_ignored}
use Rattle.tx_plain.specs.Operators.{not_ignored}
use Rattle.tx_plain.proofs.Walks.{next-part}
use Rattle.tx_plain.proofs.reporting.add_not_ignored.Goals as goal

pub loop-entry-preserved : goal.loop-entry-preserved
loop-entry-preserved c =
    let all : List Entry = c.args.all.now in
    let test : Entry → Bool = λ (entry : Entry). not (is_ignored (map handling_of c.args.handlers.now) entry.class) in
    next-part (not_ignored (map handling_of c.args.handlers.now)) (λ (xs ys : List Entry). filter-append test xs ys) all c.loop-entry.entry-index c.entry-item.result
    c.loop-entry.entries c.add_unless_ignored.new.entries c.args.entries.now
    (slice_get_read all (length all) c.loop-entry.entry-index c.entry-item.result refl c.loop-entry-test.true c.entry-item.is)
    c.in_ok-add_unless_ignored.ensures c.loop-entry.invariant
