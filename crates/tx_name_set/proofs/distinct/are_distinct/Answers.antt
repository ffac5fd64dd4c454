use Rattle.std.proofs.Common.{add-one}
use Rattle.tx_name_set.proofs.Repeats.{repeat_told, all_kept, distinct_kept}
use Rattle.tx_name_set.proofs.distinct.are_distinct.Goals as goal

pub returns-then-not-is_new : goal.returns-then-not-is_new
returns-then-not-is_new c =
    repeat_told c.loop-name.met c.args.names.now c.loop-name.name-index c.name-item.result c.in_ok-is_new.is_new c.loop-name-test.true c.name-item.is
    c.loop-name.invariant.all c.in_ok-is_new.ensures.is_new c.if-not-is_new.true

pub loop-name-preserved : goal.loop-name-preserved
loop-name-preserved c = record {
  all = all_kept c.loop-name.met c.add.new.self c.args.names.now c.loop-name.name-index _ c.name-item.result c.in_ok-is_new.is_new c.loop-name-test.true c.name-item.is
      (add-one c.loop-name.name-index) c.loop-name.invariant.all c.in_ok-is_new.ensures.added c.in_ok-is_new.ensures.is_new c.if-not-is_new.false;
  so_far = distinct_kept c.loop-name.met c.add.new.self c.name-item.result c.in_ok-is_new.is_new c.loop-name.invariant.so_far
      c.in_ok-is_new.ensures.added c.in_ok-is_new.ensures.is_new c.if-not-is_new.false;
}
