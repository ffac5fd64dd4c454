use Rattle.std.proofs.Common.{map, drop, subst, sym, ap, ◌∙◌, arith}
use Rattle.std.specs.List.{flat_map}
use Rattle.tx_script.specs.Checks.{names_in, pipe_use}
use Rattle.tx_script.specs.Calls.Counts.{Counts}
use Rattle.tx_script.specs.Calls.View.{entry_view}
use Rattle.tx_script.proofs.UsesLemmas.{counts_start, found_start, entry_next}
use Rattle.tx_script.proofs.uses.pipe_use.Goals as goal

pub backwards-init : goal.backwards-init
backwards-init c = record {
  within = omega arith;
  counts = counts_start _ _ c.args.entries.now c.new-once.ensures c.new-twice.ensures;
  found = found_start c.args.entries.now;
}

pub backwards-preserved : goal.backwards-preserved
backwards-preserved c =
    let next = entry_next c.args.entries.now c.backwards.at c.index-entries-at.result c.backwards-test.true c.backwards.invariant.within c.index-entries-at.is in
    record {
      within = omega (arith, c.backwards.invariant.within);
      counts = subst (λ l. Counts c.use_of.new.uses.once c.use_of.new.uses.twice (flat_map names_in (map entry_view l))) (sym next) (c.in_ok-found.ensures.counts (map entry_view (drop c.backwards.at c.args.entries.now)) c.backwards.invariant.counts);
      found = c.in_ok-found.ensures.tells (map entry_view (drop c.backwards.at c.args.entries.now)) c.backwards.invariant.counts c.backwards.invariant.found ∙ ap (λ l. pipe_use (map entry_view l)) (sym next);
    }
