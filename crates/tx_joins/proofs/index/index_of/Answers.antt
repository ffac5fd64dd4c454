use Rattle.std.proofs.Common.{◌≡◌, ◌≤◌, ◌<◌, ◌+◌, ◌-◌, ℕ, List, drop, length, take, sym, subst, ap, ◌∙◌, arith}
use Rattle.std.specs.HashMap.{get}
use Rattle.tx_values.specs.declared.row.Row.{Row}
use Rattle.tx_values.specs.Keys.{same_key}
use Rattle.tx_joins.specs.Calls.Chains.{IsIndex}
use Rattle.tx_joins.proofs.Rows.{part-behind, part-length}
use Rattle.tx_joins.proofs.index.index_of.Goals as goal

pub batches-preserved : goal.batches-preserved
batches-preserved c =
    let all : List Row = c.as_slice-all.result.now in
    let from : ℕ = c.batch_start-from.result in
    let to : ℕ = c.batches.to in
    let rises : from < to = c.batch_start-from.ensures in
    let same : length all ≡ c.len-len.result = ap length c.as_slice-all.ensures ∙ sym c.len-len.ensures.len in
    let few : to ≤ c.len-len.result = c.batches.invariant.within in
    let within : to ≤ length all = omega (arith, same, few) in
    let old : IsIndex c.args.column (get same_key c.batches.index.heads) c.batches.index.next.items (from + length (take (to - from) (drop from all))) (drop to all)
    = subst (λ (n : ℕ). IsIndex c.args.column (get same_key c.batches.index.heads) c.batches.index.next.items n (drop to all))
    (sym (part-length all from to rises within)) c.batches.invariant.held in
    record {
      within = omega (arith, few, rises);
      room = c.in_ok-add_rows.ensures.same ∙ c.batches.invariant.room;
      held = subst (λ (rows : List Row). IsIndex c.args.column (get same_key c.add_rows.new.index.heads) c.add_rows.new.index.next.items from rows)
          (part-behind all from to rises within) (c.in_ok-add_rows.ensures.index (drop to all) old);
    }
