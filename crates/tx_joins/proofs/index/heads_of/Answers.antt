use Rattle.std.proofs.Common.{◌-◌, ◌++◌, ℕ, List, Option, drop, map, take, ap, ◌∙◌}
use Rattle.std.specs.HashMap.{get}
use Rattle.tx_values.specs.declared.row.Row.{Row}
use Rattle.tx_values.specs.Keys.{same_key}
use Rattle.tx_joins.specs.Calls.Chains.{head_of}
use Rattle.tx_joins.proofs.Rows.{map-part}
use Rattle.tx_joins.proofs.index.heads_of.Goals as goal

pub batches-preserved : goal.batches-preserved
batches-preserved c =
    let all : List Row = c.as_slice-all.result.now in
    let from : ℕ = c.batches.from in
    let to : ℕ = c.batch_end-to.result in
    let head : Row → Option (Option ℕ) = head_of c.args.column (get same_key c.args.index.now.heads) in
    record {
      within = c.batch_end-to.ensures.within;
      told = c.in_ok-add_heads.ensures
          ∙ ap (λ (hs : List (Option (Option ℕ))). hs ++ map head (take (to - from) (drop from all))) c.batches.invariant.told
          ∙ map-part head all from to c.batch_end-to.ensures.rises;
    }
