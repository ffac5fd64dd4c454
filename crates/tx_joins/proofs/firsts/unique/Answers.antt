use Rattle.std.proofs.Common.{◌≡◌, ◌+◌, ◌++◌, ◌<◌, ℕ, List, [], ◌∷◌, drop, filter, length, take, append_assoc, sym, ap, subst, ◌∙◌, arith}
use Rattle.tx_values.specs.declared.row.Mark.{Mark}
use Rattle.tx_values.specs.declared.row.Row.{Row}
use Rattle.tx_joins.specs.Unique.{first_rows, has_keys, keyless_rows}
use Rattle.tx_joins.specs.Calls.Seen.{AreSeen}
use Rattle.tx_joins.proofs.Rows.{keyed-behind, keyed-next, keyless_rows-front, split_at}
use Rattle.tx_joins.proofs.firsts.unique.Goals as goal

pub loop-place-preserved : goal.loop-place-preserved
loop-place-preserved c =
    let all : List Row = c.as_slice-all.result.now in
    let place : ℕ = c.loop-place.place in
    let row : Row = c.index-all-place.result in
    let same : length all ≡ c.len-len.result = ap length c.as_slice-all.ensures ∙ sym c.len-len.ensures.len in
    let within : place < length all = omega (arith, same, c.loop-place-test.true) in
    let others : List (List Mark) = keyless_rows (drop (place + 1) all) in
    let ahead : List Row = filter has_keys (take place all) in
    let behind : List Row = filter has_keys (drop (place + 1) all) in
    let next : filter has_keys (take (place + 1) all) ≡ ahead ++ filter has_keys (row ∷ []) = keyed-next all place row within c.index-all-place.is in
    record {
      told = ap (λ (os : List (List Mark)). os ++ others) c.in_ok-add_row.ensures.unhashable
          ∙ append_assoc c.loop-place.unhashable (keyless_rows (row ∷ [])) others
          ∙ ap (λ (os : List (List Mark)). c.loop-place.unhashable ++ os) (keyless_rows-front row (drop (place + 1) all))
          ∙ ap (λ (rs : List Row). c.loop-place.unhashable ++ keyless_rows rs) (split_at all place row within c.index-all-place.is)
          ∙ c.loop-place.invariant.told;
      ahead = subst (λ (rs : List Row). AreSeen c.add_row.new.seen rs) (sym next) (c.in_ok-add_row.ensures.seen ahead c.loop-place.invariant.ahead);
      whole = ap (λ (rs : List Row). c.add_row.new.kept ++ first_rows rs behind) next
          ∙ c.in_ok-add_row.ensures.kept ahead behind c.loop-place.invariant.ahead
          ∙ ap (λ (rs : List Row). c.loop-place.kept ++ first_rows ahead rs) (keyed-behind all place row within c.index-all-place.is)
          ∙ c.loop-place.invariant.whole;
    }
