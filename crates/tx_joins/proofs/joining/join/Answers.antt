use Rattle.std.proofs.Common.{◌≡◌, ◌+◌, ◌++◌, ◌<◌, ℕ, List, [], Option, drop, filter, get_or, length, map, append_assoc, sym, ap, ◌∙◌, arith, if◌then◌else◌}
use Rattle.std.proofs.lemmas.List.{get_or-map}
use Rattle.std.specs.HashMap.{get}
use Rattle.tx_values.specs.declared.row.Row.{Row}
use Rattle.tx_values.specs.Keys.{same_key}
use Rattle.tx_joins.specs.Join.{has_key, joined_rows, or_alone, pairs_of}
use Rattle.tx_joins.specs.Calls.Chains.{head_of}
use Rattle.tx_joins.proofs.Pairs.{joined_rows-front}
use Rattle.tx_joins.proofs.Rows.{split_at}
use Rattle.tx_joins.proofs.joining.join.Goals as goal

pub loop-place-preserved : goal.loop-place-preserved
loop-place-preserved c =
    let all : List Row = c.as_slice-all.result.now in
    let place : ℕ = c.loop-place.place in
    let row : Row = c.index-all-place.result in
    let same : length all ≡ c.len-place-end.result = ap length c.as_slice-all.ensures ∙ sym c.len-place-end.ensures.len in
    let within : place < length all = omega (arith, same, c.loop-place-test.true) in
    let head : Row → Option (Option ℕ) = head_of c.args.left_key (get same_key c.in_ok-index.index.heads) in
    let said : c.index.result.now ≡ head row
    = c.index.ensures
    ∙ ap (λ (hs : List (Option (Option ℕ))). get_or hs place c.index.result.now) (c.in_ok-heads.ensures ∙ ap (map head) (sym c.as_slice-all.ensures))
    ∙ get_or-map head all place row c.index.result.now within ∙ ap head (sym c.index-all-place.is) in
    let given : List Row = if has_key c.args.left_key row then or_alone c.args.keep c.args.width row (pairs_of c.args.left_key c.args.right_key (filter (has_key c.args.right_key) c.args.right.now) row) else [] in
    let others : List Row = joined_rows c.args.keep c.args.width c.args.left_key c.args.right_key (drop (place + 1) all) c.args.right.now in
    ap (λ (rs : List Row). rs ++ others) (c.in_ok-add_left.ensures c.args.left_key said c.in_ok-index.ensures)
    ∙ append_assoc c.loop-place.rows given others
    ∙ ap (λ (rs : List Row). c.loop-place.rows ++ rs) (joined_rows-front c.args.keep c.args.width c.args.left_key c.args.right_key row (drop (place + 1) all) c.args.right.now)
    ∙ ap (λ (rs : List Row). c.loop-place.rows ++ joined_rows c.args.keep c.args.width c.args.left_key c.args.right_key rs c.args.right.now)
    (split_at all place row within c.index-all-place.is)
    ∙ c.loop-place.invariant
