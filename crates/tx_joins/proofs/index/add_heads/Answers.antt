use Rattle.std.proofs.Common.{◌≡◌, ◌++◌, ℕ, [], List, Option, append-nil, drop, map, sym, ap, ◌∙◌}
use Rattle.std.proofs.Math.ListN.{drop_of_length-le}
use Rattle.std.specs.HashMap.{get}
use Rattle.std.specs.Option.{option_map}
use Rattle.tx_values.specs.Keys.{same_key}
use Rattle.tx_joins.specs.Calls.Chains.{KeyAtoms}
use Rattle.tx_joins.proofs.Chains.{heads-of_keys}
use Rattle.tx_joins.proofs.index.add_heads.Goals as goal

pub returns : goal.returns
returns c =
    let head : KeyAtoms → Option ℕ = get same_key c.args.index.now.heads in
    let keys : List (Option KeyAtoms) = c.as_slice-key-items.result.now in
    let none : drop c.loop-key.key-index keys ≡ [] = drop_of_length-le keys c.loop-key-test.false in
    sym (append-nil c.loop-key.heads.items)
    ∙ ap (λ (ks : List (Option KeyAtoms)). c.loop-key.heads.items ++ map (option_map head) ks) (sym none)
    ∙ c.loop-key.invariant
    ∙ ap (λ (hs : List (Option (Option ℕ))). c.args.heads.now.items ++ hs)
    (ap (map (option_map head)) (c.as_slice-key-items.ensures.value ∙ c.in_ok-keys.ensures) ∙ heads-of_keys c.args.column head c.args.rows.now)
