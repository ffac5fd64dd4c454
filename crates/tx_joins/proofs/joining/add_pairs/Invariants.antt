use Rattle.std.proofs.Common.{◌≡◌, ◌++◌, ℕ, List, Some}
use Rattle.std.specs.List.{flat_map}
use Rattle.tx_joins.specs.Calls.Chains.{IsChain, pair_at}
use Rattle.tx_joins.proofs.joining.add_pairs.Given as goal

abbrev pub invariant-loop-turn : goal.invariant-loop-turn
invariant-loop-turn l = (places : List ℕ) → IsChain l.next 0 (Some l.head) places
    → (rest : List ℕ) × (IsChain l.next l._turn l.start rest
    × (l.rows ++ flat_map (pair_at l.right_key l.left l.rights) rest ≡ l.initial.rows ++ flat_map (pair_at l.right_key l.left l.rights) places))
