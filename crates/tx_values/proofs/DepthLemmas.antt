-- What a fold gives at a container that a function has built or opened.
use Rattle.std.proofs.Common.{◌≡◌, ℕ, ◌+◌, List, sym, ap, ◌∙◌}
use Rattle.tx_values.specs.declared.value.Value.{Value, Dict, fold-roll-Value}
use Rattle.tx_values.specs.declared.value.Value.TheVariants.{rolls-Dict}
use Rattle.tx_values.specs.declared.value.Value.TheOpen as v
use Rattle.tx_values.specs.Limits.{depth, depth_step}
use Rattle.tx_values.specs.Calls.Lists.{depth_pairs}

pub depth_dict : (pairs : List (Value × Value)) → depth (Dict pairs) ≡ 1 + depth_pairs pairs
depth_dict pairs = ap depth (sym (rolls-Dict pairs)) ∙ fold-roll-Value ℕ depth_step (v.Dict pairs)
