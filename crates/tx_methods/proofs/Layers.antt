-- What a value is made of, and its weight and depth, at each constructor.
use Rattle.std.proofs.Common.{◌≡◌, ◌∙◌, ℕ, ◌+◌, List, length, map, sym, ap}
use Rattle.tx_values.specs.declared.value.Value.{Value, out-Value, roll-Value, out-roll-Value, fold-roll-Value}
use Rattle.tx_values.specs.declared.value.Value.TheVariants as value
use Rattle.tx_values.specs.declared.value.Value.TheVariants.{rolls-Nil, rolls-Truth, rolls-Int, rolls-Text, rolls-Tuple, rolls-List}
use Rattle.tx_values.specs.declared.value.Value.TheOpen.{Value-F}
use Rattle.tx_values.specs.declared.value.Value.TheOpen as v
use Rattle.tx_values.specs.Limits.{depth, depth_step, greatest_of, weight, weight_of_items, weight_step}

pub opened : (x : Value-F Value) (a : Value) → roll-Value x ≡ a → out-Value a ≡ x
opened x a e = ap out-Value (sym e) ∙ out-roll-Value x

pub weight_text : (text : List ℕ) → weight (value.Text text) ≡ length text
weight_text text = ap weight (sym (rolls-Text text)) ∙ fold-roll-Value ℕ weight_step (v.Text text)

pub depth_text : (text : List ℕ) → depth (value.Text text) ≡ 0
depth_text text = ap depth (sym (rolls-Text text)) ∙ fold-roll-Value ℕ depth_step (v.Text text)

pub weight_list : (items : List Value) → weight (value.List items) ≡ weight_of_items (map weight items)
weight_list items = ap weight (sym (rolls-List items)) ∙ fold-roll-Value ℕ weight_step (v.List items)

pub depth_list : (items : List Value) → depth (value.List items) ≡ 1 + greatest_of (map depth items)
depth_list items = ap depth (sym (rolls-List items)) ∙ fold-roll-Value ℕ depth_step (v.List items)
