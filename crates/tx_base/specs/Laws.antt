-- What the definitions add up to.
use Rattle.std.specs.Prelude.{◌≡◌, ◌↔◌, ◌||◌, Bool, true, false, Option, Some, None}
use Rattle.tx_base.specs.Class.{above, catches, same_class}
use Rattle.tx_base.specs.declared.class.Class.{Class}

abbrev pub catches_above : Class → Option Class → Bool
catches_above handler None = false
catches_above handler (Some class) = catches handler class

-- what is caught goes from class to class upwards, and by nothing else
pub record ClassesAreATree : Type 0 where
  pub same : (a b : Class) → (same_class a b ≡ true) ↔ (a ≡ b)
  pub up : (handler raised : Class) → catches handler raised ≡ (same_class handler raised || catches_above handler (above raised))
