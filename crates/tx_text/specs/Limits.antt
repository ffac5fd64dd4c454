-- What a call with a limit answers.
use Rattle.std.specs.Prelude.{◌≡◌, ℕ, ◌<◌, ◌≤◌, List, Result, Ok, Err, length}
use Rattle.tx_text.specs.declared.limit.Long.{Long}
use Rattle.tx_text.specs.declared.limit.Long.TheVariants.{TooLong, NoMemory}

-- a call with a limit answers the text, or that it has more characters than the limit
abbrev pub UpTo : ℕ → List ℕ → Result (List ℕ) Long → Type 0
UpTo most text (Ok made) = (made ≡ text) × (length text ≤ most)
UpTo most text (Err TooLong) = most < length text
UpTo most text (Err NoMemory) = Unit {0}
