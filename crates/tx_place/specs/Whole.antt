-- Reading a whole file.
use Rattle.std.specs.Prelude.{ℕ, ◌<◌, List, Option, Some, None, length}

-- a file of more bytes than a limit
abbrev pub IsLarger : ℕ → Option (List ℕ) → Type 0
IsLarger limit None = ⊥
IsLarger limit (Some bytes) = limit < length bytes
