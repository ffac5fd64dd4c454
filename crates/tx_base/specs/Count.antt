-- Counts of 64 bits, which stand at their last value.
use Rattle.std.specs.Prelude.{ℕ, ◌+◌, min}

-- 2^64 - 1
abbrev pub last_count : ℕ
last_count = 18446744073709551615

-- a count after some more
abbrev pub counted : ℕ → ℕ → ℕ
counted n more = min (n + more) last_count
