-- Where a text keeps its UTF-8, and how its characters are counted. Only contracts inside the crate cite this.
use Rattle.std.specs.Prelude.{◌≡◌, ◌||◌, ℕ, Bool, List, length, nat_le, nat_lt, string_bytes}
use Rattle.std.specs.Str.{chars}
use Rattle.tx_text.specs.declared.store.Store.{Store}
use Rattle.tx_text.specs.declared.store.Store.TheVariants.{Short, Long}

abbrev pub store_bytes : Store → List ℕ
store_bytes (Short text) = text.bytes
store_bytes (Long text count) = string_bytes text

-- a longer text's number is that of its characters
abbrev pub IsCounted : Store → Type 0
IsCounted (Short text) = Unit {0}
IsCounted (Long text count) = count ≡ length (chars (string_bytes text))

-- a byte of UTF-8 begins a character where it is not one of those that continue one (RFC 3629, section 3)
abbrev pub is_first_byte : ℕ → Bool
is_first_byte byte = nat_lt byte 0x80 || nat_le 0xC0 byte
