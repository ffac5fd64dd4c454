use Rattle.std.proofs.Common.{◌≡◌, false, take}
use Rattle.std.specs.List.{list_any}
use Rattle.std.specs.Prelude.{encode_utf8_all}
use Rattle.std.specs.Str.{bytes_eq}
use Rattle.tx_records.proofs.cell.is_null.Given as goal

abbrev pub invariant-words : goal.invariant-words
invariant-words l = list_any (λ word. bytes_eq l.field (encode_utf8_all word)) (take l.word-index l.words) ≡ false
