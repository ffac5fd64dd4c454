use Rattle.std.proofs.Common.{◌≡◌, ◌+◌, ◌-◌, ◌*◌, ◌≤◌, arith, length, refl}
use Rattle.tx_text.specs.Text.{pieces, replaced}
use Rattle.tx_text.proofs.Builds.{cuts_within, length-replaced, room_enough, some_bytes}
use Rattle.tx_text.proofs.build.replaced_fits.Goals as goal

pub returns-then-is_within : goal.returns-then-is_within
returns-then-is_within c = (
  λ _. room_enough c.args.old.now c.args.new.now c.args.text.now _ _ _ _ c.requires c.len-len.ensures c.len-part.ensures c.len-each.ensures (c.is_within.ensures.0 c.if-is_within.true),
  λ _. refl,
)

pub occurrences-times-requires : goal.occurrences-times-requires
occurrences-times-requires c = some_bytes _ c.args.old.now c.as_str-2.ensures.chars c.requires

pub overflow_sub-besides : goal.overflow_sub-besides
overflow_sub-besides c =
    let count : length (pieces c.args.old.now c.args.text.now) ≡ c.occurrences-times.result + 1 =
    rw (c.as_str.ensures.chars, c.as_str-2.ensures.chars) at c.occurrences-times.ensures in
    rw (c.len-len.ensures, c.len-part.ensures) (cuts_within c.args.old.now c.args.text.now c.occurrences-times.result c.requires count)

pub overflow_mul-besides : goal.overflow_mul-besides
overflow_mul-besides c =
    let count : length (pieces c.args.old.now c.args.text.now) ≡ c.occurrences-times.result + 1 =
    rw (c.as_str.ensures.chars, c.as_str-2.ensures.chars) at c.occurrences-times.ensures in
    let within : c.occurrences-times.result * c.len-part.result ≤ c.len-len.result =
    rw (c.len-len.ensures, c.len-part.ensures) (cuts_within c.args.old.now c.args.text.now c.occurrences-times.result c.requires count) in
    omega arith

pub returns : goal.returns
returns c =
    let count : length (pieces c.args.old.now c.args.text.now) ≡ c.occurrences-times.result + 1 =
    rw (c.as_str.ensures.chars, c.as_str-2.ensures.chars) at c.occurrences-times.ensures in
    let cuts = c.occurrences-times.result in
    let len : cuts * c.len-each.result + (c.len-len.result - cuts * c.len-part.result) ≡ length (replaced c.args.old.now c.args.new.now c.args.text.now) =
    rw (c.len-len.ensures, c.len-part.ensures, c.len-each.ensures) (length-replaced c.args.old.now c.args.new.now c.args.text.now cuts c.requires count) in
    rw len at c.is_within-2.ensures
