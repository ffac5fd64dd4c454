use Rattle.std.proofs.Common.{◌<◌, ◌^◌, arith}
use Rattle.tx_words.proofs.Numbers.{read-within, read-none}
use Rattle.tx_words.proofs.words.small_number.Goals as goal

pub returns-in_default : goal.returns-in_default
returns-in_default c = read-none 32 c.args.most c.args.text.now c.in_default.ensures.value.0 c.ranges.most.fits

pub returns-then-number-most : goal.returns-then-number-most
returns-then-number-most c =
    let read = c.in-Ok.ensures.value.0 in
    let small : c.in-Ok.number < 2 ^ 32 = rw read.1 read.0.1 in
    let fits : c.in-Ok.number < 2 ^ 64 = omega (arith, small) in
    read-within c.args.most c.in-Ok.number c.args.text.now read.0.0 read.1 fits (omega (arith, c.if-number-most.true))
