use Rattle.std.proofs.Common.{◌<◌, ◌^◌, arith}
use Rattle.tx_words.specs.CommandLine.{most_number}
use Rattle.tx_words.proofs.Numbers.{read-within, read-none}
use Rattle.tx_words.proofs.words.number.Goals as goal

pub returns-in-Ok : goal.returns-in-Ok
returns-in-Ok c =
    let read = c.in-Ok.ensures.value.0 in
    let fits : c.in-Ok.number < 2 ^ 64 = rw read.1 read.0.1 in
    read-within most_number c.in-Ok.number c.args.text.now read.0.0 read.1 fits (omega (arith, fits))

pub returns-in-Err : goal.returns-in-Err
returns-in-Err c = read-none 64 most_number c.args.text.now c.in-Err.ensures.value.0 (omega arith)
