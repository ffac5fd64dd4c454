use Rattle.std.proofs.Common.{length, ap, arith}
use Rattle.std.specs.Str.{chars}
use Rattle.tx_script.proofs.Utf8.{utf8_is_text, chars_few}
use Rattle.tx_script.proofs.read.text_of.Goals as goal

pub returns-in_ok-from_str-in-Ok-clause-text : goal.returns-in_ok-from_str-in-Ok-clause-text
returns-in_ok-from_str-in-Ok-clause-text c = utf8_is_text c.args.bytes.now c.in-Ok.ensures.cases.1

pub returns-in_ok-from_str-in-Ok-clause-few : goal.returns-in_ok-from_str-in-Ok-clause-few
returns-in_ok-from_str-in-Ok-clause-few c =
    let e = ap length c.in_ok-from_str-in-Ok.ensures in let s = ap (λ b. length (chars b)) c.in-Ok.ensures.cases.0 in
    omega (arith, e, s, chars_few c.args.bytes.now, c.if-bytes-gt-MOST_CHARACTERS.false)
