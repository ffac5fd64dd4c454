use Rattle.std.proofs.Common.{◌∙◌, ap, arith}
use Rattle.std.specs.Str.{chars}
use Rattle.std.proofs.lemmas.Str.{IsCharBoundary-from_ascii}
use Rattle.tx_text.proofs.OneByte.{IsAscii-counted, chars-range, length-chars-le}
use Rattle.tx_text.proofs.points.text_between.Goals as goal

pub range-requires-clause-start_boundary : goal.range-requires-clause-start_boundary
range-requires-clause-start_boundary c =
    let a = IsAscii-counted c.args.text.now c.args.count c.utf8.text c.requires.counted c.if-count-text.false in
    λ _. IsCharBoundary-from_ascii c.args.text.now c.args.from a (omega (arith, length-chars-le c.args.text.now c.utf8.text))

pub range-requires-clause-end_boundary : goal.range-requires-clause-end_boundary
range-requires-clause-end_boundary c =
    let a = IsAscii-counted c.args.text.now c.args.count c.utf8.text c.requires.counted c.if-count-text.false in
    IsCharBoundary-from_ascii c.args.text.now c.args.to a (omega (arith, length-chars-le c.args.text.now c.utf8.text))

pub returns : goal.returns
returns c =
    let a = IsAscii-counted c.args.text.now c.args.count c.utf8.text c.requires.counted c.if-count-text.false in
    ap chars c.range.ensures.value ∙ chars-range c.args.text.now c.args.from c.args.to a
