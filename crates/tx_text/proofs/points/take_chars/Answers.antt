use Rattle.std.proofs.Common.{◌∙◌, ◌-◌, length}
use Rattle.std.proofs.lemmas.Slice.{between_from_start}
use Rattle.tx_text.proofs.Parts.{IsCharBoundary-front, chars-front, rest_within}
use Rattle.tx_text.proofs.points.take_chars.Goals as goal

pub overflow_sub-text : goal.overflow_sub-text
overflow_sub-text c = rest_within c.args.text.now c.skip_chars-rest.result.now c.args.count c.utf8.text c.skip_chars-rest.utf8 c.skip_chars-rest.ensures

pub range-requires-clause-end_boundary : goal.range-requires-clause-end_boundary
range-requires-clause-end_boundary c =
    IsCharBoundary-front c.args.text.now c.skip_chars-rest.result.now c.args.count c.utf8.text c.skip_chars-rest.utf8 c.skip_chars-rest.ensures

pub returns : goal.returns
returns c =
    chars-front c.args.text.now c.skip_chars-rest.result.now c.range.result.now c.args.count c.utf8.text c.skip_chars-rest.utf8 c.range.utf8 c.skip_chars-rest.ensures
    (c.range.ensures.value ∙ between_from_start c.args.text.now (length c.args.text.now - length c.skip_chars-rest.result.now))
