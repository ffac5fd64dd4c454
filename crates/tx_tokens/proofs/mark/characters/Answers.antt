use Rattle.std.proofs.Common.{◌∙◌, ◌-◌, length}
use Rattle.std.proofs.lemmas.Slice.{between_from_start}
use Rattle.tx_tokens.proofs.Slices.{boundary, chars-front, within}
use Rattle.tx_tokens.proofs.mark.characters.Goals as goal

pub overflow_sub-text : goal.overflow_sub-text
overflow_sub-text c = within c.args.text.now c.behind_characters-rest.result.now c.args.count c.utf8.text c.behind_characters-rest.utf8 c.behind_characters-rest.ensures

pub range-front-requires-clause-end_boundary : goal.range-front-requires-clause-end_boundary
range-front-requires-clause-end_boundary c = boundary c.args.text.now c.behind_characters-rest.result.now c.args.count c.utf8.text c.behind_characters-rest.utf8 c.behind_characters-rest.ensures

pub returns-clause-front : goal.returns-clause-front
returns-clause-front c =
    c.in_ok-from_str.ensures
    ∙ chars-front c.args.text.now c.behind_characters-rest.result.now c.range-front.result.now c.args.count c.utf8.text c.behind_characters-rest.utf8 c.range-front.utf8 c.behind_characters-rest.ensures
    (c.range-front.ensures.value ∙ between_from_start c.args.text.now (length c.args.text.now - length c.behind_characters-rest.result.now))
