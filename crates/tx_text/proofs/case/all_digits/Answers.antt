use Rattle.std.proofs.Common.{◌∙◌, sym}
use Rattle.std.specs.Str.{chars}
use Rattle.tx_text.proofs.Cases.{digits_none, digits_other, digits_only, spells_nothing, spells_something}
use Rattle.tx_text.proofs.case.all_digits.Goals as goal
use Rattle.tx_text.proofs.case.all_digits.Goals.{then-is_empty, else-is_empty}

pub returns-then-has_other : goal.returns-then-has_other
returns-then-has_other c =
    let text = c.args.text.now in
    elim c.if-is_empty.branch [
      | then-is_empty w ↦ digits_none (chars text) (spells_nothing text (sym c.is_empty.ensures ∙ w.if-is_empty.true))
      | else-is_empty w ↦ digits_other (chars text) (sym w.has_other.ensures ∙ (sym w.value-is ∙ c.if-has_other.true))
    ]

pub returns-then-has_digits_only : goal.returns-then-has_digits_only
returns-then-has_digits_only c =
    let text = c.args.text.now in
    elim c.if-is_empty.branch [
      | then-is_empty w ↦ (cc)
      | else-is_empty w ↦ digits_only (chars text) (spells_something text c.utf8.text (sym c.is_empty.ensures ∙ w.if-is_empty.false)) (sym w.has_other.ensures ∙ (sym w.value-is ∙ c.if-has_other.false)) (sym c.has_digits_only.ensures ∙ c.if-has_digits_only.true)
    ]
