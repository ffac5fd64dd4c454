use Rattle.std.proofs.Common.{◌∙◌, sym, ap}
use Rattle.std.specs.Str.{chars}
use Rattle.std.proofs.lemmas.List.{nil_from_length}
use Rattle.std.proofs.lemmas.Str.{chars-nil}
use Rattle.tx_text.proofs.Ends.{chars_before_char}
use Rattle.tx_text.proofs.strip.last_of.Goals as goal

pub returns-in-None-clause-value : goal.returns-in-None-clause-value
returns-in-None-clause-value c = ap chars (nil_from_length c.args.text.now (rw c.chars-rest.ensures.rest at c.in-None.ensures.steps.0)) ∙ chars-nil

pub returns-in-Some-clause-value : goal.returns-in-Some-clause-value
returns-in-Some-clause-value c =
    chars_before_char c.args.text.now c.as_str.result.now c.in-Some.c c.utf8.text c.as_str.utf8 (sym c.chars-rest.ensures.rest ∙ rw (← c.as_str.ensures) at c.in-Some.ensures.steps)
