use Rattle.std.proofs.Common.{◌≡◌, ◌∙◌, true, sym, inr}
use Rattle.std.proofs.lemmas.Result.{IfErr-weaker}
use Rattle.tuplex_run.specs.Due.{IsVerdict, on_command}
use Rattle.tuplex_run.proofs.VerdictLemmas.{at_command}
use Rattle.tuplex_run.proofs.Refusals.{words_refused, steps_of_kind}
use Rattle.tuplex_run.proofs.accepting.accept.Goals as goal

pub returns-in-Ok-Some-clause-refused : goal.returns-in-Ok-Some-clause-refused
returns-in-Ok-Some-clause-refused g c =
    IfErr-weaker c.accept_command.result _ _
    (words_refused c.args.words.now c.in-Ok-Some.command (g.P.Place.state c.args.place.now) (g.P.Place.state c.accept_command.new.place) (sym c.in-Ok-Some.ensures ∙ c.in-Ok-Some.field-0-is))
    c.accept_command.ensures.refused

pub returns-in-Ok-Some-clause-steps : goal.returns-in-Ok-Some-clause-steps
returns-in-Ok-Some-clause-steps g c =
    let old = g.P.Place.state c.args.place.now in
    IfErr-weaker c.accept_command.result _ _
    (steps_of_kind (old.tells ≡ true) (old.tells ≡ true) (λ deed. on_command old.held c.in-Ok-Some.command (inr deed))
    (λ deed. IsVerdict c.args.words.now old.held (inr deed)) c.args.steps.now c.accept_command.new.steps
    (λ t. t) (λ t deed h. at_command c.args.words.now old.held c.in-Ok-Some.command (sym c.in-Ok-Some.ensures ∙ c.in-Ok-Some.field-0-is) (inr deed) h))
    c.accept_command.ensures.steps
