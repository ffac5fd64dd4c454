use Rattle.std.proofs.Common.{◌∙◌, sym, rules, option_map}
use Rattle.std.specs.Str.{chars}
use Rattle.tx_text.specs.Text.{is_taken}
use Rattle.tx_text.proofs.Ends.{front_less}
use Rattle.tx_text.proofs.strip.front_trimmed.Goals as goal

pub front-preserved : goal.front-preserved
front-preserved c =
    let p = is_taken (option_map (λ t. chars t.now) c.args.of) in
    (search rules, c.front.invariant.1 ∙ front_less p (chars c.front.rest.now) (chars c.in-Some.more.now) c.in-Some.c c.in-Some.ensures.value (sym c.is_taken.ensures ∙ c.if-not-is_taken.false))
