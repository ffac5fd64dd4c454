use Rattle.std.proofs.Common.{◌++◌, ap, ◌∙◌}
use Rattle.std.specs.Str.{chars}
use Rattle.tx_script.specs.Checks.{report_suffix}
use Rattle.tx_script.proofs.Suffix.{suffix_is}
use Rattle.tx_script.proofs.files.report_name.Goals as goal

pub returns : goal.returns
returns c = c.in_ok-push_str.ensures.ok ∙ ap (λ t. t ++ chars report_suffix) c.in_ok-name.ensures ∙ ap (λ t. c.args.output.now ++ t) suffix_is
