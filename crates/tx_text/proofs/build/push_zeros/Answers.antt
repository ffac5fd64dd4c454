use Rattle.tx_text.proofs.Builds.{zeros_are, zeros_long}
use Rattle.tx_text.proofs.build.push_zeros.Goals as goal

pub text_between-requires-clause-counted : goal.text_between-requires-clause-counted
text_between-requires-clause-counted c = zeros_long _ c.zeros-2.ensures

pub returns : goal.returns
returns c = zeros_are c.args.count _ _ c.args.made.now _ _ _ c.zeros.ensures c.zeros-2.ensures c.in_ok-push_copies.ensures c.text_between.ensures c.in_ok-push_str.ensures
