use Rattle.tx_text.proofs.Builds.{copies_step}
use Rattle.tx_text.proofs.build.push_copies.Goals as goal

pub copies-preserved : goal.copies-preserved
copies-preserved c = copies_step _ _ _ _ _ c.copies.invariant c.in_ok-push_str.ensures
