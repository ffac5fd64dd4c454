use Rattle.std.proofs.Common.{◌≡◌, map, IfOk, subst}
use Rattle.tx_script.specs.Calls.View.{entry_view}
use Rattle.tx_script.proofs.Added.{files_are}
use Rattle.tx_script.proofs.files.output_is_input.Goals as goal

pub returns : goal.returns
returns c = subst (λ w. IfOk c.overwriting_in.result (λ o. o ≡ w)) (files_are c.args.own.now (map entry_view c.args.entries.now) c.in_ok-files.files c.in_ok-files.ensures) c.overwriting_in.ensures
