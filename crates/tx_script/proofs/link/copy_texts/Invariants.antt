use Rattle.std.proofs.Common.{◌≡◌, ◌++◌, drop}
use Rattle.tx_script.proofs.link.copy_texts.Given as goal

abbrev pub invariant-loop-text : goal.invariant-loop-text
invariant-loop-text l = l.done ++ drop l.text-index l.texts ≡ l.texts
