use Rattle.std.proofs.Common.{◌≡◌, drop}
use Rattle.tx_tree.specs.Spell.{texts_of}
use Rattle.tx_tree.specs.Form.{are_names}
use Rattle.tx_tree.proofs.form.are_named.Given as goal

abbrev pub invariant-loop-word : goal.invariant-loop-word
invariant-loop-word l = are_names (texts_of (drop l.word-index l.words)) ≡ are_names (texts_of l.words)
