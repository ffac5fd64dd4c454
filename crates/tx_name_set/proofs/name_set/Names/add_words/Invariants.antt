use Rattle.std.proofs.Common.{◌≡◌, drop}
use Rattle.tx_tree.specs.Spell.{texts_of}
use Rattle.tx_name_set.specs.NameSet.{add_all}
use Rattle.tx_name_set.proofs.name_set.Names.add_words.Given as goal

abbrev pub invariant-loop-word : goal.invariant-loop-word
invariant-loop-word l = add_all l.self (texts_of (drop l.word-index l.words)) ≡ add_all l.fn.self (texts_of l.words)
