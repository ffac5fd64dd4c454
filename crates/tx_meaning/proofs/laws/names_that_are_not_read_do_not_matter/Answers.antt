use Rattle.std.proofs.Common.{nat_eq}
use Rattle.std.specs.Cmp.Lexicographic.{bytes_decides}
use Rattle.std.proofs.lemmas.Bool.Decides.{Decides-eqb}
use Rattle.tx_tree.specs.Words.{same_text}
use Rattle.tx_meaning.proofs.Reading.{reading}
use Rattle.tx_meaning.proofs.laws.names_that_are_not_read_do_not_matter.Goals as goal

pub returns : goal.returns
returns c = record { names = reading same_text bytes_decides; slots = reading nat_eq Decides-eqb }
