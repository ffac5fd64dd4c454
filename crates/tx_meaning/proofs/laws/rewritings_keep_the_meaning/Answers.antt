use Rattle.std.proofs.Common.{nat_eq}
use Rattle.tx_tree.specs.Words.{same_text}
use Rattle.tx_meaning.proofs.Rewriting.{rewritings}
use Rattle.tx_meaning.proofs.laws.rewritings_keep_the_meaning.Goals as goal

pub returns : goal.returns
returns c = record { names = rewritings same_text; slots = rewritings nat_eq }
