use Rattle.std.proofs.Common.{nat_eq}
use Rattle.tx_tree.specs.Words.{same_text}
use Rattle.tx_meaning.proofs.Rewriting.{calls}
use Rattle.tx_meaning.proofs.laws.defs_see_their_arguments_alone.Goals as goal

pub returns : goal.returns
returns c = record { names = calls same_text; slots = calls nat_eq }
