use Rattle.tx_tree.proofs.Lines.{spell_bare_block, depth_bare_block, well_formed_bare}
use Rattle.tx_tree.proofs.laws.lines_are_left_out.Goals as goal

pub returns : goal.returns
returns c = record { same_spelling = spell_bare_block; same_depth = depth_bare_block; same_form = well_formed_bare }
