use Rattle.tx_parse.proofs.Covers.{begin_at_lines}
use Rattle.tx_parse.proofs.laws.blocks_begin_at_lines.Goals as goal

pub returns : goal.returns
returns c = begin_at_lines
