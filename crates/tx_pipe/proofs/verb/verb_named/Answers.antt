use Rattle.std.proofs.Common.{◌∙◌}
use Rattle.tx_pipe.proofs.Words.{verb_at-bytes}
use Rattle.tx_pipe.proofs.verb.verb_named.Goals as goal

pub returns : goal.returns
returns c = c.verb_of_bytes.ensures ∙ verb_at-bytes _ c.args.word.now c.as_str.ensures.bytes c.as_str.ensures.chars
