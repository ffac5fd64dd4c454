use Rattle.tx_pipe.proofs.Words.{class_is}
use Rattle.tx_pipe.proofs.verb.class_at.Goals as goal

pub returns : goal.returns
returns c = class_is _ _ c.args.word.now c.class_named.ensures c.as_str.ensures.bytes c.as_str.ensures.chars
