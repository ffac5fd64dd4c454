use Rattle.std.proofs.Common.{length, ap, sym}
use Rattle.std.proofs.lemmas.Str.{chars-IsAscii}
use Rattle.tx_text.proofs.search.place_behind.Goals as goal

pub returns-then-single : goal.returns-then-single
returns-then-single c = ap length (sym (chars-IsAscii c.args.front.now (c.requires c.if-single.true)))
