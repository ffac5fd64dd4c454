use Rattle.std.proofs.Common.{◌∙◌, Some, ap, sym}
use Rattle.tx_text.proofs.OneByte.{IsAscii-tested}
use Rattle.tx_text.proofs.Splits.{IsAscii-last, split_last_none, split_last_place}
use Rattle.tx_text.proofs.search.find_last.Goals as goal

pub place_behind-requires : goal.place_behind-requires
place_behind-requires c =
    λ t. IsAscii-last c.args.part.now c.args.text.now c.in_ok-front.front c.in_ok-front.field-0-1 (IsAscii-tested c.args.text.now c.args.count c.utf8.text c.requires t) c.in_ok-front.ensures.cases

pub returns-in_err-front : goal.returns-in_err-front
returns-in_err-front c = c.from_residual.ensures ∙ sym (split_last_none c.args.part.now c.args.text.now c.utf8.part c.utf8.text c.in_err-front.ensures.cases)

pub returns : goal.returns
returns c =
    ap Some c.place_behind.ensures ∙ sym (split_last_place c.args.part.now c.args.text.now c.utf8.part c.utf8.text c.in_ok-front.front c.in_ok-front.field-0-1 c.in_ok-front.ensures.cases)
