use Rattle.std.proofs.Common.{◌∙◌, sym, ap, Some, None}
use Rattle.std.proofs.lemmas.Iterator.{YieldsList-from_chars}
use Rattle.std.proofs.lemmas.Iterator.Adapters.{option_map_id}
use Rattle.std.proofs.lemmas.Iterator.Consumers.{nth_from_yields_List}
use Rattle.std.proofs.lemmas.Option.{slice_get-get_or, slice_get_past}
use Rattle.tx_text.proofs.OneByte.{byte_at}
use Rattle.tx_text.proofs.points.char_at.Goals as goal

pub returns-then-count-text : goal.returns-then-count-text
returns-then-count-text c =
    sym (option_map_id _) ∙ nth_from_yields_List _ _ c.args.at c.nth.ensures.ran (YieldsList-from_chars _ c.utf8.text cc)

pub returns-in_err-byte : goal.returns-in_err-byte
returns-in_err-byte c =
    c.from_residual.ensures ∙ byte_at c.args.text.now c.as_bytes.result.now c.args.count c.args.at None c.utf8.text c.requires c.if-count-text.false c.as_bytes.ensures.value
    (sym (slice_get_past c.as_bytes.result.now c.args.at c.in_err-byte.ensures.lookup.3))

pub returns : goal.returns
returns c =
    let read = c.in_ok-byte.ensures.lookup.3 in
    ap Some c.from.ensures
    ∙ byte_at c.args.text.now c.as_bytes.result.now c.args.count c.args.at (Some c.in_ok-byte.byte.now) c.utf8.text c.requires c.if-count-text.false c.as_bytes.ensures.value
    (ap Some (read.1 0) ∙ sym (slice_get-get_or c.as_bytes.result.now c.args.at 0 read.0))
