use Rattle.tx_text.proofs.Builds.{some_bytes, some_from_length}
use Rattle.tx_text.proofs.text.PyText.replace.Goals as goal

pub replaced_fits-requires : goal.replaced_fits-requires
replaced_fits-requires c = some_from_length c.args.old.now c.len.result c.len.ensures c.if-len-eq0.false

pub with_replaced-requires : goal.with_replaced-requires
with_replaced-requires c =
    some_bytes _ c.args.old.now c.as_str-2.ensures.chars (some_from_length c.args.old.now c.len.result c.len.ensures c.if-len-eq0.false)
