use Rattle.std.proofs.Common.{◌∙◌, ◌+◌, ◌-◌, ◌*◌, ◌^◌, ◌≤◌, ap, arith, min}
use Rattle.tx_methods.proofs.TextLists.{cuts_within, pieces_told}
use Rattle.tx_methods.proofs.splits.pieces_fit.Goals as goal

pub overflow_mul-cut_off : goal.overflow_mul-cut_off
overflow_mul-cut_off c =
    let within : c.count-cuts.result * c.len-each.result ≤ c.len-length.result =
    rw (c.count-cuts.ensures, c.len-each.ensures, c.len-length.ensures) (cuts_within c.pieces_are_the_text.ensures c.counts_are_of_pieces.ensures c.args.sep.now c.args.text.now c.requires) in
    omega arith

pub overflow_sub-characters : goal.overflow_sub-characters
overflow_sub-characters c =
    let within : c.count-cuts.result * c.len-each.result ≤ c.len-length.result =
    rw (c.count-cuts.ensures, c.len-each.ensures, c.len-length.ensures) (cuts_within c.pieces_are_the_text.ensures c.counts_are_of_pieces.ensures c.args.sep.now c.args.text.now c.requires) in
    omega arith

pub returns : goal.returns
returns c =
    pieces_told c.pieces_are_the_text.ensures c.counts_are_of_pieces.ensures c.args.sep.now c.args.text.now c.requires
    _ _ _ _ c.count-cuts.ensures c.len-each.ensures c.len-length.ensures
    (c.saturating_add-2.ensures ∙ ap (λ k. min (k + (c.len-length.result - c.count-cuts.result * c.len-each.result)) (2 ^ 64 - 1)) c.saturating_add.ensures)
