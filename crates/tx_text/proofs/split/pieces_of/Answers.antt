use Rattle.std.proofs.Common.{rules}
use Rattle.tx_text.proofs.Pieces.{chars-some, found_all, found_more}
use Rattle.tx_text.proofs.split.pieces_of.Goals as goal

pub cuts-preserved : goal.cuts-preserved
cuts-preserved c =
    let sep = chars-some c.args.sep.now c.utf8.sep c.requires in (
      search rules,
      found_more _ _ _ _ _ _ _ _ sep c.in-Some.ensures.some c.cuts.invariant.1 c.in_ok-from_str.ensures c.in_ok-push.ensures.ok,
    )

pub returns : goal.returns
returns c =
    found_all _ _ _ _ _ _ (c.first_split.ensures.none c.in_default.is) c.cuts.invariant.1 c.in_ok-from_str-2.ensures c.in_ok-push-2.ensures.ok
