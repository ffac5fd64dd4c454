use Rattle.std.proofs.Common.{rules, arith}
use Rattle.std.specs.Str.{chars}
use Rattle.tx_text.proofs.Pieces.{chars-some, counted_all, counted_more}
use Rattle.tx_text.proofs.search.occurrences.Goals as goal

pub places-preserved : goal.places-preserved
places-preserved c =
    let part = chars-some c.args.part.now c.utf8.part c.requires in (
      search rules,
      omega (arith, c.places.invariant.1, c.in-Some.ensures.shorter),
      counted_more _ _ _ _ _ _ part c.in-Some.ensures.some c.places.invariant.2,
    )

pub returns : goal.returns
returns c =
    counted_all (chars c.args.part.now) (chars c.places.rest.now) _ _ (c.first_split.ensures.none c.in_default.is) c.places.invariant.2
