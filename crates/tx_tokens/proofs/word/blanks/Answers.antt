use Rattle.std.proofs.Common.{◌≡◌, ◌∙◌, rules, sym, arith, true}
use Rattle.std.specs.Str.{chars}
use Rattle.tx_tokens.specs.Pieces.{is_blank}
use Rattle.tx_tokens.proofs.Slices.{dropped_more}
use Rattle.tx_tokens.proofs.WordLemmas.{count_more}
use Rattle.tx_tokens.proofs.word.blanks.Goals as goal

pub blanks-preserved : goal.blanks-preserved
blanks-preserved c =
    let e = c.in-Some.ensures.value in
    let t : is_blank c.in-Some.c ≡ true = sym c.is_blank.ensures ∙ c.if-not-is_blank.false in (
      search rules,
      omega (arith, count_more is_blank (chars c.blanks.rest.now) (chars c.in-Some.more.now) c.in-Some.c e t, c.blanks.invariant.1),
      dropped_more (chars c.args.text.now) (chars c.blanks.rest.now) (chars c.in-Some.more.now) c.in-Some.c c.blanks.size e c.blanks.invariant.2,
      omega (arith, c.in-Some.ensures.shorter, c.blanks.invariant.3),
    )
