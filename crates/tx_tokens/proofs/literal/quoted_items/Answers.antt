use Rattle.std.proofs.Common.{◌∙◌, ◌+◌, rules, sym, ap, arith}
use Rattle.std.specs.Str.{chars}
use Rattle.tx_tokens.specs.Pieces.{quoted}
use Rattle.tx_tokens.specs.Calls.Walking.{quoted_behind}
use Rattle.tx_tokens.proofs.LiteralLemmas.{in_more}
use Rattle.tx_tokens.proofs.Slices.{dropped_by, dropped_more}
use Rattle.tx_tokens.proofs.literal.quoted_items.Goals as goal

pub returns-then-c-quote-clause-rest : goal.returns-then-c-quote-clause-rest
returns-then-c-quote-clause-rest c = dropped_more (chars c.args.text.now) (chars c.items.rest.now) (chars c.in-Some.more.now) c.in-Some.c c.items.size c.in-Some.ensures.value c.items.invariant.2

pub items-smaller : goal.items-smaller
items-smaller c = omega (arith, c.in-Some.ensures.shorter, c.in-Some-item.ensures.size, c.in-Some-item.ensures.written)

pub items-preserved : goal.items-preserved
items-preserved c =
    let q = c.args.quote in
    let rest = quoted q (chars c.in-Some-item.behind.now) in
    let item = c.in-Some-item.ensures.some q c.if-c-quote.false in (
      search rules,
      ap (λ v. quoted_behind v (c.items.size + c.in-Some-item.count) rest) c.in_ok-push.ensures.ok
          ∙ (in_more c.items.value c.items.size c.in-Some-item.count c.in-Some-item.meant rest
          ∙ (ap (quoted_behind c.items.value c.items.size) (sym (ap (quoted q) c.in-Some.ensures.value ∙ item)) ∙ c.items.invariant.1)),
      dropped_by (chars c.args.text.now) (chars c.items.rest.now) (chars c.in-Some.more.now) (chars c.in-Some-item.behind.now) c.in-Some.c c.items.size c.in-Some-item.count c.in-Some.ensures.value c.items.invariant.2 c.in-Some-item.ensures.rest,
      omega (arith, c.in-Some.ensures.shorter, c.in-Some-item.ensures.size, c.items.invariant.3),
    )
