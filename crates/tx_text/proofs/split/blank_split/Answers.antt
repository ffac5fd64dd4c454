use Rattle.std.proofs.Common.{◌≡◌, ◌∙◌, ◌-◌, ◌∷◌, [], ◌++◌, true, false, IsUtf8, ap, arith, drop, drop_at, length, refl, rules, sym, take, take_at}
use Rattle.std.specs.Str.{chars}
use Rattle.std.proofs.lemmas.Slice.{between_from_start}
use Rattle.tx_text.specs.Text.{is_blank, split_where}
use Rattle.tx_text.proofs.Parts.{IsCharBoundary-front, chars-front}
use Rattle.tx_text.proofs.Words.{front_more, onto_nothing, split_here, split_more}
use Rattle.tx_text.proofs.split.blank_split.Goals as goal

pub characters-init : goal.characters-init
characters-init c = (search rules, omega arith, [], refl, sym (onto_nothing is_blank (chars c.args.text.now)))

pub characters-preserved : goal.characters-preserved
characters-preserved c =
    let inv = c.characters.invariant in
    let off : is_blank c.in-Some.c ≡ false = sym c.is_blank.ensures ∙ c.if-is_blank.false in (
      search rules,
      omega (arith, inv.1, c.in-Some.ensures.shorter),
      inv.2 ++ c.in-Some.c ∷ [],
      front_more (chars c.args.text.now) inv.2 (chars c.characters.rest.now) (chars c.in-Some.behind.now) c.in-Some.c c.in-Some.ensures.value inv.3,
      split_more is_blank (chars c.args.text.now) inv.2 (chars c.characters.rest.now) (chars c.in-Some.behind.now) c.in-Some.c c.in-Some.ensures.value off inv.4,
    )

pub range-requires-clause-end_boundary : goal.range-requires-clause-end_boundary
range-requires-clause-end_boundary c =
    let inv = c.characters.invariant in
    let rest : IsUtf8 c.characters.rest.now = search rules in
    let behind : chars c.characters.rest.now ≡ drop (length inv.2) (chars c.args.text.now) =
    sym (ap (drop (length inv.2)) inv.3 ∙ drop_at inv.2 (chars c.characters.rest.now) (length inv.2) refl) in
    IsCharBoundary-front c.args.text.now c.characters.rest.now (length inv.2) c.utf8.text rest behind

pub returns-then-is_blank-clause-some : goal.returns-then-is_blank-clause-some
returns-then-is_blank-clause-some c =
    let inv = c.characters.invariant in
    let rest : IsUtf8 c.characters.rest.now = search rules in
    let on : is_blank c.in-Some.c ≡ true = sym c.is_blank.ensures ∙ c.if-is_blank.true in
    let behind : chars c.characters.rest.now ≡ drop (length inv.2) (chars c.args.text.now) =
    sym (ap (drop (length inv.2)) inv.3 ∙ drop_at inv.2 (chars c.characters.rest.now) (length inv.2) refl) in
    let front : chars c.range.result.now ≡ take (length inv.2) (chars c.args.text.now) =
    chars-front c.args.text.now c.characters.rest.now c.range.result.now (length inv.2) c.utf8.text rest c.range.utf8 behind
    (c.range.ensures.value ∙ between_from_start c.args.text.now (length c.args.text.now - length c.characters.rest.now)) in
    let same : chars c.range.result.now ≡ inv.2 =
    front ∙ (ap (take (length inv.2)) inv.3 ∙ take_at inv.2 (chars c.characters.rest.now) (length inv.2) refl) in
    split_here is_blank (chars c.args.text.now) inv.2 (chars c.characters.rest.now) (chars c.in-Some.behind.now) c.in-Some.c c.in-Some.ensures.value on inv.4
    ∙ ap (λ t. t ∷ split_where is_blank (chars c.in-Some.behind.now)) (sym same)
