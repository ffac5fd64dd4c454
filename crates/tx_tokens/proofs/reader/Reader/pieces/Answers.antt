use Rattle.std.proofs.Common.{◌≢◌, ◌∙◌, rules, ap, arith}
use Rattle.std.specs.Str.{chars}
use Rattle.tx_tokens.specs.Pieces.{cuts}
use Rattle.tx_tokens.specs.Layout.{cut_events}
use Rattle.tx_tokens.specs.Calls.Reading.{Failed}
use Rattle.tx_tokens.specs.declared.token.TokenError.TheVariants.{NoMemory}
use Rattle.tx_tokens.proofs.EventLemmas.{handed_on, piece_failed, piece_gave, state_on}
use Rattle.tx_tokens.proofs.PieceLemmas.{cuts_is, piece_size, piece_some}
use Rattle.tx_tokens.proofs.reader.Reader.pieces.Goals as goal

pub piece-requires : goal.piece-requires
piece-requires c =
    let sizes = piece_size c.in-Some.first (chars c.in-Some.behind.now) (chars c.pieces.rest.now) (chars c.in_ok-piece.more.now) c.in_ok-piece.size c.in_ok-piece.piece c.in-Some.ensures.value c.in_ok-piece.ensures in
    omega (arith, sizes, c.pieces.invariant.3, c.requires)

pub returns-in_err-piece-2-clause-failed : goal.returns-in_err-piece-2-clause-failed
returns-in_err-piece-2-clause-failed c =
    let is = cuts_is c.in-Some.first (chars c.in-Some.behind.now) (chars c.pieces.rest.now) (chars c.in_ok-piece.more.now) c.in_ok-piece.size c.in-Some.ensures.value c.in_ok-piece.piece c.in_ok-piece.ensures in
    handed_on c.from_residual-in_err-piece-2.result c.in_err-piece-2.field-0.0
    (λ e. e ≢ NoMemory → Failed c.args.self.now (cut_events c.args.self.now.line c.args.self.now.place c.args.self.now.opened (cuts (chars c.args.content.now))) e)
    c.from_residual-in_err-piece-2.ensures.1
    (λ n es. c.pieces.invariant.1 es ∙ piece_failed c.pieces.self (chars c.pieces.rest.now) (chars c.in_ok-piece.more.now) c.in_ok-piece.piece c.in_ok-piece.size c.in_err-piece-2.field-0.0 is (c.in_err-piece-2.ensures.failed n) es)

pub pieces-smaller : goal.pieces-smaller
pieces-smaller c =
    let sizes = piece_size c.in-Some.first (chars c.in-Some.behind.now) (chars c.pieces.rest.now) (chars c.in_ok-piece.more.now) c.in_ok-piece.size c.in_ok-piece.piece c.in-Some.ensures.value c.in_ok-piece.ensures in
    let some = piece_some c.in-Some.first (chars c.in-Some.behind.now) (chars c.pieces.rest.now) (chars c.in_ok-piece.more.now) c.in_ok-piece.size c.in_ok-piece.piece c.in-Some.ensures.value c.in_ok-piece.ensures in
    omega (arith, sizes, some)

pub pieces-preserved : goal.pieces-preserved
pieces-preserved c =
    let text = chars c.pieces.rest.now in
    let rest = chars c.in_ok-piece.more.now in
    let piece = c.in_ok-piece.piece in
    let size = c.in_ok-piece.size in
    let is = cuts_is c.in-Some.first (chars c.in-Some.behind.now) text rest size c.in-Some.ensures.value piece c.in_ok-piece.ensures in
    let sizes = piece_size c.in-Some.first (chars c.in-Some.behind.now) text rest size piece c.in-Some.ensures.value c.in_ok-piece.ensures in
    let moved = c.in_ok-piece-2.ensures.state in (
      search rules,
      (λ es. c.pieces.invariant.1 es ∙ piece_gave c.pieces.self c.piece.new.self text rest piece size is moved c.in_ok-piece-2.ensures.gave es),
      c.pieces.invariant.2 ∙ state_on c.pieces.self c.piece.new.self text rest piece size is moved sizes,
      omega (arith, ap (λ s. s.place) moved, sizes, c.pieces.invariant.3),
    )
