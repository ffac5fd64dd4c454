use Rattle.std.proofs.Common.{◌≢◌, ◌+◌, ◌++◌, refl}
use Rattle.std.specs.Str.{chars}
use Rattle.tx_tokens.specs.Pieces.{cuts}
use Rattle.tx_tokens.specs.Layout.{cut_events, end_events, front_behind, front_events, line_events}
use Rattle.tx_tokens.specs.Calls.Reading.{Failed, state_of}
use Rattle.tx_tokens.specs.declared.token.TokenError.TheVariants.{NoMemory}
use Rattle.tx_tokens.proofs.EventLemmas.{failed_first, handed_on, line_gave, line_state, pieces_fail}
use Rattle.tx_tokens.proofs.reader.Reader.line.Goals as goal

pub returns-in_err-begin-clause-failed : goal.returns-in_err-begin-clause-failed
returns-in_err-begin-clause-failed c =
    let a = c.args.self.now in
    let content = chars c.args.content.now in
    handed_on c.from_residual.result c.in_err-begin.field-0.0 (λ e. e ≢ NoMemory → Failed a (line_events (state_of a) content) e) c.from_residual.ensures.1
    (λ n. failed_first a (front_events (state_of a) (front_behind (state_of a) content)) (cut_events a.line a.place a.opened (cuts content) ++ end_events (state_of a) content) c.in_err-begin.field-0.0 (c.in_err-begin.ensures.failed n))

pub returns-in_err-pieces-clause-failed : goal.returns-in_err-pieces-clause-failed
returns-in_err-pieces-clause-failed c =
    let a = c.args.self.now in
    let content = chars c.args.content.now in
    handed_on c.from_residual-in_err-pieces.result c.in_err-pieces.field-0.0 (λ e. e ≢ NoMemory → Failed a (line_events (state_of a) content) e) c.from_residual-in_err-pieces.ensures.1
    (λ n. pieces_fail a c.begin.new.self content c.in_ok-begin.ensures.state c.in_err-pieces.field-0.0 c.in_ok-begin.ensures.gave (c.in_err-pieces.ensures.failed n))

pub returns-clause-gave : goal.returns-clause-gave
returns-clause-gave c =
    let d = c.end.new.self in
    line_gave c.args.self.now c.begin.new.self (chars c.args.content.now) c.in_ok-begin.ensures.state c.pieces.new.self d (record d { place = d.place + c.args.ending; line = d.line + 1 }) c.gives_nothing-nothing.result c.args.ending
    c.gives_nothing-nothing.ensures c.in_ok-pieces.ensures.state c.in_ok-end.ensures.state refl c.in_ok-begin.ensures.gave c.in_ok-pieces.ensures.gave c.in_ok-end.ensures.gave

pub returns-clause-state : goal.returns-clause-state
returns-clause-state c =
    let d = c.end.new.self in
    line_state c.args.self.now c.begin.new.self (chars c.args.content.now) c.in_ok-begin.ensures.state c.pieces.new.self d (record d { place = d.place + c.args.ending; line = d.line + 1 }) c.gives_nothing-nothing.result c.args.ending
    c.gives_nothing-nothing.ensures c.in_ok-pieces.ensures.state c.in_ok-end.ensures.state refl
