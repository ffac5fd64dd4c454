use Rattle.std.proofs.Common.{◌≡◌, None, sym, ◌∙◌, subst}
use Rattle.std.specs.Prelude.{position}
use Rattle.tx_values.specs.Equality.{equal}
use Rattle.tx_interp.proofs.EntryLemmas.{entered_new}
use Rattle.tx_interp.proofs.entries.enter.Goals as goal

pub returns-in_ok-push_pair-in-None : goal.returns-in_ok-push_pair-in-None
returns-in_ok-push_pair-in-None c =
    let none : None ≡ position (λ p. equal c.args.key.now p.0) c.args.entries.now.items = subst (λ ps. None ≡ position (λ p. equal c.args.key.now p.0) ps) c.as_slice.ensures.value c.in-None.ensures in
    c.in_ok-push_pair-in-None.ensures ∙ sym (entered_new c.args.key.now c.args.new.now c.args.entries.now.items none)
