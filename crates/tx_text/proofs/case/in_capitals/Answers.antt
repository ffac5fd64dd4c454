use Rattle.std.proofs.Common.{◌∙◌, List, ℕ, sym, ap, flat_map, map-id}
use Rattle.std.proofs.lemmas.Iterator.{YieldsList-from_chars}
use Rattle.std.proofs.lemmas.Iterator.Consumers.{YieldsList-end}
use Rattle.tx_text.specs.Text.{upper_char}
use Rattle.tx_text.proofs.case.in_capitals.Goals as goal

pub returns : goal.returns
returns c =
    let t = YieldsList-end (YieldsList-from_chars c.args.text.now c.utf8.text cc) c.loop-c.yielded _ c.loop-c.yielded_by _ _ c.in-None.is c.next.ensures.steps in
    c.done.ensures ∙ c.loop-c.invariant ∙ ap (λ (done : List ℕ). flat_map upper_char done) (sym (map-id c.loop-c.yielded) ∙ t.0)
