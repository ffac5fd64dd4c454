use Rattle.std.proofs.Common.{◌≡◌, ◌∙◌, None, reverse, rules, sym, ap}
use Rattle.std.specs.Prelude.{slice_get}
use Rattle.std.specs.List.{last_or}
use Rattle.tx_tokens.proofs.StackLemmas.{first_pushed}
use Rattle.tx_tokens.proofs.stack.Stack.first.Goals as goal

pub returns : goal.returns
returns g c =
    let item : c.copied.result ≡ slice_get c.self.inside.items.items 0 = search rules in
    let seen : c.args.self.now ≡ reverse c.self.inside.items.items = search rules in
    item ∙ (sym (first_pushed c.self.inside.items.items) ∙ ap (last_or None) (sym seen))
