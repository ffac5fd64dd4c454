use Rattle.std.proofs.Common.{refl, ap, ◌∙◌, nat_le}
use Rattle.tx_methods.proofs.TextLists as lists
use Rattle.tx_methods.proofs.limits.characters_fit.Goals as goal

pub returns : goal.returns
returns c = ap (λ n. nat_le n 524288) c.len.ensures ∙ lists.characters_fit c.args.text.now 524288 refl
