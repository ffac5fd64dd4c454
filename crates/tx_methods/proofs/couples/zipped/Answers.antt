use Rattle.std.proofs.Common.{◌≡◌, ◌∙◌, ◌++◌, [], drop, map, zip, sym, ap, arith}
use Rattle.std.proofs.lemmas.List.{append-nil}
use Rattle.tx_methods.specs.Walks.{couple}
use Rattle.tx_methods.proofs.Zips.{zip_end}
use Rattle.tx_methods.proofs.couples.zipped.Goals as goal

pub returns : goal.returns
returns c =
    let none : zip (drop c.loop-at.at c.args.lefts.now) (drop c.loop-at.at c.args.rights.now) ≡ [] = zip_end c.args.lefts.now c.args.rights.now c.loop-at.at (omega arith) in
    c.from_vec.ensures ∙ sym (append-nil c.loop-at.made.items) ∙ ap (λ pairs. c.loop-at.made.items ++ map couple pairs) (sym none) ∙ c.loop-at.invariant
