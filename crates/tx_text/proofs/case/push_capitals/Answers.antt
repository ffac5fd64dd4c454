use Rattle.std.proofs.Common.{◌≡◌, ◌++◌, List, ℕ, OnOk, subst}
use Rattle.tx_text.proofs.Cases.{sharp_s}
use Rattle.tx_text.proofs.case.push_capitals.Goals as goal

pub returns-in-223 : goal.returns-in-223
returns-in-223 c = subst (λ (t : List ℕ). OnOk c.push_str.result (c.push_str.new.self ≡ c.args.text.now ++ t)) (sharp_s c.args.c c.in-223.is) c.push_str.ensures
