-- Entries by operator.
use Rattle.std.proofs.Common.{◌≡◌, ℕ, suc, ◌+◌, ◌-◌, ◌<◌, ◌≤◌, ◌==◌, ◌++◌, List, [], filter, refl, sym, ap, ◌∙◌, arith, append_assoc}
use Rattle.tx_report.specs.declared.report.Entry.{Entry}
use Rattle.tx_plain.specs.Laws.{by_operator}

-- those of an operator in front of those of the operators behind it
pub by_operator-next : (number turn count : ℕ) (all : List Entry) → turn < count
    → filter (λ entry. entry.operator == number + turn) all ++ by_operator (number + (turn + 1)) (count - (turn + 1)) all ≡ by_operator (number + turn) (count - turn) all
by_operator-next number turn count all h =
    let e : count - turn ≡ suc (count - (turn + 1)) = omega (arith, h) in
    let f : number + (turn + 1) ≡ number + turn + 1 = omega arith in
    ap (λ (k : ℕ). filter (λ entry. entry.operator == number + turn) all ++ by_operator k (count - (turn + 1)) all) f
    ∙ sym (ap (λ (k : ℕ). by_operator (number + turn) k all) e)

pub by_operator-none : (number turn count : ℕ) (all : List Entry) → count ≤ turn → by_operator number (count - turn) all ≡ []
by_operator-none number turn count all h = let e : count - turn ≡ 0 = omega (arith, h) in ap (λ (k : ℕ). by_operator number k all) e

pub ruleset ordering = (by_operator-next, by_operator-none, append_assoc)
