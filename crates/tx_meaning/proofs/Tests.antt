-- Tests joined by `&&`.
use Rattle.std.proofs.Common.{◌≡◌, refl, sym, Bool, true, false, ◌&&◌}
use Rattle.std.proofs.lemmas.Bool.{true≢false}

pub left : {a : Bool} (b : Bool) → (a && b) ≡ true → a ≡ true
left {a = true} b h = refl
left {a = false} b h = h

pub right : (a : Bool) {b : Bool} → (a && b) ≡ true → b ≡ true
right true h = h
right false h = absurd (true≢false (sym h))
