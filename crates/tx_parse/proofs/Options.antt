-- Answers of readers taken apart, and tests.
use Rattle.std.proofs.Common.{◌≡◌, Bool, true, false, ◌&&◌, List, Option, Some, None, Result, Ok, Err, OnOk, refl, ap}
use Rattle.tx_parse.specs.Lexemes.{Lexeme}
use Rattle.tx_parse.specs.Calls.Reader.{Reader, and_read, when, given}

-- both steps of two have an answer
pub record Both {A B : Type 0} (o : Option (A × List Lexeme)) (f : A → Reader B) (b : B) (r : List Lexeme) : Type 0 where
  pub first_one : A
  pub between : List Lexeme
  pub before : o ≡ Some (first_one, between)
  pub after : f first_one between ≡ Some (b, r)

pub both_of : {A B : Type 0} (o : Option (A × List Lexeme)) (f : A → Reader B) (b : B) (r : List Lexeme) → and_read o f ≡ Some (b, r) → Both o f b r
both_of None f b r h = cc
both_of (Some p) f b r h = record { first_one = p.0; between = p.1; before = refl; after = h }

-- the test holds, and the answer is that behind it
pub record Held {A : Type 0} (b : Bool) (x : Option A) (y : A) : Type 0 where
  pub yes : b ≡ true
  pub gives : x ≡ Some y

pub held : {A : Type 0} (b : Bool) (x : Option A) (y : A) → when b x ≡ Some y → Held b x y
held true x y h = record { yes = refl; gives = h }
held false x y h = cc

pub one_some : {A : Type 0} (p q : A) → Some p ≡ Some q → p ≡ q
one_some p q h = cc

-- what is given is that, and nothing is read
pub record Given {A : Type 0} (o : Option A) (x : A) (ts r : List Lexeme) : Type 0 where
  pub gives : o ≡ Some x
  pub same : ts ≡ r

pub given_of : {A : Type 0} (o : Option A) (ts : List Lexeme) (x : A) (r : List Lexeme) → given o ts ≡ Some (x, r) → Given o x ts r
given_of None ts x r h = cc
given_of {A = A} (Some y) ts x r h =
    let e : ◌≡◌ {A = A × List Lexeme} (y, ts) (x, r) = one_some _ _ h in
    record { gives = ap (λ (p : A × List Lexeme). Some p.0) e; same = ap (λ (p : A × List Lexeme). p.1) e }

pub and_both : (a b : Bool) → a ≡ true → b ≡ true → (a && b) ≡ true
and_both true b x y = y
and_both false b x y = x

pub and_left : (a b : Bool) → (a && b) ≡ true → a ≡ true
and_left true b h = refl
and_left false b h = h

pub and_right : (a b : Bool) → (a && b) ≡ true → b ≡ true
and_right true b h = h
and_right false b h = cc

pub on_ok : {A E : Type 0} (x : Result A E) {P : Type 0} → P → OnOk x P
on_ok (Ok a) p = p
on_ok (Err e) p = tt
