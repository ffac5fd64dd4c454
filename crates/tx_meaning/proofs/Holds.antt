-- Answers of which a property holds where they are values.
use Rattle.std.proofs.Common.{◌≡◌, Ok, Err, refl, Bool, true, false, if◌then◌else◌}
use Rattle.std.specs.Prelude.{IfOk, ⊤}
use Rattle.tx_base.specs.declared.class.Class.{Class}
use Rattle.tx_values.specs.Answer.{Answer, ◌>>=◌}

-- as a record, so that antt sees what it is of
pub record Holds {A : Type 0} (P : A → Type 0) (o : Answer A) : Type 0 where
  pub of : IfOk o P

pub given : {A : Type 0} {P : A → Type 0} {a : A} → P a → Holds P (Ok a)
given h = record { of = h }

pub raised : {A : Type 0} {P : A → Type 0} {c : Class} → Holds P (Err c)
raised = record { of = tt }

pub anything : {A : Type 0} (o : Answer A) → Holds (λ a. ⊤) o
anything (Ok a) = record { of = tt }
anything (Err c) = record { of = tt }

-- one answer, and then what holds of the values that it may be
pub go : {A B : Type 0} {P : A → Type 0} {Q : B → Type 0} {o : Answer A} {f : A → Answer B} → Holds P o → ((a : A) → P a → Holds Q (f a)) → Holds Q (o >>= f)
go {P = P} {Q = Q} {o = o} {f = f} h k = after o h.of
  where
    after : (u : Answer _) → IfOk u P → Holds Q (u >>= f)
    after (Ok a) e = k a e
    after (Err c) e = record { of = tt }

pub choose : {A : Type 0} {P : A → Type 0} {o u : Answer A} (b : Bool) → Holds P o → Holds P u → Holds P (if b then o else u)
choose true h k = h
choose false h k = k

pub from_ok : {A : Type 0} (P : A → Type 0) (o : Answer A) → ((a : A) → o ≡ Ok a → P a) → Holds P o
from_ok P (Ok a) k = record { of = k a refl }
from_ok P (Err c) k = record { of = tt }
