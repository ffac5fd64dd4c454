-- What an operation on values answers: a value, or the class that is raised.
use Rattle.std.specs.Prelude.{Result, Ok, Err}
use Rattle.tx_base.specs.declared.class.Class.{Class}

abbrev pub Answer : Type 0 → Type 0
Answer A = Result A Class

-- one operation and then another on what it gave; the first class that is raised is the answer
infixl 10 ◌>>=◌
abbrev pub ◌>>=◌ : {A B : Type 0} → Answer A → (A → Answer B) → Answer B
Ok x >>= f = f x
Err class >>= f = Err class
