-- What follows from clap's refusal, and that the command is one of which clap's function tells all.
use Rattle.std.proofs.Common.{◌≡◌, true, refl, [], ◌∷◌, Option, None, inl, inr}
use Rattle.clap.specs.Words.{HasKind, Kinds, kind_of, is_simple, is_simple_and_free}
use Rattle.clap.specs.declared.error.Error.{Error}
use Rattle.clap.specs.declared.error.kind.ErrorKind.TheVariants.{OutOfMemory}
use Rattle.clap.proofs.OnLiterals.{clap_on_literals}
use Rattle.tx_words.specs.CommandLine.{tuplex_app}
use Rattle.tx_words.specs.Words.{unless_refused}

pub tuplex-simple : is_simple tuplex_app ≡ true
unfolding clap_on_literals
tuplex-simple = refl

pub tuplex-free : is_simple_and_free tuplex_app ≡ true
unfolding clap_on_literals
tuplex-free = refl

-- words that clap refuses ask for nothing
pub refused-none : {A : Type 0} (kinds : Kinds) (e : Error) (o : Option A) → HasKind kinds e → (kind_of e ≡ OutOfMemory → ⊥) → unless_refused kinds o ≡ None
refused-none [] e o (inl m) n = absurd (n m)
refused-none [] e o (inr h) n = absurd h
refused-none (k ∷ ks) e o h n = refl

-- words that clap takes ask for what it finds
pub taken-found : {A : Type 0} (kinds : Kinds) (o : Option A) → kinds ≡ [] → unless_refused kinds o ≡ o
taken-found kinds o e = rw e refl
