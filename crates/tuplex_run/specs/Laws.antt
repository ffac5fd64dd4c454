-- What holds of the definitions alone.
use Rattle.std.specs.Prelude.{◌≡◌, ℕ, List}
use Rattle.tx_place.specs.Place.{Held}
use Rattle.tuplex_run.specs.Due.{Verdict, IsVerdict}

-- there is one verdict on the words and the files, and no other
abbrev pub OneVerdictLaw : Type 0
OneVerdictLaw = (words : List (List ℕ)) (held : Held) (v w : Verdict) → IsVerdict words held v → IsVerdict words held w → v ≡ w
