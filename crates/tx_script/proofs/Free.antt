-- A name that is free is no pipeline's.
use Rattle.std.proofs.Common.{◌≡◌, Bool, true, false, ◌||◌, refl}
use Rattle.std.specs.Prelude.{is_some}
use Rattle.tx_name_set.specs.NameSet.{is_in}
use Rattle.tx_names.specs.Scope.{Text}
use Rattle.tx_script.specs.Linked.{Ahead, reserved, def_of, is_taken}

second_false : (a b c : Bool) → (a || (b || c)) ≡ false → b ≡ false
second_false true b c e = cc
second_false false true c e = cc
second_false false false c e = refl

pub is_no_pipeline : (a : Ahead) (n : Text) → is_taken a n ≡ false → is_in a.pipelines n ≡ false
is_no_pipeline a n e = second_false (is_in reserved n) (is_in a.pipelines n) (is_some (def_of a n)) e
