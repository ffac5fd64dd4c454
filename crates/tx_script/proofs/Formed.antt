-- Links and entries that are read from the front are those that the definitions pick.
use Rattle.std.proofs.Common.{◌≡◌, List, [], ◌∷◌, ◌++◌, Result, Ok, Err, refl}
use Rattle.tx_script.specs.declared.fault.ScriptFault.{ScriptFault}
use Rattle.tx_script.specs.Written.{Link}
use Rattle.tx_script.specs.Forms.{Place}
use Rattle.tx_script.specs.Linked.{◌>>=◌}
use Rattle.tx_script.specs.Calls.Formed.{with_link, formed_behind}

bound_by : (r : Result (List Link) ScriptFault) (f g h : List Link → Result (List Link) ScriptFault) → ((d : List Link) → f d ≡ g d >>= h) → r >>= f ≡ (r >>= g) >>= h
bound_by (Ok d) f g h e = e d
bound_by (Err x) f g h e = refl

-- first some places and then others
pub goes_on : (done : List Link) (ps qs : List Place) → formed_behind done (ps ++ qs) ≡ formed_behind done ps >>= (λ d. formed_behind d qs)
goes_on done [] qs = refl
goes_on done (p ∷ ps) qs = bound_by (with_link done p.0 p.1) _ _ _ (λ d. goes_on d ps qs)
