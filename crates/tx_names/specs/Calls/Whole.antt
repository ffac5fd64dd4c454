-- A function from its names, its parameters and its body.
use Rattle.std.specs.Prelude.{ℕ, List, map}
use Rattle.tx_name_set.specs.NameSet.{place_in}
use Rattle.tx_names.specs.declared.role.Role.{Role}
use Rattle.tx_names.specs.Function.{Body, Function, function}
use Rattle.tx_names.specs.Scope.{Text, plain_params}

-- each name at its place
abbrev pub whole : List Text → Role → List Text → Body ℕ → Function ℕ
whole names role params body = function role (map (place_in names) (plain_params role params)) (map (place_in names) names) body
