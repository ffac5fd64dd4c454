use Rattle.tx_methods.proofs.WrongNumbers.{builtins, methods}
use Rattle.tx_methods.proofs.laws.wrong_numbers_are_type_errors.Goals as goal

pub returns : goal.returns
returns c = record { builtins = builtins; methods = methods }
