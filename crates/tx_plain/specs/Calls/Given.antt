-- What a call is given.
use Rattle.std.specs.Prelude.{Option, Option}
use Rattle.tx_interp.specs.declared.calling.Arg.{Arg}
use Rattle.tx_interp.specs.Arguments.{row_given, values_given}
use Rattle.tx_plain.specs.Handlers.{Input}

-- the arguments of a call as an input
abbrev pub input_of : Arg → Option Arg → Input
input_of first second = record { cells = row_given first second; values = values_given first second }
