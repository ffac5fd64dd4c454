-- What an operator gives a function: one argument or two, of which one may be a row.
use Rattle.std.specs.Prelude.{List, [], ◌∷◌, ◌++◌, Option, Some, None}
use Rattle.tx_values.specs.declared.value.Value.{Value}
use Rattle.tx_meaning.specs.Maps.{Row, no_row, row_of}
use Rattle.tx_interp.specs.declared.calling.Arg.{Arg}
use Rattle.tx_interp.specs.declared.calling.Arg.TheVariants as arg

-- the value of an argument that is one
abbrev pub value_of : Arg → List Value
value_of (arg.Plain x) = x.now ∷ []
value_of (arg.OfRow row names) = []

abbrev pub value_of_second : Option Arg → List Value
value_of_second None = []
value_of_second (Some a) = value_of a

-- the values among the arguments, in their order
abbrev pub values_given : Arg → Option Arg → List Value
values_given first second = value_of first ++ value_of_second second

-- the row among the arguments, or none
abbrev pub row_of_second : Option Arg → Row
row_of_second (Some (arg.OfRow row names)) = row_of names.now row.now.cells
row_of_second _ = no_row

abbrev pub row_given : Arg → Option Arg → Row
row_given (arg.OfRow row names) second = row_of names.now row.now.cells
row_given (arg.Plain x) second = row_of_second second
