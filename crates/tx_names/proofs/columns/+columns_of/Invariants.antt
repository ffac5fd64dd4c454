use Rattle.std.proofs.Common.{◌≡◌, ◌++◌, map, drop}
use Rattle.tx_names.specs.View.{statement_of, statements, arm_of, arms}
use Rattle.tx_names.specs.Parts.{columns_of_statements, columns_of_arms}
use Rattle.tx_names.proofs.columns.+columns_of.Given as goal

abbrev pub invariant-add_columns_of_all-loop-statement : goal.invariant-add_columns_of_all-loop-statement
invariant-add_columns_of_all-loop-statement l = l.columns ++ columns_of_statements (statements (map statement_of (drop l.statement-index l.body))) ≡ l.fn.columns ++ columns_of_statements (statements (map statement_of l.body))

abbrev pub invariant-add_columns_of_arms-loop-arm : goal.invariant-add_columns_of_arms-loop-arm
invariant-add_columns_of_arms-loop-arm l = l.columns ++ columns_of_arms (arms (map arm_of (drop l.arm-index l.choices))) ≡ l.fn.columns ++ columns_of_arms (arms (map arm_of l.choices))
