use Rattle.std.proofs.Common.{◌≡◌, map, drop}
use Rattle.tx_tree.specs.Tree.{statement_of, statements, arm_of, tail, nothing}
use Rattle.tx_tree.specs.Form.{fine_statements, fine_tail}
use Rattle.tx_tree.proofs.form.+statement.Given as goal

abbrev pub invariant-are_fine_stmts-loop-statement : goal.invariant-are_fine_stmts-loop-statement
invariant-are_fine_stmts-loop-statement l = fine_statements l.looped (statements (map statement_of (drop l.statement-index l.body))) ≡ fine_statements l.looped (statements (map statement_of l.body))

abbrev pub invariant-are_fine_arms-loop-arm : goal.invariant-are_fine_arms-loop-arm
invariant-are_fine_arms-loop-arm l = fine_tail l.looped (tail (map arm_of (drop l.arm-index l.arms)) nothing) ≡ fine_tail l.looped (tail (map arm_of l.arms) nothing)
