use Rattle.std.proofs.Common.{◌≡◌, ◌+◌, ◌*◌, ◌-◌, ◌≤◌, length, map, []}
use Rattle.tx_tree.specs.Tree.{statement_of, arm_of}
use Rattle.tx_parse.specs.declared.place.Place.TheVariants as place
use Rattle.tx_parse.specs.Calls.Reader.{read}
use Rattle.tx_parse.specs.Calls.Statements.{suite, statement, more_statements, indented_lines, arms}
use Rattle.tx_parse.proofs.statement.+stmt.Given as goal

abbrev pub decreases-stmt : goal.decreases-stmt
decreases-stmt l = 8 * l.left

abbrev pub decreases-indented_lines : goal.decreases-indented_lines
decreases-indented_lines l = 8 * l.left + 2

abbrev pub decreases-suite : goal.decreases-suite
decreases-suite l = 8 * l.left + 3

abbrev pub decreases-arm : goal.decreases-arm
decreases-arm l = 8 * l.left + 4

abbrev pub decreases-otherwise : goal.decreases-otherwise
decreases-otherwise l = 8 * l.left + 4

abbrev pub decreases-arms : goal.decreases-arms
decreases-arms l = 8 * l.left + 5

abbrev pub decreases-branch : goal.decreases-branch
decreases-branch l = 8 * l.left + 6

abbrev pub decreases-repeat : goal.decreases-repeat
decreases-repeat l = 8 * l.left + 6

abbrev pub invariant-arms-loop-turn : goal.invariant-arms-loop-turn
invariant-arms-loop-turn l = (l._turn ≤ l.most) × (arms (read l.left place.Test) (suite l.left (statement l.left) l.looped) (l.most - l._turn) (map arm_of l.done) l.cursor ≡ arms (read l.left place.Test) (suite l.left (statement l.left) l.looped) (length l.fn.cursor) [] l.fn.cursor)

abbrev pub invariant-indented_lines-loop-turn : goal.invariant-indented_lines-loop-turn
invariant-indented_lines-loop-turn l = (l._turn ≤ l.most) × (more_statements (statement l.left l.looped) (l.most - l._turn) (map statement_of l.done) l.cursor ≡ indented_lines (statement l.left l.looped) l.fn.cursor)
