use Rattle.std.proofs.Common.{◌≡◌, ◌-◌, ◌≤◌, map}
use Rattle.tx_tree.specs.declared.symbol.Mark.TheVariants as sign
use Rattle.tx_tree.specs.Tree.{arg_of}
use Rattle.tx_parse.specs.declared.symbol.Symbol.TheVariants as symbol
use Rattle.tx_parse.specs.Calls.Reader.{and_read, more_items, items_behind}
use Rattle.tx_parse.specs.Calls.Blocks.{arg}
use Rattle.tx_parse.proofs.chain.args_behind.Given as goal

abbrev pub invariant-loop-turn : goal.invariant-loop-turn
invariant-loop-turn l = (l._turn ≤ l.most) × (more_items (arg l.left) (symbol.Mark sign.Close) (l.most - l._turn) (map arg_of l.done) l.cursor ≡ and_read (arg l.left l.fn.cursor) (items_behind (arg l.left) (symbol.Mark sign.Close)))
