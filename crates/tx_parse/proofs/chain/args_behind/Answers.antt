use Rattle.std.proofs.Common.{rules, ◌≡◌, [], ◌∷◌, map, arith}
use Rattle.tx_tree.specs.declared.symbol.Mark.TheVariants as sign
use Rattle.tx_tree.specs.Tree.{arg_of}
use Rattle.tx_parse.specs.declared.symbol.Symbol.TheVariants as symbol
use Rattle.tx_parse.specs.Calls.Blocks.{arg}
use Rattle.tx_parse.proofs.Turns.{items_start}
use Rattle.tx_parse.proofs.chain.args_behind.Goals as goal

pub loop-turn-init : goal.loop-turn-init
loop-turn-init c =
    let only : map arg_of c.push.new.self ≡ arg_of c.in_ok-first.first ∷ [] = search rules in
    (omega arith, items_start (arg c.args.left) (symbol.Mark sign.Close) _ (arg_of c.in_ok-first.first) c.arg.new.cursor c.left-most.result _ c.in_ok-first.ensures.ok only c.left-most.ensures)
