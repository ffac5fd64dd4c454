use Rattle.tx_tree.specs.Tree.{block_of}
use Rattle.tx_names.specs.Bind.{defs_of}
use Rattle.tx_script.proofs.DefFunctions.{is_function}
use Rattle.tx_script.proofs.node.link_of_row.Goals as goal

pub returns-in-Ok : goal.returns-in-Ok
returns-in-Ok c = is_function (defs_of c.args.ahead.now.defs) c.in-Some.role c.args.line (block_of c.args.block.now) c.in-Ok.function c.in-Ok.ensures.ok
