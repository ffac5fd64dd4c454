use Rattle.std.proofs.Common.{sym, ◌∙◌}
use Rattle.tx_tree.specs.Tree.{block_of}
use Rattle.tx_names.specs.Bind.{defs_of, known_of, bound_block, faults_of_block}
use Rattle.tx_script.proofs.Told.{told_ok, told_fault, err_same, block_law}
use Rattle.tx_script.proofs.link.link_block.Goals as goal

pub returns-in-Ok-clause-ok : goal.returns-in-Ok-clause-ok
returns-in-Ok-clause-ok c = told_ok _ _ c.in-Ok.ensures.function

pub returns-in-Err-clause-fault : goal.returns-in-Err-clause-fault
returns-in-Err-clause-fault c = λ f h.
    told_fault (bound_block (defs_of c.args.ahead.now.defs) c.args.role c.args.line (block_of c.args.block.now))
    (faults_of_block (known_of (defs_of c.args.ahead.now.defs)) c.args.role c.args.line (block_of c.args.block.now))
    c.bind.result c.in-Err.e f
    (block_law c.faults_are_told.ensures (defs_of c.args.ahead.now.defs) c.args.role c.args.line (block_of c.args.block.now))
    (λ g k. c.bind.ensures.fault g k) c.in-Err.is (sym c.told.ensures ∙ err_same _ _ h)
