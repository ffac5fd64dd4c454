use Rattle.std.proofs.Common.{◌≡◌, Err, map, length, subst, sym}
use Rattle.tx_tree.specs.Tree.{block_of, body_of, chain_of}
use Rattle.tx_names.specs.declared.role.Role.TheVariants.{Plain}
use Rattle.tx_names.specs.Bind.{bound_def}
use Rattle.tx_pipe.specs.Pipe.{pipe_of}
use Rattle.tx_script.specs.Forms.{start_of}
use Rattle.tx_script.specs.Linked.{free_at, told, linked_block}
use Rattle.tx_script.specs.Calls.View.{link_of}
use Rattle.tx_script.specs.Calls.Behind.{ahead_of, with_def_of, with_pipeline_of}
use Rattle.tx_script.proofs.Steps.{def_fault}
use Rattle.tx_script.proofs.node.add_entry.Goals as goal

pub returns-in-Def-clause-fault : goal.returns-in-Def-clause-fault
returns-in-Def-clause-fault c = λ f h.
    subst (λ d. linked_block (ahead_of c.args.ahead.now) (pipe_of c.args.pipe.now) (block_of d) (map link_of c.args.entry.now.links) ≡ Err f) (sym c.in-Def.is)
    (def_fault (free_at (ahead_of c.args.ahead.now) c.in-Def.line c.in-Def.name)
    (told (bound_def (ahead_of c.args.ahead.now).defs (Plain (length c.in-Def.params)) c.in-Def.line c.in-Def.name c.in-Def.params (body_of c.in-Def.suite)))
    (ahead_of c.args.ahead.now) (pipe_of c.args.pipe.now) c.in-Def.name _ f
    (subst (λ d. with_def_of (ahead_of c.args.ahead.now) c.in-Def.line c.in-Def.name (block_of d) ≡ Err f) c.in-Def.is (c.add_def.ensures.fault f h)))

pub returns-in-Named-clause-fault : goal.returns-in-Named-clause-fault
returns-in-Named-clause-fault c = λ f h.
    subst (λ d. linked_block (ahead_of c.args.ahead.now) (pipe_of c.args.pipe.now) (block_of d) (map link_of c.args.entry.now.links) ≡ Err f) (sym c.in-Named.is)
    (subst (λ l. with_pipeline_of (ahead_of c.args.ahead.now) (pipe_of c.args.pipe.now) c.in-Named.line c.in-Named.name (start_of (chain_of c.in-Named.chain)) (map link_of l) ≡ Err f)
    c.as_slice-links.ensures (c.add_pipeline.ensures.fault f h))
