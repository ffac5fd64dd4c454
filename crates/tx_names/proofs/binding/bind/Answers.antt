use Rattle.std.proofs.Common.{◌≡◌, Err, List, sym, ap, ◌∙◌}
use Rattle.tx_tree.specs.Tree.{body_of, block_of}
use Rattle.tx_names.specs.Scope.{Text}
use Rattle.tx_names.specs.Faults.{first}
use Rattle.tx_names.specs.Bind.{defs_of, known_of, function_of, error_of, faults_of_block, bound_def}
use Rattle.tx_names.proofs.Bindings.{def_fine, def_fault}
use Rattle.tx_names.proofs.binding.bind.Goals as goal

pub returns-in-Ok-clause-ok : goal.returns-in-Ok-clause-ok
returns-in-Ok-clause-ok c =
    ap (λ b. faults_of_block (known_of (defs_of c.args.earlier.now)) c.args.role c.args.at (block_of b)) c.in-Def.is
    ∙ def_fine (defs_of c.args.earlier.now) c.args.role c.args.at c.in-Def.name c.in-Def.params (body_of c.in-Def.suite) (function_of c.in-Ok.function)
    (ap (λ (ps : List Text). bound_def (defs_of c.args.earlier.now) c.args.role c.args.at c.in-Def.name ps (body_of c.in-Def.suite)) (sym c.as_slice.ensures) ∙ c.in-Ok.ensures.ok)

pub returns-in-Err-clause-fault : goal.returns-in-Err-clause-fault
returns-in-Err-clause-fault c e h =
    let r : c.error_of.result ≡ error_of e = cc h in
    ap (λ b. first (faults_of_block (known_of (defs_of c.args.earlier.now)) c.args.role c.args.at (block_of b))) c.in-Def.is
    ∙ def_fault (defs_of c.args.earlier.now) c.args.role c.args.at c.in-Def.name c.in-Def.params (body_of c.in-Def.suite) e
    (ap (λ (ps : List Text). bound_def (defs_of c.args.earlier.now) c.args.role c.args.at c.in-Def.name ps (body_of c.in-Def.suite)) (sym c.as_slice.ensures) ∙ c.in-Err.ensures.fault e (ap Err (c.error_of.ensures e r)))
