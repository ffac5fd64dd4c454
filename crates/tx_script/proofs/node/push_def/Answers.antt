use Rattle.std.proofs.Common.{List, ◌++◌, ◌∷◌, [], subst, sym}
use Rattle.std.specs.List.{All}
use Rattle.tx_names.specs.declared.bound.Def.{Def}
use Rattle.tx_names.specs.Bind.{defs_of}
use Rattle.tx_script.specs.declared.ahead.DefBlock.{DefBlock}
use Rattle.tx_script.specs.Calls.Behind.{HasFunctions}
use Rattle.tx_script.proofs.DefFunctions.{all_linked}
use Rattle.tx_script.proofs.node.push_def.Goals as goal

pub returns-clause-kept : goal.returns-clause-kept
returns-clause-kept c =
    let def : Def = record { name = c.in_ok-name.name; function = c.in_ok-function.function } in
    subst (λ (ds : List Def). All (HasFunctions (defs_of ds)) c.push-2.new.self) (sym c.in_ok-push.ensures.ok)
    (subst (λ (bs : List DefBlock). All (HasFunctions (defs_of (c.args.ahead.now.defs ++ def ∷ []))) bs) (sym c.in_ok-push-2.ensures.ok)
    (all_linked c.args.ahead.now.defs def c.args.ahead.now.blocks c.args.def c.requires.kept c.requires.functions))
