use Rattle.std.proofs.Common.{◌≡◌, not, ap, ◌∙◌, subst, sym}
use Rattle.tx_tree.specs.Tree.{block_of}
use Rattle.tx_script.specs.declared.fault.ScriptKind.TheVariants as kind
use Rattle.tx_script.specs.Linked.{at}
use Rattle.tx_script.specs.Checks.{when, misused}
use Rattle.tx_script.proofs.uses.misused.Goals as goal

pub returns-in-Named : goal.returns-in-Named
returns-in-Named c behind counts =
    subst (λ d. c.misused_unless.result ≡ misused (block_of d) behind) (sym c.in-Named.is)
    (c.misused_unless.ensures ∙ ap (λ b. when (not b) (at kind.PipeUse c.in-Named.line)) (c.is_used_once.ensures _ counts))
