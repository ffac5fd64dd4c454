use Rattle.std.proofs.Common.{ap, ◌∙◌}
use Rattle.std.proofs.lemmas.Result.{IfOk-weaker, IfErr-weaker}
use Rattle.std.specs.Str.{chars}
use Rattle.tx_place.specs.Memory.{held_by}
use Rattle.tx_place.proofs.Named.{held_by-added, nothing_added}
use Rattle.tx_place.proofs.memory_place.add.Goals as goal

pub returns-clause-ok : goal.returns-clause-ok
returns-clause-ok c =
    IfOk-weaker c.put_more.result _ _ (λ u e. ap held_by e ∙ held_by-added c.args.files.now.items (chars c.args.name.now) c.args.bytes.now) c.put_more.ensures.ok

pub returns-clause-err : goal.returns-clause-err
returns-clause-err c =
    IfErr-weaker c.put_more.result _ _ (λ u e. ap held_by e ∙ nothing_added (held_by c.args.files.now.items) (chars c.args.name.now)) c.put_more.ensures.err
