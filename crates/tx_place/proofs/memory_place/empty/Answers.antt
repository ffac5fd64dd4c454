use Rattle.std.proofs.Common.{ap, ◌∙◌, []}
use Rattle.std.proofs.lemmas.Result.{IfOk-weaker}
use Rattle.std.specs.Str.{chars}
use Rattle.tx_place.specs.Memory.{held_by}
use Rattle.tx_place.proofs.Named.{held_by-put}
use Rattle.tx_place.proofs.memory_place.empty.Goals as goal

pub returns-clause-ok : goal.returns-clause-ok
returns-clause-ok c =
    IfOk-weaker c.put_empty.result _ _ (λ u e. ap held_by e ∙ held_by-put c.args.files.now.items (chars c.args.name.now) []) c.put_empty.ensures.ok
