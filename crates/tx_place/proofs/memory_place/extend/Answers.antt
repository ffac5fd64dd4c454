use Rattle.std.proofs.lemmas.Result.{IfOk-weaker}
use Rattle.tx_place.proofs.Named.{extended_at}
use Rattle.tx_place.proofs.memory_place.extend.Goals as goal

pub returns-clause-ok : goal.returns-clause-ok
returns-clause-ok c =
    IfOk-weaker c.push_all.result _ _ (λ u e. extended_at c.args.files.now.items c.args.at c.index_mut.result.now c.args.bytes.now c.push_all.new.self c.requires c.index_mut.ensures.value e) c.push_all.ensures.ok
