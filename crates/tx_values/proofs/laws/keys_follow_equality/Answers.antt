use Rattle.tx_values.specs.Calls.KeyLaws.{key_decides}
use Rattle.tx_values.proofs.KeysFollowEquality.{hash_follows, hashable_follows, keys_agree}
use Rattle.tx_values.proofs.laws.keys_follow_equality.Goals as goal

pub returns : goal.returns
returns c = record { equal = keys_agree; same = λ a b. (λ e. (key_decides a b).0 e, λ e. (key_decides a b).1 e); hash = hash_follows; hashable = hashable_follows }
