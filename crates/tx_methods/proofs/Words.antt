-- The words that `str` gives, and the weight of a text's words.
use Rattle.std.proofs.Common.{◌≡◌, codes, refl}
use Rattle.std.specs.Str.{chars}

pub none_text : chars (codes "None") ≡ codes "None"
unfolding chars
none_text = refl

pub true_text : chars (codes "True") ≡ codes "True"
unfolding chars
true_text = refl

pub false_text : chars (codes "False") ≡ codes "False"
unfolding chars
false_text = refl
