-- The words of operators are ASCII: their characters are their bytes.
use Rattle.std.proofs.Common.{◌≡◌, refl}
use Rattle.std.specs.Str.{chars}
use Rattle.tx_pipe.specs.Verbs.{verb_word}
use Rattle.tx_pipe.specs.declared.verb.Verb.{Verb}
use Rattle.tx_pipe.specs.declared.verb.Verb.TheVariants as verb

pub word_chars : (v : Verb) → chars (verb_word v) ≡ verb_word v
unfolding chars
word_chars verb.Csv = refl
word_chars verb.Map = refl
word_chars verb.Filter = refl
word_chars verb.WithColumn = refl
word_chars verb.MapColumn = refl
word_chars verb.SelectColumns = refl
word_chars verb.RenameColumn = refl
word_chars verb.Join = refl
word_chars verb.LeftJoin = refl
word_chars verb.Unique = refl
word_chars verb.Aggregate = refl
word_chars verb.ToCsv = refl
word_chars verb.Resolve = refl
word_chars verb.Ignore = refl
