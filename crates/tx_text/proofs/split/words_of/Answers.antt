use Rattle.std.proofs.Common.{rules}
use Rattle.std.specs.Str.{chars}
use Rattle.tx_text.specs.Text.{is_blank}
use Rattle.tx_text.proofs.Words.{words_all, words_more}
use Rattle.tx_text.proofs.split.words_of.Goals as goal

pub words-preserved : goal.words-preserved
words-preserved c = (
  search rules,
  words_more is_blank (chars c.words.rest.now) (chars c.in-Some.word.now) (chars c.in-Some.behind.now) _ c.words.found _ c.in-Some.ensures.some c.words.invariant.1 c.in_ok-push_some.ensures,
)

pub returns : goal.returns
returns c =
    words_all is_blank (chars c.words.rest.now) _ c.words.found _ (c.blank_split.ensures.none c.in_default.is) c.words.invariant.1 c.in_ok-push_some-2.ensures
