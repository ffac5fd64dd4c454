use Rattle.std.proofs.Common.{sym, ap, ◌∙◌, arith}
use Rattle.tx_tree.specs.Tree.{block_of}
use Rattle.tx_parse.specs.Lexemes.{lexemes}
use Rattle.tx_parse.specs.Block.{most_levels}
use Rattle.tx_parse.specs.Calls.Blocks.{block}
use Rattle.tx_parse.proofs.Exact.{rest_left, found}
use Rattle.tx_parse.proofs.answer.whole.Goals as goal

pub returns-then-left-gt0-clause-none : goal.returns-then-left-gt0-clause-none
returns-then-left-gt0-clause-none c = λ _. rest_left (lexemes c.args.tokens.now) (block_of c.in_ok-tree.tree) c.any_block.new.cursor (ap (block most_levels) (sym c.new-cursor.ensures) ∙ c.in_ok-tree.ensures.ok) (omega (arith, c.left.ensures))

pub returns-clause-ok : goal.returns-clause-ok
returns-clause-ok c = found (lexemes c.args.tokens.now) (block_of c.in_ok-tree.tree) c.any_block.new.cursor (ap (block most_levels) (sym c.new-cursor.ensures) ∙ c.in_ok-tree.ensures.ok) (omega (arith, c.left.ensures))
