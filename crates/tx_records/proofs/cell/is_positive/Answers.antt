use Rattle.std.proofs.Common.{◌∙◌, arith, rules, sym, tests}
use Rattle.std.specs.Char.{is_ascii_digit}
use Rattle.std.proofs.lemmas.Iterator.{YieldsList-from_slice}
use Rattle.std.proofs.lemmas.Iterator.Search.{all_from_yields_List}
use Rattle.tx_records.proofs.CellLemmas.{is_positive_is}
use Rattle.tx_records.proofs.cell.is_positive.Goals as goal

pub returns-then-first-ne48 : goal.returns-then-first-ne48
returns-then-first-ne48 c =
    all_from_yields_List is_ascii_digit _ _ c.all.result c.all.ensures.ran (YieldsList-from_slice c.args.field.now cc) (λ x b q k. search (rules, tests))
    ∙ sym (is_positive_is c.args.field.now (omega arith) c.if-first-ne48.true)
