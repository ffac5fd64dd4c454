use Rattle.std.proofs.Common.{Some, sym, ap, ◌∙◌}
use Rattle.tx_parse.specs.Lexemes.{name_kind}
use Rattle.tx_parse.specs.Calls.Front.{symbol_of}
use Rattle.tx_parse.proofs.Symbols.{keyword_found}
use Rattle.tx_parse.proofs.symbol.name_symbol.Goals as goal

pub returns-in-Some : goal.returns-in-Some
returns-in-Some c = ap (λ o. symbol_of (Some (name_kind c.args.name.now o))) (sym c.in-Some.is ∙ sym (keyword_found _ c.args.name.now _ c.keyword_named.ensures c.as_str.ensures.chars))

pub returns-in-None : goal.returns-in-None
returns-in-None c = ap (λ o. symbol_of (Some (name_kind c.args.name.now o))) (sym c.in-None.is ∙ sym (keyword_found _ c.args.name.now _ c.keyword_named.ensures c.as_str.ensures.chars))
