use Rattle.std.proofs.Common.{option_map, sym, ap, ◌∙◌}
use Rattle.tx_tree.specs.Kind as kind
use Rattle.tx_parse.specs.Calls.Front.{symbol_of}
use Rattle.tx_parse.proofs.Symbols.{mark_found}
use Rattle.tx_parse.proofs.symbol.mark_symbol.Goals as goal

pub returns-in-Some : goal.returns-in-Some
returns-in-Some c = ap (λ o. symbol_of (option_map kind.mark o)) (sym c.in-Some.is ∙ sym (mark_found _ c.args.mark.now _ c.mark_named.ensures c.as_str.ensures.chars))

pub returns-in-None : goal.returns-in-None
returns-in-None c = ap (λ o. symbol_of (option_map kind.mark o)) (sym c.in-None.is ∙ sym (mark_found _ c.args.mark.now _ c.mark_named.ensures c.as_str.ensures.chars))
