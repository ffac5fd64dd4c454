-- Names that are read are parameters where they are distinct.
use Rattle.std.proofs.Common.{◌≡◌, ℕ, true, List, Some, ap, ◌∙◌}
use Rattle.tx_tree.specs.Form.{are_names, distinct}
use Rattle.tx_parse.specs.declared.symbol.Symbol.{Symbol}
use Rattle.tx_parse.specs.Lexemes.{Lexeme}
use Rattle.tx_parse.specs.Calls.Reader.{Listed, and_read, when, items, a_name}
use Rattle.tx_parse.specs.Calls.Blocks.{params_of, params}
use Rattle.tx_parse.proofs.Options.{and_both}
use Rattle.tx_parse.proofs.Lists.{items_sound}
use Rattle.tx_parse.proofs.Targets.{SpellsName, GoodName, name_sound, names_named}

pub params_found : (end : Symbol) (ts : List Lexeme) (x : Listed (List ℕ)) (r : List Lexeme) → items a_name end ts ≡ Some (x, r) → distinct x.0 ≡ true → params end ts ≡ Some (x, r)
params_found end ts x r h d =
    let f = items_sound SpellsName GoodName a_name end name_sound ts x r h in
    ap (λ o. and_read o params_of) h ∙ ap (λ b. when b (Some (x, r))) (and_both (are_names x.0) (distinct x.0) (names_named x.0 f.good) d)
