use Rattle.std.proofs.Common.{sym}
use Rattle.tx_tree.proofs.Names.{some_named, none_named}
use Rattle.tx_tree.proofs.form.is_name.Goals as goal

pub returns-in-Some : goal.returns-in-Some
returns-in-Some c = sym (some_named _ c.args.name.now _ c.in-Some.field-0 c.keyword_named.ensures c.as_str.ensures.chars c.in-Some.is)

pub returns-in-None : goal.returns-in-None
returns-in-None c = sym (none_named _ c.args.name.now _ c.keyword_named.ensures c.as_str.ensures.chars c.in-None.is)
