use Rattle.std.proofs.Common.{sym, ◌∙◌}
use Rattle.tx_names.proofs.Naming.{function_is, function_is_none, no_function}
use Rattle.tx_names.proofs.words.walk_function_at.Goals as goal

pub returns-in_default : goal.returns-in_default
returns-in_default c = no_function c.args.name.now _ c.in_default.ensures c.as_str.ensures.chars

pub returns-then-is_view : goal.returns-then-is_view
returns-then-is_view c = function_is_none c.in-Some.walk c.args.name.now _ c.in-Some.ensures c.as_str.ensures.chars (sym c.is_view.ensures ∙ c.if-is_view.true)

pub returns-else-is_view : goal.returns-else-is_view
returns-else-is_view c = function_is c.in-Some.walk c.args.name.now _ c.in-Some.ensures c.as_str.ensures.chars (sym c.is_view.ensures ∙ c.if-is_view.false)
