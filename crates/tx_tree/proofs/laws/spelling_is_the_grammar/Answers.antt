use Rattle.std.proofs.Common.{refl}
use Rattle.tx_tree.specs.Laws.{ExpressionExamples, StatementExamples, BlockExamples}
use Rattle.tx_tree.proofs.laws.spelling_is_the_grammar.Goals as goal

expression_examples : ExpressionExamples
expression_examples = record { conditional_expression = refl; or_test = refl; and_test = refl; not_test = refl; comparison = refl; comp_operator = refl; comp_words = refl; a_expr = refl; m_expr = refl; u_expr = refl; method_call = refl; call_by_name = refl; call_without_arguments = refl; subscription = refl; slicing = refl; slicing_without_bounds = refl; identifier = refl; integer = refl; stringliteral = refl; none_keyword = refl; true_keyword = refl; false_keyword = refl; parenth_form = refl; empty_tuple = refl; tuple_of_one = refl; tuple_of_two = refl; list_display = refl; comp_for = refl; comp_if = refl; dict_display = refl; empty_dict = refl; expression_list = refl }

statement_examples : StatementExamples
statement_examples = record { pass_stmt = refl; break_stmt = refl; continue_stmt = refl; return_stmt = refl; return_none = refl; assignment_stmt = refl; target_list = refl; target_in_brackets = refl; augop = refl; augop_sub = refl; augop_mul = refl; augop_div = refl; augop_mod = refl; expression_stmt = refl; if_stmt = refl; elif_else = refl; for_stmt = refl }

block_examples : BlockExamples
block_examples = record { funcdef = refl; funcdef_without_parameters = refl; lambda_expr = refl; chain_in_brackets = refl; chain_with_a_name = refl }

pub returns : goal.returns
returns c = record { expressions = expression_examples; statements = statement_examples; blocks = block_examples }
