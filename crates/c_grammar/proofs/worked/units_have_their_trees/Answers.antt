-- What is left to show of `units_have_their_trees`.
use Rattle.std.proofs.Common.{refl}
use Rattle.c_grammar.proofs.worked.units_have_their_trees.Goals as goal

pub returns-clause-integer : goal.returns-clause-integer
unfolding Rattle.c_grammar.specs.Symbols.is_statement_word Rattle.c_grammar.specs.Symbols.other_word Rattle.c_grammar.specs.Symbols.word_symbol Rattle.c_grammar.specs.Symbols.goes_with Rattle.c_grammar.specs.Tokens.mark Rattle.c_grammar.specs.Tokens.name Rattle.c_grammar.specs.Tokens.constant Rattle.c_grammar.specs.Tokens.next_number Rattle.c_grammar.specs.Tokens.sees Rattle.c_grammar.specs.Tokens.before Rattle.c_grammar.specs.Tokens.before_either Rattle.c_grammar.specs.Tokens.one_function Rattle.c_grammar.specs.Tokens.some_frames Rattle.c_grammar.specs.Tokens.some_elements Rattle.c_grammar.specs.Tokens.declares Rattle.c_grammar.specs.Tokens.gives_value Rattle.c_grammar.specs.Types.specifier Rattle.c_grammar.specs.Types.type_told Rattle.c_grammar.specs.Types.type_of Rattle.c_grammar.specs.Types.integer_told Rattle.c_grammar.specs.Types.integer_type Rattle.c_grammar.specs.Types.const_word Rattle.c_grammar.specs.Types.star Rattle.c_grammar.specs.Types.pointer_to Rattle.c_grammar.specs.Types.pointer_stars Rattle.c_grammar.specs.Types.minus_sign Rattle.c_grammar.specs.Types.minus_constant Rattle.c_grammar.specs.Types.plain_constant Rattle.c_grammar.specs.Types.signed_constant Rattle.c_grammar.specs.Types.assign_mark Rattle.c_grammar.specs.Types.comma_mark Rattle.c_grammar.specs.Types.element Rattle.c_grammar.specs.Types.further_element Rattle.c_grammar.specs.Types.close_brace Rattle.c_grammar.specs.Types.elements Rattle.c_grammar.specs.Types.element_list Rattle.c_grammar.specs.Types.left_bracket Rattle.c_grammar.specs.Types.right_bracket Rattle.c_grammar.specs.Types.array_size Rattle.c_grammar.specs.Types.array Rattle.c_grammar.specs.Types.parameter_end Rattle.c_grammar.specs.Types.pointer_parameter Rattle.c_grammar.specs.Types.empty_brackets Rattle.c_grammar.specs.Types.bracketed_type Rattle.c_grammar.specs.Types.plain_parameter Rattle.c_grammar.specs.Types.parameter_tail Rattle.c_grammar.specs.Types.further_parameter Rattle.c_grammar.specs.Types.right_paren Rattle.c_grammar.specs.Types.parameters_from Rattle.c_grammar.specs.Types.void_parameters Rattle.c_grammar.specs.Types.some_parameters Rattle.c_grammar.specs.Types.no_parameters Rattle.c_grammar.specs.Types.parameters Rattle.c_grammar.specs.Expressions.operator Rattle.c_grammar.specs.Expressions.shallow Rattle.c_grammar.specs.Expressions.some_depth Rattle.c_grammar.specs.Expressions.operation Rattle.c_grammar.specs.Expressions.open_bracket Rattle.c_grammar.specs.Expressions.close_bracket Rattle.c_grammar.specs.Expressions.index Rattle.c_grammar.specs.Expressions.close_paren Rattle.c_grammar.specs.Expressions.parenthesised Rattle.c_grammar.specs.Expressions.cast_type Rattle.c_grammar.specs.Expressions.cast Rattle.c_grammar.specs.Expressions.one_paren Rattle.c_grammar.specs.Expressions.bracketed Rattle.c_grammar.specs.Expressions.prefixed Rattle.c_grammar.specs.Expressions.lead Rattle.c_grammar.specs.Expressions.bracketed_indexed Rattle.c_grammar.specs.Expressions.operand_after Rattle.c_grammar.specs.Expressions.operand Rattle.c_grammar.specs.Expressions.expr_of Rattle.c_grammar.specs.Expressions.expr_within Rattle.c_grammar.specs.Expressions.expr Rattle.c_grammar.specs.Expressions.inner_of Rattle.c_grammar.specs.Expressions.deeper_of Rattle.c_grammar.specs.Expressions.whole_expr Rattle.c_grammar.specs.Expressions.condition Rattle.c_grammar.specs.Expressions.target Rattle.c_grammar.specs.Expressions.sees_call Rattle.c_grammar.specs.Expressions.call_frame Rattle.c_grammar.specs.Expressions.comma Rattle.c_grammar.specs.Expressions.argument Rattle.c_grammar.specs.Expressions.further_argument Rattle.c_grammar.specs.Expressions.some_arguments Rattle.c_grammar.specs.Expressions.no_arguments Rattle.c_grammar.specs.Expressions.arguments Rattle.c_grammar.specs.Expressions.some_token Rattle.c_grammar.specs.Expressions.open_paren Rattle.c_grammar.specs.Expressions.call Rattle.c_grammar.specs.Expressions.called_value Rattle.c_grammar.specs.Expressions.plain_value Rattle.c_grammar.specs.Expressions.assigned Rattle.c_grammar.specs.Statements.call_effect Rattle.c_grammar.specs.Statements.step Rattle.c_grammar.specs.Statements.prefix_step Rattle.c_grammar.specs.Statements.assigning_mark Rattle.c_grammar.specs.Statements.assign Rattle.c_grammar.specs.Statements.update Rattle.c_grammar.specs.Statements.postfix_step Rattle.c_grammar.specs.Statements.effect_after Rattle.c_grammar.specs.Statements.target_effect Rattle.c_grammar.specs.Statements.other_effect Rattle.c_grammar.specs.Statements.effect Rattle.c_grammar.specs.Statements.initial Rattle.c_grammar.specs.Statements.local_end Rattle.c_grammar.specs.Statements.pointer_local Rattle.c_grammar.specs.Statements.array_local Rattle.c_grammar.specs.Statements.integer_local Rattle.c_grammar.specs.Statements.plain_local Rattle.c_grammar.specs.Statements.local Rattle.c_grammar.specs.Statements.further_local Rattle.c_grammar.specs.Statements.semicolon Rattle.c_grammar.specs.Statements.declaration Rattle.c_grammar.specs.Statements.label_end Rattle.c_grammar.specs.Statements.colon Rattle.c_grammar.specs.Statements.case_label Rattle.c_grammar.specs.Statements.default_label Rattle.c_grammar.specs.Statements.label Rattle.c_grammar.specs.Statements.controlling Rattle.c_grammar.specs.Statements.else_part Rattle.c_grammar.specs.Statements.if_after Rattle.c_grammar.specs.Statements.while_after Rattle.c_grammar.specs.Statements.while_word Rattle.c_grammar.specs.Statements.do_after Rattle.c_grammar.specs.Statements.empty_first Rattle.c_grammar.specs.Statements.declared_first Rattle.c_grammar.specs.Statements.effect_first Rattle.c_grammar.specs.Statements.some_first Rattle.c_grammar.specs.Statements.for_first Rattle.c_grammar.specs.Statements.empty_condition Rattle.c_grammar.specs.Statements.some_condition Rattle.c_grammar.specs.Statements.for_condition Rattle.c_grammar.specs.Statements.empty_last Rattle.c_grammar.specs.Statements.some_last Rattle.c_grammar.specs.Statements.for_last Rattle.c_grammar.specs.Statements.for_after Rattle.c_grammar.specs.Statements.switch_value Rattle.c_grammar.specs.Statements.switch_after Rattle.c_grammar.specs.Statements.break_after Rattle.c_grammar.specs.Statements.continue_after Rattle.c_grammar.specs.Statements.return_nothing Rattle.c_grammar.specs.Statements.return_value Rattle.c_grammar.specs.Statements.return_after Rattle.c_grammar.specs.Statements.leaving_after Rattle.c_grammar.specs.Statements.worded_after Rattle.c_grammar.specs.Statements.worded Rattle.c_grammar.specs.Statements.empty_statement Rattle.c_grammar.specs.Statements.block Rattle.c_grammar.specs.Statements.effect_statement Rattle.c_grammar.specs.Statements.unworded_long Rattle.c_grammar.specs.Statements.unworded Rattle.c_grammar.specs.Statements.statement Rattle.c_grammar.specs.Statements.item Rattle.c_grammar.specs.Statements.switch_item Rattle.c_grammar.specs.Statements.placed_statement Rattle.c_grammar.specs.Statements.innermost_item Rattle.c_grammar.specs.Statements.innermost Rattle.c_grammar.specs.Statements.standing Rattle.c_grammar.specs.Units.global_initial Rattle.c_grammar.specs.Units.global_integer Rattle.c_grammar.specs.Units.global_array Rattle.c_grammar.specs.Units.object Rattle.c_grammar.specs.Units.prototype Rattle.c_grammar.specs.Units.declarator Rattle.c_grammar.specs.Units.further_declarator Rattle.c_grammar.specs.Units.declaration_after Rattle.c_grammar.specs.Units.body Rattle.c_grammar.specs.Units.open_body Rattle.c_grammar.specs.Units.definition_after Rattle.c_grammar.specs.Units.sees_body Rattle.c_grammar.specs.Units.external_after Rattle.c_grammar.specs.Units.external Rattle.c_grammar.specs.Units.unit Rattle.c_tokens.specs.Kinds.kind_of Rattle.c_tokens.specs.Tokens.longest Rattle.c_tokens.specs.Tokens.pieces_of Rattle.c_tokens.specs.Tokens.tokens_of Rattle.c_tokens.specs.Keywords.keywords Rattle.c_tokens.specs.Keywords.is_keyword
returns-clause-integer c = refl

pub returns-clause-open : goal.returns-clause-open
unfolding Rattle.c_grammar.specs.Symbols.is_statement_word Rattle.c_grammar.specs.Symbols.other_word Rattle.c_grammar.specs.Symbols.word_symbol Rattle.c_grammar.specs.Symbols.goes_with Rattle.c_grammar.specs.Tokens.mark Rattle.c_grammar.specs.Tokens.name Rattle.c_grammar.specs.Tokens.constant Rattle.c_grammar.specs.Tokens.next_number Rattle.c_grammar.specs.Tokens.sees Rattle.c_grammar.specs.Tokens.before Rattle.c_grammar.specs.Tokens.before_either Rattle.c_grammar.specs.Tokens.one_function Rattle.c_grammar.specs.Tokens.some_frames Rattle.c_grammar.specs.Tokens.some_elements Rattle.c_grammar.specs.Tokens.declares Rattle.c_grammar.specs.Tokens.gives_value Rattle.c_grammar.specs.Types.specifier Rattle.c_grammar.specs.Types.type_told Rattle.c_grammar.specs.Types.type_of Rattle.c_grammar.specs.Types.integer_told Rattle.c_grammar.specs.Types.integer_type Rattle.c_grammar.specs.Types.const_word Rattle.c_grammar.specs.Types.star Rattle.c_grammar.specs.Types.pointer_to Rattle.c_grammar.specs.Types.pointer_stars Rattle.c_grammar.specs.Types.minus_sign Rattle.c_grammar.specs.Types.minus_constant Rattle.c_grammar.specs.Types.plain_constant Rattle.c_grammar.specs.Types.signed_constant Rattle.c_grammar.specs.Types.assign_mark Rattle.c_grammar.specs.Types.comma_mark Rattle.c_grammar.specs.Types.element Rattle.c_grammar.specs.Types.further_element Rattle.c_grammar.specs.Types.close_brace Rattle.c_grammar.specs.Types.elements Rattle.c_grammar.specs.Types.element_list Rattle.c_grammar.specs.Types.left_bracket Rattle.c_grammar.specs.Types.right_bracket Rattle.c_grammar.specs.Types.array_size Rattle.c_grammar.specs.Types.array Rattle.c_grammar.specs.Types.parameter_end Rattle.c_grammar.specs.Types.pointer_parameter Rattle.c_grammar.specs.Types.empty_brackets Rattle.c_grammar.specs.Types.bracketed_type Rattle.c_grammar.specs.Types.plain_parameter Rattle.c_grammar.specs.Types.parameter_tail Rattle.c_grammar.specs.Types.further_parameter Rattle.c_grammar.specs.Types.right_paren Rattle.c_grammar.specs.Types.parameters_from Rattle.c_grammar.specs.Types.void_parameters Rattle.c_grammar.specs.Types.some_parameters Rattle.c_grammar.specs.Types.no_parameters Rattle.c_grammar.specs.Types.parameters Rattle.c_grammar.specs.Expressions.operator Rattle.c_grammar.specs.Expressions.shallow Rattle.c_grammar.specs.Expressions.some_depth Rattle.c_grammar.specs.Expressions.operation Rattle.c_grammar.specs.Expressions.open_bracket Rattle.c_grammar.specs.Expressions.close_bracket Rattle.c_grammar.specs.Expressions.index Rattle.c_grammar.specs.Expressions.close_paren Rattle.c_grammar.specs.Expressions.parenthesised Rattle.c_grammar.specs.Expressions.cast_type Rattle.c_grammar.specs.Expressions.cast Rattle.c_grammar.specs.Expressions.one_paren Rattle.c_grammar.specs.Expressions.bracketed Rattle.c_grammar.specs.Expressions.prefixed Rattle.c_grammar.specs.Expressions.lead Rattle.c_grammar.specs.Expressions.bracketed_indexed Rattle.c_grammar.specs.Expressions.operand_after Rattle.c_grammar.specs.Expressions.operand Rattle.c_grammar.specs.Expressions.expr_of Rattle.c_grammar.specs.Expressions.expr_within Rattle.c_grammar.specs.Expressions.expr Rattle.c_grammar.specs.Expressions.inner_of Rattle.c_grammar.specs.Expressions.deeper_of Rattle.c_grammar.specs.Expressions.whole_expr Rattle.c_grammar.specs.Expressions.condition Rattle.c_grammar.specs.Expressions.target Rattle.c_grammar.specs.Expressions.sees_call Rattle.c_grammar.specs.Expressions.call_frame Rattle.c_grammar.specs.Expressions.comma Rattle.c_grammar.specs.Expressions.argument Rattle.c_grammar.specs.Expressions.further_argument Rattle.c_grammar.specs.Expressions.some_arguments Rattle.c_grammar.specs.Expressions.no_arguments Rattle.c_grammar.specs.Expressions.arguments Rattle.c_grammar.specs.Expressions.some_token Rattle.c_grammar.specs.Expressions.open_paren Rattle.c_grammar.specs.Expressions.call Rattle.c_grammar.specs.Expressions.called_value Rattle.c_grammar.specs.Expressions.plain_value Rattle.c_grammar.specs.Expressions.assigned Rattle.c_grammar.specs.Statements.call_effect Rattle.c_grammar.specs.Statements.step Rattle.c_grammar.specs.Statements.prefix_step Rattle.c_grammar.specs.Statements.assigning_mark Rattle.c_grammar.specs.Statements.assign Rattle.c_grammar.specs.Statements.update Rattle.c_grammar.specs.Statements.postfix_step Rattle.c_grammar.specs.Statements.effect_after Rattle.c_grammar.specs.Statements.target_effect Rattle.c_grammar.specs.Statements.other_effect Rattle.c_grammar.specs.Statements.effect Rattle.c_grammar.specs.Statements.initial Rattle.c_grammar.specs.Statements.local_end Rattle.c_grammar.specs.Statements.pointer_local Rattle.c_grammar.specs.Statements.array_local Rattle.c_grammar.specs.Statements.integer_local Rattle.c_grammar.specs.Statements.plain_local Rattle.c_grammar.specs.Statements.local Rattle.c_grammar.specs.Statements.further_local Rattle.c_grammar.specs.Statements.semicolon Rattle.c_grammar.specs.Statements.declaration Rattle.c_grammar.specs.Statements.label_end Rattle.c_grammar.specs.Statements.colon Rattle.c_grammar.specs.Statements.case_label Rattle.c_grammar.specs.Statements.default_label Rattle.c_grammar.specs.Statements.label Rattle.c_grammar.specs.Statements.controlling Rattle.c_grammar.specs.Statements.else_part Rattle.c_grammar.specs.Statements.if_after Rattle.c_grammar.specs.Statements.while_after Rattle.c_grammar.specs.Statements.while_word Rattle.c_grammar.specs.Statements.do_after Rattle.c_grammar.specs.Statements.empty_first Rattle.c_grammar.specs.Statements.declared_first Rattle.c_grammar.specs.Statements.effect_first Rattle.c_grammar.specs.Statements.some_first Rattle.c_grammar.specs.Statements.for_first Rattle.c_grammar.specs.Statements.empty_condition Rattle.c_grammar.specs.Statements.some_condition Rattle.c_grammar.specs.Statements.for_condition Rattle.c_grammar.specs.Statements.empty_last Rattle.c_grammar.specs.Statements.some_last Rattle.c_grammar.specs.Statements.for_last Rattle.c_grammar.specs.Statements.for_after Rattle.c_grammar.specs.Statements.switch_value Rattle.c_grammar.specs.Statements.switch_after Rattle.c_grammar.specs.Statements.break_after Rattle.c_grammar.specs.Statements.continue_after Rattle.c_grammar.specs.Statements.return_nothing Rattle.c_grammar.specs.Statements.return_value Rattle.c_grammar.specs.Statements.return_after Rattle.c_grammar.specs.Statements.leaving_after Rattle.c_grammar.specs.Statements.worded_after Rattle.c_grammar.specs.Statements.worded Rattle.c_grammar.specs.Statements.empty_statement Rattle.c_grammar.specs.Statements.block Rattle.c_grammar.specs.Statements.effect_statement Rattle.c_grammar.specs.Statements.unworded_long Rattle.c_grammar.specs.Statements.unworded Rattle.c_grammar.specs.Statements.statement Rattle.c_grammar.specs.Statements.item Rattle.c_grammar.specs.Statements.switch_item Rattle.c_grammar.specs.Statements.placed_statement Rattle.c_grammar.specs.Statements.innermost_item Rattle.c_grammar.specs.Statements.innermost Rattle.c_grammar.specs.Statements.standing Rattle.c_grammar.specs.Units.global_initial Rattle.c_grammar.specs.Units.global_integer Rattle.c_grammar.specs.Units.global_array Rattle.c_grammar.specs.Units.object Rattle.c_grammar.specs.Units.prototype Rattle.c_grammar.specs.Units.declarator Rattle.c_grammar.specs.Units.further_declarator Rattle.c_grammar.specs.Units.declaration_after Rattle.c_grammar.specs.Units.body Rattle.c_grammar.specs.Units.open_body Rattle.c_grammar.specs.Units.definition_after Rattle.c_grammar.specs.Units.sees_body Rattle.c_grammar.specs.Units.external_after Rattle.c_grammar.specs.Units.external Rattle.c_grammar.specs.Units.unit Rattle.c_tokens.specs.Kinds.kind_of Rattle.c_tokens.specs.Tokens.longest Rattle.c_tokens.specs.Tokens.pieces_of Rattle.c_tokens.specs.Tokens.tokens_of Rattle.c_tokens.specs.Keywords.keywords Rattle.c_tokens.specs.Keywords.is_keyword
returns-clause-open c = refl

pub returns-clause-outside : goal.returns-clause-outside
unfolding Rattle.c_grammar.specs.Symbols.is_statement_word Rattle.c_grammar.specs.Symbols.other_word Rattle.c_grammar.specs.Symbols.word_symbol Rattle.c_grammar.specs.Symbols.goes_with Rattle.c_grammar.specs.Tokens.mark Rattle.c_grammar.specs.Tokens.name Rattle.c_grammar.specs.Tokens.constant Rattle.c_grammar.specs.Tokens.next_number Rattle.c_grammar.specs.Tokens.sees Rattle.c_grammar.specs.Tokens.before Rattle.c_grammar.specs.Tokens.before_either Rattle.c_grammar.specs.Tokens.one_function Rattle.c_grammar.specs.Tokens.some_frames Rattle.c_grammar.specs.Tokens.some_elements Rattle.c_grammar.specs.Tokens.declares Rattle.c_grammar.specs.Tokens.gives_value Rattle.c_grammar.specs.Types.specifier Rattle.c_grammar.specs.Types.type_told Rattle.c_grammar.specs.Types.type_of Rattle.c_grammar.specs.Types.integer_told Rattle.c_grammar.specs.Types.integer_type Rattle.c_grammar.specs.Types.const_word Rattle.c_grammar.specs.Types.star Rattle.c_grammar.specs.Types.pointer_to Rattle.c_grammar.specs.Types.pointer_stars Rattle.c_grammar.specs.Types.minus_sign Rattle.c_grammar.specs.Types.minus_constant Rattle.c_grammar.specs.Types.plain_constant Rattle.c_grammar.specs.Types.signed_constant Rattle.c_grammar.specs.Types.assign_mark Rattle.c_grammar.specs.Types.comma_mark Rattle.c_grammar.specs.Types.element Rattle.c_grammar.specs.Types.further_element Rattle.c_grammar.specs.Types.close_brace Rattle.c_grammar.specs.Types.elements Rattle.c_grammar.specs.Types.element_list Rattle.c_grammar.specs.Types.left_bracket Rattle.c_grammar.specs.Types.right_bracket Rattle.c_grammar.specs.Types.array_size Rattle.c_grammar.specs.Types.array Rattle.c_grammar.specs.Types.parameter_end Rattle.c_grammar.specs.Types.pointer_parameter Rattle.c_grammar.specs.Types.empty_brackets Rattle.c_grammar.specs.Types.bracketed_type Rattle.c_grammar.specs.Types.plain_parameter Rattle.c_grammar.specs.Types.parameter_tail Rattle.c_grammar.specs.Types.further_parameter Rattle.c_grammar.specs.Types.right_paren Rattle.c_grammar.specs.Types.parameters_from Rattle.c_grammar.specs.Types.void_parameters Rattle.c_grammar.specs.Types.some_parameters Rattle.c_grammar.specs.Types.no_parameters Rattle.c_grammar.specs.Types.parameters Rattle.c_grammar.specs.Expressions.operator Rattle.c_grammar.specs.Expressions.shallow Rattle.c_grammar.specs.Expressions.some_depth Rattle.c_grammar.specs.Expressions.operation Rattle.c_grammar.specs.Expressions.open_bracket Rattle.c_grammar.specs.Expressions.close_bracket Rattle.c_grammar.specs.Expressions.index Rattle.c_grammar.specs.Expressions.close_paren Rattle.c_grammar.specs.Expressions.parenthesised Rattle.c_grammar.specs.Expressions.cast_type Rattle.c_grammar.specs.Expressions.cast Rattle.c_grammar.specs.Expressions.one_paren Rattle.c_grammar.specs.Expressions.bracketed Rattle.c_grammar.specs.Expressions.prefixed Rattle.c_grammar.specs.Expressions.lead Rattle.c_grammar.specs.Expressions.bracketed_indexed Rattle.c_grammar.specs.Expressions.operand_after Rattle.c_grammar.specs.Expressions.operand Rattle.c_grammar.specs.Expressions.expr_of Rattle.c_grammar.specs.Expressions.expr_within Rattle.c_grammar.specs.Expressions.expr Rattle.c_grammar.specs.Expressions.inner_of Rattle.c_grammar.specs.Expressions.deeper_of Rattle.c_grammar.specs.Expressions.whole_expr Rattle.c_grammar.specs.Expressions.condition Rattle.c_grammar.specs.Expressions.target Rattle.c_grammar.specs.Expressions.sees_call Rattle.c_grammar.specs.Expressions.call_frame Rattle.c_grammar.specs.Expressions.comma Rattle.c_grammar.specs.Expressions.argument Rattle.c_grammar.specs.Expressions.further_argument Rattle.c_grammar.specs.Expressions.some_arguments Rattle.c_grammar.specs.Expressions.no_arguments Rattle.c_grammar.specs.Expressions.arguments Rattle.c_grammar.specs.Expressions.some_token Rattle.c_grammar.specs.Expressions.open_paren Rattle.c_grammar.specs.Expressions.call Rattle.c_grammar.specs.Expressions.called_value Rattle.c_grammar.specs.Expressions.plain_value Rattle.c_grammar.specs.Expressions.assigned Rattle.c_grammar.specs.Statements.call_effect Rattle.c_grammar.specs.Statements.step Rattle.c_grammar.specs.Statements.prefix_step Rattle.c_grammar.specs.Statements.assigning_mark Rattle.c_grammar.specs.Statements.assign Rattle.c_grammar.specs.Statements.update Rattle.c_grammar.specs.Statements.postfix_step Rattle.c_grammar.specs.Statements.effect_after Rattle.c_grammar.specs.Statements.target_effect Rattle.c_grammar.specs.Statements.other_effect Rattle.c_grammar.specs.Statements.effect Rattle.c_grammar.specs.Statements.initial Rattle.c_grammar.specs.Statements.local_end Rattle.c_grammar.specs.Statements.pointer_local Rattle.c_grammar.specs.Statements.array_local Rattle.c_grammar.specs.Statements.integer_local Rattle.c_grammar.specs.Statements.plain_local Rattle.c_grammar.specs.Statements.local Rattle.c_grammar.specs.Statements.further_local Rattle.c_grammar.specs.Statements.semicolon Rattle.c_grammar.specs.Statements.declaration Rattle.c_grammar.specs.Statements.label_end Rattle.c_grammar.specs.Statements.colon Rattle.c_grammar.specs.Statements.case_label Rattle.c_grammar.specs.Statements.default_label Rattle.c_grammar.specs.Statements.label Rattle.c_grammar.specs.Statements.controlling Rattle.c_grammar.specs.Statements.else_part Rattle.c_grammar.specs.Statements.if_after Rattle.c_grammar.specs.Statements.while_after Rattle.c_grammar.specs.Statements.while_word Rattle.c_grammar.specs.Statements.do_after Rattle.c_grammar.specs.Statements.empty_first Rattle.c_grammar.specs.Statements.declared_first Rattle.c_grammar.specs.Statements.effect_first Rattle.c_grammar.specs.Statements.some_first Rattle.c_grammar.specs.Statements.for_first Rattle.c_grammar.specs.Statements.empty_condition Rattle.c_grammar.specs.Statements.some_condition Rattle.c_grammar.specs.Statements.for_condition Rattle.c_grammar.specs.Statements.empty_last Rattle.c_grammar.specs.Statements.some_last Rattle.c_grammar.specs.Statements.for_last Rattle.c_grammar.specs.Statements.for_after Rattle.c_grammar.specs.Statements.switch_value Rattle.c_grammar.specs.Statements.switch_after Rattle.c_grammar.specs.Statements.break_after Rattle.c_grammar.specs.Statements.continue_after Rattle.c_grammar.specs.Statements.return_nothing Rattle.c_grammar.specs.Statements.return_value Rattle.c_grammar.specs.Statements.return_after Rattle.c_grammar.specs.Statements.leaving_after Rattle.c_grammar.specs.Statements.worded_after Rattle.c_grammar.specs.Statements.worded Rattle.c_grammar.specs.Statements.empty_statement Rattle.c_grammar.specs.Statements.block Rattle.c_grammar.specs.Statements.effect_statement Rattle.c_grammar.specs.Statements.unworded_long Rattle.c_grammar.specs.Statements.unworded Rattle.c_grammar.specs.Statements.statement Rattle.c_grammar.specs.Statements.item Rattle.c_grammar.specs.Statements.switch_item Rattle.c_grammar.specs.Statements.placed_statement Rattle.c_grammar.specs.Statements.innermost_item Rattle.c_grammar.specs.Statements.innermost Rattle.c_grammar.specs.Statements.standing Rattle.c_grammar.specs.Units.global_initial Rattle.c_grammar.specs.Units.global_integer Rattle.c_grammar.specs.Units.global_array Rattle.c_grammar.specs.Units.object Rattle.c_grammar.specs.Units.prototype Rattle.c_grammar.specs.Units.declarator Rattle.c_grammar.specs.Units.further_declarator Rattle.c_grammar.specs.Units.declaration_after Rattle.c_grammar.specs.Units.body Rattle.c_grammar.specs.Units.open_body Rattle.c_grammar.specs.Units.definition_after Rattle.c_grammar.specs.Units.sees_body Rattle.c_grammar.specs.Units.external_after Rattle.c_grammar.specs.Units.external Rattle.c_grammar.specs.Units.unit Rattle.c_tokens.specs.Kinds.kind_of Rattle.c_tokens.specs.Tokens.longest Rattle.c_tokens.specs.Tokens.pieces_of Rattle.c_tokens.specs.Tokens.tokens_of Rattle.c_tokens.specs.Keywords.keywords Rattle.c_tokens.specs.Keywords.is_keyword
returns-clause-outside c = refl

pub returns-clause-ranks : goal.returns-clause-ranks
unfolding Rattle.c_grammar.specs.Symbols.is_statement_word Rattle.c_grammar.specs.Symbols.other_word Rattle.c_grammar.specs.Symbols.word_symbol Rattle.c_grammar.specs.Symbols.goes_with Rattle.c_grammar.specs.Tokens.mark Rattle.c_grammar.specs.Tokens.name Rattle.c_grammar.specs.Tokens.constant Rattle.c_grammar.specs.Tokens.next_number Rattle.c_grammar.specs.Tokens.sees Rattle.c_grammar.specs.Tokens.before Rattle.c_grammar.specs.Tokens.before_either Rattle.c_grammar.specs.Tokens.one_function Rattle.c_grammar.specs.Tokens.some_frames Rattle.c_grammar.specs.Tokens.some_elements Rattle.c_grammar.specs.Tokens.declares Rattle.c_grammar.specs.Tokens.gives_value Rattle.c_grammar.specs.Types.specifier Rattle.c_grammar.specs.Types.type_told Rattle.c_grammar.specs.Types.type_of Rattle.c_grammar.specs.Types.integer_told Rattle.c_grammar.specs.Types.integer_type Rattle.c_grammar.specs.Types.const_word Rattle.c_grammar.specs.Types.star Rattle.c_grammar.specs.Types.pointer_to Rattle.c_grammar.specs.Types.pointer_stars Rattle.c_grammar.specs.Types.minus_sign Rattle.c_grammar.specs.Types.minus_constant Rattle.c_grammar.specs.Types.plain_constant Rattle.c_grammar.specs.Types.signed_constant Rattle.c_grammar.specs.Types.assign_mark Rattle.c_grammar.specs.Types.comma_mark Rattle.c_grammar.specs.Types.element Rattle.c_grammar.specs.Types.further_element Rattle.c_grammar.specs.Types.close_brace Rattle.c_grammar.specs.Types.elements Rattle.c_grammar.specs.Types.element_list Rattle.c_grammar.specs.Types.left_bracket Rattle.c_grammar.specs.Types.right_bracket Rattle.c_grammar.specs.Types.array_size Rattle.c_grammar.specs.Types.array Rattle.c_grammar.specs.Types.parameter_end Rattle.c_grammar.specs.Types.pointer_parameter Rattle.c_grammar.specs.Types.empty_brackets Rattle.c_grammar.specs.Types.bracketed_type Rattle.c_grammar.specs.Types.plain_parameter Rattle.c_grammar.specs.Types.parameter_tail Rattle.c_grammar.specs.Types.further_parameter Rattle.c_grammar.specs.Types.right_paren Rattle.c_grammar.specs.Types.parameters_from Rattle.c_grammar.specs.Types.void_parameters Rattle.c_grammar.specs.Types.some_parameters Rattle.c_grammar.specs.Types.no_parameters Rattle.c_grammar.specs.Types.parameters Rattle.c_grammar.specs.Expressions.operator Rattle.c_grammar.specs.Expressions.shallow Rattle.c_grammar.specs.Expressions.some_depth Rattle.c_grammar.specs.Expressions.operation Rattle.c_grammar.specs.Expressions.open_bracket Rattle.c_grammar.specs.Expressions.close_bracket Rattle.c_grammar.specs.Expressions.index Rattle.c_grammar.specs.Expressions.close_paren Rattle.c_grammar.specs.Expressions.parenthesised Rattle.c_grammar.specs.Expressions.cast_type Rattle.c_grammar.specs.Expressions.cast Rattle.c_grammar.specs.Expressions.one_paren Rattle.c_grammar.specs.Expressions.bracketed Rattle.c_grammar.specs.Expressions.prefixed Rattle.c_grammar.specs.Expressions.lead Rattle.c_grammar.specs.Expressions.bracketed_indexed Rattle.c_grammar.specs.Expressions.operand_after Rattle.c_grammar.specs.Expressions.operand Rattle.c_grammar.specs.Expressions.expr_of Rattle.c_grammar.specs.Expressions.expr_within Rattle.c_grammar.specs.Expressions.expr Rattle.c_grammar.specs.Expressions.inner_of Rattle.c_grammar.specs.Expressions.deeper_of Rattle.c_grammar.specs.Expressions.whole_expr Rattle.c_grammar.specs.Expressions.condition Rattle.c_grammar.specs.Expressions.target Rattle.c_grammar.specs.Expressions.sees_call Rattle.c_grammar.specs.Expressions.call_frame Rattle.c_grammar.specs.Expressions.comma Rattle.c_grammar.specs.Expressions.argument Rattle.c_grammar.specs.Expressions.further_argument Rattle.c_grammar.specs.Expressions.some_arguments Rattle.c_grammar.specs.Expressions.no_arguments Rattle.c_grammar.specs.Expressions.arguments Rattle.c_grammar.specs.Expressions.some_token Rattle.c_grammar.specs.Expressions.open_paren Rattle.c_grammar.specs.Expressions.call Rattle.c_grammar.specs.Expressions.called_value Rattle.c_grammar.specs.Expressions.plain_value Rattle.c_grammar.specs.Expressions.assigned Rattle.c_grammar.specs.Statements.call_effect Rattle.c_grammar.specs.Statements.step Rattle.c_grammar.specs.Statements.prefix_step Rattle.c_grammar.specs.Statements.assigning_mark Rattle.c_grammar.specs.Statements.assign Rattle.c_grammar.specs.Statements.update Rattle.c_grammar.specs.Statements.postfix_step Rattle.c_grammar.specs.Statements.effect_after Rattle.c_grammar.specs.Statements.target_effect Rattle.c_grammar.specs.Statements.other_effect Rattle.c_grammar.specs.Statements.effect Rattle.c_grammar.specs.Statements.initial Rattle.c_grammar.specs.Statements.local_end Rattle.c_grammar.specs.Statements.pointer_local Rattle.c_grammar.specs.Statements.array_local Rattle.c_grammar.specs.Statements.integer_local Rattle.c_grammar.specs.Statements.plain_local Rattle.c_grammar.specs.Statements.local Rattle.c_grammar.specs.Statements.further_local Rattle.c_grammar.specs.Statements.semicolon Rattle.c_grammar.specs.Statements.declaration Rattle.c_grammar.specs.Statements.label_end Rattle.c_grammar.specs.Statements.colon Rattle.c_grammar.specs.Statements.case_label Rattle.c_grammar.specs.Statements.default_label Rattle.c_grammar.specs.Statements.label Rattle.c_grammar.specs.Statements.controlling Rattle.c_grammar.specs.Statements.else_part Rattle.c_grammar.specs.Statements.if_after Rattle.c_grammar.specs.Statements.while_after Rattle.c_grammar.specs.Statements.while_word Rattle.c_grammar.specs.Statements.do_after Rattle.c_grammar.specs.Statements.empty_first Rattle.c_grammar.specs.Statements.declared_first Rattle.c_grammar.specs.Statements.effect_first Rattle.c_grammar.specs.Statements.some_first Rattle.c_grammar.specs.Statements.for_first Rattle.c_grammar.specs.Statements.empty_condition Rattle.c_grammar.specs.Statements.some_condition Rattle.c_grammar.specs.Statements.for_condition Rattle.c_grammar.specs.Statements.empty_last Rattle.c_grammar.specs.Statements.some_last Rattle.c_grammar.specs.Statements.for_last Rattle.c_grammar.specs.Statements.for_after Rattle.c_grammar.specs.Statements.switch_value Rattle.c_grammar.specs.Statements.switch_after Rattle.c_grammar.specs.Statements.break_after Rattle.c_grammar.specs.Statements.continue_after Rattle.c_grammar.specs.Statements.return_nothing Rattle.c_grammar.specs.Statements.return_value Rattle.c_grammar.specs.Statements.return_after Rattle.c_grammar.specs.Statements.leaving_after Rattle.c_grammar.specs.Statements.worded_after Rattle.c_grammar.specs.Statements.worded Rattle.c_grammar.specs.Statements.empty_statement Rattle.c_grammar.specs.Statements.block Rattle.c_grammar.specs.Statements.effect_statement Rattle.c_grammar.specs.Statements.unworded_long Rattle.c_grammar.specs.Statements.unworded Rattle.c_grammar.specs.Statements.statement Rattle.c_grammar.specs.Statements.item Rattle.c_grammar.specs.Statements.switch_item Rattle.c_grammar.specs.Statements.placed_statement Rattle.c_grammar.specs.Statements.innermost_item Rattle.c_grammar.specs.Statements.innermost Rattle.c_grammar.specs.Statements.standing Rattle.c_grammar.specs.Units.global_initial Rattle.c_grammar.specs.Units.global_integer Rattle.c_grammar.specs.Units.global_array Rattle.c_grammar.specs.Units.object Rattle.c_grammar.specs.Units.prototype Rattle.c_grammar.specs.Units.declarator Rattle.c_grammar.specs.Units.further_declarator Rattle.c_grammar.specs.Units.declaration_after Rattle.c_grammar.specs.Units.body Rattle.c_grammar.specs.Units.open_body Rattle.c_grammar.specs.Units.definition_after Rattle.c_grammar.specs.Units.sees_body Rattle.c_grammar.specs.Units.external_after Rattle.c_grammar.specs.Units.external Rattle.c_grammar.specs.Units.unit Rattle.c_tokens.specs.Kinds.kind_of Rattle.c_tokens.specs.Tokens.longest Rattle.c_tokens.specs.Tokens.pieces_of Rattle.c_tokens.specs.Tokens.tokens_of Rattle.c_tokens.specs.Keywords.keywords Rattle.c_tokens.specs.Keywords.is_keyword
returns-clause-ranks c = refl

pub returns-clause-held : goal.returns-clause-held
unfolding Rattle.c_grammar.specs.Symbols.is_statement_word Rattle.c_grammar.specs.Symbols.other_word Rattle.c_grammar.specs.Symbols.word_symbol Rattle.c_grammar.specs.Symbols.goes_with Rattle.c_grammar.specs.Tokens.mark Rattle.c_grammar.specs.Tokens.name Rattle.c_grammar.specs.Tokens.constant Rattle.c_grammar.specs.Tokens.next_number Rattle.c_grammar.specs.Tokens.sees Rattle.c_grammar.specs.Tokens.before Rattle.c_grammar.specs.Tokens.before_either Rattle.c_grammar.specs.Tokens.one_function Rattle.c_grammar.specs.Tokens.some_frames Rattle.c_grammar.specs.Tokens.some_elements Rattle.c_grammar.specs.Tokens.declares Rattle.c_grammar.specs.Tokens.gives_value Rattle.c_grammar.specs.Types.specifier Rattle.c_grammar.specs.Types.type_told Rattle.c_grammar.specs.Types.type_of Rattle.c_grammar.specs.Types.integer_told Rattle.c_grammar.specs.Types.integer_type Rattle.c_grammar.specs.Types.const_word Rattle.c_grammar.specs.Types.star Rattle.c_grammar.specs.Types.pointer_to Rattle.c_grammar.specs.Types.pointer_stars Rattle.c_grammar.specs.Types.minus_sign Rattle.c_grammar.specs.Types.minus_constant Rattle.c_grammar.specs.Types.plain_constant Rattle.c_grammar.specs.Types.signed_constant Rattle.c_grammar.specs.Types.assign_mark Rattle.c_grammar.specs.Types.comma_mark Rattle.c_grammar.specs.Types.element Rattle.c_grammar.specs.Types.further_element Rattle.c_grammar.specs.Types.close_brace Rattle.c_grammar.specs.Types.elements Rattle.c_grammar.specs.Types.element_list Rattle.c_grammar.specs.Types.left_bracket Rattle.c_grammar.specs.Types.right_bracket Rattle.c_grammar.specs.Types.array_size Rattle.c_grammar.specs.Types.array Rattle.c_grammar.specs.Types.parameter_end Rattle.c_grammar.specs.Types.pointer_parameter Rattle.c_grammar.specs.Types.empty_brackets Rattle.c_grammar.specs.Types.bracketed_type Rattle.c_grammar.specs.Types.plain_parameter Rattle.c_grammar.specs.Types.parameter_tail Rattle.c_grammar.specs.Types.further_parameter Rattle.c_grammar.specs.Types.right_paren Rattle.c_grammar.specs.Types.parameters_from Rattle.c_grammar.specs.Types.void_parameters Rattle.c_grammar.specs.Types.some_parameters Rattle.c_grammar.specs.Types.no_parameters Rattle.c_grammar.specs.Types.parameters Rattle.c_grammar.specs.Expressions.operator Rattle.c_grammar.specs.Expressions.shallow Rattle.c_grammar.specs.Expressions.some_depth Rattle.c_grammar.specs.Expressions.operation Rattle.c_grammar.specs.Expressions.open_bracket Rattle.c_grammar.specs.Expressions.close_bracket Rattle.c_grammar.specs.Expressions.index Rattle.c_grammar.specs.Expressions.close_paren Rattle.c_grammar.specs.Expressions.parenthesised Rattle.c_grammar.specs.Expressions.cast_type Rattle.c_grammar.specs.Expressions.cast Rattle.c_grammar.specs.Expressions.one_paren Rattle.c_grammar.specs.Expressions.bracketed Rattle.c_grammar.specs.Expressions.prefixed Rattle.c_grammar.specs.Expressions.lead Rattle.c_grammar.specs.Expressions.bracketed_indexed Rattle.c_grammar.specs.Expressions.operand_after Rattle.c_grammar.specs.Expressions.operand Rattle.c_grammar.specs.Expressions.expr_of Rattle.c_grammar.specs.Expressions.expr_within Rattle.c_grammar.specs.Expressions.expr Rattle.c_grammar.specs.Expressions.inner_of Rattle.c_grammar.specs.Expressions.deeper_of Rattle.c_grammar.specs.Expressions.whole_expr Rattle.c_grammar.specs.Expressions.condition Rattle.c_grammar.specs.Expressions.target Rattle.c_grammar.specs.Expressions.sees_call Rattle.c_grammar.specs.Expressions.call_frame Rattle.c_grammar.specs.Expressions.comma Rattle.c_grammar.specs.Expressions.argument Rattle.c_grammar.specs.Expressions.further_argument Rattle.c_grammar.specs.Expressions.some_arguments Rattle.c_grammar.specs.Expressions.no_arguments Rattle.c_grammar.specs.Expressions.arguments Rattle.c_grammar.specs.Expressions.some_token Rattle.c_grammar.specs.Expressions.open_paren Rattle.c_grammar.specs.Expressions.call Rattle.c_grammar.specs.Expressions.called_value Rattle.c_grammar.specs.Expressions.plain_value Rattle.c_grammar.specs.Expressions.assigned Rattle.c_grammar.specs.Statements.call_effect Rattle.c_grammar.specs.Statements.step Rattle.c_grammar.specs.Statements.prefix_step Rattle.c_grammar.specs.Statements.assigning_mark Rattle.c_grammar.specs.Statements.assign Rattle.c_grammar.specs.Statements.update Rattle.c_grammar.specs.Statements.postfix_step Rattle.c_grammar.specs.Statements.effect_after Rattle.c_grammar.specs.Statements.target_effect Rattle.c_grammar.specs.Statements.other_effect Rattle.c_grammar.specs.Statements.effect Rattle.c_grammar.specs.Statements.initial Rattle.c_grammar.specs.Statements.local_end Rattle.c_grammar.specs.Statements.pointer_local Rattle.c_grammar.specs.Statements.array_local Rattle.c_grammar.specs.Statements.integer_local Rattle.c_grammar.specs.Statements.plain_local Rattle.c_grammar.specs.Statements.local Rattle.c_grammar.specs.Statements.further_local Rattle.c_grammar.specs.Statements.semicolon Rattle.c_grammar.specs.Statements.declaration Rattle.c_grammar.specs.Statements.label_end Rattle.c_grammar.specs.Statements.colon Rattle.c_grammar.specs.Statements.case_label Rattle.c_grammar.specs.Statements.default_label Rattle.c_grammar.specs.Statements.label Rattle.c_grammar.specs.Statements.controlling Rattle.c_grammar.specs.Statements.else_part Rattle.c_grammar.specs.Statements.if_after Rattle.c_grammar.specs.Statements.while_after Rattle.c_grammar.specs.Statements.while_word Rattle.c_grammar.specs.Statements.do_after Rattle.c_grammar.specs.Statements.empty_first Rattle.c_grammar.specs.Statements.declared_first Rattle.c_grammar.specs.Statements.effect_first Rattle.c_grammar.specs.Statements.some_first Rattle.c_grammar.specs.Statements.for_first Rattle.c_grammar.specs.Statements.empty_condition Rattle.c_grammar.specs.Statements.some_condition Rattle.c_grammar.specs.Statements.for_condition Rattle.c_grammar.specs.Statements.empty_last Rattle.c_grammar.specs.Statements.some_last Rattle.c_grammar.specs.Statements.for_last Rattle.c_grammar.specs.Statements.for_after Rattle.c_grammar.specs.Statements.switch_value Rattle.c_grammar.specs.Statements.switch_after Rattle.c_grammar.specs.Statements.break_after Rattle.c_grammar.specs.Statements.continue_after Rattle.c_grammar.specs.Statements.return_nothing Rattle.c_grammar.specs.Statements.return_value Rattle.c_grammar.specs.Statements.return_after Rattle.c_grammar.specs.Statements.leaving_after Rattle.c_grammar.specs.Statements.worded_after Rattle.c_grammar.specs.Statements.worded Rattle.c_grammar.specs.Statements.empty_statement Rattle.c_grammar.specs.Statements.block Rattle.c_grammar.specs.Statements.effect_statement Rattle.c_grammar.specs.Statements.unworded_long Rattle.c_grammar.specs.Statements.unworded Rattle.c_grammar.specs.Statements.statement Rattle.c_grammar.specs.Statements.item Rattle.c_grammar.specs.Statements.switch_item Rattle.c_grammar.specs.Statements.placed_statement Rattle.c_grammar.specs.Statements.innermost_item Rattle.c_grammar.specs.Statements.innermost Rattle.c_grammar.specs.Statements.standing Rattle.c_grammar.specs.Units.global_initial Rattle.c_grammar.specs.Units.global_integer Rattle.c_grammar.specs.Units.global_array Rattle.c_grammar.specs.Units.object Rattle.c_grammar.specs.Units.prototype Rattle.c_grammar.specs.Units.declarator Rattle.c_grammar.specs.Units.further_declarator Rattle.c_grammar.specs.Units.declaration_after Rattle.c_grammar.specs.Units.body Rattle.c_grammar.specs.Units.open_body Rattle.c_grammar.specs.Units.definition_after Rattle.c_grammar.specs.Units.sees_body Rattle.c_grammar.specs.Units.external_after Rattle.c_grammar.specs.Units.external Rattle.c_grammar.specs.Units.unit Rattle.c_tokens.specs.Kinds.kind_of Rattle.c_tokens.specs.Tokens.longest Rattle.c_tokens.specs.Tokens.pieces_of Rattle.c_tokens.specs.Tokens.tokens_of Rattle.c_tokens.specs.Keywords.keywords Rattle.c_tokens.specs.Keywords.is_keyword
returns-clause-held c = refl

pub returns-clause-array : goal.returns-clause-array
unfolding Rattle.c_grammar.specs.Symbols.is_statement_word Rattle.c_grammar.specs.Symbols.other_word Rattle.c_grammar.specs.Symbols.word_symbol Rattle.c_grammar.specs.Symbols.goes_with Rattle.c_grammar.specs.Tokens.mark Rattle.c_grammar.specs.Tokens.name Rattle.c_grammar.specs.Tokens.constant Rattle.c_grammar.specs.Tokens.next_number Rattle.c_grammar.specs.Tokens.sees Rattle.c_grammar.specs.Tokens.before Rattle.c_grammar.specs.Tokens.before_either Rattle.c_grammar.specs.Tokens.one_function Rattle.c_grammar.specs.Tokens.some_frames Rattle.c_grammar.specs.Tokens.some_elements Rattle.c_grammar.specs.Tokens.declares Rattle.c_grammar.specs.Tokens.gives_value Rattle.c_grammar.specs.Types.specifier Rattle.c_grammar.specs.Types.type_told Rattle.c_grammar.specs.Types.type_of Rattle.c_grammar.specs.Types.integer_told Rattle.c_grammar.specs.Types.integer_type Rattle.c_grammar.specs.Types.const_word Rattle.c_grammar.specs.Types.star Rattle.c_grammar.specs.Types.pointer_to Rattle.c_grammar.specs.Types.pointer_stars Rattle.c_grammar.specs.Types.minus_sign Rattle.c_grammar.specs.Types.minus_constant Rattle.c_grammar.specs.Types.plain_constant Rattle.c_grammar.specs.Types.signed_constant Rattle.c_grammar.specs.Types.assign_mark Rattle.c_grammar.specs.Types.comma_mark Rattle.c_grammar.specs.Types.element Rattle.c_grammar.specs.Types.further_element Rattle.c_grammar.specs.Types.close_brace Rattle.c_grammar.specs.Types.elements Rattle.c_grammar.specs.Types.element_list Rattle.c_grammar.specs.Types.left_bracket Rattle.c_grammar.specs.Types.right_bracket Rattle.c_grammar.specs.Types.array_size Rattle.c_grammar.specs.Types.array Rattle.c_grammar.specs.Types.parameter_end Rattle.c_grammar.specs.Types.pointer_parameter Rattle.c_grammar.specs.Types.empty_brackets Rattle.c_grammar.specs.Types.bracketed_type Rattle.c_grammar.specs.Types.plain_parameter Rattle.c_grammar.specs.Types.parameter_tail Rattle.c_grammar.specs.Types.further_parameter Rattle.c_grammar.specs.Types.right_paren Rattle.c_grammar.specs.Types.parameters_from Rattle.c_grammar.specs.Types.void_parameters Rattle.c_grammar.specs.Types.some_parameters Rattle.c_grammar.specs.Types.no_parameters Rattle.c_grammar.specs.Types.parameters Rattle.c_grammar.specs.Expressions.operator Rattle.c_grammar.specs.Expressions.shallow Rattle.c_grammar.specs.Expressions.some_depth Rattle.c_grammar.specs.Expressions.operation Rattle.c_grammar.specs.Expressions.open_bracket Rattle.c_grammar.specs.Expressions.close_bracket Rattle.c_grammar.specs.Expressions.index Rattle.c_grammar.specs.Expressions.close_paren Rattle.c_grammar.specs.Expressions.parenthesised Rattle.c_grammar.specs.Expressions.cast_type Rattle.c_grammar.specs.Expressions.cast Rattle.c_grammar.specs.Expressions.one_paren Rattle.c_grammar.specs.Expressions.bracketed Rattle.c_grammar.specs.Expressions.prefixed Rattle.c_grammar.specs.Expressions.lead Rattle.c_grammar.specs.Expressions.bracketed_indexed Rattle.c_grammar.specs.Expressions.operand_after Rattle.c_grammar.specs.Expressions.operand Rattle.c_grammar.specs.Expressions.expr_of Rattle.c_grammar.specs.Expressions.expr_within Rattle.c_grammar.specs.Expressions.expr Rattle.c_grammar.specs.Expressions.inner_of Rattle.c_grammar.specs.Expressions.deeper_of Rattle.c_grammar.specs.Expressions.whole_expr Rattle.c_grammar.specs.Expressions.condition Rattle.c_grammar.specs.Expressions.target Rattle.c_grammar.specs.Expressions.sees_call Rattle.c_grammar.specs.Expressions.call_frame Rattle.c_grammar.specs.Expressions.comma Rattle.c_grammar.specs.Expressions.argument Rattle.c_grammar.specs.Expressions.further_argument Rattle.c_grammar.specs.Expressions.some_arguments Rattle.c_grammar.specs.Expressions.no_arguments Rattle.c_grammar.specs.Expressions.arguments Rattle.c_grammar.specs.Expressions.some_token Rattle.c_grammar.specs.Expressions.open_paren Rattle.c_grammar.specs.Expressions.call Rattle.c_grammar.specs.Expressions.called_value Rattle.c_grammar.specs.Expressions.plain_value Rattle.c_grammar.specs.Expressions.assigned Rattle.c_grammar.specs.Statements.call_effect Rattle.c_grammar.specs.Statements.step Rattle.c_grammar.specs.Statements.prefix_step Rattle.c_grammar.specs.Statements.assigning_mark Rattle.c_grammar.specs.Statements.assign Rattle.c_grammar.specs.Statements.update Rattle.c_grammar.specs.Statements.postfix_step Rattle.c_grammar.specs.Statements.effect_after Rattle.c_grammar.specs.Statements.target_effect Rattle.c_grammar.specs.Statements.other_effect Rattle.c_grammar.specs.Statements.effect Rattle.c_grammar.specs.Statements.initial Rattle.c_grammar.specs.Statements.local_end Rattle.c_grammar.specs.Statements.pointer_local Rattle.c_grammar.specs.Statements.array_local Rattle.c_grammar.specs.Statements.integer_local Rattle.c_grammar.specs.Statements.plain_local Rattle.c_grammar.specs.Statements.local Rattle.c_grammar.specs.Statements.further_local Rattle.c_grammar.specs.Statements.semicolon Rattle.c_grammar.specs.Statements.declaration Rattle.c_grammar.specs.Statements.label_end Rattle.c_grammar.specs.Statements.colon Rattle.c_grammar.specs.Statements.case_label Rattle.c_grammar.specs.Statements.default_label Rattle.c_grammar.specs.Statements.label Rattle.c_grammar.specs.Statements.controlling Rattle.c_grammar.specs.Statements.else_part Rattle.c_grammar.specs.Statements.if_after Rattle.c_grammar.specs.Statements.while_after Rattle.c_grammar.specs.Statements.while_word Rattle.c_grammar.specs.Statements.do_after Rattle.c_grammar.specs.Statements.empty_first Rattle.c_grammar.specs.Statements.declared_first Rattle.c_grammar.specs.Statements.effect_first Rattle.c_grammar.specs.Statements.some_first Rattle.c_grammar.specs.Statements.for_first Rattle.c_grammar.specs.Statements.empty_condition Rattle.c_grammar.specs.Statements.some_condition Rattle.c_grammar.specs.Statements.for_condition Rattle.c_grammar.specs.Statements.empty_last Rattle.c_grammar.specs.Statements.some_last Rattle.c_grammar.specs.Statements.for_last Rattle.c_grammar.specs.Statements.for_after Rattle.c_grammar.specs.Statements.switch_value Rattle.c_grammar.specs.Statements.switch_after Rattle.c_grammar.specs.Statements.break_after Rattle.c_grammar.specs.Statements.continue_after Rattle.c_grammar.specs.Statements.return_nothing Rattle.c_grammar.specs.Statements.return_value Rattle.c_grammar.specs.Statements.return_after Rattle.c_grammar.specs.Statements.leaving_after Rattle.c_grammar.specs.Statements.worded_after Rattle.c_grammar.specs.Statements.worded Rattle.c_grammar.specs.Statements.empty_statement Rattle.c_grammar.specs.Statements.block Rattle.c_grammar.specs.Statements.effect_statement Rattle.c_grammar.specs.Statements.unworded_long Rattle.c_grammar.specs.Statements.unworded Rattle.c_grammar.specs.Statements.statement Rattle.c_grammar.specs.Statements.item Rattle.c_grammar.specs.Statements.switch_item Rattle.c_grammar.specs.Statements.placed_statement Rattle.c_grammar.specs.Statements.innermost_item Rattle.c_grammar.specs.Statements.innermost Rattle.c_grammar.specs.Statements.standing Rattle.c_grammar.specs.Units.global_initial Rattle.c_grammar.specs.Units.global_integer Rattle.c_grammar.specs.Units.global_array Rattle.c_grammar.specs.Units.object Rattle.c_grammar.specs.Units.prototype Rattle.c_grammar.specs.Units.declarator Rattle.c_grammar.specs.Units.further_declarator Rattle.c_grammar.specs.Units.declaration_after Rattle.c_grammar.specs.Units.body Rattle.c_grammar.specs.Units.open_body Rattle.c_grammar.specs.Units.definition_after Rattle.c_grammar.specs.Units.sees_body Rattle.c_grammar.specs.Units.external_after Rattle.c_grammar.specs.Units.external Rattle.c_grammar.specs.Units.unit Rattle.c_tokens.specs.Kinds.kind_of Rattle.c_tokens.specs.Tokens.longest Rattle.c_tokens.specs.Tokens.pieces_of Rattle.c_tokens.specs.Tokens.tokens_of Rattle.c_tokens.specs.Keywords.keywords Rattle.c_tokens.specs.Keywords.is_keyword
returns-clause-array c = refl

pub returns-clause-casts : goal.returns-clause-casts
unfolding Rattle.c_grammar.specs.Symbols.is_statement_word Rattle.c_grammar.specs.Symbols.other_word Rattle.c_grammar.specs.Symbols.word_symbol Rattle.c_grammar.specs.Symbols.goes_with Rattle.c_grammar.specs.Tokens.mark Rattle.c_grammar.specs.Tokens.name Rattle.c_grammar.specs.Tokens.constant Rattle.c_grammar.specs.Tokens.next_number Rattle.c_grammar.specs.Tokens.sees Rattle.c_grammar.specs.Tokens.before Rattle.c_grammar.specs.Tokens.before_either Rattle.c_grammar.specs.Tokens.one_function Rattle.c_grammar.specs.Tokens.some_frames Rattle.c_grammar.specs.Tokens.some_elements Rattle.c_grammar.specs.Tokens.declares Rattle.c_grammar.specs.Tokens.gives_value Rattle.c_grammar.specs.Types.specifier Rattle.c_grammar.specs.Types.type_told Rattle.c_grammar.specs.Types.type_of Rattle.c_grammar.specs.Types.integer_told Rattle.c_grammar.specs.Types.integer_type Rattle.c_grammar.specs.Types.const_word Rattle.c_grammar.specs.Types.star Rattle.c_grammar.specs.Types.pointer_to Rattle.c_grammar.specs.Types.pointer_stars Rattle.c_grammar.specs.Types.minus_sign Rattle.c_grammar.specs.Types.minus_constant Rattle.c_grammar.specs.Types.plain_constant Rattle.c_grammar.specs.Types.signed_constant Rattle.c_grammar.specs.Types.assign_mark Rattle.c_grammar.specs.Types.comma_mark Rattle.c_grammar.specs.Types.element Rattle.c_grammar.specs.Types.further_element Rattle.c_grammar.specs.Types.close_brace Rattle.c_grammar.specs.Types.elements Rattle.c_grammar.specs.Types.element_list Rattle.c_grammar.specs.Types.left_bracket Rattle.c_grammar.specs.Types.right_bracket Rattle.c_grammar.specs.Types.array_size Rattle.c_grammar.specs.Types.array Rattle.c_grammar.specs.Types.parameter_end Rattle.c_grammar.specs.Types.pointer_parameter Rattle.c_grammar.specs.Types.empty_brackets Rattle.c_grammar.specs.Types.bracketed_type Rattle.c_grammar.specs.Types.plain_parameter Rattle.c_grammar.specs.Types.parameter_tail Rattle.c_grammar.specs.Types.further_parameter Rattle.c_grammar.specs.Types.right_paren Rattle.c_grammar.specs.Types.parameters_from Rattle.c_grammar.specs.Types.void_parameters Rattle.c_grammar.specs.Types.some_parameters Rattle.c_grammar.specs.Types.no_parameters Rattle.c_grammar.specs.Types.parameters Rattle.c_grammar.specs.Expressions.operator Rattle.c_grammar.specs.Expressions.shallow Rattle.c_grammar.specs.Expressions.some_depth Rattle.c_grammar.specs.Expressions.operation Rattle.c_grammar.specs.Expressions.open_bracket Rattle.c_grammar.specs.Expressions.close_bracket Rattle.c_grammar.specs.Expressions.index Rattle.c_grammar.specs.Expressions.close_paren Rattle.c_grammar.specs.Expressions.parenthesised Rattle.c_grammar.specs.Expressions.cast_type Rattle.c_grammar.specs.Expressions.cast Rattle.c_grammar.specs.Expressions.one_paren Rattle.c_grammar.specs.Expressions.bracketed Rattle.c_grammar.specs.Expressions.prefixed Rattle.c_grammar.specs.Expressions.lead Rattle.c_grammar.specs.Expressions.bracketed_indexed Rattle.c_grammar.specs.Expressions.operand_after Rattle.c_grammar.specs.Expressions.operand Rattle.c_grammar.specs.Expressions.expr_of Rattle.c_grammar.specs.Expressions.expr_within Rattle.c_grammar.specs.Expressions.expr Rattle.c_grammar.specs.Expressions.inner_of Rattle.c_grammar.specs.Expressions.deeper_of Rattle.c_grammar.specs.Expressions.whole_expr Rattle.c_grammar.specs.Expressions.condition Rattle.c_grammar.specs.Expressions.target Rattle.c_grammar.specs.Expressions.sees_call Rattle.c_grammar.specs.Expressions.call_frame Rattle.c_grammar.specs.Expressions.comma Rattle.c_grammar.specs.Expressions.argument Rattle.c_grammar.specs.Expressions.further_argument Rattle.c_grammar.specs.Expressions.some_arguments Rattle.c_grammar.specs.Expressions.no_arguments Rattle.c_grammar.specs.Expressions.arguments Rattle.c_grammar.specs.Expressions.some_token Rattle.c_grammar.specs.Expressions.open_paren Rattle.c_grammar.specs.Expressions.call Rattle.c_grammar.specs.Expressions.called_value Rattle.c_grammar.specs.Expressions.plain_value Rattle.c_grammar.specs.Expressions.assigned Rattle.c_grammar.specs.Statements.call_effect Rattle.c_grammar.specs.Statements.step Rattle.c_grammar.specs.Statements.prefix_step Rattle.c_grammar.specs.Statements.assigning_mark Rattle.c_grammar.specs.Statements.assign Rattle.c_grammar.specs.Statements.update Rattle.c_grammar.specs.Statements.postfix_step Rattle.c_grammar.specs.Statements.effect_after Rattle.c_grammar.specs.Statements.target_effect Rattle.c_grammar.specs.Statements.other_effect Rattle.c_grammar.specs.Statements.effect Rattle.c_grammar.specs.Statements.initial Rattle.c_grammar.specs.Statements.local_end Rattle.c_grammar.specs.Statements.pointer_local Rattle.c_grammar.specs.Statements.array_local Rattle.c_grammar.specs.Statements.integer_local Rattle.c_grammar.specs.Statements.plain_local Rattle.c_grammar.specs.Statements.local Rattle.c_grammar.specs.Statements.further_local Rattle.c_grammar.specs.Statements.semicolon Rattle.c_grammar.specs.Statements.declaration Rattle.c_grammar.specs.Statements.label_end Rattle.c_grammar.specs.Statements.colon Rattle.c_grammar.specs.Statements.case_label Rattle.c_grammar.specs.Statements.default_label Rattle.c_grammar.specs.Statements.label Rattle.c_grammar.specs.Statements.controlling Rattle.c_grammar.specs.Statements.else_part Rattle.c_grammar.specs.Statements.if_after Rattle.c_grammar.specs.Statements.while_after Rattle.c_grammar.specs.Statements.while_word Rattle.c_grammar.specs.Statements.do_after Rattle.c_grammar.specs.Statements.empty_first Rattle.c_grammar.specs.Statements.declared_first Rattle.c_grammar.specs.Statements.effect_first Rattle.c_grammar.specs.Statements.some_first Rattle.c_grammar.specs.Statements.for_first Rattle.c_grammar.specs.Statements.empty_condition Rattle.c_grammar.specs.Statements.some_condition Rattle.c_grammar.specs.Statements.for_condition Rattle.c_grammar.specs.Statements.empty_last Rattle.c_grammar.specs.Statements.some_last Rattle.c_grammar.specs.Statements.for_last Rattle.c_grammar.specs.Statements.for_after Rattle.c_grammar.specs.Statements.switch_value Rattle.c_grammar.specs.Statements.switch_after Rattle.c_grammar.specs.Statements.break_after Rattle.c_grammar.specs.Statements.continue_after Rattle.c_grammar.specs.Statements.return_nothing Rattle.c_grammar.specs.Statements.return_value Rattle.c_grammar.specs.Statements.return_after Rattle.c_grammar.specs.Statements.leaving_after Rattle.c_grammar.specs.Statements.worded_after Rattle.c_grammar.specs.Statements.worded Rattle.c_grammar.specs.Statements.empty_statement Rattle.c_grammar.specs.Statements.block Rattle.c_grammar.specs.Statements.effect_statement Rattle.c_grammar.specs.Statements.unworded_long Rattle.c_grammar.specs.Statements.unworded Rattle.c_grammar.specs.Statements.statement Rattle.c_grammar.specs.Statements.item Rattle.c_grammar.specs.Statements.switch_item Rattle.c_grammar.specs.Statements.placed_statement Rattle.c_grammar.specs.Statements.innermost_item Rattle.c_grammar.specs.Statements.innermost Rattle.c_grammar.specs.Statements.standing Rattle.c_grammar.specs.Units.global_initial Rattle.c_grammar.specs.Units.global_integer Rattle.c_grammar.specs.Units.global_array Rattle.c_grammar.specs.Units.object Rattle.c_grammar.specs.Units.prototype Rattle.c_grammar.specs.Units.declarator Rattle.c_grammar.specs.Units.further_declarator Rattle.c_grammar.specs.Units.declaration_after Rattle.c_grammar.specs.Units.body Rattle.c_grammar.specs.Units.open_body Rattle.c_grammar.specs.Units.definition_after Rattle.c_grammar.specs.Units.sees_body Rattle.c_grammar.specs.Units.external_after Rattle.c_grammar.specs.Units.external Rattle.c_grammar.specs.Units.unit Rattle.c_tokens.specs.Kinds.kind_of Rattle.c_tokens.specs.Tokens.longest Rattle.c_tokens.specs.Tokens.pieces_of Rattle.c_tokens.specs.Tokens.tokens_of Rattle.c_tokens.specs.Keywords.keywords Rattle.c_tokens.specs.Keywords.is_keyword
returns-clause-casts c = refl

pub returns-clause-steps : goal.returns-clause-steps
unfolding Rattle.c_grammar.specs.Symbols.is_statement_word Rattle.c_grammar.specs.Symbols.other_word Rattle.c_grammar.specs.Symbols.word_symbol Rattle.c_grammar.specs.Symbols.goes_with Rattle.c_grammar.specs.Tokens.mark Rattle.c_grammar.specs.Tokens.name Rattle.c_grammar.specs.Tokens.constant Rattle.c_grammar.specs.Tokens.next_number Rattle.c_grammar.specs.Tokens.sees Rattle.c_grammar.specs.Tokens.before Rattle.c_grammar.specs.Tokens.before_either Rattle.c_grammar.specs.Tokens.one_function Rattle.c_grammar.specs.Tokens.some_frames Rattle.c_grammar.specs.Tokens.some_elements Rattle.c_grammar.specs.Tokens.declares Rattle.c_grammar.specs.Tokens.gives_value Rattle.c_grammar.specs.Types.specifier Rattle.c_grammar.specs.Types.type_told Rattle.c_grammar.specs.Types.type_of Rattle.c_grammar.specs.Types.integer_told Rattle.c_grammar.specs.Types.integer_type Rattle.c_grammar.specs.Types.const_word Rattle.c_grammar.specs.Types.star Rattle.c_grammar.specs.Types.pointer_to Rattle.c_grammar.specs.Types.pointer_stars Rattle.c_grammar.specs.Types.minus_sign Rattle.c_grammar.specs.Types.minus_constant Rattle.c_grammar.specs.Types.plain_constant Rattle.c_grammar.specs.Types.signed_constant Rattle.c_grammar.specs.Types.assign_mark Rattle.c_grammar.specs.Types.comma_mark Rattle.c_grammar.specs.Types.element Rattle.c_grammar.specs.Types.further_element Rattle.c_grammar.specs.Types.close_brace Rattle.c_grammar.specs.Types.elements Rattle.c_grammar.specs.Types.element_list Rattle.c_grammar.specs.Types.left_bracket Rattle.c_grammar.specs.Types.right_bracket Rattle.c_grammar.specs.Types.array_size Rattle.c_grammar.specs.Types.array Rattle.c_grammar.specs.Types.parameter_end Rattle.c_grammar.specs.Types.pointer_parameter Rattle.c_grammar.specs.Types.empty_brackets Rattle.c_grammar.specs.Types.bracketed_type Rattle.c_grammar.specs.Types.plain_parameter Rattle.c_grammar.specs.Types.parameter_tail Rattle.c_grammar.specs.Types.further_parameter Rattle.c_grammar.specs.Types.right_paren Rattle.c_grammar.specs.Types.parameters_from Rattle.c_grammar.specs.Types.void_parameters Rattle.c_grammar.specs.Types.some_parameters Rattle.c_grammar.specs.Types.no_parameters Rattle.c_grammar.specs.Types.parameters Rattle.c_grammar.specs.Expressions.operator Rattle.c_grammar.specs.Expressions.shallow Rattle.c_grammar.specs.Expressions.some_depth Rattle.c_grammar.specs.Expressions.operation Rattle.c_grammar.specs.Expressions.open_bracket Rattle.c_grammar.specs.Expressions.close_bracket Rattle.c_grammar.specs.Expressions.index Rattle.c_grammar.specs.Expressions.close_paren Rattle.c_grammar.specs.Expressions.parenthesised Rattle.c_grammar.specs.Expressions.cast_type Rattle.c_grammar.specs.Expressions.cast Rattle.c_grammar.specs.Expressions.one_paren Rattle.c_grammar.specs.Expressions.bracketed Rattle.c_grammar.specs.Expressions.prefixed Rattle.c_grammar.specs.Expressions.lead Rattle.c_grammar.specs.Expressions.bracketed_indexed Rattle.c_grammar.specs.Expressions.operand_after Rattle.c_grammar.specs.Expressions.operand Rattle.c_grammar.specs.Expressions.expr_of Rattle.c_grammar.specs.Expressions.expr_within Rattle.c_grammar.specs.Expressions.expr Rattle.c_grammar.specs.Expressions.inner_of Rattle.c_grammar.specs.Expressions.deeper_of Rattle.c_grammar.specs.Expressions.whole_expr Rattle.c_grammar.specs.Expressions.condition Rattle.c_grammar.specs.Expressions.target Rattle.c_grammar.specs.Expressions.sees_call Rattle.c_grammar.specs.Expressions.call_frame Rattle.c_grammar.specs.Expressions.comma Rattle.c_grammar.specs.Expressions.argument Rattle.c_grammar.specs.Expressions.further_argument Rattle.c_grammar.specs.Expressions.some_arguments Rattle.c_grammar.specs.Expressions.no_arguments Rattle.c_grammar.specs.Expressions.arguments Rattle.c_grammar.specs.Expressions.some_token Rattle.c_grammar.specs.Expressions.open_paren Rattle.c_grammar.specs.Expressions.call Rattle.c_grammar.specs.Expressions.called_value Rattle.c_grammar.specs.Expressions.plain_value Rattle.c_grammar.specs.Expressions.assigned Rattle.c_grammar.specs.Statements.call_effect Rattle.c_grammar.specs.Statements.step Rattle.c_grammar.specs.Statements.prefix_step Rattle.c_grammar.specs.Statements.assigning_mark Rattle.c_grammar.specs.Statements.assign Rattle.c_grammar.specs.Statements.update Rattle.c_grammar.specs.Statements.postfix_step Rattle.c_grammar.specs.Statements.effect_after Rattle.c_grammar.specs.Statements.target_effect Rattle.c_grammar.specs.Statements.other_effect Rattle.c_grammar.specs.Statements.effect Rattle.c_grammar.specs.Statements.initial Rattle.c_grammar.specs.Statements.local_end Rattle.c_grammar.specs.Statements.pointer_local Rattle.c_grammar.specs.Statements.array_local Rattle.c_grammar.specs.Statements.integer_local Rattle.c_grammar.specs.Statements.plain_local Rattle.c_grammar.specs.Statements.local Rattle.c_grammar.specs.Statements.further_local Rattle.c_grammar.specs.Statements.semicolon Rattle.c_grammar.specs.Statements.declaration Rattle.c_grammar.specs.Statements.label_end Rattle.c_grammar.specs.Statements.colon Rattle.c_grammar.specs.Statements.case_label Rattle.c_grammar.specs.Statements.default_label Rattle.c_grammar.specs.Statements.label Rattle.c_grammar.specs.Statements.controlling Rattle.c_grammar.specs.Statements.else_part Rattle.c_grammar.specs.Statements.if_after Rattle.c_grammar.specs.Statements.while_after Rattle.c_grammar.specs.Statements.while_word Rattle.c_grammar.specs.Statements.do_after Rattle.c_grammar.specs.Statements.empty_first Rattle.c_grammar.specs.Statements.declared_first Rattle.c_grammar.specs.Statements.effect_first Rattle.c_grammar.specs.Statements.some_first Rattle.c_grammar.specs.Statements.for_first Rattle.c_grammar.specs.Statements.empty_condition Rattle.c_grammar.specs.Statements.some_condition Rattle.c_grammar.specs.Statements.for_condition Rattle.c_grammar.specs.Statements.empty_last Rattle.c_grammar.specs.Statements.some_last Rattle.c_grammar.specs.Statements.for_last Rattle.c_grammar.specs.Statements.for_after Rattle.c_grammar.specs.Statements.switch_value Rattle.c_grammar.specs.Statements.switch_after Rattle.c_grammar.specs.Statements.break_after Rattle.c_grammar.specs.Statements.continue_after Rattle.c_grammar.specs.Statements.return_nothing Rattle.c_grammar.specs.Statements.return_value Rattle.c_grammar.specs.Statements.return_after Rattle.c_grammar.specs.Statements.leaving_after Rattle.c_grammar.specs.Statements.worded_after Rattle.c_grammar.specs.Statements.worded Rattle.c_grammar.specs.Statements.empty_statement Rattle.c_grammar.specs.Statements.block Rattle.c_grammar.specs.Statements.effect_statement Rattle.c_grammar.specs.Statements.unworded_long Rattle.c_grammar.specs.Statements.unworded Rattle.c_grammar.specs.Statements.statement Rattle.c_grammar.specs.Statements.item Rattle.c_grammar.specs.Statements.switch_item Rattle.c_grammar.specs.Statements.placed_statement Rattle.c_grammar.specs.Statements.innermost_item Rattle.c_grammar.specs.Statements.innermost Rattle.c_grammar.specs.Statements.standing Rattle.c_grammar.specs.Units.global_initial Rattle.c_grammar.specs.Units.global_integer Rattle.c_grammar.specs.Units.global_array Rattle.c_grammar.specs.Units.object Rattle.c_grammar.specs.Units.prototype Rattle.c_grammar.specs.Units.declarator Rattle.c_grammar.specs.Units.further_declarator Rattle.c_grammar.specs.Units.declaration_after Rattle.c_grammar.specs.Units.body Rattle.c_grammar.specs.Units.open_body Rattle.c_grammar.specs.Units.definition_after Rattle.c_grammar.specs.Units.sees_body Rattle.c_grammar.specs.Units.external_after Rattle.c_grammar.specs.Units.external Rattle.c_grammar.specs.Units.unit Rattle.c_tokens.specs.Kinds.kind_of Rattle.c_tokens.specs.Tokens.longest Rattle.c_tokens.specs.Tokens.pieces_of Rattle.c_tokens.specs.Tokens.tokens_of Rattle.c_tokens.specs.Keywords.keywords Rattle.c_tokens.specs.Keywords.is_keyword
returns-clause-steps c = refl

pub returns-clause-statements : goal.returns-clause-statements
unfolding Rattle.c_grammar.specs.Symbols.is_statement_word Rattle.c_grammar.specs.Symbols.other_word Rattle.c_grammar.specs.Symbols.word_symbol Rattle.c_grammar.specs.Symbols.goes_with Rattle.c_grammar.specs.Tokens.mark Rattle.c_grammar.specs.Tokens.name Rattle.c_grammar.specs.Tokens.constant Rattle.c_grammar.specs.Tokens.next_number Rattle.c_grammar.specs.Tokens.sees Rattle.c_grammar.specs.Tokens.before Rattle.c_grammar.specs.Tokens.before_either Rattle.c_grammar.specs.Tokens.one_function Rattle.c_grammar.specs.Tokens.some_frames Rattle.c_grammar.specs.Tokens.some_elements Rattle.c_grammar.specs.Tokens.declares Rattle.c_grammar.specs.Tokens.gives_value Rattle.c_grammar.specs.Types.specifier Rattle.c_grammar.specs.Types.type_told Rattle.c_grammar.specs.Types.type_of Rattle.c_grammar.specs.Types.integer_told Rattle.c_grammar.specs.Types.integer_type Rattle.c_grammar.specs.Types.const_word Rattle.c_grammar.specs.Types.star Rattle.c_grammar.specs.Types.pointer_to Rattle.c_grammar.specs.Types.pointer_stars Rattle.c_grammar.specs.Types.minus_sign Rattle.c_grammar.specs.Types.minus_constant Rattle.c_grammar.specs.Types.plain_constant Rattle.c_grammar.specs.Types.signed_constant Rattle.c_grammar.specs.Types.assign_mark Rattle.c_grammar.specs.Types.comma_mark Rattle.c_grammar.specs.Types.element Rattle.c_grammar.specs.Types.further_element Rattle.c_grammar.specs.Types.close_brace Rattle.c_grammar.specs.Types.elements Rattle.c_grammar.specs.Types.element_list Rattle.c_grammar.specs.Types.left_bracket Rattle.c_grammar.specs.Types.right_bracket Rattle.c_grammar.specs.Types.array_size Rattle.c_grammar.specs.Types.array Rattle.c_grammar.specs.Types.parameter_end Rattle.c_grammar.specs.Types.pointer_parameter Rattle.c_grammar.specs.Types.empty_brackets Rattle.c_grammar.specs.Types.bracketed_type Rattle.c_grammar.specs.Types.plain_parameter Rattle.c_grammar.specs.Types.parameter_tail Rattle.c_grammar.specs.Types.further_parameter Rattle.c_grammar.specs.Types.right_paren Rattle.c_grammar.specs.Types.parameters_from Rattle.c_grammar.specs.Types.void_parameters Rattle.c_grammar.specs.Types.some_parameters Rattle.c_grammar.specs.Types.no_parameters Rattle.c_grammar.specs.Types.parameters Rattle.c_grammar.specs.Expressions.operator Rattle.c_grammar.specs.Expressions.shallow Rattle.c_grammar.specs.Expressions.some_depth Rattle.c_grammar.specs.Expressions.operation Rattle.c_grammar.specs.Expressions.open_bracket Rattle.c_grammar.specs.Expressions.close_bracket Rattle.c_grammar.specs.Expressions.index Rattle.c_grammar.specs.Expressions.close_paren Rattle.c_grammar.specs.Expressions.parenthesised Rattle.c_grammar.specs.Expressions.cast_type Rattle.c_grammar.specs.Expressions.cast Rattle.c_grammar.specs.Expressions.one_paren Rattle.c_grammar.specs.Expressions.bracketed Rattle.c_grammar.specs.Expressions.prefixed Rattle.c_grammar.specs.Expressions.lead Rattle.c_grammar.specs.Expressions.bracketed_indexed Rattle.c_grammar.specs.Expressions.operand_after Rattle.c_grammar.specs.Expressions.operand Rattle.c_grammar.specs.Expressions.expr_of Rattle.c_grammar.specs.Expressions.expr_within Rattle.c_grammar.specs.Expressions.expr Rattle.c_grammar.specs.Expressions.inner_of Rattle.c_grammar.specs.Expressions.deeper_of Rattle.c_grammar.specs.Expressions.whole_expr Rattle.c_grammar.specs.Expressions.condition Rattle.c_grammar.specs.Expressions.target Rattle.c_grammar.specs.Expressions.sees_call Rattle.c_grammar.specs.Expressions.call_frame Rattle.c_grammar.specs.Expressions.comma Rattle.c_grammar.specs.Expressions.argument Rattle.c_grammar.specs.Expressions.further_argument Rattle.c_grammar.specs.Expressions.some_arguments Rattle.c_grammar.specs.Expressions.no_arguments Rattle.c_grammar.specs.Expressions.arguments Rattle.c_grammar.specs.Expressions.some_token Rattle.c_grammar.specs.Expressions.open_paren Rattle.c_grammar.specs.Expressions.call Rattle.c_grammar.specs.Expressions.called_value Rattle.c_grammar.specs.Expressions.plain_value Rattle.c_grammar.specs.Expressions.assigned Rattle.c_grammar.specs.Statements.call_effect Rattle.c_grammar.specs.Statements.step Rattle.c_grammar.specs.Statements.prefix_step Rattle.c_grammar.specs.Statements.assigning_mark Rattle.c_grammar.specs.Statements.assign Rattle.c_grammar.specs.Statements.update Rattle.c_grammar.specs.Statements.postfix_step Rattle.c_grammar.specs.Statements.effect_after Rattle.c_grammar.specs.Statements.target_effect Rattle.c_grammar.specs.Statements.other_effect Rattle.c_grammar.specs.Statements.effect Rattle.c_grammar.specs.Statements.initial Rattle.c_grammar.specs.Statements.local_end Rattle.c_grammar.specs.Statements.pointer_local Rattle.c_grammar.specs.Statements.array_local Rattle.c_grammar.specs.Statements.integer_local Rattle.c_grammar.specs.Statements.plain_local Rattle.c_grammar.specs.Statements.local Rattle.c_grammar.specs.Statements.further_local Rattle.c_grammar.specs.Statements.semicolon Rattle.c_grammar.specs.Statements.declaration Rattle.c_grammar.specs.Statements.label_end Rattle.c_grammar.specs.Statements.colon Rattle.c_grammar.specs.Statements.case_label Rattle.c_grammar.specs.Statements.default_label Rattle.c_grammar.specs.Statements.label Rattle.c_grammar.specs.Statements.controlling Rattle.c_grammar.specs.Statements.else_part Rattle.c_grammar.specs.Statements.if_after Rattle.c_grammar.specs.Statements.while_after Rattle.c_grammar.specs.Statements.while_word Rattle.c_grammar.specs.Statements.do_after Rattle.c_grammar.specs.Statements.empty_first Rattle.c_grammar.specs.Statements.declared_first Rattle.c_grammar.specs.Statements.effect_first Rattle.c_grammar.specs.Statements.some_first Rattle.c_grammar.specs.Statements.for_first Rattle.c_grammar.specs.Statements.empty_condition Rattle.c_grammar.specs.Statements.some_condition Rattle.c_grammar.specs.Statements.for_condition Rattle.c_grammar.specs.Statements.empty_last Rattle.c_grammar.specs.Statements.some_last Rattle.c_grammar.specs.Statements.for_last Rattle.c_grammar.specs.Statements.for_after Rattle.c_grammar.specs.Statements.switch_value Rattle.c_grammar.specs.Statements.switch_after Rattle.c_grammar.specs.Statements.break_after Rattle.c_grammar.specs.Statements.continue_after Rattle.c_grammar.specs.Statements.return_nothing Rattle.c_grammar.specs.Statements.return_value Rattle.c_grammar.specs.Statements.return_after Rattle.c_grammar.specs.Statements.leaving_after Rattle.c_grammar.specs.Statements.worded_after Rattle.c_grammar.specs.Statements.worded Rattle.c_grammar.specs.Statements.empty_statement Rattle.c_grammar.specs.Statements.block Rattle.c_grammar.specs.Statements.effect_statement Rattle.c_grammar.specs.Statements.unworded_long Rattle.c_grammar.specs.Statements.unworded Rattle.c_grammar.specs.Statements.statement Rattle.c_grammar.specs.Statements.item Rattle.c_grammar.specs.Statements.switch_item Rattle.c_grammar.specs.Statements.placed_statement Rattle.c_grammar.specs.Statements.innermost_item Rattle.c_grammar.specs.Statements.innermost Rattle.c_grammar.specs.Statements.standing Rattle.c_grammar.specs.Units.global_initial Rattle.c_grammar.specs.Units.global_integer Rattle.c_grammar.specs.Units.global_array Rattle.c_grammar.specs.Units.object Rattle.c_grammar.specs.Units.prototype Rattle.c_grammar.specs.Units.declarator Rattle.c_grammar.specs.Units.further_declarator Rattle.c_grammar.specs.Units.declaration_after Rattle.c_grammar.specs.Units.body Rattle.c_grammar.specs.Units.open_body Rattle.c_grammar.specs.Units.definition_after Rattle.c_grammar.specs.Units.sees_body Rattle.c_grammar.specs.Units.external_after Rattle.c_grammar.specs.Units.external Rattle.c_grammar.specs.Units.unit Rattle.c_tokens.specs.Kinds.kind_of Rattle.c_tokens.specs.Tokens.longest Rattle.c_tokens.specs.Tokens.pieces_of Rattle.c_tokens.specs.Tokens.tokens_of Rattle.c_tokens.specs.Keywords.keywords Rattle.c_tokens.specs.Keywords.is_keyword
returns-clause-statements c = refl
