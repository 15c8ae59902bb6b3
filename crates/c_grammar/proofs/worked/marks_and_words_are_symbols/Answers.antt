-- What is left to show of `marks_and_words_are_symbols`.
use Rattle.std.proofs.Common.{refl}
use Rattle.c_grammar.proofs.worked.marks_and_words_are_symbols.Goals as goal

pub returns-clause-shift : goal.returns-clause-shift
unfolding Rattle.c_grammar.specs.Symbols.is_statement_word Rattle.c_grammar.specs.Symbols.other_word Rattle.c_grammar.specs.Symbols.word_symbol Rattle.c_grammar.specs.Symbols.goes_with Rattle.c_tokens.specs.Keywords.keywords Rattle.c_tokens.specs.Keywords.is_keyword
returns-clause-shift c = refl

pub returns-clause-at_least : goal.returns-clause-at_least
unfolding Rattle.c_grammar.specs.Symbols.is_statement_word Rattle.c_grammar.specs.Symbols.other_word Rattle.c_grammar.specs.Symbols.word_symbol Rattle.c_grammar.specs.Symbols.goes_with Rattle.c_tokens.specs.Keywords.keywords Rattle.c_tokens.specs.Keywords.is_keyword
returns-clause-at_least c = refl

pub returns-clause-unequal : goal.returns-clause-unequal
unfolding Rattle.c_grammar.specs.Symbols.is_statement_word Rattle.c_grammar.specs.Symbols.other_word Rattle.c_grammar.specs.Symbols.word_symbol Rattle.c_grammar.specs.Symbols.goes_with Rattle.c_tokens.specs.Keywords.keywords Rattle.c_tokens.specs.Keywords.is_keyword
returns-clause-unequal c = refl

pub returns-clause-both : goal.returns-clause-both
unfolding Rattle.c_grammar.specs.Symbols.is_statement_word Rattle.c_grammar.specs.Symbols.other_word Rattle.c_grammar.specs.Symbols.word_symbol Rattle.c_grammar.specs.Symbols.goes_with Rattle.c_tokens.specs.Keywords.keywords Rattle.c_tokens.specs.Keywords.is_keyword
returns-clause-both c = refl

pub returns-clause-or_update : goal.returns-clause-or_update
unfolding Rattle.c_grammar.specs.Symbols.is_statement_word Rattle.c_grammar.specs.Symbols.other_word Rattle.c_grammar.specs.Symbols.word_symbol Rattle.c_grammar.specs.Symbols.goes_with Rattle.c_tokens.specs.Keywords.keywords Rattle.c_tokens.specs.Keywords.is_keyword
returns-clause-or_update c = refl

pub returns-clause-down : goal.returns-clause-down
unfolding Rattle.c_grammar.specs.Symbols.is_statement_word Rattle.c_grammar.specs.Symbols.other_word Rattle.c_grammar.specs.Symbols.word_symbol Rattle.c_grammar.specs.Symbols.goes_with Rattle.c_tokens.specs.Keywords.keywords Rattle.c_tokens.specs.Keywords.is_keyword
returns-clause-down c = refl

pub returns-clause-equal : goal.returns-clause-equal
unfolding Rattle.c_grammar.specs.Symbols.is_statement_word Rattle.c_grammar.specs.Symbols.other_word Rattle.c_grammar.specs.Symbols.word_symbol Rattle.c_grammar.specs.Symbols.goes_with Rattle.c_tokens.specs.Keywords.keywords Rattle.c_tokens.specs.Keywords.is_keyword
returns-clause-equal c = refl

pub returns-clause-arrow : goal.returns-clause-arrow
unfolding Rattle.c_grammar.specs.Symbols.is_statement_word Rattle.c_grammar.specs.Symbols.other_word Rattle.c_grammar.specs.Symbols.word_symbol Rattle.c_grammar.specs.Symbols.goes_with Rattle.c_tokens.specs.Keywords.keywords Rattle.c_tokens.specs.Keywords.is_keyword
returns-clause-arrow c = refl

pub returns-clause-goto_word : goal.returns-clause-goto_word
unfolding Rattle.c_grammar.specs.Symbols.is_statement_word Rattle.c_grammar.specs.Symbols.other_word Rattle.c_grammar.specs.Symbols.word_symbol Rattle.c_grammar.specs.Symbols.goes_with Rattle.c_tokens.specs.Keywords.keywords Rattle.c_tokens.specs.Keywords.is_keyword
returns-clause-goto_word c = refl

pub returns-clause-long_name : goal.returns-clause-long_name
unfolding Rattle.c_grammar.specs.Symbols.is_statement_word Rattle.c_grammar.specs.Symbols.other_word Rattle.c_grammar.specs.Symbols.word_symbol Rattle.c_grammar.specs.Symbols.goes_with Rattle.c_tokens.specs.Keywords.keywords Rattle.c_tokens.specs.Keywords.is_keyword
returns-clause-long_name c = refl

pub returns-clause-name : goal.returns-clause-name
unfolding Rattle.c_grammar.specs.Symbols.is_statement_word Rattle.c_grammar.specs.Symbols.other_word Rattle.c_grammar.specs.Symbols.word_symbol Rattle.c_grammar.specs.Symbols.goes_with Rattle.c_tokens.specs.Keywords.keywords Rattle.c_tokens.specs.Keywords.is_keyword
returns-clause-name c = refl

pub returns-clause-number : goal.returns-clause-number
unfolding Rattle.c_grammar.specs.Symbols.is_statement_word Rattle.c_grammar.specs.Symbols.other_word Rattle.c_grammar.specs.Symbols.word_symbol Rattle.c_grammar.specs.Symbols.goes_with Rattle.c_tokens.specs.Keywords.keywords Rattle.c_tokens.specs.Keywords.is_keyword
returns-clause-number c = refl

pub returns-clause-load : goal.returns-clause-load
returns-clause-load c = refl

pub returns-clause-address : goal.returns-clause-address
returns-clause-address c = refl
