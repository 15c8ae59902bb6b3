-- What tokens are to the grammar.
--   symbol_of kind text         what a token of this kind and text is
--   lead_of s                   how an operand begins with the symbol, if one does
--   starts_type, is_specifier   a type begins with it; the words of a type go on with it
--   starts_statement            a statement begins with it
--   goes_with others s          the symbol is among the others of a place
use Rattle.std.specs.Prelude.{ℕ, ◌==◌, List, [], ◌∷◌, length, Bool, true, false, not, ◌&&◌, ◌||◌, Option, Some, None, nat_lt, if◌then◌else◌, codes}
use Rattle.std.specs.Option.{is_some}
use Rattle.std.specs.Str.{bytes_eq}
use Rattle.c_tokens.specs.declared.token.Kind.{Kind}
use Rattle.c_tokens.specs.declared.token.Kind.TheVariants as kinds
use Rattle.c_tokens.specs.Keywords.{is_keyword}
use Rattle.c_tokens.specs.declared.worth.Worth.{Worth}
use Rattle.c_tokens.specs.declared.worth.Worth.TheVariants as worths
use Rattle.c_tokens.specs.Worth.{worth_of}
use Rattle.c_unit.specs.declared.expression.Unary.TheVariants as unaries
use Rattle.c_unit.specs.declared.expression.Binary.{Binary}
use Rattle.c_unit.specs.declared.expression.Binary.TheVariants as binaries
use Rattle.c_grammar.specs.declared.symbol.TypeWord.{TypeWord}
use Rattle.c_grammar.specs.declared.symbol.TypeWord.TheVariants as words
use Rattle.c_grammar.specs.declared.symbol.Symbol.{Symbol}
use Rattle.c_grammar.specs.declared.symbol.Symbol.TheVariants as symbols
use Rattle.c_grammar.specs.declared.symbol.Lead.{Lead}
use Rattle.c_grammar.specs.declared.symbol.Lead.TheVariants as leads
use Rattle.c_grammar.specs.declared.others.Others.{Others}
use Rattle.c_grammar.specs.declared.others.Others.TheVariants as others

-- ---- words

abbrev pub type_word : List ℕ → Option TypeWord
type_word text =
    if bytes_eq text (codes "int") then Some words.Int
    else if bytes_eq text (codes "char") then Some words.Char
    else if bytes_eq text (codes "void") then Some words.Void
    else if bytes_eq text (codes "short") then Some words.Short
    else if bytes_eq text (codes "signed") then Some words.Signed
    else if bytes_eq text (codes "unsigned") then Some words.Unsigned
    else None

abbrev pub is_label_word : List ℕ → Bool
is_label_word text = bytes_eq text (codes "case") || bytes_eq text (codes "default")

-- a statement begins with the word
unfoldable pub is_statement_word : List ℕ → Bool
is_statement_word text =
    if bytes_eq text (codes "if") || bytes_eq text (codes "do") then true
    else if bytes_eq text (codes "for") || bytes_eq text (codes "while") then true
    else if bytes_eq text (codes "break") || bytes_eq text (codes "switch") then true
    else bytes_eq text (codes "return") || bytes_eq text (codes "continue")

-- a word that is no word of a type
unfoldable pub other_word : List ℕ → Symbol
other_word text =
    if is_statement_word text then symbols.Statement
    else if is_label_word text then symbols.Label
    else if bytes_eq text (codes "else") then symbols.Closing
    else if bytes_eq text (codes "const") then symbols.Const
    else if bytes_eq text (codes "static") then symbols.Static
    else if is_keyword text || nat_lt 28 (length text) then symbols.Unplaced
    else symbols.Name

abbrev pub word_among : Option TypeWord → List ℕ → Symbol
word_among (Some word) text = symbols.Type word
word_among None text = other_word text

unfoldable pub word_symbol : List ℕ → Symbol
word_symbol text = word_among (type_word text) text

-- ---- marks

-- the operator of one byte, if it is one
abbrev pub operator_byte : ℕ → Option Binary
operator_byte b =
    if b == 42 then Some binaries.Multiply
    else if b == 47 then Some binaries.Divide
    else if b == 37 then Some binaries.Remainder
    else if b == 43 then Some binaries.Add
    else if b == 45 then Some binaries.Subtract
    else if b == 60 then Some binaries.Less
    else if b == 62 then Some binaries.Greater
    else if b == 38 then Some binaries.And
    else if b == 94 then Some binaries.Xor
    else if b == 124 then Some binaries.Or
    else None

abbrev pub bracket_byte : ℕ → Symbol
bracket_byte b =
    if b == 40 then symbols.OpenParen
    else if b == 41 then symbols.CloseParen
    else if b == 91 then symbols.OpenBracket
    else if b == 93 then symbols.CloseBracket
    else if b == 123 then symbols.OpenBrace
    else if b == 125 then symbols.Closing
    else if b == 44 then symbols.Comma
    else if b == 59 then symbols.Semicolon
    else if b == 58 then symbols.Closing
    else if b == 61 then symbols.Assign
    else if b == 33 then symbols.Prefix unaries.Not
    else if b == 126 then symbols.Prefix unaries.Complement
    else symbols.Unplaced

abbrev pub operator_or : Option Binary → Symbol → Symbol
operator_or (Some op) s = symbols.Operator op
operator_or None s = s

abbrev pub one_byte_symbol : ℕ → Symbol
one_byte_symbol b = operator_or (operator_byte b) (bracket_byte b)

-- a byte that stands twice
abbrev pub repeated_symbol : ℕ → Symbol
repeated_symbol b =
    if b == 43 then symbols.Step true
    else if b == 45 then symbols.Step false
    else if b == 60 then symbols.Operator binaries.ShiftLeft
    else if b == 62 then symbols.Operator binaries.ShiftRight
    else if b == 61 then symbols.Operator binaries.Equal
    else if b == 38 then symbols.Operator binaries.Both
    else if b == 124 then symbols.Operator binaries.Either
    else symbols.Unplaced

abbrev pub updated_symbol : Option Binary → Symbol
updated_symbol (Some op) = symbols.Update op
updated_symbol None = symbols.Unplaced

-- a byte and =
abbrev pub with_equals : ℕ → Symbol
with_equals b =
    if b == 60 then symbols.Operator binaries.AtMost
    else if b == 62 then symbols.Operator binaries.AtLeast
    else if b == 33 then symbols.Operator binaries.Unequal
    else updated_symbol (operator_byte b)

abbrev pub two_byte_symbol : ℕ → ℕ → Symbol
two_byte_symbol a b = if a == b then repeated_symbol a else if b == 61 then with_equals a else symbols.Unplaced

-- <<= and >>=, of which the second byte is the first again
abbrev pub three_byte_symbol : ℕ → ℕ → Symbol
three_byte_symbol a c =
    if (a == 60) && (c == 61) then symbols.Update binaries.ShiftLeft
    else if (a == 62) && (c == 61) then symbols.Update binaries.ShiftRight
    else symbols.Unplaced

abbrev pub mark_symbol : List ℕ → Symbol
mark_symbol (a ∷ []) = one_byte_symbol a
mark_symbol (a ∷ b ∷ []) = two_byte_symbol a b
mark_symbol (a ∷ b ∷ c ∷ []) = three_byte_symbol a c
mark_symbol _ = symbols.Unplaced

-- ---- symbols

abbrev pub constant_symbol : Worth → Symbol
constant_symbol worths.NoConstant = symbols.NoSymbol
constant_symbol worths.TooLarge = symbols.TooLarge
constant_symbol (worths.Int n) = symbols.Constant n
constant_symbol (worths.UnsignedInt n) = symbols.Constant n

abbrev pub symbol_of : Kind → List ℕ → Symbol
symbol_of kinds.Identifier text = word_symbol text
symbol_of kinds.Number text = constant_symbol (worth_of kinds.Number text)
symbol_of kinds.Character text = constant_symbol (worth_of kinds.Character text)
symbol_of kinds.Punctuator text = mark_symbol text
symbol_of _ text = symbols.NoSymbol

-- how an operand begins with this symbol, if one does
abbrev pub lead_of : Symbol → Option Lead
lead_of symbols.Name = Some leads.Name
lead_of (symbols.Constant n) = Some leads.Constant
lead_of symbols.OpenParen = Some leads.Paren
lead_of (symbols.Prefix op) = Some (leads.Prefix op)
lead_of (symbols.Operator binaries.Multiply) = Some (leads.Prefix unaries.Load)
lead_of (symbols.Operator binaries.And) = Some (leads.Prefix unaries.Address)
lead_of (symbols.Operator binaries.Add) = Some (leads.Prefix unaries.Plus)
lead_of (symbols.Operator binaries.Subtract) = Some (leads.Prefix unaries.Minus)
lead_of _ = None

abbrev pub starts_type : Symbol → Bool
starts_type (symbols.Type word) = true
starts_type symbols.Const = true
starts_type _ = false

abbrev pub is_specifier : Symbol → Bool
is_specifier (symbols.Type word) = true
is_specifier symbols.Const = true
is_specifier symbols.Static = true
is_specifier _ = false

-- ---- what might stand at a place

abbrev pub is_step : Symbol → Bool
is_step (symbols.Step up) = true
is_step _ = false

abbrev pub is_star : Symbol → Bool
is_star (symbols.Operator binaries.Multiply) = true
is_star _ = false

abbrev pub is_bracket : Symbol → Bool
is_bracket symbols.OpenBracket = true
is_bracket _ = false

abbrev pub is_close_bracket : Symbol → Bool
is_close_bracket symbols.CloseBracket = true
is_close_bracket _ = false

abbrev pub is_paren : Symbol → Bool
is_paren symbols.OpenParen = true
is_paren _ = false

abbrev pub is_brace : Symbol → Bool
is_brace symbols.OpenBrace = true
is_brace _ = false

abbrev pub is_comma : Symbol → Bool
is_comma symbols.Comma = true
is_comma _ = false

abbrev pub is_name : Symbol → Bool
is_name symbols.Name = true
is_name _ = false

abbrev pub is_label : Symbol → Bool
is_label symbols.Label = true
is_label _ = false

abbrev pub starts_expression : Symbol → Bool
starts_expression s = is_step s || is_some (lead_of s)

-- ; , = [
abbrev pub is_object_end : Symbol → Bool
is_object_end symbols.Semicolon = true
is_object_end symbols.Comma = true
is_object_end symbols.Assign = true
is_object_end symbols.OpenBracket = true
is_object_end _ = false

-- what an expression of C99 goes on with
abbrev pub continues : Bool → Bool → Symbol → Bool
continues unary comma (symbols.Operator op) = true
continues unary comma symbols.OpenBracket = true
continues unary comma symbols.OpenParen = true
continues unary comma (symbols.Step up) = true
continues unary comma symbols.Assign = unary
continues unary comma (symbols.Update op) = unary
continues unary comma symbols.Comma = comma
continues unary comma _ = false

abbrev pub ends_effect : Bool → Symbol → Bool
ends_effect last symbols.CloseParen = last
ends_effect last symbols.Semicolon = not last
ends_effect last _ = false

-- a statement begins with the symbol
abbrev pub starts_statement : Symbol → Bool
starts_statement symbols.Statement = true
starts_statement symbols.Semicolon = true
starts_statement symbols.OpenBrace = true
starts_statement s = starts_expression s

unfoldable pub goes_with : Others → Symbol → Bool
goes_with others.Nothing s = false
goes_with others.Steps s = is_step s
goes_with others.StepsAndTypes s = is_step s || starts_type s
goes_with others.StepsAndBraces s = is_step s || is_brace s
goes_with others.Expressions s = starts_expression s
goes_with others.ExpressionsAndBraces s = starts_expression s || is_brace s
goes_with others.Sizes s = starts_expression s || is_close_bracket s
goes_with (others.Rest unary comma) s = continues unary comma s
goes_with (others.RestOrEnd last) s = continues true true s || ends_effect last s
goes_with others.Object s = is_object_end s
goes_with others.Parameter s = is_name s || is_star s || is_bracket s || is_comma s
goes_with others.Stars s = is_star s
goes_with others.Brackets s = is_bracket s
goes_with others.StarsAndBrackets s = is_star s || is_bracket s
goes_with others.Parens s = is_paren s
goes_with others.BracketsAndParens s = is_bracket s || is_paren s
goes_with others.Braces s = is_brace s
goes_with others.Labels s = is_label s
goes_with others.Statements s = starts_statement s || is_label s
