-- An operator with = is none of && and ||, in each text.
use Rattle.std.proofs.Common.{◌≡◌, ◌&&◌, ◌||◌, ◌==◌, codes, length, nat_lt, ℕ, ◌+◌, Bool, true, false, List, [], ◌∷◌, Option, Some, None, if◌then◌else◌, refl}
use Rattle.std.specs.Str.{bytes_eq}
use Rattle.lists.specs.TestLaws.{by_test}
use Rattle.grammar.specs.Each.{Each}
use Rattle.c_tokens.specs.declared.token.Kind.{Kind}
use Rattle.c_tokens.specs.declared.token.Kind.TheVariants as kinds
use Rattle.c_tokens.specs.Tokens.{Lexeme}
use Rattle.c_tokens.specs.declared.worth.Worth.{Worth}
use Rattle.c_tokens.specs.declared.worth.Worth.TheVariants as worths
use Rattle.c_tokens.specs.Worth.{worth_of}
use Rattle.c_unit.specs.declared.expression.Binary.{Binary}
use Rattle.c_unit.specs.declared.expression.Binary.TheVariants as binaries
use Rattle.c_tokens.specs.Keywords.{is_keyword}
use Rattle.c_grammar.specs.declared.symbol.TypeWord.{TypeWord}
use Rattle.c_grammar.specs.declared.symbol.Symbol.{Symbol}
use Rattle.c_grammar.specs.declared.symbol.Symbol.TheVariants as symbols
use Rattle.c_grammar.specs.Symbols.{other_word, word_among, word_symbol, type_word, is_label_word, is_statement_word, operator_byte, bracket_byte, operator_or, repeated_symbol, updated_symbol, with_equals, two_byte_symbol, three_byte_symbol, mark_symbol, constant_symbol, symbol_of}
use Rattle.c_reader.specs.Reading.{numbered}
use Rattle.c_limits.proofs.Keeping.{Fine, is_plain_update}

abbrev IsFine : Symbol → Type 0
IsFine s = is_plain_update s ≡ true

abbrev OperatorIsFine : Option Binary → Type 0
OperatorIsFine o = IsFine (updated_symbol o)

operator_fine : (b : ℕ) → OperatorIsFine (operator_byte b)
operator_fine b = by_test (b == 42) (λ t. rw t refl) (λ t. rw t (by_test (b == 47) (λ t. rw t refl) (λ t. rw t (by_test (b == 37) (λ t. rw t refl) (λ t. rw t (by_test (b == 43) (λ t. rw t refl) (λ t. rw t (by_test (b == 45) (λ t. rw t refl) (λ t. rw t (by_test (b == 60) (λ t. rw t refl) (λ t. rw t (by_test (b == 62) (λ t. rw t refl) (λ t. rw t (by_test (b == 38) (λ t. rw t refl) (λ t. rw t (by_test (b == 94) (λ t. rw t refl) (λ t. rw t (by_test (b == 124) (λ t. rw t refl) (λ t. rw t (refl))))))))))))))))))))

bracket_fine : (b : ℕ) → IsFine (bracket_byte b)
bracket_fine b = by_test (b == 40) (λ t. rw t refl) (λ t. rw t (by_test (b == 41) (λ t. rw t refl) (λ t. rw t (by_test (b == 91) (λ t. rw t refl) (λ t. rw t (by_test (b == 93) (λ t. rw t refl) (λ t. rw t (by_test (b == 123) (λ t. rw t refl) (λ t. rw t (by_test (b == 125) (λ t. rw t refl) (λ t. rw t (by_test (b == 44) (λ t. rw t refl) (λ t. rw t (by_test (b == 59) (λ t. rw t refl) (λ t. rw t (by_test (b == 58) (λ t. rw t refl) (λ t. rw t (by_test (b == 61) (λ t. rw t refl) (λ t. rw t (by_test (b == 33) (λ t. rw t refl) (λ t. rw t (by_test (b == 126) (λ t. rw t refl) (λ t. rw t (refl))))))))))))))))))))))))

or_fine : (o : Option Binary) (s : Symbol) → IsFine s → IsFine (operator_or o s)
or_fine None s fine = fine
or_fine (Some op) s fine = refl

repeated_fine : (b : ℕ) → IsFine (repeated_symbol b)
repeated_fine b = by_test (b == 43) (λ t. rw t refl) (λ t. rw t (by_test (b == 45) (λ t. rw t refl) (λ t. rw t (by_test (b == 60) (λ t. rw t refl) (λ t. rw t (by_test (b == 62) (λ t. rw t refl) (λ t. rw t (by_test (b == 61) (λ t. rw t refl) (λ t. rw t (by_test (b == 38) (λ t. rw t refl) (λ t. rw t (by_test (b == 124) (λ t. rw t refl) (λ t. rw t (refl))))))))))))))

either_fine : (b : Bool) (s r : Symbol) → IsFine s → IsFine r → IsFine (if b then s else r)
either_fine true s r f g = f
either_fine false s r f g = g

equals_fine : (b : ℕ) → IsFine (with_equals b)
equals_fine b =
    let updated : Symbol = updated_symbol (operator_byte b) in
    let third : Symbol = if b == 33 then symbols.Operator binaries.Unequal else updated in
    let second : Symbol = if b == 62 then symbols.Operator binaries.AtLeast else third in
    either_fine (b == 60) (symbols.Operator binaries.AtMost) second refl
    (either_fine (b == 62) (symbols.Operator binaries.AtLeast) third refl (either_fine (b == 33) (symbols.Operator binaries.Unequal) updated refl (operator_fine b)))

two_fine : (a b : ℕ) → IsFine (two_byte_symbol a b)
two_fine a b = by_test (a == b) (λ t. rw t (repeated_fine a)) (λ t. rw t (by_test (b == 61) (λ u. rw u (equals_fine a)) (λ u. rw u refl)))

three_fine : (a c : ℕ) → IsFine (three_byte_symbol a c)
three_fine a c = by_test ((a == 60) && (c == 61)) (λ t. rw t refl) (λ t. rw t (by_test ((a == 62) && (c == 61)) (λ t. rw t refl) (λ t. rw t (refl))))

mark_fine : (text : List ℕ) → IsFine (mark_symbol text)
mark_fine [] = refl
mark_fine (a ∷ []) = or_fine (operator_byte a) (bracket_byte a) (bracket_fine a)
mark_fine (a ∷ b ∷ []) = two_fine a b
mark_fine (a ∷ b ∷ c ∷ []) = three_fine a c
mark_fine (a ∷ b ∷ c ∷ d ∷ ds) = refl

other_fine : (text : List ℕ) → IsFine (other_word text)
unfolding other_word
other_fine text = by_test (is_statement_word text) (λ t. rw t refl) (λ t. rw t (by_test (is_label_word text) (λ t. rw t refl) (λ t. rw t (by_test (bytes_eq text (codes "else")) (λ t. rw t refl) (λ t. rw t (by_test (bytes_eq text (codes "const")) (λ t. rw t refl) (λ t. rw t (by_test (bytes_eq text (codes "static")) (λ t. rw t refl) (λ t. rw t (by_test (is_keyword text || nat_lt 28 (length text)) (λ t. rw t refl) (λ t. rw t (refl))))))))))))

among_fine : (word : Option TypeWord) (text : List ℕ) → IsFine (word_among word text)
among_fine None text = other_fine text
among_fine (Some word) text = refl

word_fine : (text : List ℕ) → IsFine (word_symbol text)
unfolding word_symbol
word_fine text = among_fine (type_word text) text

constant_fine : (w : Worth) → IsFine (constant_symbol w)
constant_fine worths.NoConstant = refl
constant_fine worths.TooLarge = refl
constant_fine (worths.Int n) = refl
constant_fine (worths.UnsignedInt n) = refl

symbol_fine : (kind : Kind) (text : List ℕ) → IsFine (symbol_of kind text)
symbol_fine kinds.Identifier text = word_fine text
symbol_fine kinds.Number text = constant_fine (worth_of kinds.Number text)
symbol_fine kinds.Character text = constant_fine (worth_of kinds.Character text)
symbol_fine kinds.Punctuator text = mark_fine text
symbol_fine _ text = refl

pub tokens_fine : (n : ℕ) (ts : List Lexeme) → Each Fine (numbered n ts)
tokens_fine n [] = tt
tokens_fine n (t ∷ ts) = (symbol_fine t.kind t.text, tokens_fine (n + 1) ts)
