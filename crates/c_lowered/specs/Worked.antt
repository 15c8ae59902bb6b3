-- Small units, and what they are lowered to, worked out by hand: units of `c_meaning`, and two more.
--   the_sum, the_guard, the_switch, the_pointer    programs of ALF for `with_a_sum`, `with_a_guard`, `with_a_switch` and `with_a_pointer`
--   with_names, the_names      a name that is declared twice, loops that are left, a table, and a function without a result
--   with_values, the_values    operators of other types, and calls for their values
use Rattle.std.specs.Prelude.{ℕ, true, false, List, [], ◌∷◌, ◌++◌, Some, None, codes}
use Rattle.alf_ops.specs.declared.operator.Op.{Op}
use Rattle.alf_ops.specs.declared.operator.Op.TheVariants.{Neg, Not, Add, Sub, UMul, SMul, UDiv, SDiv, UMod, SMod, LShift, RShift, RShiftA, And, Or, Xor, Eq, Neq, UGt, SLt, SLe, SGt, SGe, SExt, ZExt, Trunc}
use Rattle.alf_program.specs.declared.program.Num.{Num}
use Rattle.alf_program.specs.Tree.{NamedExpression, Number, Address, Load, Apply, With, Store, Jump, Switch, Call, Return, BodyItem, Label, Do, Allocation, InitialValue, Function, WholeProgram}
use Rattle.alf_program.specs.Tree as alf
use Rattle.c_unit.specs.declared.types.Integer.TheVariants.{Char, UnsignedChar, Short, Int, UnsignedInt}
use Rattle.c_unit.specs.declared.types.Scalar.TheVariants as scalars
use Rattle.c_unit.specs.declared.types.Outcome.TheVariants as outcomes
use Rattle.c_unit.specs.declared.expression.Unary.TheVariants as unary
use Rattle.c_unit.specs.declared.expression.Binary.TheVariants as binary
use Rattle.c_unit.specs.Tree.{OfConstant, OfName, InParentheses, WithUnary, WithCast, AtIndex, WithBinary, OfExpression, OfCall, Assigns, Updates, Calls, LocalInteger, LocalPointer, LocalArray, Empty, Declares, Block, IfElse, While, For, Break, Continue, Returns, Does, GlobalArray, ExternalTree, Declaration, Definition, statements_of}
use Rattle.c_unit.specs.Units.{Word, UnitTree}
use Rattle.c_rules.specs.Worked.{unit_in, returns}

-- ---- words for parts of ALF

-- { dec_signed 32 n }, { dec_unsigned 32 n } and { dec_unsigned 1 b }
abbrev int : ℕ → NamedExpression
int n = Number (record { signed = true; size = 32; bits = n })

abbrev natural : ℕ → NamedExpression
natural n = Number (record { signed = false; size = 32; bits = n })

abbrev carry : ℕ → NamedExpression
carry b = Number (record { signed = false; size = 1; bits = b })

-- the address of a frame's first byte, and a load of as many bits from there
abbrev at : List ℕ → NamedExpression
at name = Address name 0

abbrev load : ℕ → List ℕ → NamedExpression
load bits name = Load bits (at name)

-- operators of one size, and of two
abbrev one : Op → ℕ → NamedExpression → NamedExpression
one op n a = Apply op (n ∷ []) (With a alf.Empty)

abbrev convert : Op → ℕ → ℕ → NamedExpression → NamedExpression
convert op m n a = Apply op (m ∷ n ∷ []) (With a alf.Empty)

abbrev two : Op → NamedExpression → NamedExpression → NamedExpression
two op a b = Apply op (32 ∷ []) (With a (With b alf.Empty))

abbrev both : Op → NamedExpression → NamedExpression → NamedExpression
both op a b = Apply op (32 ∷ 32 ∷ []) (With a (With b alf.Empty))

abbrev three : Op → NamedExpression → NamedExpression → NamedExpression → NamedExpression
three op a b c = Apply op (32 ∷ []) (With a (With b (With c alf.Empty)))

abbrev store : NamedExpression → NamedExpression → BodyItem
store to value = Do (Store to value)

abbrev jump : List ℕ → BodyItem
jump to = Do (Jump to)

-- { switch e { target { dec_unsigned 1 1 } held } { default failed } }
abbrev test : NamedExpression → List ℕ → List ℕ → BodyItem
test e held failed = Do (Switch e ((record { signed = false; size = 1; bits = 1 }, held) ∷ []) failed)

abbrev return : NamedExpression → BodyItem
return value = Do (Return (Some value))

abbrev frame : List ℕ → ℕ → Allocation
frame name bits = record { name = name; bits = bits }

abbrev holds : List ℕ → ℕ → Num → InitialValue
holds name offset num = record { name = name; offset = offset; num = num }

abbrev function : List ℕ → List Allocation → List Allocation → List BodyItem → Function
function name args decls items = record { name = name; args = args; decls = decls; inits = []; items = items }

abbrev program : List (List ℕ) → List Allocation → List InitialValue → List Function → WholeProgram
program exports decls inits funcs = record { exports = exports; labels = []; decls = decls; inits = inits; funcs = funcs }

-- ---- units of other files

-- int d; int main(void) { if (d != 0 && 10 / d > 3) return 1; return 10 / d; }
abbrev pub the_guard : WholeProgram
the_guard =
    program (codes "d" ∷ []) (frame (codes "d") 32 ∷ []) (holds (codes "d") 0 (record { signed = true; size = 32; bits = 0 }) ∷ [])
    (function (codes "main") [] []
    (test (two Neq (load 32 (codes "d")) (int 0)) (codes "main::L2") (codes "main::L1")
    ∷ Label (codes "main::L2")
    ∷ test (two SGt (both SDiv (int 10) (load 32 (codes "d"))) (int 3)) (codes "main::L0") (codes "main::L1")
    ∷ Label (codes "main::L0")
    ∷ return (int 1)
    ∷ jump (codes "main::L1")
    ∷ Label (codes "main::L1")
    ∷ return (both SDiv (int 10) (load 32 (codes "d")))
    ∷ return (int 0) ∷ []) ∷ [])

-- int g; int sum(int n) { int s = 0; int i; for (i = 1; i <= n; i++) s += i; return s; } int main(void) { g = sum(3);
-- return g; }
abbrev pub the_sum : WholeProgram
the_sum =
    program (codes "g" ∷ []) (frame (codes "g") 32 ∷ []) (holds (codes "g") 0 (record { signed = true; size = 32; bits = 0 }) ∷ [])
    (function (codes "sum") (frame (codes "sum::n") 32 ∷ []) (frame (codes "sum::s") 32 ∷ frame (codes "sum::i") 32 ∷ [])
    (store (at (codes "sum::s")) (int 0)
    ∷ store (at (codes "sum::i")) (int 1)
    ∷ Label (codes "sum::L0")
    ∷ test (two SLe (load 32 (codes "sum::i")) (load 32 (codes "sum::n"))) (codes "sum::L1") (codes "sum::L3")
    ∷ Label (codes "sum::L1")
    ∷ store (at (codes "sum::s")) (three Add (load 32 (codes "sum::s")) (load 32 (codes "sum::i")) (carry 0))
    ∷ Label (codes "sum::L2")
    ∷ store (at (codes "sum::i")) (three Add (load 32 (codes "sum::i")) (int 1) (carry 0))
    ∷ jump (codes "sum::L0")
    ∷ Label (codes "sum::L3")
    ∷ return (load 32 (codes "sum::s"))
    ∷ return (int 0) ∷ [])
    ∷ function (codes "main") [] (frame (codes "main::$0") 32 ∷ [])
    (Do (Call (codes "sum") (int 3 ∷ []) (Some (codes "main::$0", 0)))
    ∷ store (at (codes "g")) (load 32 (codes "main::$0"))
    ∷ return (load 32 (codes "g"))
    ∷ return (int 0) ∷ []) ∷ [])

-- what the `char` c holds
abbrev char_c : NamedExpression
char_c = convert SExt 8 32 (load 8 (codes "main::c"))

-- int main(void) { char c = 200; switch (c) { case -56: c++; case 1: c += 2; break; default: return 9; } return c; }
abbrev pub the_switch : WholeProgram
the_switch =
    program [] [] []
    (function (codes "main") [] (frame (codes "main::c") 8 ∷ [])
    (store (at (codes "main::c")) (convert Trunc 32 8 (int 200))
    ∷ Do (Switch char_c
    ((record { signed = true; size = 32; bits = 4294967240 }, codes "main::L0") ∷ (record { signed = true; size = 32; bits = 1 }, codes "main::L1") ∷ []) (codes "main::L2"))
    ∷ Label (codes "main::L0")
    ∷ store (at (codes "main::c")) (convert Trunc 32 8 (three Add char_c (int 1) (carry 0)))
    ∷ Label (codes "main::L1")
    ∷ store (at (codes "main::c")) (convert Trunc 32 8 (three Add char_c (int 2) (carry 0)))
    ∷ jump (codes "main::L3")
    ∷ Label (codes "main::L2")
    ∷ return (int 9)
    ∷ Label (codes "main::L3")
    ∷ return char_c
    ∷ return (int 0) ∷ []) ∷ [])

-- so many times 2
abbrev twice : NamedExpression → NamedExpression
twice e = convert Trunc 64 32 (both SMul e (int 2))

-- int main(void) { short a[3] = { 1, -2 }; short *p; int s = 0; p = a + 2; do { p--; s = s * 2 + *p; } while (p != a);
-- return s + (p - a) + -7 / 2 + (-7 >> 1) + -7 % 4; }
abbrev pub the_pointer : WholeProgram
the_pointer =
    program [] [] []
    (function (codes "main") [] (frame (codes "main::a") 48 ∷ frame (codes "main::p") 32 ∷ frame (codes "main::s") 32 ∷ [])
    (store (Address (codes "main::a") 0) (convert Trunc 32 16 (int 1))
    ∷ store (Address (codes "main::a") 2) (convert Trunc 32 16 (one Neg 32 (int 2)))
    ∷ store (Address (codes "main::a") 4) (convert Trunc 32 16 (int 0))
    ∷ store (at (codes "main::s")) (int 0)
    ∷ store (at (codes "main::p")) (three Add (at (codes "main::a")) (twice (int 2)) (carry 0))
    ∷ Label (codes "main::L0")
    ∷ store (at (codes "main::p")) (three Sub (load 32 (codes "main::p")) (twice (int 1)) (carry 1))
    ∷ store (at (codes "main::s")) (three Add (twice (load 32 (codes "main::s"))) (convert SExt 16 32 (Load 16 (load 32 (codes "main::p")))) (carry 0))
    ∷ Label (codes "main::L1")
    ∷ test (two Neq (load 32 (codes "main::p")) (at (codes "main::a"))) (codes "main::L0") (codes "main::L2")
    ∷ Label (codes "main::L2")
    ∷ return (three Add (three Add (three Add (three Add (load 32 (codes "main::s"))
    (both SDiv (three Sub (load 32 (codes "main::p")) (at (codes "main::a")) (carry 1)) (int 2)) (carry 0))
    (both SDiv (one Neg 32 (int 7)) (int 2)) (carry 0))
    (both RShiftA (one Neg 32 (int 7)) (int 1)) (carry 0))
    (both SMod (one Neg 32 (int 7)) (int 4)) (carry 0))
    ∷ return (int 0) ∷ []) ∷ [])

-- ---- a unit of names and loops

-- words with one between them that has bars
abbrev with_bars : List Word → List ℕ → List Word → List Word
with_bars words bars others = words ++ record { text = bars; place = record { offset = 0; line = 1; column = 1 } } ∷ others

-- the `||` is token 33, and the `|` token 106
abbrev words_of_names : List Word
words_of_names =
    with_bars (unit_in (codes "unsigned char b|[|2|]|=|{|1|,|-|1|}|; void put|(|short *|p|, unsigned i|)|{|int x|=|0|; while|(|i") []).words (codes "||")
    (with_bars (unit_in
    (codes "!|(|x|<|3|)|)|{|unsigned x|=|2u|; if|(|x|>|1u|) continue|; else p|[|i|]|=|(|char|)|x|;|} for|(|;|;|) break|; return|;|} "
    ++ codes "char main|(|void|)|{|short s|[|1|]|; put|(|&|s|[|0|]|, 2|)|; ; return b|[|1|]") []).words (codes "|")
    (unit_in (codes "1|;|}") []).words)

abbrev puts : ExternalTree
puts = Definition 14 outcomes.Nothing 15
    (record { first = 17; kind = scalars.Pointer Short; name = Some 19 } ∷ record { first = 21; kind = scalars.Integer UnsignedInt; name = Some 22 } ∷ [])
    (Declares 25 Int (record { name = 26; shape = LocalInteger (Some (OfExpression (OfConstant 28))) } ∷ [])
    ∷ While (WithBinary binary.Either 33 (OfName 32) (WithUnary unary.Not 34 (InParentheses 35 (WithBinary binary.Less 37 (OfName 36) (OfConstant 38)))))
    (Block (statements_of
    (Declares 42 UnsignedInt (record { name = 43; shape = LocalInteger (Some (OfExpression (OfConstant 45))) } ∷ [])
    ∷ IfElse (WithBinary binary.Greater 50 (OfName 49) (OfConstant 51)) (Continue 53)
    (Does (Assigns (AtIndex (OfName 56) 57 (OfName 58)) 60 (OfExpression (WithCast 61 (scalars.Integer Char) (OfName 64)))))
    ∷ [])))
    ∷ For None None (Break 72)
    ∷ Returns 74 None ∷ [])

abbrev pub with_names : UnitTree
with_names = record {
  words = words_of_names;
  externals =
      Declaration 0 (outcomes.Integer UnsignedChar)
      (record { name = 2; shape = GlobalArray 4 (Some (record { minus = false; token = 8 } ∷ record { minus = true; token = 11 } ∷ [])) } ∷ [])
      ∷ puts
      ∷ Definition 77 (outcomes.Integer Char) 78 []
      (Declares 83 Short (record { name = 84; shape = LocalArray 86 None } ∷ [])
      ∷ Does (Calls (record { name = 89; arguments = WithUnary unary.Address 91 (AtIndex (OfName 92) 93 (OfConstant 94)) ∷ OfConstant 97 ∷ [] }))
      ∷ Empty 100
      ∷ returns 101 (WithBinary binary.Or 106 (AtIndex (OfName 102) 103 (OfConstant 104)) (OfConstant 107)) ∷ [])
      ∷ [];
}

-- unsigned char b[2] = { 1, -1 }; void put(short *p, unsigned i) { int x = 0; while (i || !(x < 3)) { unsigned x = 2u;
-- if (x > 1u) continue; else p[i] = (char)x; } for (;;) break; return; } char main(void) { short s[1]; put(&s[0], 2); ;
-- return b[1] | 1; }
abbrev pub the_names : WholeProgram
the_names =
    program [] (frame (codes "b") 16 ∷ [])
    (holds (codes "b") 0 (record { signed = false; size = 8; bits = 1 }) ∷ holds (codes "b") 1 (record { signed = false; size = 8; bits = 255 }) ∷ [])
    (function (codes "put") (frame (codes "put::p") 32 ∷ frame (codes "put::i") 32 ∷ []) (frame (codes "put::x") 32 ∷ frame (codes "put::x::1") 32 ∷ [])
    (store (at (codes "put::x")) (int 0)
    ∷ Label (codes "put::L0")
    ∷ test (two Neq (load 32 (codes "put::i")) (int 0)) (codes "put::L1") (codes "put::L3")
    ∷ Label (codes "put::L3")
    ∷ test (two SLt (load 32 (codes "put::x")) (int 3)) (codes "put::L2") (codes "put::L1")
    ∷ Label (codes "put::L1")
    ∷ store (at (codes "put::x::1")) (natural 2)
    ∷ test (two UGt (load 32 (codes "put::x::1")) (natural 1)) (codes "put::L4") (codes "put::L5")
    ∷ Label (codes "put::L4")
    ∷ jump (codes "put::L0")
    ∷ jump (codes "put::L6")
    ∷ Label (codes "put::L5")
    ∷ store (three Add (load 32 (codes "put::p")) (convert Trunc 64 32 (both UMul (load 32 (codes "put::i")) (int 2))) (carry 0))
    (convert Trunc 32 16 (convert SExt 8 32 (convert Trunc 32 8 (load 32 (codes "put::x::1")))))
    ∷ Label (codes "put::L6")
    ∷ jump (codes "put::L0")
    ∷ Label (codes "put::L2")
    ∷ Label (codes "put::L7")
    ∷ jump (codes "put::L8")
    ∷ Label (codes "put::L8")
    ∷ jump (codes "put::L10")
    ∷ Label (codes "put::L9")
    ∷ jump (codes "put::L7")
    ∷ Label (codes "put::L10")
    ∷ Do (Return None)
    ∷ Do (Return None) ∷ [])
    ∷ function (codes "main") [] (frame (codes "main::s") 16 ∷ [])
    (Do (Call (codes "put") (three Add (at (codes "main::s")) (twice (int 0)) (carry 0) ∷ int 2 ∷ []) None)
    ∷ return (convert Trunc 32 8 (two Or (convert ZExt 8 32 (Load 8 (three Add (at (codes "b")) (int 1) (carry 0)))) (int 1)))
    ∷ return (convert Trunc 32 8 (int 0)) ∷ []) ∷ [])

-- ---- a unit of operators and calls

abbrev pub with_values : UnitTree
with_values = unit_in
    (codes "unsigned f|(|void|)|{|return ~|1u|/|3u|%|5u|>>|2|;|} "
    ++ codes "int g|(|short *|p|, char c|)|{|short *|q|=|2|+|p|; q|-=|1|; *|q|=|!|c|; c|=|f|(|)|; return f|(|)|;|} "
    ++ codes "int main|(|void|)|{|return +|'a'|<<|1|&|2|^|3|==|(|4|>=|5|)|;|}")
    (Definition 0 (outcomes.Integer UnsignedInt) 1 []
    (returns 6 (WithBinary binary.ShiftRight 13 (WithBinary binary.Remainder 11
    (WithBinary binary.Divide 9 (WithUnary unary.Complement 7 (OfConstant 8)) (OfConstant 10)) (OfConstant 12)) (OfConstant 14)) ∷ [])
    ∷ Definition 17 (outcomes.Integer Int) 18
    (record { first = 20; kind = scalars.Pointer Short; name = Some 22 } ∷ record { first = 24; kind = scalars.Integer Char; name = Some 25 } ∷ [])
    (Declares 28 Short (record { name = 30; shape = LocalPointer (Some (OfExpression (WithBinary binary.Add 33 (OfConstant 32) (OfName 34)))) } ∷ [])
    ∷ Does (Updates (OfName 36) binary.Subtract 37 (OfConstant 38))
    ∷ Does (Assigns (WithUnary unary.Load 40 (OfName 41)) 42 (OfExpression (WithUnary unary.Not 43 (OfName 44))))
    ∷ Does (Assigns (OfName 46) 47 (OfCall (record { name = 48; arguments = [] })))
    ∷ Returns 52 (Some (OfCall (record { name = 53; arguments = [] }))) ∷ [])
    ∷ Definition 58 (outcomes.Integer Int) 59 []
    (returns 64 (WithBinary binary.Xor 71
    (WithBinary binary.And 69 (WithBinary binary.ShiftLeft 67 (WithUnary unary.Plus 65 (OfConstant 66)) (OfConstant 68)) (OfConstant 70))
    (WithBinary binary.Equal 73 (OfConstant 72) (InParentheses 74 (WithBinary binary.AtLeast 76 (OfConstant 75) (OfConstant 77))))) ∷ [])
    ∷ [])

-- unsigned f(void) { return ~1u / 3u % 5u >> 2; }
-- int g(short *p, char c) { short *q = 2 + p; q -= 1; *q = !c; c = f(); return f(); }
-- int main(void) { return +'a' << 1 & 2 ^ 3 == (4 >= 5); }
abbrev pub the_values : WholeProgram
the_values =
    program [] [] []
    (function (codes "f") [] []
    (return (both RShift (both UMod (both UDiv (one Not 32 (natural 1)) (natural 3)) (natural 5)) (int 2))
    ∷ return (int 0) ∷ [])
    ∷ function (codes "g") (frame (codes "g::p") 32 ∷ frame (codes "g::c") 8 ∷ []) (frame (codes "g::q") 32 ∷ frame (codes "g::$0") 32 ∷ frame (codes "g::$1") 32 ∷ [])
    (store (at (codes "g::q")) (three Add (twice (int 2)) (load 32 (codes "g::p")) (carry 0))
    ∷ store (at (codes "g::q")) (three Sub (load 32 (codes "g::q")) (twice (int 1)) (carry 1))
    ∷ store (load 32 (codes "g::q")) (convert Trunc 32 16 (convert ZExt 1 32 (two Eq (convert SExt 8 32 (load 8 (codes "g::c"))) (int 0))))
    ∷ Do (Call (codes "f") [] (Some (codes "g::$0", 0)))
    ∷ store (at (codes "g::c")) (convert Trunc 32 8 (load 32 (codes "g::$0")))
    ∷ Do (Call (codes "f") [] (Some (codes "g::$1", 0)))
    ∷ return (load 32 (codes "g::$1"))
    ∷ return (int 0) ∷ [])
    ∷ function (codes "main") [] []
    (return (two Xor (two And (both LShift (int 97) (int 1)) (int 2)) (convert ZExt 1 32 (two Eq (int 3) (convert ZExt 1 32 (two SGe (int 4) (int 5))))))
    ∷ return (int 0) ∷ []) ∷ [])
