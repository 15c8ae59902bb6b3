-- Small units, to be worked out: a text, and the trees that a person reads in it.
--   main               the name of the root
--   in_first_object w  an input that gives the first object the word w of 32 bits
use Rattle.std.specs.Prelude.{ℕ, ◌+◌, ◌++◌, true, false, List, [], ◌∷◌, Some, None, codes}
use Rattle.c_unit.specs.declared.types.Integer.TheVariants.{Char, UnsignedChar, Short, Int}
use Rattle.c_unit.specs.declared.types.Scalar.TheVariants as scalars
use Rattle.c_unit.specs.declared.types.Outcome.TheVariants as outcomes
use Rattle.c_unit.specs.declared.expression.Unary.TheVariants.{Address, Load, Minus}
use Rattle.c_unit.specs.declared.expression.Binary.TheVariants.{Multiply, Divide, Remainder, Add, Subtract, ShiftRight, Greater, AtMost, Unequal, Both}
use Rattle.c_unit.specs.Tree.{Expression, OfConstant, OfName, WithUnary, WithCast, AtIndex, WithBinary, OfExpression, OfCall, Assigns, Updates, Steps, LocalInteger, LocalPointer, Empty, Declares, If, While, ForAfter, Statement, Switch, Case, Default, Break, Does, GlobalInteger, ExternalTree, Declaration, Definition, statements_of, InParentheses, LocalArray, Block, Do, GlobalArray}
use Rattle.c_unit.specs.Units.{UnitTree}
use Rattle.c_rules.specs.Worked.{unit_in, int_main, returns}
use Rattle.c_meaning.specs.Programs.{Cell}

abbrev pub main : List ℕ
main = codes "main"

abbrev pub in_first_object : ℕ → List Cell
in_first_object w = record { object = 0; offset = 0; size = 32; word = w } ∷ []

-- the sum of the numbers up to 3, by a function with a loop
abbrev sums : ExternalTree
sums = Definition 3 (outcomes.Integer Int) 4 (record { first = 6; kind = scalars.Integer Int; name = Some 7 } ∷ [])
    (Declares 10 Int (record { name = 11; shape = LocalInteger (Some (OfExpression (OfConstant 13))) } ∷ [])
    ∷ Declares 15 Int (record { name = 16; shape = LocalInteger None } ∷ [])
    ∷ ForAfter (Does (Assigns (OfName 20) 21 (OfExpression (OfConstant 22)))) (Some (WithBinary AtMost 25 (OfName 24) (OfName 26))) (Some (Steps (OfName 28) true 29))
    (Does (Updates (OfName 31) Add 32 (OfName 33)))
    ∷ returns 35 (OfName 36) ∷ [])

abbrev pub with_a_sum : UnitTree
with_a_sum = unit_in
    (codes "int g|; int sum|(|int n|)|{|int s|=|0|; int i|; for|(|i|=|1|; i|<=|n|; i|++|) s|+=|i|; return s|;|} int main|(|void|)|{|g|=|sum|(|3|)|; return g|;|}")
    (Declaration 0 (outcomes.Integer Int) (record { name = 1; shape = GlobalInteger None } ∷ []) ∷ sums
    ∷ Definition 39 (outcomes.Integer Int) 40 []
    (Does (Assigns (OfName 45) 46 (OfCall (record { name = 47; arguments = OfConstant 49 ∷ [] }))) ∷ returns 52 (OfName 53) ∷ [])
    ∷ [])

-- the right side of `&&` divides by d, and so does the last statement
abbrev pub with_a_guard : UnitTree
with_a_guard = unit_in (codes "int d|; int main|(|void|)|{|if|(|d|!=|0|&&|10|/|d|>|3|) return 1|; return 10|/|d|;|}")
    (Declaration 0 (outcomes.Integer Int) (record { name = 1; shape = GlobalInteger None } ∷ [])
    ∷ Definition 3 (outcomes.Integer Int) 4 []
    (If (WithBinary Both 14 (WithBinary Unequal 12 (OfName 11) (OfConstant 13))
    (WithBinary Greater 18 (WithBinary Divide 16 (OfConstant 15) (OfName 17)) (OfConstant 19)))
    (returns 21 (OfConstant 22))
    ∷ returns 24 (WithBinary Divide 26 (OfConstant 25) (OfName 27)) ∷ [])
    ∷ [])

-- an `int` read byte by byte
abbrev element : ℕ → Expression
element token = AtIndex (OfName token) (token + 1) (OfConstant (token + 2))

abbrev pub with_bytes : UnitTree
with_bytes = unit_in (codes "int w|=|258|; int main|(|void|)|{|unsigned char *|p|; p|=|(|unsigned char *|)|&|w|; return p|[|0|]|*|256|+|p|[|1|]|;|}")
    (Declaration 0 (outcomes.Integer Int) (record { name = 1; shape = GlobalInteger (Some (record { minus = false; token = 3 })) } ∷ [])
    ∷ Definition 5 (outcomes.Integer Int) 6 []
    (Declares 11 UnsignedChar (record { name = 14; shape = LocalPointer None } ∷ [])
    ∷ Does (Assigns (OfName 16) 17 (OfExpression (WithCast 18 (scalars.Pointer UnsignedChar) (WithUnary Address 23 (OfName 24)))))
    ∷ returns 26 (WithBinary Add 33 (WithBinary Multiply 31 (element 27) (OfConstant 32)) (element 34)) ∷ [])
    ∷ [])

-- a `char` of 200 is -56; its case goes on into the next
abbrev pub with_a_switch : UnitTree
with_a_switch = unit_in (codes "int main|(|void|)|{|char c|=|200|; switch|(|c|)|{|case -|56|: c|++|; case 1|: c|+=|2|; break|; default|: return 9|;|} return c|;|}")
    (int_main
    (Declares 6 Char (record { name = 7; shape = LocalInteger (Some (OfExpression (OfConstant 9))) } ∷ [])
    ∷ Switch (OfName 13) (statements_of
    (Case 16 (record { minus = true; token = 18 }) ∷ Does (Steps (OfName 20) true 21)
    ∷ Case 23 (record { minus = false; token = 24 }) ∷ Does (Updates (OfName 26) Add 27 (OfConstant 28)) ∷ Break 30
    ∷ Default 32 ∷ returns 34 (OfConstant 35) ∷ []))
    ∷ returns 38 (OfName 39) ∷ [])
    ∷ [])

abbrev pub without_an_end : UnitTree
without_an_end = unit_in (codes "int main|(|void|)|{|while|(|1|)|;|}") (int_main (While (OfConstant 8) (Empty 10) ∷ []) ∷ [])

-- a pointer goes down an array of `short`; what is returned divides, shifts and takes remainders below 0
abbrev minus_seven : ℕ → Expression
minus_seven token = WithUnary Minus token (OfConstant (token + 1))

abbrev summed : Expression
summed = WithBinary Add 76 (WithBinary Add 69 (WithBinary Add 64
    (WithBinary Add 58 (OfName 57) (InParentheses 59 (WithBinary Subtract 61 (OfName 60) (OfName 62))))
    (WithBinary Divide 67 (minus_seven 65) (OfConstant 68)))
    (InParentheses 70 (WithBinary ShiftRight 73 (minus_seven 71) (OfConstant 74))))
    (WithBinary Remainder 79 (minus_seven 77) (OfConstant 80))

abbrev goes_down : Statement
goes_down = Block (statements_of
    (Does (Steps (OfName 36) false 37)
    ∷ Does (Assigns (OfName 39) 40 (OfExpression (WithBinary Add 44 (WithBinary Multiply 42 (OfName 41) (OfConstant 43)) (WithUnary Load 45 (OfName 46)))))
    ∷ []))

abbrev pub with_a_pointer : UnitTree
with_a_pointer = unit_in
    (codes "int main|(|void|)|{|short a|[|3|]|=|{|1|,|-|2|}|; short *|p|; int s|=|0|; p|=|a|+|2|; "
    ++ codes "do|{|p|--|; s|=|s|*|2|+|*|p|;|} while|(|p|!=|a|)|; return s|+|(|p|-|a|)|+|-|7|/|2|+|(|-|7|>>|1|)|+|-|7|%|4|;|}")
    (int_main
    (Declares 6 Short (record { name = 7; shape = LocalArray 9 (Some (record { minus = false; token = 13 } ∷ record { minus = true; token = 16 } ∷ [])) } ∷ [])
    ∷ Declares 19 Short (record { name = 21; shape = LocalPointer None } ∷ [])
    ∷ Declares 23 Int (record { name = 24; shape = LocalInteger (Some (OfExpression (OfConstant 26))) } ∷ [])
    ∷ Does (Assigns (OfName 28) 29 (OfExpression (WithBinary Add 31 (OfName 30) (OfConstant 32))))
    ∷ Do goes_down (WithBinary Unequal 52 (OfName 51) (OfName 53))
    ∷ returns 56 summed ∷ [])
    ∷ [])

-- a function that gives a `char` of an `int`
abbrev pub with_a_narrow_result : UnitTree
with_a_narrow_result = unit_in (codes "char f|(|int x|)|{|return x|;|} int main|(|void|)|{|int y|=|f|(|200|)|; return y|;|}")
    (Definition 0 (outcomes.Integer Char) 1 (record { first = 3; kind = scalars.Integer Int; name = Some 4 } ∷ []) (returns 7 (OfName 8) ∷ [])
    ∷ Definition 11 (outcomes.Integer Int) 12 []
    (Declares 17 Int (record { name = 18; shape = LocalInteger (Some (OfCall (record { name = 20; arguments = OfConstant 22 ∷ [] }))) } ∷ [])
    ∷ returns 25 (OfName 26) ∷ [])
    ∷ [])

-- a root that gives a `char`
abbrev pub with_a_narrow_root : UnitTree
with_a_narrow_root = unit_in (codes "char main|(|void|)|{|return 200|;|}") (Definition 0 (outcomes.Integer Char) 1 [] (returns 6 (OfConstant 7) ∷ []) ∷ [])

-- a root with a pointer, which an input may give a word
abbrev pub with_a_pointer_parameter : UnitTree
with_a_pointer_parameter = unit_in (codes "int main|(|int *|p|)|{|return *|p|;|}")
    (Definition 0 (outcomes.Integer Int) 1 (record { first = 3; kind = scalars.Pointer Int; name = Some 5 } ∷ []) (returns 8 (WithUnary Load 9 (OfName 10)) ∷ []) ∷ [])

abbrev pub without_a_value : UnitTree
without_a_value = unit_in (codes "int main|(|void|)|{|int x|; return x|;|}")
    (int_main (Declares 6 Int (record { name = 7; shape = LocalInteger None } ∷ []) ∷ returns 9 (OfName 10) ∷ []) ∷ [])

abbrev pub past_an_array : UnitTree
past_an_array = unit_in (codes "int a|[|3|]|; int main|(|void|)|{|return a|[|3|]|;|}")
    (Declaration 0 (outcomes.Integer Int) (record { name = 1; shape = GlobalArray 3 None } ∷ [])
    ∷ Definition 6 (outcomes.Integer Int) 7 [] (returns 12 (AtIndex (OfName 13) 14 (OfConstant 15)) ∷ []) ∷ [])
