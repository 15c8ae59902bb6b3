-- Small units, to be worked out: a text, and the trees that a person reads in it.
--   unit_in text xs   the unit of this line, with the trees given; where nothing stands between two of its words, the line has a bar
--   found_in inner outer   what `a` finds in two scopes; entry_a and entry_b are names of it and of `b`
--   int_main body     a function `main` without parameters that gives an `int`, whose block begins after token 5
use Rattle.std.specs.Prelude.{ℕ, ◌+◌, ◌==◌, false, true, List, [], ◌∷◌, ◌++◌, Option, Some, None, codes, if◌then◌else◌}
use Rattle.c_unit.specs.declared.types.Integer.{Integer}
use Rattle.c_unit.specs.declared.types.Integer.TheVariants.{Int}
use Rattle.c_unit.specs.declared.types.Scalar.TheVariants as scalars
use Rattle.c_unit.specs.declared.types.Outcome.TheVariants as outcomes
use Rattle.c_unit.specs.declared.expression.Binary.TheVariants.{Both}
use Rattle.c_unit.specs.Tree.{Expression, OfConstant, OfName, WithCast, WithBinary, OfExpression, OfCall, Assigns, Calls, LocalInteger, LocalPointer, LocalTree, Statement, Declares, Block, If, Switch, Case, Break, Returns, Does, FunctionOf, ExternalTree, Declaration, Definition, statements_of}
use Rattle.c_unit.specs.Units.{Word, UnitTree}
use Rattle.c_rules.specs.Names.{Entry, Variable, look_up}

abbrev word_from : ℕ → List ℕ → List Word
word_from start [] = []
word_from start (b ∷ bs) = record { text = b ∷ bs; place = record { offset = start; line = 1; column = start + 1 } } ∷ []

-- the words of a line, where a bar parts two of them and takes no room
abbrev words_from : ℕ → ℕ → List ℕ → List ℕ → List Word
words_from start offset word [] = word_from start word
words_from start offset word (b ∷ bs) =
    if b == 124 then word_from start word ++ words_from offset offset [] bs
    else if b == 32 then word_from start word ++ words_from (offset + 1) (offset + 1) [] bs
    else words_from start (offset + 1) (word ++ b ∷ []) bs

abbrev pub unit_in : List ℕ → List ExternalTree → UnitTree
unit_in text xs = record { words = words_from 0 0 [] text; externals = xs }

abbrev pub int_main : List Statement → ExternalTree
int_main body = Definition 0 (outcomes.Integer Int) 1 [] body

abbrev pub returns : ℕ → Expression → Statement
returns token e = Returns token (Some (OfExpression e))

abbrev integer : ℕ → LocalTree
integer name = record { name = name; shape = LocalInteger None }

-- int x = f();
abbrev pub called_into : ℕ → Statement
called_into first = Declares first Int (record { name = first + 1; shape = LocalInteger (Some (OfCall (record { name = first + 3; arguments = [] }))) } ∷ [])

-- int f(void) { int x = g(); return x; }
abbrev pub calling : ℕ → ExternalTree
calling first = Definition first (outcomes.Integer Int) (first + 1) [] (called_into (first + 6) ∷ returns (first + 13) (OfName (first + 14)) ∷ [])

-- the units of the refusals that are known
abbrev pub in_a_circle : UnitTree
in_a_circle = unit_in (codes "int f|(|void|)|; int g|(|void|)|{|int x|=|f|(|)|; return x|;|} int f|(|void|)|{|int x|=|g|(|)|; return x|;|} int main|(|void|)|{|int x|=|f|(|)|; return x|;|}")
    (Declaration 0 (outcomes.Integer Int) (record { name = 1; shape = FunctionOf [] } ∷ []) ∷ calling 6 ∷ calling 23 ∷ calling 40 ∷ [])

abbrev pub with_an_unknown_name : UnitTree
with_an_unknown_name = unit_in (codes "int main|(|void|)|{|return y|;|}") (int_main (returns 6 (OfName 7) ∷ []) ∷ [])

abbrev pub without_main : UnitTree
without_main = unit_in (codes "int f|(|void|)|{|return 0|;|}") (int_main (returns 6 (OfConstant 7) ∷ []) ∷ [])

abbrev pub with_a_name_twice : UnitTree
with_a_name_twice = unit_in (codes "int main|(|void|)|{|int a|; int a|; return 0|;|}") (int_main (Declares 6 Int (integer 7 ∷ []) ∷ Declares 9 Int (integer 10 ∷ []) ∷ returns 12 (OfConstant 13) ∷ []) ∷ [])

abbrev pub with_a_lone_break : UnitTree
with_a_lone_break = unit_in (codes "int main|(|void|)|{|break|; return 0|;|}") (int_main (Break 6 ∷ returns 8 (OfConstant 9) ∷ []) ∷ [])

abbrev pub with_a_cast_of_a_number : UnitTree
with_a_cast_of_a_number = unit_in (codes "int main|(|void|)|{|int *|p|; p|=|(|int *|)|5|; return 0|;|}")
    (int_main (Declares 6 Int (record { name = 8; shape = LocalPointer None } ∷ []) ∷ Does (Assigns (OfName 10) 11 (OfExpression (WithCast 12 (scalars.Pointer Int) (OfConstant 16)))) ∷ returns 18 (OfConstant 19) ∷ []) ∷ [])

-- ---- calls and scopes

abbrev pub call_of : ℕ → Statement
call_of name = Does (Calls (record { name = name; arguments = [] }))

abbrev pub without_a_definition : UnitTree
without_a_definition = unit_in (codes "int f|(|void|)|; int main|(|void|)|{|f|(|)|; return 0|;|}")
    (Declaration 0 (outcomes.Integer Int) (record { name = 1; shape = FunctionOf [] } ∷ []) ∷ Definition 6 (outcomes.Integer Int) 7 [] (call_of 12 ∷ returns 16 (OfConstant 17) ∷ []) ∷ [])

abbrev pub with_a_local_called : UnitTree
with_a_local_called = unit_in (codes "int f|(|void|)|{|return 0|;|} int main|(|void|)|{|int f|; f|(|)|; return 0|;|}")
    (int_main (returns 6 (OfConstant 7) ∷ []) ∷ Definition 10 (outcomes.Integer Int) 11 [] (Declares 16 Int (integer 17 ∷ []) ∷ call_of 19 ∷ returns 23 (OfConstant 24) ∷ []) ∷ [])

abbrev pub with_nothing_returned : UnitTree
with_nothing_returned = unit_in (codes "void f|(|void|)|{|} int main|(|void|)|{|return f|(|)|;|}")
    (Definition 0 outcomes.Nothing 1 [] [] ∷ Definition 7 (outcomes.Integer Int) 8 [] (Returns 13 (Some (OfCall (record { name = 14; arguments = [] }))) ∷ []) ∷ [])

abbrev pub with_an_inner_name : UnitTree
with_an_inner_name = unit_in (codes "int main|(|void|)|{|int a|; {|int a|; a|=|1|;|} return 0|;|}")
    (int_main (Declares 6 Int (integer 7 ∷ []) ∷ Block (statements_of (Declares 10 Int (integer 11 ∷ []) ∷ Does (Assigns (OfName 13) 14 (OfExpression (OfConstant 15))) ∷ [])) ∷ returns 18 (OfConstant 19) ∷ []) ∷ [])

abbrev pub with_a_parameter_twice : UnitTree
with_a_parameter_twice = unit_in (codes "int main|(|int a|)|{|int a|; return 0|;|}")
    (Definition 0 (outcomes.Integer Int) 1 (record { first = 3; kind = scalars.Integer Int; name = Some 4 } ∷ []) (Declares 7 Int (integer 8 ∷ []) ∷ returns 10 (OfConstant 11) ∷ []) ∷ [])

-- ---- labels and conditions

abbrev pub with_a_label_twice : UnitTree
with_a_label_twice = unit_in (codes "int main|(|void|)|{|switch|(|1|)|{|case 4294967295u|: case -|1|: return 0|;|}|}")
    (int_main (Switch (OfConstant 8) (statements_of (Case 11 (record { minus = false; token = 12 }) ∷ Case 14 (record { minus = true; token = 16 }) ∷ returns 18 (OfConstant 19) ∷ [])) ∷ []) ∷ [])

abbrev pub with_a_pointer_as_condition : UnitTree
with_a_pointer_as_condition = unit_in (codes "int main|(|void|)|{|int *|p|; if|(|1|&&|p|) return 1|; return 0|;|}")
    (int_main (Declares 6 Int (record { name = 8; shape = LocalPointer None } ∷ []) ∷ If (WithBinary Both 13 (OfConstant 12) (OfName 14)) (returns 16 (OfConstant 17)) ∷ returns 19 (OfConstant 20) ∷ []) ∷ [])

-- ---- names

abbrev three_names : List Word
three_names = words_from 0 0 [] (codes "a b a")

abbrev of_type : ℕ → Integer → Entry
of_type token i = record { token = token; bound = Variable (scalars.Integer i) }

-- what the third word finds, where the first and the second stand in the inner and the outer scope
abbrev pub found_in : List Entry → List Entry → Option Entry
found_in inner outer = look_up three_names (inner ∷ outer ∷ []) 2

abbrev pub entry_a : Integer → Entry
entry_a i = of_type 0 i

abbrev pub entry_b : Integer → Entry
entry_b i = of_type 1 i
