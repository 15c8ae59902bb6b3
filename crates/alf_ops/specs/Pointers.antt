-- What an operator gives at values of a run: at words, and at pointers where a rule takes them.
--   applied op sizes a b c       the operator's word at the words and offsets
--   at_words op sizes a b c      the outcome where no operand is a pointer
--   add_rule, subtract_rule, equality_rule, order_rule, choice_rule   the rules that take pointers
--   by_rule op sizes a b c       the outcome where an operand is a pointer: without a rule it is the fault kind
--   outcome op sizes values      the value or the fault of the operator at the values of its operands
--   operands results             the values of the operands, or the first fault from left to right
use Rattle.std.specs.Prelude.{ℕ, List, [], ◌∷◌, Result, Ok, Err, ◌==◌, ◌&&◌, ◌||◌, if◌then◌else◌, slice_index_or}
use Rattle.alf_ops.specs.declared.operator.Op.{Op}
use Rattle.alf_ops.specs.declared.operator.Op.TheVariants.{Add, Sub, Eq, Neq, ULt, ULe, UGt, UGe, If}
use Rattle.alf_ops.specs.declared.history.Value.{Value}
use Rattle.alf_ops.specs.declared.history.Value.TheVariants.{Int, Ptr}
use Rattle.alf_ops.specs.declared.history.RunFault.{RunFault}
use Rattle.alf_ops.specs.declared.history.RunFault.TheVariants.{Divide, Kind, Pointers}
use Rattle.alf_ops.specs.Table.{size_of_result}
use Rattle.alf_ops.specs.Values.{bits_of, is_pointer}
use Rattle.alf_ops.specs.Words.{value, divides}

-- the operator's word at the words and offsets
abbrev pub applied : Op → List ℕ → Value → Value → Value → ℕ
applied op sizes a b c = value op sizes (bits_of a ∷ bits_of b ∷ bits_of c ∷ [])

-- the outcome where no operand is a pointer
abbrev pub at_words : Op → List ℕ → Value → Value → Value → Result Value RunFault
at_words op sizes a b c =
    if divides op && (bits_of b == 0)
    then Err Divide
    else Ok (Int (size_of_result op sizes) (applied op sizes a b c))

-- a pointer and a word, in either order, give a pointer to the same frame
abbrev pub add_rule : ℕ → Value → Value → Result Value RunFault
add_rule sum (Ptr frame offset) (Int size word) = Ok (Ptr frame sum)
add_rule sum (Int size word) (Ptr frame offset) = Ok (Ptr frame sum)
add_rule sum (Ptr frame offset) (Ptr other place) = Err Kind
add_rule sum (Int size word) (Int other_size other) = Err Kind

-- a pointer less a word is a pointer to the same frame, and two pointers to one frame give the word between them
abbrev pub subtract_rule : ℕ → ℕ → Value → Value → Result Value RunFault
subtract_rule size difference (Ptr frame offset) (Int word_size word) = Ok (Ptr frame difference)
subtract_rule size difference (Ptr frame offset) (Ptr other place) = if frame == other then Ok (Int size difference) else Err Pointers
subtract_rule size difference (Int word_size word) b = Err Kind

-- two pointers to one frame compare offsets, and to different frames they are unequal
abbrev pub equality_rule : ℕ → ℕ → Value → Value → Result Value RunFault
equality_rule unequal test (Ptr frame offset) (Ptr other place) = Ok (Int 1 (if frame == other then test else unequal))
equality_rule unequal test (Ptr frame offset) (Int size word) = Err Kind
equality_rule unequal test (Int size word) b = Err Kind

-- two pointers to one frame compare offsets
abbrev pub order_rule : ℕ → Value → Value → Result Value RunFault
order_rule test (Ptr frame offset) (Ptr other place) = if frame == other then Ok (Int 1 test) else Err Pointers
order_rule test (Ptr frame offset) (Int size word) = Err Kind
order_rule test (Int size word) b = Err Kind

-- either value may be a pointer, the bit may not
abbrev pub choice_rule : Value → Value → Value → Result Value RunFault
choice_rule (Int size word) a b = Ok (if word == 1 then a else b)
choice_rule (Ptr frame offset) a b = Err Kind

-- the outcome where an operand is a pointer
abbrev pub by_rule : Op → List ℕ → Value → Value → Value → Result Value RunFault
by_rule Add sizes a b c = if is_pointer c then Err Kind else add_rule (applied Add sizes a b c) a b
by_rule Sub sizes a b c = if is_pointer c then Err Kind else subtract_rule (size_of_result Sub sizes) (applied Sub sizes a b c) a b
by_rule Eq sizes a b c = equality_rule 0 (applied Eq sizes a b c) a b
by_rule Neq sizes a b c = equality_rule 1 (applied Neq sizes a b c) a b
by_rule ULt sizes a b c = order_rule (applied ULt sizes a b c) a b
by_rule ULe sizes a b c = order_rule (applied ULe sizes a b c) a b
by_rule UGt sizes a b c = order_rule (applied UGt sizes a b c) a b
by_rule UGe sizes a b c = order_rule (applied UGe sizes a b c) a b
by_rule If sizes a b c = choice_rule a b c
by_rule _ sizes a b c = Err Kind

-- the outcome at three operands
abbrev pub outcome_at : Op → List ℕ → Value → Value → Value → Result Value RunFault
outcome_at op sizes a b c = if is_pointer a || is_pointer b || is_pointer c then by_rule op sizes a b c else at_words op sizes a b c

-- the operand at this place, or a word where there is none
abbrev pub operand_at : List Value → ℕ → Value
operand_at values place = slice_index_or values place (Int 0 0)

-- the value or the fault of the operator at the values of its operands
abbrev pub outcome : Op → List ℕ → List Value → Result Value RunFault
outcome op sizes values = outcome_at op sizes (operand_at values 0) (operand_at values 1) (operand_at values 2)

-- a value before those of the rest
abbrev pub before : Value → Result (List Value) RunFault → Result (List Value) RunFault
before value (Ok values) = Ok (value ∷ values)
before value (Err fault) = Err fault

-- the values of the operands, or the first fault from left to right
abbrev pub operands : List (Result Value RunFault) → Result (List Value) RunFault
operands [] = Ok []
operands (Ok value ∷ results) = before value (operands results)
operands (Err fault ∷ results) = Err fault

-- the outcome of an operator whose operands are evaluated from left to right
abbrev pub outcome_of_operands : Op → List ℕ → Result (List Value) RunFault → Result Value RunFault
outcome_of_operands op sizes (Ok values) = outcome op sizes values
outcome_of_operands op sizes (Err fault) = Err fault
