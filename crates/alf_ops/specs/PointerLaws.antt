-- Laws of operators at values of a run.
--   TableDecides       where no operand is a pointer, the table decides, and a division by 0 is divide
--   Unequal            pointers to different frames are unequal
--   Unordered          they are neither ordered nor subtracted
--   AsOffsets          pointers to one frame are compared and subtracted as their offsets are
--   Moves              a pointer and a word are added, and a word is taken from a pointer, in the pointer's frame
--   Chosen             a choice gives one of its values, where one of them is a pointer
--   takes_pointers     the list of where pointers may stand
--   KindElsewhere      a pointer anywhere else is the fault kind, of every operator
--   DividedPointer     a pointer is not divided, not even by 0
--   OutcomeFits        an outcome has the size of the operator's result
--   FirstFaultCounts   operands fault before their operator, the leftmost first
use Rattle.std.specs.Prelude.{◌≡◌, ◌≢◌, ℕ, Bool, true, false, not, ◌&&◌, ◌||◌, List, [], ◌∷◌, ◌++◌, map, Result, Ok, Err}
use Rattle.alf_ops.specs.declared.operator.Op.{Op}
use Rattle.alf_ops.specs.declared.operator.Op.TheVariants.{Add, Sub, Eq, Neq, ULt, ULe, UGt, UGe, If}
use Rattle.alf_ops.specs.declared.history.Value.{Value}
use Rattle.alf_ops.specs.declared.history.Value.TheVariants.{Int, Ptr}
use Rattle.alf_ops.specs.declared.history.RunFault.{RunFault}
use Rattle.alf_ops.specs.declared.history.RunFault.TheVariants.{Divide, Kind, Pointers}
use Rattle.alf_ops.specs.Table.{size_of_result, operand_sizes}
use Rattle.alf_ops.specs.Words.{value, divides}
use Rattle.alf_ops.specs.Values.{is_pointer, bits_of, FitsValue, EachValueFits}
use Rattle.alf_ops.specs.Pointers.{operand_at, outcome, operands}

-- one of the first three operands is a pointer
abbrev pub has_pointer : List Value → Bool
has_pointer values = is_pointer (operand_at values 0) || is_pointer (operand_at values 1) || is_pointer (operand_at values 2)

-- the words of the operands
abbrev pub words_of : List Value → List ℕ
words_of values = bits_of (operand_at values 0) ∷ bits_of (operand_at values 1) ∷ bits_of (operand_at values 2) ∷ []

-- where no operand is a pointer, the table decides, and a division by 0 is divide
abbrev pub TableDecides : Type 0
TableDecides = (op : Op) (sizes : List ℕ) (values : List Value)
    → has_pointer values ≡ false
    → (divides op ≡ true → bits_of (operand_at values 1) ≡ 0 → outcome op sizes values ≡ Err Divide)
    × (divides op ≡ false → outcome op sizes values ≡ Ok (Int (size_of_result op sizes) (value op sizes (words_of values))))
    × (bits_of (operand_at values 1) ≢ 0 → outcome op sizes values ≡ Ok (Int (size_of_result op sizes) (value op sizes (words_of values))))

-- ---- two pointers

-- the operator has this outcome at each two pointers to different frames
abbrev pub AtDifferentFrames : Op → Result Value RunFault → Type 0
AtDifferentFrames op result = (sizes : List ℕ) (frame offset other place : ℕ)
    → frame ≢ other
    → outcome op sizes (Ptr frame offset ∷ Ptr other place ∷ []) ≡ result

-- pointers to different frames are unequal
abbrev pub Unequal : Type 0
Unequal = AtDifferentFrames Eq (Ok (Int 1 0)) × AtDifferentFrames Neq (Ok (Int 1 1))

-- pointers to different frames are neither ordered nor subtracted
abbrev pub Unordered : Type 0
Unordered = AtDifferentFrames ULt (Err Pointers) × AtDifferentFrames ULe (Err Pointers)
    × AtDifferentFrames UGt (Err Pointers) × AtDifferentFrames UGe (Err Pointers)
    × AtDifferentFrames Sub (Err Pointers)

-- the operator's outcome at each two pointers to one frame is that at their offsets
abbrev pub AtOneFrame : Op → Type 0
AtOneFrame op = (sizes : List ℕ) (frame offset place size carry : ℕ)
    → outcome op sizes (Ptr frame offset ∷ Ptr frame place ∷ Int size carry ∷ []) ≡ outcome op sizes (Int 32 offset ∷ Int 32 place ∷ Int size carry ∷ [])

-- pointers to one frame are compared and subtracted as their offsets are
abbrev pub AsOffsets : Type 0
AsOffsets = AtOneFrame Eq × AtOneFrame Neq × AtOneFrame ULt × AtOneFrame ULe × AtOneFrame UGt × AtOneFrame UGe × AtOneFrame Sub

-- ---- a pointer and a word

-- a pointer and a word are added, and a word is taken from a pointer: a pointer to the same frame, at the word of the
-- offset and the word
abbrev pub Moves : Type 0
Moves = (sizes : List ℕ) (frame offset size word bit carry : ℕ)
    → (outcome Add sizes (Ptr frame offset ∷ Int size word ∷ Int bit carry ∷ []) ≡ Ok (Ptr frame (value Add sizes (offset ∷ word ∷ carry ∷ []))))
    × (outcome Add sizes (Int size word ∷ Ptr frame offset ∷ Int bit carry ∷ []) ≡ Ok (Ptr frame (value Add sizes (word ∷ offset ∷ carry ∷ []))))
    × (outcome Sub sizes (Ptr frame offset ∷ Int size word ∷ Int bit carry ∷ []) ≡ Ok (Ptr frame (value Sub sizes (offset ∷ word ∷ carry ∷ []))))

-- ---- choices

-- a choice gives the first value where its bit is 1, and the second where it is 0
abbrev pub Chosen : Type 0
Chosen = (sizes : List ℕ) (size : ℕ) (first second : Value)
    → (is_pointer first || is_pointer second) ≡ true
    → (outcome If sizes (Int size 1 ∷ first ∷ second ∷ []) ≡ Ok first)
    × (outcome If sizes (Int size 0 ∷ first ∷ second ∷ []) ≡ Ok second)

-- ---- pointers elsewhere

-- where pointers may stand, by which of the three operands are pointers: one of two that are added; the first of two
-- that are subtracted, or both; both of two that are compared; the values of a choice
abbrev pub takes_pointers : Op → Bool → Bool → Bool → Bool
takes_pointers Add a b c = ((a && not b) || (not a && b)) && not c
takes_pointers Sub a b c = a && not c
takes_pointers Eq a b c = a && b
takes_pointers Neq a b c = a && b
takes_pointers ULt a b c = a && b
takes_pointers ULe a b c = a && b
takes_pointers UGt a b c = a && b
takes_pointers UGe a b c = a && b
takes_pointers If a b c = not a
takes_pointers _ a b c = false

-- a pointer anywhere else is the fault kind
abbrev pub KindElsewhere : Type 0
KindElsewhere = (op : Op) (sizes : List ℕ) (values : List Value)
    → has_pointer values ≡ true
    → takes_pointers op (is_pointer (operand_at values 0)) (is_pointer (operand_at values 1)) (is_pointer (operand_at values 2)) ≡ false
    → outcome op sizes values ≡ Err Kind

-- a pointer is not divided, not even by 0
abbrev pub DividedPointer : Type 0
DividedPointer = (op : Op) (sizes : List ℕ) (frame offset : ℕ) (divisor : Value)
    → divides op ≡ true
    → outcome op sizes (Ptr frame offset ∷ divisor ∷ []) ≡ Err Kind

-- ---- sizes, and order

-- an outcome has the size of the operator's result, and is in range
abbrev pub OutcomeFits : Type 0
OutcomeFits = (op : Op) (sizes : List ℕ) (values : List Value) (result : Value)
    → EachValueFits (operand_sizes op sizes) values
    → outcome op sizes values ≡ Ok result
    → FitsValue (size_of_result op sizes) result

-- operands fault before their operator, the leftmost first
abbrev pub FirstFaultCounts : Type 0
FirstFaultCounts = (values : List Value) (fault : RunFault) (results : List (Result Value RunFault))
    → operands (map Ok values ++ Err fault ∷ results) ≡ Err fault
