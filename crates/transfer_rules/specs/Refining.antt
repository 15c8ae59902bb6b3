-- What the arm of a switch that is taken tells of memory.
--   Place                     a cell that a load reads, the load's size, and whether the word is extended
--   place_of rows m e         the place that an expression is, if it is one
--   relation_of op            the relation of a comparison operator
--   opposite rel, swapped rel   where rel does not hold, and with its sides changed
--   comparison_of e           the relation of a comparison and its sides
--   pinned_to m place words   the memory with the place pinned to these words
--   refined rows m e arm      the memory of an arm with these words of the switch's expression; none where
--       the arm is absent
use Rattle.std.specs.Prelude.{ℕ, Bool, true, false, List, [], ◌∷◌, Option, Some, None, ◌==◌, if◌then◌else◌}
use Rattle.std.specs.Option.{option_map, option_and_then}
use Rattle.std.specs.Result.{result_ok}
use Rattle.alf_ops.specs.declared.operator.Op.{Op}
use Rattle.alf_ops.specs.declared.operator.Op.TheVariants as ops
use Rattle.alf_ops.specs.declared.history.Value.TheVariants.{Ptr}
use Rattle.alf_ops.specs.declared.history.FrameShape.{FrameShape}
use Rattle.alf_program.specs.Tree.{NumberedExpression, NumberedExpressions, Number, Address, Load, Apply, Empty, With}
use Rattle.domain_core.specs.declared.relation.Rel.{Rel}
use Rattle.domain_core.specs.declared.relation.Rel.TheVariants.{Eq, Neq, ULt, ULe, UGt, UGe, SLt, SLe, SGt, SGe}
use Rattle.strided_rules.specs.Strides.{Stride}
use Rattle.strided_rules.specs.Members.{is_one, word_of, assumed}
use Rattle.strided_rules.specs.Domains.{operand_of, applied}
use Rattle.pointer_rules.specs.AbstractValues.{AbstractValue, Words, alone}
use Rattle.memory_rules.specs.Memories.{Mem, pinned_at}
use Rattle.memory_rules.specs.Addresses.{tested}
use Rattle.memory_rules.specs.AbstractSets.{abstract_sets, has_pointer}
use Rattle.transfer_rules.specs.Evaluating.{loaded, value_at}

-- ---- places

-- a cell that a load reads, the load's size, and whether the word is extended
pub record Place : Type 0 where
  pub cell : ℕ × ℕ
  pub size : ℕ
  pub extended : Bool

-- the one cell of an address: it has one alternative, which is a pointer with one member, and the cell fits
-- its active frame
abbrev pub cell_of : List FrameShape → (ℕ → Bool) → ℕ → Option Stride → List (ℕ × Stride) → Option (ℕ × ℕ)
cell_of rows runs size (Some words) places = None
cell_of rows runs size None [] = None
cell_of rows runs size None (place ∷ []) = if is_one place.1 then result_ok (tested rows runs (Ptr place.0 (word_of place.1)) size) else None
cell_of rows runs size None (place ∷ other ∷ places) = None

-- the words of a value without a pointer
abbrev pub words_alone : Option AbstractValue → Option Stride
words_alone None = None
words_alone (Some v) = if has_pointer v then None else v.words

abbrev pub cell_where : Option Stride → Option (ℕ × ℕ) → Option (ℕ × ℕ)
cell_where None cell = None
cell_where (Some words) cell = cell

-- the cell of a load whose value has no pointer
abbrev pub loaded_cell : List FrameShape → Mem abstract_sets → ℕ → Option AbstractValue → Option (ℕ × ℕ)
loaded_cell rows m size None = None
loaded_cell rows m size (Some at) = cell_where (words_alone (loaded rows m size at).left) (cell_of rows m.runs size at.words at.places)

-- the place of a load
abbrev pub load_place : List FrameShape → Mem abstract_sets → Bool → ℕ → NumberedExpression → Option Place
load_place rows m extended size at = option_map (λ cell. record { cell = cell; size = size; extended = extended }) (loaded_cell rows m size (value_at rows m at).left)

-- the operator extends a word
abbrev pub is_extension : Op → Bool
is_extension ops.SExt = true
is_extension ops.ZExt = true
is_extension _ = false

-- the place of a load, and of one operand that is a load
abbrev pub place_in : List FrameShape → Mem abstract_sets → Bool → NumberedExpression → Option Place
place_in rows m extended (Number num) = None
place_in rows m extended (Address frame offset) = None
place_in rows m extended (Load size at) = load_place rows m extended size at
place_in rows m extended (Apply op sizes es) = None

abbrev pub operand_place : List FrameShape → Mem abstract_sets → NumberedExpressions → Option Place
operand_place rows m Empty = None
operand_place rows m (With e Empty) = place_in rows m true e
operand_place rows m (With e (With other es)) = None

-- the place that an expression is: a load, or an extended load
abbrev pub place_of : List FrameShape → Mem abstract_sets → NumberedExpression → Option Place
place_of rows m (Number num) = None
place_of rows m (Address frame offset) = None
place_of rows m (Load size at) = load_place rows m false size at
place_of rows m (Apply op sizes es) = if is_extension op then operand_place rows m es else None

-- ---- comparisons

-- the relation of a comparison operator
abbrev pub relation_of : Op → Option Rel
relation_of ops.Eq = Some Eq
relation_of ops.Neq = Some Neq
relation_of ops.ULt = Some ULt
relation_of ops.ULe = Some ULe
relation_of ops.UGt = Some UGt
relation_of ops.UGe = Some UGe
relation_of ops.SLt = Some SLt
relation_of ops.SLe = Some SLe
relation_of ops.SGt = Some SGt
relation_of ops.SGe = Some SGe
relation_of _ = None

-- the relation that holds where this one does not
abbrev pub opposite : Rel → Rel
opposite Eq = Neq
opposite Neq = Eq
opposite ULt = UGe
opposite ULe = UGt
opposite UGt = ULe
opposite UGe = ULt
opposite SLt = SGe
opposite SLe = SGt
opposite SGt = SLe
opposite SGe = SLt

-- the relation with its sides changed
abbrev pub swapped : Rel → Rel
swapped Eq = Eq
swapped Neq = Neq
swapped ULt = UGt
swapped ULe = UGe
swapped UGt = ULt
swapped UGe = ULe
swapped SLt = SGt
swapped SLe = SGe
swapped SGt = SLt
swapped SGe = SLe

-- a comparison: its relation and its sides
pub record Comparison : Type 0 where
  pub rel : Rel
  pub first : NumberedExpression
  pub second : NumberedExpression

abbrev pub sides_of : Rel → NumberedExpressions → Option Comparison
sides_of rel Empty = None
sides_of rel (With x Empty) = None
sides_of rel (With x (With y Empty)) = Some (record { rel = rel; first = x; second = y })
sides_of rel (With x (With y (With z es))) = None

abbrev pub comparison_of : NumberedExpression → Option Comparison
comparison_of (Number num) = None
comparison_of (Address frame offset) = None
comparison_of (Load size at) = None
comparison_of (Apply op sizes es) = option_and_then (λ rel. sides_of rel es) (relation_of op)

-- ---- pins

-- these words cut to the load's size
abbrev pub cut : ℕ → Stride → Stride
cut size words = operand_of (applied ops.Trunc (words.size ∷ size ∷ []) (words ∷ [])).value

abbrev pub for_cell : Place → Stride → Stride
for_cell place words = if place.extended then cut place.size words else words

-- the memory with the place pinned to these words
abbrev pub pinned_to : Mem abstract_sets → Place → Stride → Mem abstract_sets
pinned_to m place words = pinned_at abstract_sets m place.cell place.size (alone (Words (for_cell place words)))

-- a side that is a place is pinned to what is left of it; where nothing is left, the arm is absent
abbrev pub pinned_side : Option Place → Option Stride → Mem abstract_sets → Option (Mem abstract_sets)
pinned_side None words m = Some m
pinned_side (Some place) None m = None
pinned_side (Some place) (Some words) m = Some (pinned_to m place words)

-- both sides, where neither has a pointer: the second is held against the first as it was before
abbrev pub pinned_sides : Rel → Option Place → Option Stride → Option Place → Option Stride → Mem abstract_sets
    → Option (Mem abstract_sets)
pinned_sides rel first (Some x) second (Some y) m = option_and_then (pinned_side second (assumed (swapped rel) y x)) (pinned_side first (assumed rel x y) m)
pinned_sides rel first (Some x) second None m = Some m
pinned_sides rel first None second y m = Some m

-- what holds where the comparison gives this bit
abbrev pub rel_at : Rel → ℕ → Rel
rel_at rel bit = if bit == 0 then opposite rel else rel

abbrev pub compared : List FrameShape → Mem abstract_sets → Comparison → Stride → Option (Mem abstract_sets)
compared rows m c arm =
    if is_one arm
    then pinned_sides (rel_at c.rel (word_of arm)) (place_of rows m c.first) (words_alone (value_at rows m c.first).left)
    (place_of rows m c.second) (words_alone (value_at rows m c.second).left) m
    else Some m

abbrev pub if_compared : List FrameShape → Mem abstract_sets → Option Comparison → Stride → Option (Mem abstract_sets)
if_compared rows m None arm = Some m
if_compared rows m (Some c) arm = compared rows m c arm

abbrev pub by_form : List FrameShape → Mem abstract_sets → Option Place → Option Comparison → Stride
    → Option (Mem abstract_sets)
by_form rows m (Some place) c arm = Some (pinned_to m place arm)
by_form rows m None c arm = if_compared rows m c arm

-- the memory of an arm with these words of the switch's expression
abbrev pub refined : List FrameShape → Mem abstract_sets → NumberedExpression → Stride → Option (Mem abstract_sets)
refined rows m e arm = by_form rows m (place_of rows m e) (comparison_of e) arm
