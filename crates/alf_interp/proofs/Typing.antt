-- What follows for parts of what keeps the rules of the checks.
--   first_typed, others_typed   expressions in a row that have sizes: the first does, and so do the others
--   few_terms                   an operator has one to three operands
--   two_members, three_members  lists of two and of three
--   fit_two, fit_three          the values of so many operands fit
--   results_three               what three operands give
use Rattle.std.proofs.Common.{◌≡◌, ◌≤◌, ◌<◌, ℕ, List, [], ◌∷◌, length, map, get_or, Result, Ok, refl, sym, ap, ◌∙◌, subst, arith}
use Rattle.std.proofs.lemmas.List.{length-map}
use Rattle.alf_ops.specs.declared.history.Value.{Value}
use Rattle.alf_ops.specs.declared.history.RunFault.{RunFault}
use Rattle.alf_ops.specs.declared.history.FrameShape.{FrameShape}
use Rattle.alf_ops.specs.declared.history.RunEvent.{RunEvent}
use Rattle.alf_ops.specs.declared.operator.Op.{Op}
use Rattle.alf_ops.specs.declared.layout.Layout.{Layout}
use Rattle.alf_ops.specs.declared.layout.Layout.TheVariants.{Unary, Sum, Carry, Joined, First, Second, Binary, Comparison, Extension, Truncation, Field, Choice}
use Rattle.alf_ops.specs.Table.{layout_of, operand_sizes}
use Rattle.alf_ops.specs.Layouts.{operands_by_layout}
use Rattle.alf_ops.specs.Values.{EachValueFits}
use Rattle.alf_ops.specs.Histories.{IsSoundHistory}
use Rattle.alf_ops.specs.Pointers.{operands}
use Rattle.alf_program.specs.Tree.{NumberedExpression, NumberedExpressions, Empty, With, expressions_of}
use Rattle.alf_check.specs.declared.rows.FrameRow.{FrameRow}
use Rattle.alf_check.specs.declared.rows.Term.{Term}
use Rattle.alf_check.specs.CheckedPrograms.{term_of}
use Rattle.alf_check.specs.Kept.{HaveSizes}
use Rattle.alf_runs.specs.Expressions.{value_of, results_of}
use Rattle.alf_runs.specs.SizeLaws.{OperandsHaveSizes}
use Rattle.alf_interp.specs.Typed.{IsTyped, AreTyped}

-- the first of expressions in a row
pub first_typed : (sizes : List ℕ) (e : NumberedExpression) (es : NumberedExpressions) → AreTyped sizes (With e es)
    → IsTyped e
first_typed [] e es h = absurd h.have
first_typed (size ∷ sizes) e es h = record { rows = h.rows; function = h.function; size = size; has = h.have.0 }

-- the others
pub second_typed : (sizes : List ℕ) (a b : NumberedExpression) (es : NumberedExpressions)
    → AreTyped sizes (With a (With b es)) → IsTyped b
second_typed [] a b es h = absurd h.have
second_typed (size ∷ sizes) a b es h = first_typed sizes b es (record { rows = h.rows; function = h.function; have = h.have.1 })

pub third_typed : (sizes : List ℕ) (a b c : NumberedExpression) (es : NumberedExpressions)
    → AreTyped sizes (With a (With b (With c es))) → IsTyped c
third_typed [] a b c es h = absurd h.have
third_typed (size ∷ sizes) a b c es h = second_typed sizes b c es (record { rows = h.rows; function = h.function; have = h.have.1 })

-- as many expressions as sizes
as_many : (rows : List FrameRow) (function : ℕ) (sizes : List ℕ) (es : List NumberedExpression)
    → HaveSizes rows function sizes (expressions_of es) → length es ≡ length sizes
as_many rows function [] [] h = refl
as_many rows function [] (e ∷ es) h = absurd h
as_many rows function (size ∷ sizes) [] h = absurd h
as_many rows function (size ∷ sizes) (e ∷ es) h = let more = as_many rows function sizes es h.1 in omega arith

-- one to three
pub record IsFew (n : ℕ) : Type 0 where
  pub some : 1 ≤ n
  pub few : n ≤ 3

few_sizes : (layout : Layout) (m n h : ℕ) → IsFew (length (operands_by_layout layout m n h))
few_sizes Unary m n h = record { some = omega arith; few = omega arith }
few_sizes Sum m n h = record { some = omega arith; few = omega arith }
few_sizes Carry m n h = record { some = omega arith; few = omega arith }
few_sizes Joined m n h = record { some = omega arith; few = omega arith }
few_sizes First m n h = record { some = omega arith; few = omega arith }
few_sizes Second m n h = record { some = omega arith; few = omega arith }
few_sizes Binary m n h = record { some = omega arith; few = omega arith }
few_sizes Comparison m n h = record { some = omega arith; few = omega arith }
few_sizes Extension m n h = record { some = omega arith; few = omega arith }
few_sizes Truncation m n h = record { some = omega arith; few = omega arith }
few_sizes Field m n h = record { some = omega arith; few = omega arith }
few_sizes Choice m n h = record { some = omega arith; few = omega arith }

-- an operator has one to three operands
pub few_terms : (op : Op) (sizes : List ℕ) (terms : List Term)
    → AreTyped (operand_sizes op sizes) (expressions_of (map term_of terms)) → IsFew (length terms)
few_terms op sizes terms typed =
    let many = as_many typed.rows typed.function (operand_sizes op sizes) (map term_of terms) typed.have in
    let long = length-map terms term_of in
    subst IsFew (sym many ∙ long) (few_sizes (layout_of op) _ _ _)

-- ---- two and three

pub two_members : {A : Type 0} (xs : List A) (a b : A) → 2 ≤ length xs → length xs < 3 → a ≡ get_or xs 0 a
    → b ≡ get_or xs 1 b → xs ≡ a ∷ b ∷ []
two_members [] a b some few e f = absurd (omega arith)
two_members (x ∷ []) a b some few e f = absurd (omega arith)
two_members (x ∷ y ∷ []) a b some few e f = cc
two_members (x ∷ y ∷ z ∷ xs) a b some few e f = absurd (omega arith)

pub three_members : {A : Type 0} (xs : List A) (a b c : A) → 3 ≤ length xs → length xs < 4 → a ≡ get_or xs 0 a
    → b ≡ get_or xs 1 b → c ≡ get_or xs 2 c → xs ≡ a ∷ b ∷ c ∷ []
three_members [] a b c some few e f g = absurd (omega arith)
three_members (x ∷ []) a b c some few e f g = absurd (omega arith)
three_members (x ∷ y ∷ []) a b c some few e f g = absurd (omega arith)
three_members (x ∷ y ∷ z ∷ []) a b c some few e f g = cc
three_members (x ∷ y ∷ z ∷ w ∷ xs) a b c some few e f g = absurd (omega arith)

module _ (frames : List FrameShape) (history : List RunEvent) where
  -- the values of two operands fit
  pub fit_two : OperandsHaveSizes → (sizes : List ℕ) (a b : NumberedExpression) → AreTyped sizes (With a (With b Empty))
      → IsSoundHistory history → (x y : Result Value RunFault)
      → x ≡ value_of frames history a → y ≡ value_of frames history b → (values : List Value) → operands (x ∷ y ∷ []) ≡ Ok values → EachValueFits sizes values
  fit_two laws sizes a b typed sound x y e f values are =
      laws typed.rows typed.function sizes (With a (With b Empty)) frames history values typed.have sound
      (ap operands (ap (λ (r : Result Value RunFault). r ∷ value_of frames history b ∷ []) (sym e) ∙ ap (λ (r : Result Value RunFault). x ∷ r ∷ []) (sym f)) ∙ are)

  -- what three operands give
  pub results_three : (a b c : NumberedExpression) (x y z : Result Value RunFault) → x ≡ value_of frames history a
      → y ≡ value_of frames history b → z ≡ value_of frames history c
      → x ∷ y ∷ z ∷ [] ≡ results_of frames history (With a (With b (With c Empty)))
  results_three a b c x y z e f g =
      ap (λ (r : Result Value RunFault). r ∷ y ∷ z ∷ []) e ∙ ap (λ (r : Result Value RunFault). value_of frames history a ∷ r ∷ z ∷ []) f
      ∙ ap (λ (r : Result Value RunFault). value_of frames history a ∷ value_of frames history b ∷ r ∷ []) g

  -- and their values fit
  pub fit_three : OperandsHaveSizes → (sizes : List ℕ) (a b c : NumberedExpression)
      → AreTyped sizes (With a (With b (With c Empty))) → IsSoundHistory history → (x y z : Result Value RunFault)
      → x ≡ value_of frames history a → y ≡ value_of frames history b → z ≡ value_of frames history c → (values : List Value) → operands (x ∷ y ∷ z ∷ []) ≡ Ok values → EachValueFits sizes values
  fit_three laws sizes a b c typed sound x y z e f g values are =
      laws typed.rows typed.function sizes (With a (With b (With c Empty))) frames history values typed.have sound (ap operands (sym (results_three a b c x y z e f g)) ∙ are)
