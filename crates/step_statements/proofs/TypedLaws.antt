-- Parts of expressions that keep the rules of the checks.
--   first_typed, second_typed, third_typed   operands in a row
--   few_terms                   an operator has one to three operands
--   one_member, two_members, three_members   lists of so many
--   value_found                 a value that is found has its size
--   load_sized                  the address of a load is a pointer's
--   apply_typed, operands_typed an operator has a result, and its operands have sizes
--   operands_sized              the operands' values have their sizes
--   one_sized, two_sized, three_sized   and so has each of so many
--   one_found, two_found, three_found   what so many operands give
--   later_typed         the first of arguments, and those that are left, have sizes
use Rattle.std.specs.Prelude.{IfSome, IsSome}
use Rattle.std.specs.List.{AllZip, AllByRecursion}
use Rattle.std.proofs.Common.{◌≡◌, ◌≤◌, ◌<◌, ℕ, List, [], ◌∷◌, length, map, get_or, Option, Some, None, refl, sym, ap, ◌∙◌, subst, arith}
use Rattle.std.proofs.lemmas.List.{length-map}
use Rattle.alf_ops.specs.declared.operator.Op.{Op}
use Rattle.alf_ops.specs.declared.layout.Layout.{Layout}
use Rattle.alf_ops.specs.declared.layout.Layout.TheVariants.{Unary, Sum, Carry, Joined, First, Second, Binary, Comparison, Extension, Truncation, Field, Choice}
use Rattle.alf_ops.specs.Table.{layout_of, operand_sizes, result_size}
use Rattle.alf_ops.specs.Layouts.{operands_by_layout}
use Rattle.alf_program.specs.Tree.{NumberedExpression, NumberedExpressions, Load, Apply, With, expressions_of}
use Rattle.alf_check.specs.declared.rows.FrameRow.{FrameRow}
use Rattle.alf_check.specs.declared.rows.Term.{Term}
use Rattle.alf_check.specs.CheckedPrograms.{term_of}
use Rattle.alf_check.specs.Kept.{HasSize as HasWritten, HaveSizes}
use Rattle.domain_core.specs.declared.fault_set.FaultSet.{FaultSet}
use Rattle.pointer_rules.specs.AbstractValues.{AbstractValue, HasSize}
use Rattle.pointer_rules.specs.Covering.{IsValue}
use Rattle.memory_model.specs.KeptMemories.{MemoryParts, memory_in, rows_of, IsMemory}
use Rattle.transfer_rules.specs.Remains.{Remains}
use Rattle.transfer_rules.specs.Evaluating.{value_at, values_at}
use Rattle.transfer_rules.specs.RemainsLaws.{IfLeft}
use Rattle.transfer_rules.specs.EvaluatingLaws.{value_sized, values_sized}
use Rattle.step_statements.specs.Typed.{IsTyped, AreTyped}
use Rattle.step_statements.specs.Found.{found, one_operand, two_operands, three_operands}

pub first_typed : (sizes : List ℕ) (e : NumberedExpression) (es : NumberedExpressions) → AreTyped sizes (With e es)
    → IsTyped e
first_typed [] e es h = absurd h.have
first_typed (size ∷ sizes) e es h = record { table = h.table; function = h.function; size = size; has = h.have.0 }

pub second_typed : (sizes : List ℕ) (a b : NumberedExpression) (es : NumberedExpressions)
    → AreTyped sizes (With a (With b es)) → IsTyped b
second_typed [] a b es h = absurd h.have
second_typed (size ∷ sizes) a b es h = first_typed sizes b es (record { table = h.table; function = h.function; have = h.have.1 })

pub third_typed : (sizes : List ℕ) (a b c : NumberedExpression) (es : NumberedExpressions)
    → AreTyped sizes (With a (With b (With c es))) → IsTyped c
third_typed [] a b c es h = absurd h.have
third_typed (size ∷ sizes) a b c es h = second_typed sizes b c es (record { table = h.table; function = h.function; have = h.have.1 })

as_many : (rows : List FrameRow) (function : ℕ) (sizes : List ℕ) (es : List NumberedExpression)
    → HaveSizes rows function sizes (expressions_of es) → length es ≡ length sizes
as_many rows function [] [] h = refl
as_many rows function [] (e ∷ es) h = absurd h
as_many rows function (size ∷ sizes) [] h = absurd h
as_many rows function (size ∷ sizes) (e ∷ es) h = let more = as_many rows function sizes es h.1 in omega arith

-- one to three
pub record IsFew (n : ℕ) : Type 0 where
  pub some : 1 ≤ n
  pub few : n ≤ 3

few_sizes : (layout : Layout) (m n h : ℕ) → IsFew (length (operands_by_layout layout m n h))
few_sizes Unary m n h = record { some = omega arith; few = omega arith }
few_sizes Sum m n h = record { some = omega arith; few = omega arith }
few_sizes Carry m n h = record { some = omega arith; few = omega arith }
few_sizes Joined m n h = record { some = omega arith; few = omega arith }
few_sizes First m n h = record { some = omega arith; few = omega arith }
few_sizes Second m n h = record { some = omega arith; few = omega arith }
few_sizes Binary m n h = record { some = omega arith; few = omega arith }
few_sizes Comparison m n h = record { some = omega arith; few = omega arith }
few_sizes Extension m n h = record { some = omega arith; few = omega arith }
few_sizes Truncation m n h = record { some = omega arith; few = omega arith }
few_sizes Field m n h = record { some = omega arith; few = omega arith }
few_sizes Choice m n h = record { some = omega arith; few = omega arith }

-- an operator has one to three operands
pub few_terms : (op : Op) (sizes : List ℕ) (terms : List Term)
    → AreTyped (operand_sizes op sizes) (expressions_of (map term_of terms)) → IsFew (length terms)
few_terms op sizes terms typed =
    let many = as_many typed.table typed.function (operand_sizes op sizes) (map term_of terms) typed.have in
    let long = length-map terms term_of in
    subst IsFew (sym many ∙ long) (few_sizes (layout_of op) _ _ _)

-- ---- lists of so many

pub one_member : {A : Type 0} (xs : List A) (a : A) → 1 ≤ length xs → length xs < 2 → a ≡ get_or xs 0 a → xs ≡ a ∷ []
one_member [] a some few e = absurd (omega arith)
one_member (x ∷ []) a some few e = cc
one_member (x ∷ y ∷ xs) a some few e = absurd (omega arith)

pub two_members : {A : Type 0} (xs : List A) (a b : A) → 2 ≤ length xs → length xs < 3 → a ≡ get_or xs 0 a
    → b ≡ get_or xs 1 b → xs ≡ a ∷ b ∷ []
two_members [] a b some few e f = absurd (omega arith)
two_members (x ∷ []) a b some few e f = absurd (omega arith)
two_members (x ∷ y ∷ []) a b some few e f = cc
two_members (x ∷ y ∷ z ∷ xs) a b some few e f = absurd (omega arith)

pub three_members : {A : Type 0} (xs : List A) (a b c : A) → 3 ≤ length xs → length xs < 4 → a ≡ get_or xs 0 a
    → b ≡ get_or xs 1 b → c ≡ get_or xs 2 c → xs ≡ a ∷ b ∷ c ∷ []
three_members [] a b c some few e f g = absurd (omega arith)
three_members (x ∷ []) a b c some few e f g = absurd (omega arith)
three_members (x ∷ y ∷ []) a b c some few e f g = absurd (omega arith)
three_members (x ∷ y ∷ z ∷ []) a b c some few e f g = cc
three_members (x ∷ y ∷ z ∷ w ∷ xs) a b c some few e f g = absurd (omega arith)

-- ---- sizes of what is found

-- a value that is found has its size
pub value_found : (parts : MemoryParts) (table : List FrameRow) (k size : ℕ) (e : NumberedExpression) (answer : Option AbstractValue × FaultSet) → IsMemory parts → HasWritten table k size e
    → found answer ≡ value_at (rows_of parts.checked) (memory_in parts) e → IfSome answer.0 (IsValue size)
value_found parts table k size e answer is has told =
    subst (λ (r : Remains AbstractValue). IfLeft (IsValue size) r) (sym told) (value_sized table (rows_of parts.checked) (memory_in parts) is.sized k e size has)

-- the address of a load is a pointer's
pub load_sized : (parts : MemoryParts) (e at : NumberedExpression) (bits : ℕ) (answer : Option AbstractValue × FaultSet)
    → IsMemory parts → IsTyped e → e ≡ Load bits at
    → found answer ≡ value_at (rows_of parts.checked) (memory_in parts) at → IfSome answer.0 (IsValue 32)
load_sized parts e at bits answer is typed same told =
    let has : HasWritten typed.table typed.function typed.size (Load bits at) = subst (HasWritten typed.table typed.function typed.size) same typed.has in
    value_found parts typed.table typed.function 32 at answer is has.address told

-- an operator has a result, and its operands have sizes
pub apply_typed : (e : NumberedExpression) (op : Op) (sizes : List ℕ) (es : NumberedExpressions) → IsTyped e
    → e ≡ Apply op sizes es
    → IsSome (result_size op sizes) × AreTyped (operand_sizes op sizes) es
apply_typed e op sizes es typed same =
    let has : HasWritten typed.table typed.function typed.size (Apply op sizes es) = subst (HasWritten typed.table typed.function typed.size) same typed.has in
    (subst (λ (o : Option ℕ). IsSome o) (sym has.result_is) refl, record { table = typed.table; function = typed.function; have = has.operands })

-- the same of its parts as code passes them on
pub operands_typed : {K : Type 0} (e : NumberedExpression) (op : Op) (sizes own : List ℕ) (terms passed : List Term)
    → IsTyped e → e ≡ Apply op sizes (expressions_of (map term_of terms))
    → own ≡ sizes → passed ≡ terms → K → IsSome (result_size op own) × (AreTyped (operand_sizes op own) (expressions_of (map term_of passed)) × K)
operands_typed e op sizes own terms passed typed same of_sizes of_terms kept =
    let parts = apply_typed e op sizes (expressions_of (map term_of terms)) typed same in (
      subst (λ (xs : List ℕ). IsSome (result_size op xs)) (sym of_sizes) parts.0,
      (
        subst (λ (xs : List ℕ). AreTyped (operand_sizes op xs) (expressions_of (map term_of passed))) (sym of_sizes)
            (subst (λ (ts : List Term). AreTyped (operand_sizes op sizes) (expressions_of (map term_of ts))) (sym of_terms) parts.1),
        kept,
      ),
    )

each_size : (sizes : List ℕ) (vs : List AbstractValue) → AllZip IsValue sizes vs
    → AllZip (λ size v. HasSize v size) sizes vs
each_size [] [] are = tt
each_size [] (v ∷ vs) are = absurd are
each_size (size ∷ sizes) [] are = absurd are
each_size (size ∷ sizes) (v ∷ vs) are = (are.0.sized, each_size sizes vs are.1)

are_sized : (sizes : List ℕ) (o : Option (List AbstractValue)) → IfSome o (AllZip IsValue sizes)
    → IfSome o (AllZip (λ size v. HasSize v size) sizes)
are_sized sizes None are = tt
are_sized sizes (Some vs) are = each_size sizes vs are

-- the operands' values have their sizes
pub operands_sized : (parts : MemoryParts) (sizes : List ℕ) (es : NumberedExpressions) (r : Remains (List AbstractValue)) → IsMemory parts → AreTyped sizes es
    → r ≡ values_at (rows_of parts.checked) (memory_in parts) es → IfLeft (AllZip (λ size v. HasSize v size) sizes) r
operands_sized parts sizes es r is typed same = are_sized sizes r.left (subst (λ (r : Remains (List AbstractValue)). IfLeft (AllZip IsValue sizes) r) (sym same)
    (values_sized typed.table (rows_of parts.checked) (memory_in parts) is.sized typed.function es sizes typed.have))

-- and so has each of one, two or three
module _ (P : List AbstractValue → Type 0) where
  pub one_sized : (x : Option AbstractValue × FaultSet) → IfLeft P (one_operand (found x))
      → IfSome x.0 (λ a. P (a ∷ []))
  one_sized (None, f) h = tt
  one_sized (Some a, f) h = h

  pub two_sized : (x y : Option AbstractValue × FaultSet) → IfLeft P (two_operands (found x) (found y))
      → IfSome x.0 (λ a. IfSome y.0 (λ b. P (a ∷ b ∷ [])))
  two_sized (None, f) y h = tt
  two_sized (Some a, f) (None, g) h = tt
  two_sized (Some a, f) (Some b, g) h = h

  pub three_sized : (x y z : Option AbstractValue × FaultSet) → IfLeft P (three_operands (found x) (found y) (found z))
      → IfSome x.0 (λ a. IfSome y.0 (λ b. IfSome z.0 (λ c. P (a ∷ b ∷ c ∷ []))))
  three_sized (None, f) y z h = tt
  three_sized (Some a, f) (None, g) z h = tt
  three_sized (Some a, f) (Some b, g) (None, k) h = tt
  three_sized (Some a, f) (Some b, g) (Some c, k) h = h

-- ---- what operands give

module _ (parts : MemoryParts) where
  abbrev given : NumberedExpression → Remains AbstractValue
  given e = value_at (rows_of parts.checked) (memory_in parts) e

  abbrev givens : NumberedExpressions → Remains (List AbstractValue)
  givens es = values_at (rows_of parts.checked) (memory_in parts) es

  pub one_found : (terms : List Term) (a : Term) (x : Option AbstractValue × FaultSet) → terms ≡ a ∷ []
      → found x ≡ given (term_of a)
      → one_operand (found x) ≡ givens (expressions_of (map term_of terms))
  one_found terms a x split of_a = ap one_operand of_a ∙ ap (λ (ts : List Term). givens (expressions_of (map term_of ts))) (sym split)

  pub two_found : (terms : List Term) (a b : Term) (x y : Option AbstractValue × FaultSet) → terms ≡ a ∷ b ∷ []
      → found x ≡ given (term_of a) → found y ≡ given (term_of b)
      → two_operands (found x) (found y) ≡ givens (expressions_of (map term_of terms))
  two_found terms a b x y split of_a of_b =
      ap (λ (r : Remains AbstractValue). two_operands r (found y)) of_a ∙ (ap (two_operands (given (term_of a))) of_b
      ∙ ap (λ (ts : List Term). givens (expressions_of (map term_of ts))) (sym split))

  pub three_found : (terms : List Term) (a b c : Term) (x y z : Option AbstractValue × FaultSet)
      → terms ≡ a ∷ b ∷ c ∷ []
      → found x ≡ given (term_of a) → found y ≡ given (term_of b) → found z ≡ given (term_of c)
      → three_operands (found x) (found y) (found z) ≡ givens (expressions_of (map term_of terms))
  three_found terms a b c x y z split of_a of_b of_c =
      ap (λ (r : Remains AbstractValue). three_operands r (found y) (found z)) of_a
      ∙ (ap (λ (r : Remains AbstractValue). three_operands (given (term_of a)) r (found z)) of_b
      ∙ (ap (three_operands (given (term_of a)) (given (term_of b))) of_c
      ∙ ap (λ (ts : List Term). givens (expressions_of (map term_of ts))) (sym split)))

-- ---- arguments

-- the first, and those that are left, have sizes
pub later_typed : (term : Term) (others terms : List Term) → terms ≡ term ∷ others
    → AllByRecursion IsTyped (map term_of terms) → IsTyped (term_of term) × AllByRecursion IsTyped (map term_of others)
later_typed term others terms cons typed = subst (λ (ts : List Term). AllByRecursion IsTyped (map term_of ts)) cons typed
