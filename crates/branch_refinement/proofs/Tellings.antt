-- What a switch's expression tells.
--   is_refined        the memories of arms are those of the rules
--   refinement_fits, sized_fit   its places may be pinned to words of the expression
--   place_told, comparison_told   what expressions tell
--   tells_nothing, two_members, compared_told     and operators at operands as they stand
use Rattle.std.specs.Prelude.{IfSome, IfOk, slice_index, if◌then◌else◌}
use Rattle.std.specs.Option.{option_map, option_and_then}
use Rattle.std.proofs.Common.{◌≡◌, ◌≤◌, ◌<◌, ℕ, false, List, [], ◌∷◌, length, map, get_or, Option, Some, None, Result, Ok, Err, refl, sym, ap, subst, ◌∙◌, arith}
use Rattle.std.proofs.lemmas.Option.{none-some, same_Some}
use Rattle.std.proofs.lemmas.List.{length-map}
use Rattle.alf_ops.specs.declared.operator.Op.{Op}
use Rattle.alf_ops.specs.declared.operator.Op.TheVariants as ops
use Rattle.alf_ops.specs.declared.history.FrameShape.{FrameShape}
use Rattle.alf_ops.specs.Table.{operand_sizes}
use Rattle.alf_program.specs.Tree.{NumberedExpression, NumberedExpressions, Number, Address, Load, Apply, Empty, With, expressions_of}
use Rattle.alf_check.specs.declared.rows.FrameRow.{FrameRow}
use Rattle.alf_check.specs.declared.rows.Term.{Term}
use Rattle.alf_check.specs.CheckedPrograms.{term_of}
use Rattle.alf_check.specs.Kept.{HasSize, HaveSizes}
use Rattle.domain_core.specs.declared.relation.Rel.{Rel}
use Rattle.strided_rules.specs.Strides.{Stride}
use Rattle.strided_rules.specs.Members.{is_one, word_of}
use Rattle.pointer_rules.specs.AbstractValues.{AbstractValue}
use Rattle.pointer_rules.specs.Covering.{IsValue}
use Rattle.memory_rules.specs.Memories.{Mem}
use Rattle.memory_rules.specs.AbstractSets.{abstract_sets}
use Rattle.memory_model.specs.KeptMemories.{MemoryParts, memory_in, rows_of, IsMemory}
use Rattle.transfer_rules.specs.Evaluating.{value_at}
use Rattle.transfer_rules.specs.Refining.{Place as SeenPlace, Comparison, is_extension, words_alone, place_of, relation_of, sides_of, comparison_of, pinned_sides, rel_at, by_form, refined}
use Rattle.transfer_rules.specs.ComparisonLaws.{relation_is, compared_sizes}
use Rattle.step_statements.specs.Typed.{IsTyped}
use Rattle.branch_refinement.specs.declared.refinements.Place.{Place}
use Rattle.branch_refinement.specs.declared.refinements.Refinement.{Refinement}
use Rattle.branch_refinement.specs.declared.refinements.Refinement.TheVariants.{Nothing, At, Between}
use Rattle.branch_refinement.specs.Places.{seen_place, PinFits}
use Rattle.branch_refinement.specs.Refinements.{sides_by, refined_by, of_place, IsComparing, IsRefinement, Refines}
use Rattle.branch_refinement.proofs.Reading.{left_sized}
use Rattle.branch_refinement.proofs.Lying.{pin_fits, side_fits}

none_is : {A B : Type 0} (a : A) → None ≡ Some a → B
none_is a e = absurd (none-some a e)

-- ---- memories of arms

same_sides : (m : Mem abstract_sets) (rel other : Rel) (p q r s : Option SeenPlace) (x y z w : Option Stride)
    → rel ≡ other → p ≡ r → x ≡ z → q ≡ s → y ≡ w
    → pinned_sides rel p x q y m ≡ pinned_sides other r z s w m
same_sides m rel other p q r s x y z w one two three four five = cc

-- the memories of arms are those of the rules
pub is_refined : (rows : List FrameShape) (m : Mem abstract_sets) (e : NumberedExpression) (r : Refinement)
    → IsRefinement rows m e r → (arm : Stride) → refined_by r m arm ≡ refined rows m e arm
is_refined rows m e Nothing is arm =
    sym (ap (λ (o : Option SeenPlace). by_form rows m o (comparison_of e) arm) is.0 ∙ ap (λ (c : Option Comparison). by_form rows m None c arm) is.1)
is_refined rows m e (At place) is arm = sym (ap (λ (o : Option SeenPlace). by_form rows m o (comparison_of e) arm) is)
is_refined rows m e (Between rel first second) is arm =
    let c = is.c in
    let sides : sides_by (rel_at rel (word_of arm)) first second m
    ≡ pinned_sides (rel_at c.rel (word_of arm)) (place_of rows m c.first) (words_alone (value_at rows m c.first).left) (place_of rows m c.second) (words_alone (value_at rows m c.second).left) m =
    same_sides m (rel_at rel (word_of arm)) (rel_at c.rel (word_of arm)) (option_map seen_place first.place) (option_map seen_place second.place) (place_of rows m c.first) (place_of rows m c.second)
    first.words second.words (words_alone (value_at rows m c.first).left) (words_alone (value_at rows m c.second).left) (ap (λ (r : Rel). rel_at r (word_of arm)) (sym is.related)) is.left.place is.left.words is.right.place is.right.words in
    ap (λ (o : Option (Mem abstract_sets)). if is_one arm then o else Some m) sides
    ∙ sym (ap (λ (o : Option SeenPlace). by_form rows m o (comparison_of e) arm) is.no_place ∙ ap (λ (d : Option Comparison). by_form rows m None d arm) is.is)

-- ---- what may be pinned

-- both sides of a comparison have one size
pub record SidesHave (table : List FrameRow) (k : ℕ) (c : Comparison) : Type 0 where
  pub size : ℕ
  pub left : HasSize table k size c.first
  pub right : HasSize table k size c.second

sides_have : (table : List FrameRow) (k size : ℕ) (e : NumberedExpression) (c : Comparison) → comparison_of e ≡ Some c
    → HasSize table k size e → SidesHave table k c
sides_have table k size (Number num) c is has = none_is c is
sides_have table k size (Address frame offset) c is has = none_is c is
sides_have table k size (Load bits at) c is has = none_is c is
sides_have table k size (Apply op sizes es) c is has = go (relation_of op) refl is
  where
    sides : (rel : Rel) (es : NumberedExpressions)
        → operand_sizes op sizes ≡ slice_index sizes 0 ∷ slice_index sizes 0 ∷ []
        → HaveSizes table k (operand_sizes op sizes) es → sides_of rel es ≡ Some c
        → SidesHave table k c
    sides rel Empty are have is = none_is c is
    sides rel (With x Empty) are have is = none_is c is
    sides rel (With x (With y (With z es))) are have is = none_is c is
    sides rel (With x (With y Empty)) are have is =
        let both : HaveSizes table k (slice_index sizes 0 ∷ slice_index sizes 0 ∷ []) (With x (With y Empty)) = subst (λ (s : List ℕ). HaveSizes table k s (With x (With y Empty))) are have in
        subst (SidesHave table k) (same_Some (record { rel = rel; first = x; second = y }) c is) (record { size = slice_index sizes 0; left = both.0; right = both.1.0 })

    go : (o : Option Rel) → relation_of op ≡ o → option_and_then (λ rel. sides_of rel es) o ≡ Some c
        → SidesHave table k c
    go None found is = none_is c is
    go (Some rel) found is = sides rel es (ap (λ (o : Op). operand_sizes o sizes) (relation_is op rel found) ∙ compared_sizes rel sizes) has.operands is

-- the words of what an expression gives have its size
given_size : (size : ℕ) (o : Option AbstractValue) (v : AbstractValue) (words : Stride) → IfSome o (IsValue size)
    → o ≡ Some v → v.words ≡ Some words → size ≡ words.size
given_size size o v words is same of_words =
    let of_v : IsValue size v = subst (λ (x : Option AbstractValue). IfSome x (IsValue size)) same is in
    sym (subst (λ (w : Option Stride). IfSome w (λ x. x.size ≡ size)) of_words of_v.sized.words)

-- its places may be pinned to words of the expression
pub refinement_fits : (parts : MemoryParts) (e : NumberedExpression) (v : AbstractValue) (words : Stride) (r : Refinement) → IsMemory parts → IsTyped e
    → (value_at (rows_of parts.checked) (memory_in parts) e).left ≡ Some v → v.words ≡ Some words → IsRefinement (rows_of parts.checked) (memory_in parts) e r → Refines (rows_of parts.checked) words.size r
refinement_fits parts e v words Nothing kept typed given of_words is = tt
refinement_fits parts e v words (At place) kept typed given of_words is =
    let rows = rows_of parts.checked in
    let m = memory_in parts in
    let size = given_size typed.size (value_at rows m e).left v words (left_sized parts typed.table typed.function typed.size e kept typed.has) given of_words in
    subst (λ (s : ℕ). PinFits rows s place) size (pin_fits typed.table typed.function rows m e typed.size (Some place) typed.has (sym is))
refinement_fits parts e v words (Between rel first second) kept typed given of_words is =
    let have = sides_have typed.table typed.function typed.size e is.c is.is typed.has in
    record {
      size = have.size;
      left = side_fits parts typed.table typed.function is.c.first have.size first kept have.left is.left;
      right = side_fits parts typed.table typed.function is.c.second have.size second kept have.right is.right;
    }

-- of words of its size
pub sized_fit : (rows : List FrameShape) (size : ℕ) (r : Refinement) (o : Option Stride) → Refines rows size r
    → IfSome o (λ own. own.size ≡ size) → IfSome o (λ own. Refines rows own.size r)
sized_fit rows size r None fits sized = tt
sized_fit rows size r (Some own) fits sized = subst (λ (s : ℕ). Refines rows s r) (sym sized) fits

-- ---- what expressions tell

-- an expression that is no comparison
pub place_told : (rows : List FrameShape) (m : Mem abstract_sets) (e : NumberedExpression) (o : Option Place)
    → option_map seen_place o ≡ place_of rows m e → comparison_of e ≡ None
    → IsRefinement rows m e (of_place o)
place_told rows m e None is none = (sym is, none)
place_told rows m e (Some place) is none = sym is

-- a comparison
pub comparison_told : (rows : List FrameShape) (m : Mem abstract_sets) (op : Op) (sizes : List ℕ) (rel : Rel) (x y : NumberedExpression) (r : Refinement) → is_extension op ≡ false
    → relation_of op ≡ Some rel → IsComparing rows m rel x y r → IsRefinement rows m (Apply op sizes (With x (With y Empty))) r
comparison_told rows m op sizes rel x y Nothing extends related is = absurd is
comparison_told rows m op sizes rel x y (At place) extends related is = absurd is
comparison_told rows m op sizes rel x y (Between own first second) extends related is = record {
  c = record { rel = rel; first = x; second = y };
  is = ap (λ (o : Option Rel). option_and_then (λ (s : Rel). sides_of s (With x (With y Empty))) o) related;
  related = sym is.0;
  left = is.1;
  right = is.2;
  no_place = rw extends refl;
}

no_sides : (o : Option Rel) (es : List NumberedExpression) → (length es ≡ 2 → ⊥)
    → option_and_then (λ (rel : Rel). sides_of rel (expressions_of es)) o ≡ None
no_sides None es other = refl
no_sides (Some rel) [] other = refl
no_sides (Some rel) (x ∷ []) other = refl
no_sides (Some rel) (x ∷ y ∷ []) other = absurd (other refl)
no_sides (Some rel) (x ∷ y ∷ z ∷ es) other = refl

-- an operator that does not have two operands
pub tells_nothing : (rows : List FrameShape) (m : Mem abstract_sets) (op : Op) (sizes : List ℕ) (terms : List Term)
    → is_extension op ≡ false → (length terms ≡ 2 → ⊥)
    → IsRefinement rows m (Apply op sizes (expressions_of (map term_of terms))) Nothing
tells_nothing rows m op sizes terms extends other = (rw extends refl, no_sides (relation_of op) (map term_of terms) (λ two. other (sym (length-map terms term_of) ∙ two)))

-- two operands as they stand
pub two_members : (terms : List Term) (x y : Term) → 2 ≤ length terms → length terms < 3 → x ≡ get_or terms 0 x
    → y ≡ get_or terms 1 y → terms ≡ x ∷ y ∷ []
two_members [] x y some few e f = absurd (omega arith)
two_members (a ∷ []) x y some few e f = absurd (omega arith)
two_members (a ∷ b ∷ []) x y some few e f = cc
two_members (a ∷ b ∷ c ∷ terms) x y some few e f = absurd (omega arith)

-- what a comparison of two operands tells
pub compared_told : {E : Type 0} (rows : List FrameShape) (m : Mem abstract_sets) (op : Op) (sizes : List ℕ) (rel : Rel) (terms : List Term) (x y : Term) (answer : Result Refinement E)
    → is_extension op ≡ false → relation_of op ≡ Some rel → terms ≡ x ∷ y ∷ [] → IfOk answer (IsComparing rows m rel (term_of x) (term_of y))
    → IfOk answer (IsRefinement rows m (Apply op sizes (expressions_of (map term_of terms))))
compared_told rows m op sizes rel terms x y (Err e) extends related split is = tt
compared_told rows m op sizes rel terms x y (Ok r) extends related split is =
    subst (λ (ts : List Term). IsRefinement rows m (Apply op sizes (expressions_of (map term_of ts))) r) (sym split)
    (comparison_told rows m op sizes rel (term_of x) (term_of y) r extends related is)
