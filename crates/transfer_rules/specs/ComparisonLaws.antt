-- Relations of comparisons.
--   opposite_holds, swapped_holds   where a relation does not hold its opposite does, and with changed sides
--       the swapped one
--   relation_is                     the operator of a relation
--   rel_holds                       what holds where a comparison gives this bit
use Rattle.std.specs.Prelude.{slice_index, nat_lt, nat_le, int_lt, int_le, ◌==◌, not}
use Rattle.std.proofs.Common.{◌≡◌, ◌⊎◌, inl, inr, ℕ, ℤ, Bool, true, false, List, [], ◌∷◌, Some, Ok, refl, sym, ap, ◌∙◌, arith}
use Rattle.std.proofs.lemmas.Int.{ints}
use Rattle.std.proofs.lemmas.Option.{none-some, same_Some}
use Rattle.std.proofs.lemmas.Bool.{eqb-true, eq-eqb, ltb-false, le-leb, false≢true}
use Rattle.lists.specs.TestLaws.{by_test}
use Rattle.alf_ops.specs.declared.operator.Op.{Op}
use Rattle.alf_ops.specs.declared.operator.Op.TheVariants as ops
use Rattle.alf_ops.specs.declared.history.Value.TheVariants.{Int}
use Rattle.alf_ops.specs.TwosComplement.{word, signed}
use Rattle.alf_ops.specs.Table.{bit, operand_sizes}
use Rattle.alf_ops.specs.Words.{value}
use Rattle.alf_ops.specs.Pointers.{outcome}
use Rattle.domain_core.specs.declared.relation.Rel.{Rel}
use Rattle.domain_core.specs.declared.relation.Rel.TheVariants.{Eq, Neq, ULt, ULe, UGt, UGe, SLt, SLe, SGt, SGe}
use Rattle.domain_core.specs.Relations.{operator_of, Related}
use Rattle.transfer_rules.specs.Refining.{relation_of, opposite, swapped, rel_at}

-- ---- tests

-- the word of a test
abbrev said : Bool → ℕ
said test = word 1 (bit test)

said_true : (test : Bool) → test ≡ true → said test ≡ 1
said_true test e = rw e refl

no_zero : {A : Type 0} → (let n : ℕ = 1 in n) ≡ 0 → A
no_zero e = absurd (omega (arith, e))

not_said : (test : Bool) → said test ≡ 0 → test ≡ false
not_said true e = no_zero e
not_said false e = refl

is_said : (test : Bool) → said test ≡ 1 → test ≡ true
is_said true e = refl
is_said false e = no_zero (sym e)

said_bit : (test : Bool) → (said test ≡ 0) ⊎ (said test ≡ 1)
said_bit true = inr refl
said_bit false = inl refl

not_less : (x y : ℕ) → nat_lt x y ≡ false → nat_le y x ≡ true
not_less x y e = le-leb y x (let low = ltb-false x y e in omega (arith, low))

not_at_most : (x y : ℕ) → nat_le x y ≡ false → nat_lt y x ≡ true
not_at_most x y e = by_test (nat_lt y x) (λ h. h) (λ h. absurd (false≢true (sym e ∙ le-leb x y (let low = ltb-false y x h in omega (arith, low)))))

not_less_int : (x y : ℤ) → int_lt x y ≡ false → int_le y x ≡ true
not_less_int x y e = by_test (int_le y x) (λ h. h) (λ h. absurd (omega (arith, ints, e, h)))

not_at_most_int : (x y : ℤ) → int_le x y ≡ false → int_lt y x ≡ true
not_at_most_int x y e = by_test (int_lt y x) (λ h. h) (λ h. absurd (omega (arith, ints, e, h)))

opposite_test : (test : Bool) → test ≡ false → not test ≡ true
opposite_test true e = absurd (false≢true (sym e))
opposite_test false e = refl

doubly : (test : Bool) → not test ≡ false → test ≡ true
doubly true e = refl
doubly false e = absurd (false≢true (sym e))

not_true : (test : Bool) → not test ≡ true → test ≡ false
not_true true e = absurd (false≢true e)
not_true false e = refl

-- ---- relations

-- where a relation does not hold, its opposite does
pub opposite_holds : (rel : Rel) (s x y : ℕ) → value (operator_of rel) (s ∷ []) (x ∷ y ∷ []) ≡ 0
    → Related (opposite rel) s x y
opposite_holds Eq s x y e = said_true (not (x == y)) (opposite_test (x == y) (not_said (x == y) e))
opposite_holds Neq s x y e = said_true (x == y) (doubly (x == y) (not_said (not (x == y)) e))
opposite_holds ULt s x y e = said_true (nat_le y x) (not_less x y (not_said (nat_lt x y) e))
opposite_holds ULe s x y e = said_true (nat_lt y x) (not_at_most x y (not_said (nat_le x y) e))
opposite_holds UGt s x y e = said_true (nat_le x y) (not_less y x (not_said (nat_lt y x) e))
opposite_holds UGe s x y e = said_true (nat_lt x y) (not_at_most y x (not_said (nat_le y x) e))
opposite_holds SLt s x y e = said_true (int_le (signed s y) (signed s x)) (not_less_int (signed s x) (signed s y) (not_said (int_lt (signed s x) (signed s y)) e))
opposite_holds SLe s x y e = said_true (int_lt (signed s y) (signed s x)) (not_at_most_int (signed s x) (signed s y) (not_said (int_le (signed s x) (signed s y)) e))
opposite_holds SGt s x y e = said_true (int_le (signed s x) (signed s y)) (not_less_int (signed s y) (signed s x) (not_said (int_lt (signed s y) (signed s x)) e))
opposite_holds SGe s x y e = said_true (int_lt (signed s x) (signed s y)) (not_at_most_int (signed s y) (signed s x) (not_said (int_le (signed s y) (signed s x)) e))

same_back : (x y : ℕ) → (x == y) ≡ true → (y == x) ≡ true
same_back x y e = eq-eqb y x (sym (eqb-true x y e))

-- with its sides changed it is the swapped one
pub swapped_holds : (rel : Rel) (s x y : ℕ) → Related rel s x y → Related (swapped rel) s y x
swapped_holds Eq s x y e = said_true (y == x) (same_back x y (is_said (x == y) e))
swapped_holds Neq s x y e =
    said_true (not (y == x)) (opposite_test (y == x) (by_test (y == x)
    (λ h. absurd (false≢true (sym (not_true (x == y) (is_said (not (x == y)) e)) ∙ same_back y x h)))
    (λ h. h)))
swapped_holds ULt s x y e = e
swapped_holds ULe s x y e = e
swapped_holds UGt s x y e = e
swapped_holds UGe s x y e = e
swapped_holds SLt s x y e = e
swapped_holds SLe s x y e = e
swapped_holds SGt s x y e = e
swapped_holds SGe s x y e = e

-- a comparison gives a bit
pub gives_bit : (rel : Rel) (s x y : ℕ)
    → (value (operator_of rel) (s ∷ []) (x ∷ y ∷ []) ≡ 0) ⊎ (value (operator_of rel) (s ∷ []) (x ∷ y ∷ []) ≡ 1)
gives_bit Eq s x y = said_bit (x == y)
gives_bit Neq s x y = said_bit (not (x == y))
gives_bit ULt s x y = said_bit (nat_lt x y)
gives_bit ULe s x y = said_bit (nat_le x y)
gives_bit UGt s x y = said_bit (nat_lt y x)
gives_bit UGe s x y = said_bit (nat_le y x)
gives_bit SLt s x y = said_bit (int_lt (signed s x) (signed s y))
gives_bit SLe s x y = said_bit (int_le (signed s x) (signed s y))
gives_bit SGt s x y = said_bit (int_lt (signed s y) (signed s x))
gives_bit SGe s x y = said_bit (int_le (signed s y) (signed s x))

-- what holds where it gives this bit
pub rel_holds : (rel : Rel) (s x y w : ℕ) → value (operator_of rel) (s ∷ []) (x ∷ y ∷ []) ≡ w
    → Related (rel_at rel w) s x y
rel_holds rel s x y w e = by_test (w == 0)
    (λ none. rw none (opposite_holds rel s x y (e ∙ eqb-true w 0 none)))
    (λ some. rw some (elim (gives_bit rel s x y) [
      | inl zero ↦ absurd (false≢true (sym some ∙ eq-eqb w 0 (sym e ∙ zero)))
      | inr one ↦ one
    ]))

-- ---- operators

-- the operator of a relation
pub relation_is : (op : Op) (rel : Rel) → relation_of op ≡ Some rel → op ≡ operator_of rel
relation_is ops.Eq rel e = ap operator_of (same_Some Eq rel e)
relation_is ops.Neq rel e = ap operator_of (same_Some Neq rel e)
relation_is ops.ULt rel e = ap operator_of (same_Some ULt rel e)
relation_is ops.ULe rel e = ap operator_of (same_Some ULe rel e)
relation_is ops.UGt rel e = ap operator_of (same_Some UGt rel e)
relation_is ops.UGe rel e = ap operator_of (same_Some UGe rel e)
relation_is ops.SLt rel e = ap operator_of (same_Some SLt rel e)
relation_is ops.SLe rel e = ap operator_of (same_Some SLe rel e)
relation_is ops.SGt rel e = ap operator_of (same_Some SGt rel e)
relation_is ops.SGe rel e = ap operator_of (same_Some SGe rel e)
relation_is _ rel e = absurd (none-some rel e)

pub compared_sizes : (rel : Rel) (sizes : List ℕ)
    → operand_sizes (operator_of rel) sizes ≡ slice_index sizes 0 ∷ slice_index sizes 0 ∷ []
compared_sizes Eq sizes = refl
compared_sizes Neq sizes = refl
compared_sizes ULt sizes = refl
compared_sizes ULe sizes = refl
compared_sizes UGt sizes = refl
compared_sizes UGe sizes = refl
compared_sizes SLt sizes = refl
compared_sizes SLe sizes = refl
compared_sizes SGt sizes = refl
compared_sizes SGe sizes = refl

-- the outcome of a comparison of words
abbrev compared_word : Rel → List ℕ → ℕ → ℕ → ℕ
compared_word rel sizes x y = value (operator_of rel) (slice_index sizes 0 ∷ []) (x ∷ y ∷ [])

pub compared_outcome : (rel : Rel) (sizes : List ℕ) (s t x y : ℕ)
    → outcome (operator_of rel) sizes (Int s x ∷ Int t y ∷ []) ≡ Ok (Int 1 (compared_word rel sizes x y))
compared_outcome Eq sizes s t x y = refl
compared_outcome Neq sizes s t x y = refl
compared_outcome ULt sizes s t x y = refl
compared_outcome ULe sizes s t x y = refl
compared_outcome UGt sizes s t x y = refl
compared_outcome UGe sizes s t x y = refl
compared_outcome SLt sizes s t x y = refl
compared_outcome SLe sizes s t x y = refl
compared_outcome SGt sizes s t x y = refl
compared_outcome SGe sizes s t x y = refl
