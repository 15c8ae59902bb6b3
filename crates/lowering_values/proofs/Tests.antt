-- What comparisons of runs give at embedded values, and conversions.
use Rattle.std.specs.Prelude.{int_lt, int_le, if◌then◌else◌}
use Rattle.std.proofs.Common.{◌≡◌, ℕ, ℤ, pos, ◌==◌, ◌&&◌, not, Bool, true, false, [], ◌∷◌, Result, Ok, Err, refl, ap, ◌∙◌}
use Rattle.alf_ops.specs.declared.operator.Op.{Op}
use Rattle.alf_ops.specs.declared.operator.Op.TheVariants as ops
use Rattle.alf_ops.specs.declared.history.Value.{Value}
use Rattle.alf_ops.specs.declared.history.Value.TheVariants as values
use Rattle.alf_ops.specs.declared.history.RunFault.{RunFault}
use Rattle.alf_ops.specs.declared.history.RunFault.TheVariants as faults
use Rattle.alf_ops.specs.TwosComplement.{word, signed}
use Rattle.alf_ops.specs.Table as table
use Rattle.alf_ops.specs.Pointers.{applied, order_rule, by_rule, outcome}
use Rattle.c_unit.specs.declared.types.Integer.{Integer}
use Rattle.c_unit.specs.declared.types.Integer.TheVariants.{Char, UnsignedChar, Short, UnsignedShort, Int, UnsignedInt}
use Rattle.c_meaning.specs.Values.{Valued, on_value, on_both, bit, as_value, truth_of, widened, cut, opposite, equality, order, is_signed, bits_of_type}
use Rattle.c_lowered.specs.Values.{extension}
use Rattle.lowering_values.specs.Embedding.{embedded_value, embedded_result}
use Rattle.lowering_values.specs.OperatorLaws.{as_bit}
use Rattle.lowering_values.proofs.Outcomes.{one, two, same_frame}

-- ---- bits

bit_of : (test : Bool) → Ok (values.Int 1 (word 1 (table.bit test))) ≡ as_bit (Ok test)
bit_of true = refl
bit_of false = refl

-- a test that is made a value again
pub tested : (r : Result Bool RunFault) → truth_of (as_value r) ≡ r
tested (Ok true) = refl
tested (Ok false) = refl
tested (Err fault) = refl

-- what a comparison of runs and one of C give is one test
pub record Compares (place : ℕ → ℕ) (op : Op) (f : Value → Value → Valued) (a b : Value) : Type 0 where
  pub test : Result Bool RunFault
  pub runs : outcome op (32 ∷ []) (embedded_value place a ∷ embedded_value place b ∷ []) ≡ as_bit test
  pub means : f a b ≡ as_value test

pub record ComparesResults (place : ℕ → ℕ) (op : Op) (f : Value → Value → Valued) (l r : Valued) : Type 0 where
  pub test : Result Bool RunFault
  pub runs : two op (32 ∷ []) (embedded_result place l) (embedded_result place r) ≡ as_bit test
  pub means : on_both f l r ≡ as_value test

pub at_results : (place : ℕ → ℕ) (op : Op) (f : Value → Value → Valued) → ((a b : Value) → Compares place op f a b)
    → (l r : Valued) → ComparesResults place op f l r
at_results place op f each (Err fault) r = record { test = Err fault; runs = refl; means = refl }
at_results place op f each (Ok a) (Err fault) = record { test = Err fault; runs = refl; means = refl }
at_results place op f each (Ok a) (Ok b) = let is = each a b in record { test = is.test; runs = is.runs; means = is.means }

module _ (place : ℕ → ℕ) (apart : (o p : ℕ) → place o ≡ place p → o ≡ p) where
  abbrev V : Value → Value
  V v = embedded_value place v

  equal_places : (one both : Bool)
      → Ok (values.Int 1 (if one then word 1 (table.bit both) else 0)) ≡ as_bit (Ok (one && both))
  equal_places true both = bit_of both
  equal_places false both = refl

  unequal_places : (one both : Bool)
      → Ok (values.Int 1 (if one then word 1 (table.bit (not both)) else 1)) ≡ as_bit (Ok (not (one && both)))
  unequal_places true both = bit_of (not both)
  unequal_places false both = refl

  pub equal : (a b : Value) → Compares place ops.Eq (equality (λ same. same)) a b
  equal (values.Int s x) (values.Int t y) = record { test = Ok (x == y); runs = bit_of (x == y); means = refl }
  equal (values.Int s x) (values.Ptr o y) = record { test = Err faults.Kind; runs = refl; means = refl }
  equal (values.Ptr o x) (values.Int t y) = record { test = Err faults.Kind; runs = refl; means = refl }
  equal (values.Ptr o x) (values.Ptr p y) = record {
    test = Ok ((o == p) && (x == y));
    runs = ap (λ (test : Bool). Ok (values.Int 1 (if test then word 1 (table.bit (x == y)) else 0))) (same_frame place apart o p) ∙ equal_places (o == p) (x == y);
    means = refl;
  }

  pub unequal : (a b : Value) → Compares place ops.Neq (equality not) a b
  unequal (values.Int s x) (values.Int t y) = record { test = Ok (not (x == y)); runs = bit_of (not (x == y)); means = refl }
  unequal (values.Int s x) (values.Ptr o y) = record { test = Err faults.Kind; runs = refl; means = refl }
  unequal (values.Ptr o x) (values.Int t y) = record { test = Err faults.Kind; runs = refl; means = refl }
  unequal (values.Ptr o x) (values.Ptr p y) = record {
    test = Ok (not ((o == p) && (x == y)));
    runs = ap (λ (test : Bool). Ok (values.Int 1 (if test then word 1 (table.bit (not (x == y))) else 1))) (same_frame place apart o p) ∙ unequal_places (o == p) (x == y);
    means = refl;
  }

  -- ---- orders

  -- an order with a sign takes no pointers
  pub signed_order : (op : Op) (test : ℤ → ℤ → Bool)
      → ((s t x y : ℕ) → outcome op (32 ∷ []) (values.Int s x ∷ values.Int t y ∷ []) ≡ Ok (values.Int 1 (word 1 (table.bit (test (signed 32 x) (signed 32 y))))))
      → ((a b : Value) → by_rule op (32 ∷ []) a b (values.Int 0 0) ≡ Err faults.Kind)
      → (a b : Value) → Compares place op (order test true) a b
  signed_order op test each kind (values.Int s x) (values.Int t y) = record {
    test = Ok (test (signed 32 x) (signed 32 y));
    runs = each s t x y ∙ bit_of (test (signed 32 x) (signed 32 y));
    means = refl;
  }
  signed_order op test each kind (values.Int s x) (values.Ptr o y) = record { test = Err faults.Kind; runs = kind (values.Int s x) (values.Ptr (place o) y); means = refl }
  signed_order op test each kind (values.Ptr o x) (values.Int t y) = record { test = Err faults.Kind; runs = kind (values.Ptr (place o) x) (values.Int t y); means = refl }
  signed_order op test each kind (values.Ptr o x) (values.Ptr p y) = record { test = Err faults.Kind; runs = kind (values.Ptr (place o) x) (values.Ptr (place p) y); means = refl }

  ordered_places : (one : Bool) (test : Bool) → (if one then Ok (values.Int 1 (word 1 (table.bit test))) else Err faults.Pointers) ≡ as_bit (if one then Ok test else Err faults.Pointers)
  ordered_places true test = bit_of test
  ordered_places false test = refl

  places_mean : (one : Bool) (test : Bool)
      → (if one then bit test else Err faults.Pointers) ≡ as_value (if one then Ok test else Err faults.Pointers)
  places_mean true test = refl
  places_mean false test = refl

  pub unsigned_order : (op : Op) (test : ℤ → ℤ → Bool)
      → ((s t x y : ℕ) → outcome op (32 ∷ []) (values.Int s x ∷ values.Int t y ∷ []) ≡ Ok (values.Int 1 (word 1 (table.bit (test (pos x) (pos y))))))
      → ((a b : Value) → by_rule op (32 ∷ []) a b (values.Int 0 0) ≡ order_rule (applied op (32 ∷ []) a b (values.Int 0 0)) a b)
      → ((o p x y : ℕ) → applied op (32 ∷ []) (values.Ptr o x) (values.Ptr p y) (values.Int 0 0) ≡ word 1 (table.bit (test (pos x) (pos y))))
      → (a b : Value) → Compares place op (order test false) a b
  unsigned_order op test each rule word_of (values.Int s x) (values.Int t y) = record {
    test = Ok (test (pos x) (pos y));
    runs = each s t x y ∙ bit_of (test (pos x) (pos y));
    means = refl;
  }
  unsigned_order op test each rule word_of (values.Int s x) (values.Ptr o y) = record { test = Err faults.Kind; runs = rule (values.Int s x) (values.Ptr (place o) y); means = refl }
  unsigned_order op test each rule word_of (values.Ptr o x) (values.Int t y) = record { test = Err faults.Kind; runs = rule (values.Ptr (place o) x) (values.Int t y); means = refl }
  unsigned_order op test each rule word_of (values.Ptr o x) (values.Ptr p y) = record {
    test = if o == p then Ok (test (pos x) (pos y)) else Err faults.Pointers;
    runs = rule (values.Ptr (place o) x) (values.Ptr (place p) y)
        ∙ ap (λ (w : ℕ). if place o == place p then Ok (values.Int 1 w) else Err faults.Pointers) (word_of (place o) (place p) x y)
        ∙ ap (λ (one : Bool). if one then Ok (values.Int 1 (word 1 (table.bit (test (pos x) (pos y))))) else Err faults.Pointers) (same_frame place apart o p)
        ∙ ordered_places (o == p) (test (pos x) (pos y));
    means = places_mean (o == p) (test (pos x) (pos y));
  }

  pub signed_less : (a b : Value) → Compares place ops.SLt (order int_lt true) a b
  signed_less a b = signed_order ops.SLt int_lt (λ s t x y. refl) (λ a b. refl) a b

  pub signed_greater : (a b : Value) → Compares place ops.SGt (order (λ x y. int_lt y x) true) a b
  signed_greater a b = signed_order ops.SGt (λ x y. int_lt y x) (λ s t x y. refl) (λ a b. refl) a b

  pub signed_at_most : (a b : Value) → Compares place ops.SLe (order int_le true) a b
  signed_at_most a b = signed_order ops.SLe int_le (λ s t x y. refl) (λ a b. refl) a b

  pub signed_at_least : (a b : Value) → Compares place ops.SGe (order (λ x y. int_le y x) true) a b
  signed_at_least a b = signed_order ops.SGe (λ x y. int_le y x) (λ s t x y. refl) (λ a b. refl) a b

  pub unsigned_less : (a b : Value) → Compares place ops.ULt (order int_lt false) a b
  unsigned_less a b = unsigned_order ops.ULt int_lt (λ s t x y. refl) (λ a b. refl) (λ o p x y. refl) a b

  pub unsigned_greater : (a b : Value) → Compares place ops.UGt (order (λ x y. int_lt y x) false) a b
  unsigned_greater a b = unsigned_order ops.UGt (λ x y. int_lt y x) (λ s t x y. refl) (λ a b. refl) (λ o p x y. refl) a b

  pub unsigned_at_most : (a b : Value) → Compares place ops.ULe (order int_le false) a b
  unsigned_at_most a b = unsigned_order ops.ULe int_le (λ s t x y. refl) (λ a b. refl) (λ o p x y. refl) a b

  pub unsigned_at_least : (a b : Value) → Compares place ops.UGe (order (λ x y. int_le y x) false) a b
  unsigned_at_least a b = unsigned_order ops.UGe (λ x y. int_le y x) (λ s t x y. refl) (λ a b. refl) (λ o p x y. refl) a b

-- ---- against 0

module _ (place : ℕ → ℕ) where
  abbrev R : Valued → Valued
  R r = embedded_result place r

  -- a bit as a word
  pub bit_extended : (r : Result Bool RunFault) → one ops.ZExt (1 ∷ 32 ∷ []) (as_bit r) ≡ R (as_value r)
  bit_extended (Ok true) = refl
  bit_extended (Ok false) = refl
  bit_extended (Err fault) = refl

  pub is_not_zero : (r : Valued) → two ops.Neq (32 ∷ []) (R r) (Ok (values.Int 32 0)) ≡ as_bit (truth_of r)
  is_not_zero (Err fault) = refl
  is_not_zero (Ok (values.Int s x)) = bit_of (not (x == 0))
  is_not_zero (Ok (values.Ptr o x)) = refl

  abbrev zero_test : Valued → Result Bool RunFault
  zero_test (Err fault) = Err fault
  zero_test (Ok (values.Int s x)) = Ok (x == 0)
  zero_test (Ok (values.Ptr o x)) = Err faults.Kind

  is_zero : (r : Valued) → two ops.Eq (32 ∷ []) (R r) (Ok (values.Int 32 0)) ≡ as_bit (zero_test r)
  is_zero (Err fault) = refl
  is_zero (Ok (values.Int s x)) = bit_of (x == 0)
  is_zero (Ok (values.Ptr o x)) = refl

  zero_means : (r : Valued) → as_value (zero_test r) ≡ on_value opposite r
  zero_means (Err fault) = refl
  zero_means (Ok (values.Int s x)) = refl
  zero_means (Ok (values.Ptr o x)) = refl

  pub not_value : (r : Valued)
      → one ops.ZExt (1 ∷ 32 ∷ []) (two ops.Eq (32 ∷ []) (R r) (Ok (values.Int 32 0))) ≡ R (on_value opposite r)
  not_value r = ap (λ (b : Valued). one ops.ZExt (1 ∷ 32 ∷ []) b) (is_zero r) ∙ bit_extended (zero_test r) ∙ ap R (zero_means r)

  -- ---- conversions

  abbrev pub extended_result : Integer → Valued → Valued
  extended_result i r = if bits_of_type i == 32 then r else one (extension (is_signed i)) (bits_of_type i ∷ 32 ∷ []) r

  pub extends : (i : Integer) (r : Valued) → extended_result i (R r) ≡ R (on_value (widened i) r)
  extends Int (Ok v) = refl
  extends UnsignedInt (Ok v) = refl
  extends Char (Ok (values.Int s x)) = refl
  extends Char (Ok (values.Ptr o x)) = refl
  extends UnsignedChar (Ok (values.Int s x)) = refl
  extends UnsignedChar (Ok (values.Ptr o x)) = refl
  extends Short (Ok (values.Int s x)) = refl
  extends Short (Ok (values.Ptr o x)) = refl
  extends UnsignedShort (Ok (values.Int s x)) = refl
  extends UnsignedShort (Ok (values.Ptr o x)) = refl
  extends Int (Err fault) = refl
  extends UnsignedInt (Err fault) = refl
  extends Char (Err fault) = refl
  extends UnsignedChar (Err fault) = refl
  extends Short (Err fault) = refl
  extends UnsignedShort (Err fault) = refl

  abbrev pub cut_result : Integer → Valued → Valued
  cut_result i r = if bits_of_type i == 32 then r else one ops.Trunc (32 ∷ bits_of_type i ∷ []) r

  pub cuts : (i : Integer) (r : Valued) → cut_result i (R r) ≡ R (on_value (cut (bits_of_type i)) r)
  cuts Int (Ok v) = refl
  cuts UnsignedInt (Ok v) = refl
  cuts Char (Ok (values.Int s x)) = refl
  cuts Char (Ok (values.Ptr o x)) = refl
  cuts UnsignedChar (Ok (values.Int s x)) = refl
  cuts UnsignedChar (Ok (values.Ptr o x)) = refl
  cuts Short (Ok (values.Int s x)) = refl
  cuts Short (Ok (values.Ptr o x)) = refl
  cuts UnsignedShort (Ok (values.Int s x)) = refl
  cuts UnsignedShort (Ok (values.Ptr o x)) = refl
  cuts Int (Err fault) = refl
  cuts UnsignedInt (Err fault) = refl
  cuts Char (Err fault) = refl
  cuts UnsignedChar (Err fault) = refl
  cuts Short (Err fault) = refl
  cuts UnsignedShort (Err fault) = refl
