-- Outcomes have the size of the operator's result.
use Rattle.std.proofs.Common.{◌≡◌, ℕ, Bool, true, false, ◌&&◌, List, Option, Some, None, Result, Ok, Err, slice_get, refl, sym, subst, arith, ◌<◌, ◌^◌}
use Rattle.std.specs.Prelude.{◌==◌, slice_index, if◌then◌else◌}
use Rattle.std.proofs.lemmas.Option.{get_or_from_slice_get}
use Rattle.alf_ops.specs.declared.operator.Op.{Op}
use Rattle.alf_ops.specs.declared.operator.Op.TheVariants.{Add, Sub, Eq, Neq, ULt, ULe, UGt, UGe, If}
use Rattle.alf_ops.specs.declared.history.Value.{Value}
use Rattle.alf_ops.specs.declared.history.Value.TheVariants.{Int, Ptr}
use Rattle.alf_ops.specs.declared.history.RunFault.{RunFault}
use Rattle.alf_ops.specs.declared.history.RunFault.TheVariants.{Divide, Kind, Pointers}
use Rattle.alf_ops.specs.Table.{size_of_result, operand_sizes}
use Rattle.alf_ops.specs.Words.{divides}
use Rattle.alf_ops.specs.Values.{is_pointer, bits_of, FitsValue, EachValueFits}
use Rattle.alf_ops.specs.OperandLaws.{FitsAt}
use Rattle.alf_ops.specs.Pointers.{applied, at_words, add_rule, subtract_rule, equality_rule, order_rule, choice_rule, by_rule, operand_at, outcome}
use Rattle.alf_ops.specs.PointerLaws.{has_pointer}
use Rattle.alf_ops.proofs.Fitting.{at_place}
use Rattle.alf_ops.proofs.WordReadings.{word_below}
use Rattle.lists.specs.TestLaws.{by_test}

add_fits : (m sum : ℕ) (a b v : Value) → sum < 2 ^ m → FitsValue m a → FitsValue m b → add_rule sum a b ≡ Ok v
    → FitsValue m v
add_fits m sum (Int s x) (Int t y) v small fits_a fits_b is = cc
add_fits m sum (Int s x) (Ptr f o) v small fits_a fits_b is = let e : Ptr f sum ≡ v = cc in subst (λ (w : Value). FitsValue m w) e (fits_b.0, subst (λ (n : ℕ). sum < 2 ^ n) fits_b.0 small)
add_fits m sum (Ptr f o) (Int s x) v small fits_a fits_b is = let e : Ptr f sum ≡ v = cc in subst (λ (w : Value). FitsValue m w) e (fits_a.0, subst (λ (n : ℕ). sum < 2 ^ n) fits_a.0 small)
add_fits m sum (Ptr f o) (Ptr g p) v small fits_a fits_b is = cc

subtract_fits : (m difference : ℕ) (a b v : Value) → difference < 2 ^ m → FitsValue m a
    → subtract_rule m difference a b ≡ Ok v → FitsValue m v
subtract_fits m difference (Int s x) b v small fits is = cc
subtract_fits m difference (Ptr f o) (Int s x) v small fits is =
    let e : Ptr f difference ≡ v = cc in subst (λ (w : Value). FitsValue m w) e (fits.0, subst (λ (n : ℕ). difference < 2 ^ n) fits.0 small)
subtract_fits m difference (Ptr f o) (Ptr g p) v small fits is = by_test (f == g)
    (λ same. let e : Ok (Int m difference) ≡ Ok v = rw same at is in let w : Int m difference ≡ v = cc in subst (λ (x : Value). FitsValue m x) w (refl, small))
    (λ other. let e : Err Pointers ≡ Ok v = rw other at is in cc)

one_bit : (word : ℕ) (v : Value) → word < 2 → Ok (Int 1 word) ≡ (let r : Result Value RunFault = Ok v in r)
    → FitsValue 1 v
one_bit word v small is = let e : Int 1 word ≡ v = cc in subst (λ (x : Value). FitsValue 1 x) e (refl, small)

equality_fits : (unequal test : ℕ) (a b v : Value) → unequal < 2 → test < 2 → equality_rule unequal test a b ≡ Ok v
    → FitsValue 1 v
equality_fits unequal test (Int s x) b v below small is = cc
equality_fits unequal test (Ptr f o) (Int s x) v below small is = cc
equality_fits unequal test (Ptr f o) (Ptr g p) v below small is = by_test (f == g)
    (λ same. one_bit test v small (rw same at is))
    (λ other. one_bit unequal v below (rw other at is))

order_fits : (test : ℕ) (a b v : Value) → test < 2 → order_rule test a b ≡ Ok v → FitsValue 1 v
order_fits test (Int s x) b v small is = cc
order_fits test (Ptr f o) (Int s x) v small is = cc
order_fits test (Ptr f o) (Ptr g p) v small is = by_test (f == g)
    (λ same. one_bit test v small (rw same at is))
    (λ other. let e : Err Pointers ≡ Ok v = rw other at is in cc)

choice_fits : (m : ℕ) (a b c v : Value) → FitsValue m b → FitsValue m c → choice_rule a b c ≡ Ok v → FitsValue m v
choice_fits m (Ptr f o) b c v fits_b fits_c is = cc
choice_fits m (Int s x) b c v fits_b fits_c is = by_test (x == 1)
    (λ one. let e : Ok b ≡ Ok v = rw one at is in let w : b ≡ v = cc in subst (λ (y : Value). FitsValue m y) w fits_b)
    (λ other. let e : Ok c ≡ Ok v = rw other at is in let w : c ≡ v = cc in subst (λ (y : Value). FitsValue m y) w fits_c)

-- the operand at a place where one is wanted
placed_fits : (size : ℕ) (values : List Value) (i : ℕ) → FitsAt FitsValue (Some size) (slice_get values i)
    → FitsValue size (operand_at values i)
placed_fits size values i fits = go (slice_get values i) refl fits
  where
    go : (found : Option Value) → slice_get values i ≡ found → FitsAt FitsValue (Some size) found
        → FitsValue size (operand_at values i)
    go None is fits = absurd fits
    go (Some x) is fits = subst (λ (y : Value). FitsValue size y) (sym (get_or_from_slice_get values i x (Int 0 0) is)) fits

-- an operand without a pointer among them
sum_only : (r : Result Value RunFault) (c : Bool) (v : Value) → (if c then Err Kind else r) ≡ Ok v → r ≡ Ok v
sum_only r true v is = cc
sum_only r false v is = is

module _ (sizes : List ℕ) (values : List Value) (v : Value) where
  abbrev a : Value
  a = operand_at values 0

  abbrev b : Value
  b = operand_at values 1

  abbrev c : Value
  c = operand_at values 2

  -- the operator's word at the words and offsets
  abbrev word_at : Op → ℕ
  word_at op = applied op sizes a b c

  fits_at : (op : Op) (i : ℕ) → EachValueFits (operand_sizes op sizes) values
      → FitsAt FitsValue (slice_get (operand_sizes op sizes) i) (slice_get values i)
  fits_at op i fits = at_place FitsValue (operand_sizes op sizes) values i fits

  below : (op : Op) → word_at op < 2 ^ size_of_result op sizes
  below op = word_below (size_of_result op sizes) _

  rule_fits : (op : Op) → EachValueFits (operand_sizes op sizes) values
      → by_rule op sizes a b c ≡ Ok v → FitsValue (size_of_result op sizes) v
  rule_fits op = elim op as (λ (op : Op). EachValueFits (operand_sizes op sizes) values → by_rule op sizes a b c ≡ Ok v → FitsValue (size_of_result op sizes) v) [
    | Add ↦ λ fits is. add_fits (slice_index sizes 0) (word_at Add) a b v (below Add)
        (placed_fits (slice_index sizes 0) values 0 (fits_at Add 0 fits)) (placed_fits (slice_index sizes 0) values 1 (fits_at Add 1 fits)) (sum_only _ (is_pointer c) v is)
    | Sub ↦ λ fits is. subtract_fits (slice_index sizes 0) (word_at Sub) a b v (below Sub)
        (placed_fits (slice_index sizes 0) values 0 (fits_at Sub 0 fits)) (sum_only _ (is_pointer c) v is)
    | Eq ↦ λ fits is. equality_fits 0 (word_at Eq) a b v (omega arith) (below Eq) is
    | Neq ↦ λ fits is. equality_fits 1 (word_at Neq) a b v (omega arith) (below Neq) is
    | ULt ↦ λ fits is. order_fits (word_at ULt) a b v (below ULt) is
    | ULe ↦ λ fits is. order_fits (word_at ULe) a b v (below ULe) is
    | UGt ↦ λ fits is. order_fits (word_at UGt) a b v (below UGt) is
    | UGe ↦ λ fits is. order_fits (word_at UGe) a b v (below UGe) is
    | If ↦ λ fits is. choice_fits (slice_index sizes 0) a b c v
        (placed_fits (slice_index sizes 0) values 1 (fits_at If 1 fits)) (placed_fits (slice_index sizes 0) values 2 (fits_at If 2 fits)) is
    | _ ↦ λ fits is. cc
  ]

  words_fit : (op : Op) → at_words op sizes a b c ≡ Ok v → FitsValue (size_of_result op sizes) v
  words_fit op is = by_test (divides op && (bits_of b == 0))
      (λ zero. let e : Err Divide ≡ Ok v = rw zero at is in cc)
      (λ other.
      let e : Ok (Int (size_of_result op sizes) (word_at op)) ≡ Ok v = rw other at is in
      let w : Int (size_of_result op sizes) (word_at op) ≡ v = cc in
      subst (λ (x : Value). FitsValue (size_of_result op sizes) x) w (refl, below op))

  pub outcome_fits : (op : Op) → EachValueFits (operand_sizes op sizes) values → outcome op sizes values ≡ Ok v
      → FitsValue (size_of_result op sizes) v
  outcome_fits op fits is = by_test (has_pointer values)
      (λ some. rule_fits op fits (rw some at is))
      (λ none. words_fit op (rw none at is))
