-- What operators of runs give at embedded values is the embedded value of the operator of C.
use Rattle.std.specs.Prelude.{int_div, bit_and, bit_or, bit_xor, if◌then◌else◌}
use Rattle.std.specs.Int.{int_div_euclid}
use Rattle.std.proofs.Common.{◌≡◌, ℕ, pos, ◌+◌, ◌*◌, ◌^◌, ◌==◌, ◌-ℤ◌, ◌*ℤ◌, Bool, true, false, List, [], ◌∷◌, Ok, Err, refl, sym, ap, ◌∙◌, arith}
use Rattle.std.proofs.lemmas.Bool.{ne_eqb, eq-eqb, eqb-true}
use Rattle.lists.specs.TestLaws.{by_test}
use Rattle.alf_ops.specs.declared.operator.Op.{Op}
use Rattle.alf_ops.specs.declared.operator.Op.TheVariants as ops
use Rattle.alf_ops.specs.declared.history.Value.{Value}
use Rattle.alf_ops.specs.declared.history.Value.TheVariants as values
use Rattle.alf_ops.specs.declared.history.RunFault.{RunFault}
use Rattle.alf_ops.specs.declared.history.RunFault.TheVariants as faults
use Rattle.alf_ops.specs.TwosComplement.{word, signed}
use Rattle.alf_ops.specs.Pointers.{at_words, by_rule, outcome, operands, outcome_of_operands}
use Rattle.c_unit.specs.declared.types.Integer.TheVariants.{Int, UnsignedInt}
use Rattle.c_meaning.specs.Values.{Valued, on_value, on_both, on_words, number, negation, complement, product, quotient, remainder, shifted_left, shifted_right, bitwise, sum, difference}
use Rattle.lowering_values.specs.Embedding.{embedded_value, embedded_result}
use Rattle.lowering_values.specs.OperatorLaws.{FitsResult}
use Rattle.lowering_values.proofs.SameWords.{of_64, less_word, product_word}

-- operators at results
abbrev pub one : Op → List ℕ → Valued → Valued
one op sizes r = outcome_of_operands op sizes (operands (r ∷ []))

abbrev pub two : Op → List ℕ → Valued → Valued → Valued
two op sizes l r = outcome_of_operands op sizes (operands (l ∷ r ∷ []))

abbrev pub three : Op → List ℕ → Valued → Valued → Valued → Valued
three op sizes l r c = outcome_of_operands op sizes (operands (l ∷ r ∷ c ∷ []))

module _ (place : ℕ → ℕ) where
  abbrev E : Valued → Valued
  E r = embedded_result place r

  abbrev V : Value → Value
  V v = embedded_value place v

  -- ---- from values to results

  pub at_one : (op : Op) (sizes : List ℕ) (f : Value → Valued) → ((a : Value) → outcome op sizes (V a ∷ []) ≡ E (f a))
      → (r : Valued) → one op sizes (E r) ≡ E (on_value f r)
  at_one op sizes f each (Ok a) = each a
  at_one op sizes f each (Err fault) = refl

  pub at_two : (op : Op) (sizes : List ℕ) (f : Value → Value → Valued)
      → ((a b : Value) → outcome op sizes (V a ∷ V b ∷ []) ≡ E (f a b))
      → (l r : Valued) → two op sizes (E l) (E r) ≡ E (on_both f l r)
  at_two op sizes f each (Err fault) r = refl
  at_two op sizes f each (Ok a) (Err fault) = refl
  at_two op sizes f each (Ok a) (Ok b) = each a b

  -- ---- operators of words alone

  words_give : (op : Op) (sizes : List ℕ) (f : ℕ → ℕ → Valued)
      → ((s t x y : ℕ) → at_words op sizes (values.Int s x) (values.Int t y) (values.Int 0 0) ≡ E (f x y))
      → ((a b : Value) → by_rule op sizes a b (values.Int 0 0) ≡ Err faults.Kind)
      → (a b : Value) → outcome op sizes (V a ∷ V b ∷ []) ≡ E (on_words f a b)
  words_give op sizes f each kind (values.Int s x) (values.Int t y) = each s t x y
  words_give op sizes f each kind (values.Int s x) (values.Ptr o y) = kind (values.Int s x) (values.Ptr (place o) y)
  words_give op sizes f each kind (values.Ptr o x) (values.Int t y) = kind (values.Ptr (place o) x) (values.Int t y)
  words_give op sizes f each kind (values.Ptr o x) (values.Ptr p y) = kind (values.Ptr (place o) x) (values.Ptr (place p) y)

  abbrev S : List ℕ
  S = 32 ∷ []

  abbrev D : List ℕ
  D = 32 ∷ 32 ∷ []

  divided : (test : Bool) (r : Valued)
      → (if test then Err faults.Divide else E r) ≡ E (if test then Err faults.Divide else r)
  divided true r = refl
  divided false r = refl

  pub signed_quotient : (a b : Value) → outcome ops.SDiv D (V a ∷ V b ∷ []) ≡ E (quotient Int a b)
  signed_quotient a b =
      words_give ops.SDiv D (λ x y. if y == 0 then Err faults.Divide else number (int_div (signed 32 x) (signed 32 y)))
      (λ s t x y. divided (y == 0) (number (int_div (signed 32 x) (signed 32 y)))) (λ a b. refl) a b

  pub unsigned_quotient : (a b : Value) → outcome ops.UDiv D (V a ∷ V b ∷ []) ≡ E (quotient UnsignedInt a b)
  unsigned_quotient a b =
      words_give ops.UDiv D (λ x y. if y == 0 then Err faults.Divide else number (int_div (pos x) (pos y)))
      (λ s t x y. divided (y == 0) (number (int_div (pos x) (pos y)))) (λ a b. refl) a b

  pub signed_remainder : (a b : Value) → outcome ops.SMod D (V a ∷ V b ∷ []) ≡ E (remainder Int a b)
  signed_remainder a b =
      words_give ops.SMod D (λ x y. if y == 0 then Err faults.Divide else number (signed 32 x -ℤ (signed 32 y *ℤ int_div (signed 32 x) (signed 32 y))))
      (λ s t x y. divided (y == 0) (number (signed 32 x -ℤ (signed 32 y *ℤ int_div (signed 32 x) (signed 32 y))))) (λ a b. refl) a b

  pub unsigned_remainder : (a b : Value) → outcome ops.UMod D (V a ∷ V b ∷ []) ≡ E (remainder UnsignedInt a b)
  unsigned_remainder a b =
      words_give ops.UMod D (λ x y. if y == 0 then Err faults.Divide else number (pos x -ℤ (pos y *ℤ int_div (pos x) (pos y))))
      (λ s t x y. divided (y == 0) (number (pos x -ℤ (pos y *ℤ int_div (pos x) (pos y))))) (λ a b. refl) a b

  pub left_shift : (a b : Value) → outcome ops.LShift D (V a ∷ V b ∷ []) ≡ E (shifted_left a b)
  left_shift a b = words_give ops.LShift D (λ x y. number (pos (x * 2 ^ y))) (λ s t x y. refl) (λ a b. refl) a b

  pub signed_shift : (a b : Value) → outcome ops.RShiftA D (V a ∷ V b ∷ []) ≡ E (shifted_right Int a b)
  signed_shift a b = words_give ops.RShiftA D (λ x y. number (int_div_euclid (signed 32 x) (pos (2 ^ y)))) (λ s t x y. refl) (λ a b. refl) a b

  pub unsigned_shift : (a b : Value) → outcome ops.RShift D (V a ∷ V b ∷ []) ≡ E (shifted_right UnsignedInt a b)
  unsigned_shift a b = words_give ops.RShift D (λ x y. number (int_div_euclid (pos x) (pos (2 ^ y)))) (λ s t x y. refl) (λ a b. refl) a b

  pub and_bits : (a b : Value) → outcome ops.And S (V a ∷ V b ∷ []) ≡ E (bitwise bit_and a b)
  and_bits a b = words_give ops.And S (λ x y. number (pos (bit_and x y))) (λ s t x y. refl) (λ a b. refl) a b

  pub or_bits : (a b : Value) → outcome ops.Or S (V a ∷ V b ∷ []) ≡ E (bitwise bit_or a b)
  or_bits a b = words_give ops.Or S (λ x y. number (pos (bit_or x y))) (λ s t x y. refl) (λ a b. refl) a b

  pub xor_bits : (a b : Value) → outcome ops.Xor S (V a ∷ V b ∷ []) ≡ E (bitwise bit_xor a b)
  xor_bits a b = words_give ops.Xor S (λ x y. number (pos (bit_xor x y))) (λ s t x y. refl) (λ a b. refl) a b

  -- ---- operators of one operand

  pub negated : (a : Value) → outcome ops.Neg S (V a ∷ []) ≡ E (negation a)
  negated (values.Int s x) = refl
  negated (values.Ptr o x) = refl

  pub complemented : (a : Value) → outcome ops.Not S (V a ∷ []) ≡ E (complement a)
  complemented (values.Int s x) = refl
  complemented (values.Ptr o x) = refl

  -- ---- products

  -- the lowest 32 bits of a product of 64
  pub signed_product : (l r : Valued)
      → one ops.Trunc (64 ∷ 32 ∷ []) (two ops.SMul D (E l) (E r)) ≡ E (on_both (product Int) l r)
  signed_product (Err fault) r = refl
  signed_product (Ok a) (Err fault) = refl
  signed_product (Ok (values.Int s x)) (Ok (values.Int t y)) = ap (λ (w : ℕ). Ok (values.Int 32 w)) (of_64 (signed 32 x *ℤ signed 32 y))
  signed_product (Ok (values.Int s x)) (Ok (values.Ptr o y)) = refl
  signed_product (Ok (values.Ptr o x)) (Ok (values.Int t y)) = refl
  signed_product (Ok (values.Ptr o x)) (Ok (values.Ptr p y)) = refl

  pub unsigned_product : (l r : Valued)
      → one ops.Trunc (64 ∷ 32 ∷ []) (two ops.UMul D (E l) (E r)) ≡ E (on_both (product UnsignedInt) l r)
  unsigned_product (Err fault) r = refl
  unsigned_product (Ok a) (Err fault) = refl
  unsigned_product (Ok (values.Int s x)) (Ok (values.Int t y)) = ap (λ (w : ℕ). Ok (values.Int 32 w)) (of_64 (pos x *ℤ pos y))
  unsigned_product (Ok (values.Int s x)) (Ok (values.Ptr o y)) = refl
  unsigned_product (Ok (values.Ptr o x)) (Ok (values.Int t y)) = refl
  unsigned_product (Ok (values.Ptr o x)) (Ok (values.Ptr p y)) = refl

  -- with or without a sign, the lowest bits are the same
  pub same_product : (a b : Value) → product UnsignedInt a b ≡ product Int a b
  same_product (values.Int s x) (values.Int t y) = ap (λ (w : ℕ). Ok (values.Int 32 w)) (product_word x y)
  same_product (values.Int s x) (values.Ptr o y) = refl
  same_product (values.Ptr o x) b = refl

  -- ---- sums and differences

  pub sums : (l r : Valued) → three ops.Add S (E l) (E r) (Ok (values.Int 1 0)) ≡ E (on_both sum l r)
  sums (Err fault) r = refl
  sums (Ok a) (Err fault) = refl
  sums (Ok (values.Int s x)) (Ok (values.Int t y)) = ap (λ (n : ℕ). number (pos n)) (plain (x + y))
    where
      plain : (n : ℕ) → n + 0 ≡ n
      plain n = omega arith
  sums (Ok (values.Int s x)) (Ok (values.Ptr o y)) = ap (λ (n : ℕ). Ok (values.Ptr (place o) (word 32 (pos n)))) (plain (x + y))
    where
      plain : (n : ℕ) → n + 0 ≡ n
      plain n = omega arith
  sums (Ok (values.Ptr o x)) (Ok (values.Int t y)) = ap (λ (n : ℕ). Ok (values.Ptr (place o) (word 32 (pos n)))) (plain (x + y))
    where
      plain : (n : ℕ) → n + 0 ≡ n
      plain n = omega arith
  sums (Ok (values.Ptr o x)) (Ok (values.Ptr p y)) = refl

  -- frames are one where they were one
  pub same_frame : ((o p : ℕ) → place o ≡ place p → o ≡ p) → (o p : ℕ) → (place o == place p) ≡ (o == p)
  same_frame apart o p =
      by_test (o == p)
      (λ same. eq-eqb (place o) (place p) (ap place (eqb-true o p same)) ∙ sym same)
      (λ differ. ne_eqb (place o) (place p) (λ e. not_both (sym differ ∙ eq-eqb o p (apart o p e))) ∙ sym differ)
    where
      not_both : false ≡ true → ⊥
      not_both is = cc

  either : (test : Bool) (r : Valued) (fault : RunFault)
      → (if test then E r else Err fault) ≡ E (if test then r else Err fault)
  either true r fault = refl
  either false r fault = refl

  pub differences : ((o p : ℕ) → place o ≡ place p → o ≡ p) → (l r : Valued) → FitsResult 32 r
      → three ops.Sub S (E l) (E r) (Ok (values.Int 1 1)) ≡ E (on_both difference l r)
  differences apart (Err fault) r fits = refl
  differences apart (Ok a) (Err fault) fits = refl
  differences apart (Ok (values.Int s x)) (Ok (values.Int t y)) fits = ap (λ (w : ℕ). Ok (values.Int 32 w)) (less_word x y fits.1)
  differences apart (Ok (values.Int s x)) (Ok (values.Ptr o y)) fits = refl
  differences apart (Ok (values.Ptr o x)) (Ok (values.Int t y)) fits = ap (λ (w : ℕ). Ok (values.Ptr (place o) w)) (less_word x y fits.1)
  differences apart (Ok (values.Ptr o x)) (Ok (values.Ptr p y)) fits =
      ap (λ (w : ℕ). if place o == place p then Ok (values.Int 32 w) else Err faults.Pointers) (less_word x y fits.1)
      ∙ ap (λ (test : Bool). if test then number (pos x -ℤ pos y) else Err faults.Pointers) (same_frame apart o p)
      ∙ either (o == p) (number (pos x -ℤ pos y)) faults.Pointers
