-- Laws of terms.
--   TakesOne, TakesTwo, TakesThree op sizes a .. s   an operator at these sizes takes operands of the sizes a .. and gives one of the size s
--   number_term, address_term, load_term, one_term, two_term, three_term   terms of each form
use Rattle.std.proofs.Common.{◌≡◌, ◌<◌, ◌≤◌, ◌^◌, ℕ, suc, Bool, true, List, Option, None, Some, refl, sym, ap, arith, eq-eqb, if◌then◌else◌}
use Rattle.alf_ops.specs.declared.operator.Op.{Op}
use Rattle.alf_ops.specs.Table.{result_size, operand_size}
use Rattle.alf_program.specs.Tree.{NamedExpression, Number, Address, Load, Function, WholeProgram}
use Rattle.alf_program.specs.Writable.{IsLoadSize, AreSizesOf, operand_count}
use Rattle.alf_faults.specs.Fault.{is_exactly}
use Rattle.alf_faults.specs.TermSizes.{same_size, term_size}
use Rattle.c_lowered.specs.Values.{of_one, of_two, of_three}
use Rattle.lowering_checks.specs.Terms.{IsUsable, Term}

pub record TakesOne (op : Op) (sizes : List ℕ) (a s : ℕ) : Type 0 where
  pub are : AreSizesOf op sizes
  pub count : operand_count op ≡ 1
  pub first : operand_size op sizes 0 ≡ Some a
  pub none : operand_size op sizes 1 ≡ None
  pub result : result_size op sizes ≡ Some s

pub record TakesTwo (op : Op) (sizes : List ℕ) (a b s : ℕ) : Type 0 where
  pub are : AreSizesOf op sizes
  pub count : operand_count op ≡ 2
  pub first : operand_size op sizes 0 ≡ Some a
  pub second : operand_size op sizes 1 ≡ Some b
  pub none : operand_size op sizes 2 ≡ None
  pub result : result_size op sizes ≡ Some s

pub record TakesThree (op : Op) (sizes : List ℕ) (a b c s : ℕ) : Type 0 where
  pub are : AreSizesOf op sizes
  pub count : operand_count op ≡ 3
  pub first : operand_size op sizes 0 ≡ Some a
  pub second : operand_size op sizes 1 ≡ Some b
  pub third : operand_size op sizes 2 ≡ Some c
  pub none : operand_size op sizes 3 ≡ None
  pub result : result_size op sizes ≡ Some s

fits_same : (a : ℕ) (wanted given : Option ℕ) → wanted ≡ Some a → given ≡ Some a → same_size wanted given ≡ true
fits_same a wanted given w g = rw (w, g) (eq-eqb a a refl)

module _ (whole : WholeProgram) (func : Function) where
  pub deeper : (s m n : ℕ) (e : NamedExpression) → m ≤ n → Term whole func s m e → Term whole func s n e
  deeper s m n e low t = record { parts = t.parts; depth = (let d = t.depth in omega (arith, d, low)); size = t.size; sees = t.sees }

  pub number_term : (sign : Bool) (s bits n : ℕ) → 1 ≤ s → s ≤ 64 → bits < 2 ^ s → 1 ≤ n
      → Term whole func s n (Number (record { signed = sign; size = s; bits = bits }))
  number_term sign s bits n some small fits low = record { parts = record { some = some; small = small; fits = fits }; depth = low; size = refl; sees = tt }

  pub address_term : (name : List ℕ) (offset n : ℕ) → IsUsable whole func name → offset < 2 ^ 32 → 1 ≤ n
      → Term whole func 32 n (Address name offset)
  address_term name offset n is low some = record { parts = record { name = is.written; offset = low }; depth = some; size = refl; sees = is.seen }

  pub load_term : (s n : ℕ) (at : NamedExpression) → IsLoadSize s → Term whole func 32 n at
      → Term whole func s (suc n) (Load s at)
  load_term s n at is t = record {
    parts = (is, t.parts);
    depth = (let d = t.depth in omega (arith, d));
    size = ap (λ (o : Option ℕ). if is_exactly 32 o then Some s else None) t.size;
    sees = t.sees;
  }

  pub one_term : (op : Op) (sizes : List ℕ) (a s n : ℕ) (e : NamedExpression) → TakesOne op sizes a s
      → Term whole func a n e → Term whole func s (suc n) (of_one op sizes e)
  one_term op sizes a s n e takes t = record {
    parts = (takes.are, sym takes.count, (t.parts, tt));
    depth = (let d = t.depth in omega (arith, d));
    size = rw (fits_same a (operand_size op sizes 0) (term_size e) takes.first t.size, takes.none) takes.result;
    sees = (t.sees, tt);
  }

  pub two_term : (op : Op) (sizes : List ℕ) (a b s n : ℕ) (l r : NamedExpression) → TakesTwo op sizes a b s
      → Term whole func a n l → Term whole func b n r
      → Term whole func s (suc n) (of_two op sizes l r)
  two_term op sizes a b s n l r takes t u = record {
    parts = (takes.are, sym takes.count, (t.parts, (u.parts, tt)));
    depth = (let d = t.depth in let e = u.depth in omega (arith, d, e));
    size =
        rw (
          fits_same a (operand_size op sizes 0) (term_size l) takes.first t.size,
          fits_same b (operand_size op sizes 1) (term_size r) takes.second u.size,
          takes.none,
        ) takes.result;
    sees = (t.sees, (u.sees, tt));
  }

  pub three_term : (op : Op) (sizes : List ℕ) (a b c s n : ℕ) (l r x : NamedExpression) → TakesThree op sizes a b c s
      → Term whole func a n l
      → Term whole func b n r → Term whole func c n x → Term whole func s (suc n) (of_three op sizes l r x)
  three_term op sizes a b c s n l r x takes t u v = record {
    parts = (takes.are, sym takes.count, (t.parts, (u.parts, (v.parts, tt))));
    depth = (let d = t.depth in let e = u.depth in let f = v.depth in omega (arith, d, e, f));
    size = rw (
      fits_same a (operand_size op sizes 0) (term_size l) takes.first t.size,
      fits_same b (operand_size op sizes 1) (term_size r) takes.second u.size,
      fits_same c (operand_size op sizes 2) (term_size x) takes.third v.size,
      takes.none,
    ) takes.result;
    sees = (t.sees, (u.sees, (v.sees, tt)));
  }
