-- Numbers that are too large are so with more digits.
--   IsWorth base some number rest all   what the digits left are worth after the number is what all are worth
use Rattle.std.proofs.Common.{◌≡◌, ◌≤◌, ◌<◌, ◌+◌, ◌*◌, ℕ, Bool, true, false, ◌&&◌, List, [], ◌∷◌, ◌⊎◌, inl, inr, Option, Some, None, refl, sym, ◌∙◌, arith}
use Rattle.std.specs.Prelude.{◌==◌, nat_le}
use Rattle.std.proofs.lemmas.Bool.{lt-leb, cases_lt}
use Rattle.std.proofs.Math.Nat.{mul-le-mul_left}
use Rattle.c_tokens.specs.declared.worth.Worth.{Worth}
use Rattle.c_tokens.specs.declared.worth.Worth.TheVariants as worth
use Rattle.c_tokens.specs.Worth.{digit_in, is_last, at_end, on_digit, number_from, unsigned_worth, plain_worth, judge}

pub record IsWorth (base : ℕ) (some : Bool) (number : ℕ) (rest : List ℕ) (all : Worth) : Type 0 where
  pub same : judge base (number_from base some number rest) ≡ all
  pub within : number ≤ 68719476735

unsigned_large : (n : ℕ) → 4294967295 < n → unsigned_worth n ≡ worth.TooLarge
unsigned_large n lt = let e : nat_le n 4294967295 ≡ false = lt-leb n 4294967295 lt in rw e refl

plain_large : (decimal : Bool) (n : ℕ) → 4294967295 < n → plain_worth decimal n ≡ worth.TooLarge
plain_large true n lt = let e : nat_le n 2147483647 ≡ false = lt-leb n 2147483647 (omega arith) in rw e refl
plain_large false n lt = let e : nat_le n 2147483647 ≡ false = lt-leb n 2147483647 (omega arith) in rw e (unsigned_large n lt)

grows : (base n d : ℕ) → 2 ≤ base → n ≤ n * base + d
grows base n d le = let m : n * 1 ≤ n * base = mul-le-mul_left n (omega arith) in omega (arith, m)

ends_large : (base : ℕ) (some suffix : Bool) (n m : ℕ) → 4294967295 < n → 4294967295 < m
    → judge base (at_end some n suffix) ≡ judge base (at_end some m suffix)
ends_large base true true n m l k = unsigned_large n l ∙ sym (unsigned_large m k)
ends_large base true false n m l k = plain_large (base == 10) n l ∙ sym (plain_large (base == 10) m k)
ends_large base false suffix n m l k = refl

-- of two numbers that are too large it does not matter which stands before the digits
both_large : (base : ℕ) (some : Bool) (n m : ℕ) (rest : List ℕ) → 2 ≤ base → 4294967295 < n → 4294967295 < m
    → judge base (number_from base some n rest) ≡ judge base (number_from base some m rest)
both_large base some n m [] le l k = ends_large base some false n m l k
both_large base some n m (b ∷ bs) le l k = by_digit (digit_in base b) (λ d. both_large base true (n * base + d) (m * base + d) bs le (omega (arith, grows base n d le)) (omega (arith, grows base m d le)))
  where
    by_digit : (o : Option ℕ) → ((d : ℕ) → judge base (number_from base true (n * base + d) bs) ≡ judge base (number_from base true (m * base + d) bs))
        → judge base (on_digit o (at_end (some && is_last b bs) n true) (λ d. number_from base true (n * base + d) bs))
        ≡ judge base (on_digit o (at_end (some && is_last b bs) m true) (λ d. number_from base true (m * base + d) bs))
    by_digit None more = ends_large base (some && is_last b bs) true n m l k
    by_digit (Some d) more = more d

-- a digit was read
pub digit_read : (base : ℕ) (some : Bool) (number b d next : ℕ) (bs : List ℕ) (all : Worth) → 2 ≤ base
    → digit_in base b ≡ Some d → next ≤ 68719476735
    → (number ≤ 4294967295 → next ≡ number * base + d) → (4294967295 < number → next ≡ number) → IsWorth base some number (b ∷ bs) all → IsWorth base true next bs all
digit_read base some number b d next bs all le e within small large so = record { same = at_size (cases_lt 4294967295 number); within = within }
  where
    here : judge base (number_from base true (number * base + d) bs) ≡ all
    here = rw e at so.same

    at_size : (4294967295 < number) ⊎ (number ≤ 4294967295) → judge base (number_from base true next bs) ≡ all
    at_size (inl lt) = let same = large lt in both_large base true next (number * base + d) bs le (omega arith) (omega (arith, grows base number d le)) ∙ here
    at_size (inr ge) = rw (small ge) here

-- a byte that is no digit, or the end
pub no_digit : (base : ℕ) (some : Bool) (number b : ℕ) (bs : List ℕ) (all : Worth) → digit_in base b ≡ None
    → IsWorth base some number (b ∷ bs) all → judge base (at_end (some && is_last b bs) number true) ≡ all
no_digit base some number b bs all e so = rw e at so.same
