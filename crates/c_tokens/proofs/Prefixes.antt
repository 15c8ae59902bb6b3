-- What is known of the longest prefixes that go on.
use Rattle.std.proofs.Common.{◌≡◌, ℕ, zero, suc, ◌+◌, ◌≤◌, Bool, true, false, cond, ◌&&◌, List, [], ◌∷◌, ◌++◌, length, take, refl, arith}
use Rattle.std.specs.List.{prefix_len, list_all}
use Rattle.std.proofs.lemmas.Bool.{and_parts}
use Rattle.c_tokens.specs.Numbers.{goes_on, marks_exponent, is_number_rest, number_len}

-- ---- runs of bytes that pass a test

module _ (p : ℕ → Bool) where
  pub run_passes : (xs : List ℕ) → list_all p (take (prefix_len p xs) xs) ≡ true
  run_passes [] = refl
  run_passes (x ∷ xs) = by_byte (run_passes xs) (p x) refl
    where
      by_byte : list_all p (take (prefix_len p xs) xs) ≡ true → (t : Bool) → p x ≡ t
          → list_all p (take (cond t (1 + prefix_len p xs) 0) (x ∷ xs)) ≡ true
      by_byte more true e = let k : 1 + prefix_len p xs ≡ suc (prefix_len p xs) = omega arith in rw (k, e) more
      by_byte more false e = refl

  pub run_most : (xs : List ℕ) (m : ℕ) → m ≤ length xs → list_all p (take m xs) ≡ true → m ≤ prefix_len p xs
  run_most [] m le h = omega arith
  run_most (x ∷ xs) zero le h = omega arith
  run_most (x ∷ xs) (suc m) le h = let parts = and_parts (p x) (list_all p (take m xs)) h in rw parts.0 (omega (arith, run_most xs m (omega arith) parts.1))

  -- a byte that does not pass ends a run
  pub run_ends : (xs : List ℕ) (b : ℕ) (more : List ℕ) → p b ≡ false → list_all p (xs ++ b ∷ more) ≡ false
  run_ends [] b more e = rw e refl
  run_ends (x ∷ xs) b more e = by_first (p x) (run_ends xs b more e)
    where
      by_first : (t : Bool) → list_all p (xs ++ b ∷ more) ≡ false → t && list_all p (xs ++ b ∷ more) ≡ false
      by_first true h = h
      by_first false h = refl

-- ---- numbers

pub number_goes_on : (e : Bool) (xs : List ℕ) → is_number_rest e (take (number_len e xs) xs) ≡ true
number_goes_on e [] = refl
number_goes_on e (x ∷ xs) = by_byte (number_goes_on (marks_exponent x) xs) (goes_on e x) refl
  where
    by_byte : is_number_rest (marks_exponent x) (take (number_len (marks_exponent x) xs) xs) ≡ true → (t : Bool)
        → goes_on e x ≡ t
        → is_number_rest e (take (cond t (suc (number_len (marks_exponent x) xs)) 0) (x ∷ xs)) ≡ true
    by_byte more true h = rw h more
    by_byte more false h = refl

pub number_most : (e : Bool) (xs : List ℕ) (m : ℕ) → m ≤ length xs → is_number_rest e (take m xs) ≡ true
    → m ≤ number_len e xs
number_most e [] m le h = omega arith
number_most e (x ∷ xs) zero le h = omega arith
number_most e (x ∷ xs) (suc m) le h =
    let parts = and_parts (goes_on e x) (is_number_rest (marks_exponent x) (take m xs)) h in
    rw parts.0 (omega (arith, number_most (marks_exponent x) xs m (omega arith) parts.1))

pub number_within : (e : Bool) (xs : List ℕ) → number_len e xs ≤ length xs
number_within e [] = omega arith
number_within e (x ∷ xs) = by_byte (number_within (marks_exponent x) xs) (goes_on e x)
  where
    by_byte : number_len (marks_exponent x) xs ≤ length xs → (t : Bool)
        → cond t (suc (number_len (marks_exponent x) xs)) 0 ≤ suc (length xs)
    by_byte more true = omega arith
    by_byte more false = omega arith

-- a byte that does not go on ends a number
pub number_ends : (e : Bool) (xs : List ℕ) (b : ℕ) (more : List ℕ) → ((e : Bool) → goes_on e b ≡ false)
    → is_number_rest e (xs ++ b ∷ more) ≡ false
number_ends e [] b more stops = rw (stops e) refl
number_ends e (x ∷ xs) b more stops = by_first (goes_on e x) (number_ends (marks_exponent x) xs b more stops)
  where
    by_first : (t : Bool) → is_number_rest (marks_exponent x) (xs ++ b ∷ more) ≡ false
        → t && is_number_rest (marks_exponent x) (xs ++ b ∷ more) ≡ false
    by_first true h = h
    by_first false h = refl
