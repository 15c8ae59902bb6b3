-- Tables of truth values, as lists of rows.
--   truth bits a         the truth value at a place of a row: false past its end
--   cell table a b       the truth value in row a at the place b
--   tabled m n f         the table of m rows of n places with these truth values
use Rattle.std.proofs.Common.{ℕ, Bool, false, List, [], slice_index_or}
use Rattle.recorder_rules.specs.Generated.{generated}

-- the truth value at a place of a row
abbrev pub truth : List Bool → ℕ → Bool
truth bits a = slice_index_or bits a false

-- the truth value in row a at the place b
abbrev pub cell : List (List Bool) → ℕ → ℕ → Bool
cell table a b = truth (slice_index_or table a []) b

-- the table with these truth values
abbrev pub tabled : ℕ → ℕ → (ℕ → ℕ → Bool) → List (List Bool)
tabled m n f = generated m (λ a. generated n (λ b. f a b))
