-- Numbers of columns, by ascending number, and the terms that are found by them.
--   least_of xs limit     the first number, or the limit if that is less
--   past_of xs m          the numbers without the first where that is m
--   has xs j              the number is among them
--   IsRising b xs         they rise, from b on
--   touches n c           the column leads from the node or into it
--   touching_of n b cs    the numbers of the columns that do, the first being b
--   AreTouching cs lists  the lists have them, by node
--   terms_upto g n        what g has at 0 to n - 1, where that is not 0
use Rattle.std.specs.Prelude.{◌≡◌, ◌==◌, ◌||◌, ◌+◌, ◌≤◌, nat_lt, ℕ, zero, suc, ℤ, Bool, false, List, [], ◌∷◌, ◌++◌, get_or, if◌then◌else◌}
use Rattle.ipet_rows.specs.Columns.{Column}
use Rattle.dual_check.specs.Terms.{term_if}

-- the first number, or the limit if that is less
abbrev pub least_of : List ℕ → ℕ → ℕ
least_of [] limit = limit
least_of (x ∷ xs) limit = if nat_lt x limit then x else limit

-- the numbers without the first where that is m
abbrev pub past_of : List ℕ → ℕ → List ℕ
past_of [] m = []
past_of (x ∷ xs) m = if x == m then xs else (x ∷ xs)

-- the number is among them
abbrev pub has : List ℕ → ℕ → Bool
has [] j = false
has (x ∷ xs) j = (x == j) || has xs j

-- they rise, from b on
abbrev pub IsRising : ℕ → List ℕ → Type 0
IsRising b [] = Unit {0}
IsRising b (x ∷ xs) = (b ≤ x) × IsRising (x + 1) xs

-- the column leads from the node or into it
abbrev pub touches : ℕ → Column → Bool
touches n c = (n == c.from) || (n == c.into)

-- the numbers of the columns that do
abbrev pub touching_of : ℕ → ℕ → List Column → List ℕ
touching_of n b [] = []
touching_of n b (c ∷ cs) = if touches n c then (b ∷ touching_of n (b + 1) cs) else touching_of n (b + 1) cs

-- the lists have them, by node
abbrev pub AreTouching : List Column → List (List ℕ) → Type 0
AreTouching cs lists = (n : ℕ) → get_or lists n [] ≡ touching_of n 0 cs

-- what g has at 0 to n - 1, where that is not 0
abbrev pub terms_upto : (ℕ → ℤ) → ℕ → List (ℕ × ℤ)
terms_upto g zero = []
terms_upto g (suc n) = terms_upto g n ++ term_if n (g n)

-- the number, if it is one
abbrev pub place_if : ℕ → Bool → List ℕ
place_if b is = if is then (b ∷ []) else []
