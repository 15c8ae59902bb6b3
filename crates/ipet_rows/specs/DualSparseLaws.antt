-- A column's sum by its terms is its sum over all rows.
--   Sums n f answer     the answer is the sum of f, or the first place at which it is wide
--   column_summed       so of a column of a program
use Rattle.std.proofs.Common.{◌≡◌, ℕ, ℤ, pos, suc, ◌<◌, ◌+◌, add-one, arith, refl, sym, ap, ◌∙◌, subst, List, [], ◌∷◌, length, Option, Some, None, true, false, Bool}
use Rattle.std.specs.Prelude.{◌+ℤ◌, ◌*ℤ◌, ◌&&◌, Result, Ok, Err}
use Rattle.std.proofs.lemmas.Int.{ints}
use Rattle.ipet_rows.specs.Sums.{total, coefficient}
use Rattle.ipet_rows.specs.Programs.{Row, Program, row_at}
use Rattle.ipet_rows.specs.Rows.{vanishes}
use Rattle.ipet_rows.specs.UseLaws.{vanish_is}
use Rattle.whole_numbers.specs.MultipleLaws.{by_test}
use Rattle.ipet_rows.specs.Firsts.{entry, fits}
use Rattle.ipet_rows.specs.Duals.{column_part}
use Rattle.ipet_rows.specs.Verdicts.{first_wide, wide_at, summed}
use Rattle.ipet_rows.specs.Sparse.{with_sum, summed_terms, column_terms}
use Rattle.ipet_rows.specs.FirstLaws.{first_none, wide_here, narrow_here}

-- the answer is the sum of f, or the first place at which it is wide
abbrev pub Sums : ℕ → (ℕ → ℤ) → Result ℤ ℕ → Type 0
Sums n f (Ok sum) = (first_wide n f ≡ None) × (sum ≡ total n f)
Sums n f (Err k) = first_wide n f ≡ Some k

-- up to place b nothing is wide, and this is the sum
pub record UpTo (f : ℕ → ℤ) (b : ℕ) (sum : ℤ) : Type 0 where
  pub narrow : first_wide b f ≡ None
  pub is : sum ≡ total b f
  pub fit : fits sum ≡ true

-- a place with nothing
nothing_here : (f : ℕ → ℤ) (b : ℕ) (sum : ℤ) → UpTo f b sum → f b ≡ pos 0 → UpTo f (b + 1) sum
nothing_here f b sum u none =
    let same : total b f +ℤ f b ≡ sum = omega (arith, ints, u.is, none) in
    let narrow : wide_at f b ≡ None = rw (same, none, u.fit) refl in
    record { narrow = first_none b (wide_at f) u.narrow narrow; is = rw add-one (sym same); fit = u.fit }

some_fit : (sum product v : ℤ) → summed sum product ≡ Some v → fits v ≡ true
some_fit sum product v e = by_test (fits product && fits (sum +ℤ product))
    (λ is. let z : summed sum product ≡ Some (sum +ℤ product) = rw is refl in
    let same : sum +ℤ product ≡ v = cc in
    rw (← same) (both (fits product) (fits (sum +ℤ product)) is))
    (λ clear. let z : summed sum product ≡ None = rw clear refl in absurd cc)
  where
    both : (a b : Bool) → (a && b) ≡ true → b ≡ true
    both true b e = e
    both false b e = absurd cc

-- a place with a product
product_here : (f : ℕ → ℤ) (b n : ℕ) (sum : ℤ) (next : Option ℤ) (more : ℤ → Result ℤ ℕ) → b < n → UpTo f b sum
    → summed sum (f b) ≡ next
    → ((v : ℤ) → UpTo f (b + 1) v → Sums n f (more v)) → Sums n f (with_sum b next more)
product_here f b n sum None more below u e rest = wide_here n b f below u.narrow (subst (λ (z : ℤ). summed z (f b) ≡ None) u.is e)
product_here f b n sum (Some v) more below u e rest =
    let next = narrow_here b f v u.narrow (subst (λ (z : ℤ). summed z (f b) ≡ Some v) u.is e) in
    rest v (record { narrow = next.1; is = next.0; fit = some_fit sum (f b) v e })

-- from row b on
from_row : (ys : List ℤ) (e : ℕ) (f : ℕ → ℤ) (b n : ℕ) (rows : List Row) (sum : ℤ) → n ≡ b + length rows
    → ((j k : ℕ) → k ≡ b + j → j < length rows → f k ≡ entry ys k *ℤ coefficient (row_at rows j).terms e)
    → UpTo f b sum → Sums n f (summed_terms ys (column_terms e b rows) sum)
from_row ys e f b n [] sum long same u =
    let end : n ≡ b = omega (arith, long) in
    subst (λ (m : ℕ). Sums m f (Ok sum)) (sym end) (u.narrow, u.is)
from_row ys e f b n (r ∷ rows) sum long same u =
    let here : f b ≡ entry ys b *ℤ coefficient r.terms e = same 0 b (omega arith) (omega arith) in
    let later : (j k : ℕ) → k ≡ (b + 1) + j → j < length rows → f k ≡ entry ys k *ℤ coefficient (row_at rows j).terms e = λ j k is below. same (suc j) k (omega (arith, is)) (omega (arith, below)) in
    let rest : (v : ℤ) → UpTo f (b + 1) v → Sums n f (summed_terms ys (column_terms e (b + 1) rows) v) =
    λ v up. from_row ys e f (b + 1) n rows v (omega (arith, long)) later up in
    by_test (vanishes (coefficient r.terms e))
    (λ is. rw is (rest sum (nothing_here f b sum u (here ∙ ap (λ (z : ℤ). entry ys b *ℤ z) (vanish_is (coefficient r.terms e) is) ∙ omega (arith, ints)))))
    (λ clear. rw clear (product_here f b n sum (summed sum (entry ys b *ℤ coefficient r.terms e)) (summed_terms ys (column_terms e (b + 1) rows)) (omega (arith, long)) u (ap (summed sum) here) rest))

-- a column's sum by its terms
pub column_summed : (p : Program) (ys : List ℤ) (e : ℕ)
    → Sums (length p.rows) (column_part p ys e) (summed_terms ys (column_terms e 0 p.rows) (pos 0))
column_summed p ys e = from_row ys e (column_part p ys e) 0 (length p.rows) p.rows (pos 0) (omega arith)
    (λ j k is below. let at_row : k ≡ j = omega (arith, is) in rw at_row refl) (record { narrow = refl; is = refl; fit = refl })
