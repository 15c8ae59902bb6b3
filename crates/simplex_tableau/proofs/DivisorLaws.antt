-- The common divisor of a line: that of its terms is that of all its places, and a divided line has 1.
--   gcd_from_above       it is above 0 where the number that it starts from is
--   gcd_from_first, gcd_from_each, gcd_from_greatest   it divides all, and what divides all divides it
--   gcd_is_line          started from one of the line's numbers above 0, it is that of the whole line
--   reduced_one          a line divided by its common divisor has the divisor 1
--   turned_gcd           a line turned has the divisor of the line
use Rattle.std.proofs.Common.{◌≡◌, ℕ, ℤ, pos, negsuc, neg_ℤ, zero, suc, ◌≤◌, arith, refl, sym, ap, ◌∙◌, List, [], ◌∷◌, subst}
use Rattle.std.specs.Prelude.{◌*ℤ◌, ◌-ℤ◌, ◌≤ℤ◌, unsigned_abs}
use Rattle.std.proofs.lemmas.Int.{ints}
use Rattle.std.proofs.Math.IntN.{*ℤ_comm}
use Rattle.whole_numbers.specs.Numbers.{Divides, gcd, gcd_nat}
use Rattle.whole_numbers.specs.MultipleLaws.{divides_zero, divides_through, divides_scaled}
use Rattle.whole_numbers.specs.DivisionLaws.{divides_at_most}
use Rattle.whole_numbers.specs.ProductLaws.{times_not_negative}
use Rattle.whole_numbers.specs.GcdLaws.{gcd_first, gcd_second, gcd_is_greatest}
use Rattle.ipet_rows.specs.Sums.{coefficient, IsAscending}
use Rattle.ipet_rows.specs.Programs.{IsWithin}
use Rattle.ipet_rows.specs.Firsts.{entry}
use Rattle.ipet_rows.specs.SumLaws.{times_difference}
use Rattle.simplex_rules.specs.Lines.{spread, times_line, line_gcd, reduced}
use Rattle.simplex_rules.specs.MixingLaws.{cancel_above, cancel_at_least}
use Rattle.simplex_rules.specs.StepLaws.{divisor_above, line_gcd_least, line_gcd_divides, entry_divided, first_gcd_above}
use Rattle.simplex_rules.specs.FirstTableauLaws.{spread_is}
use Rattle.simplex_tableau.specs.Reducing.{gcd_from}
use Rattle.simplex_tableau.proofs.ReducingLaws.{DividesEach}
use Rattle.simplex_tableau.proofs.TermLemmas.{each_of, each_at}

-- ---- the divisor of the terms

pub gcd_from_above : (g : ℤ) (ts : List (ℕ × ℤ)) → pos 1 ≤ℤ g → pos 1 ≤ℤ gcd_from g ts
gcd_from_above g [] above = above
gcd_from_above g (t ∷ ts) above = gcd_from_above (gcd g t.1) ts (first_gcd_above g t.1 above)

pub gcd_from_first : (g : ℤ) (ts : List (ℕ × ℤ)) → Divides (gcd_from g ts) g
gcd_from_first g [] = record { times = pos 1; is = omega (arith, ints) }
gcd_from_first g (t ∷ ts) = divides_through (gcd_from g (t ∷ ts)) (gcd g t.1) g (gcd_from_first (gcd g t.1) ts) (gcd_first g t.1)

pub gcd_from_each : (g : ℤ) (ts : List (ℕ × ℤ)) → DividesEach (gcd_from g ts) ts
gcd_from_each g [] = tt
gcd_from_each g (t ∷ ts) =
    (divides_through (gcd_from g (t ∷ ts)) (gcd g t.1) t.1 (gcd_from_first (gcd g t.1) ts) (gcd_second g t.1), gcd_from_each (gcd g t.1) ts)

pub gcd_from_greatest : (d g : ℤ) (ts : List (ℕ × ℤ)) → Divides d g → DividesEach d ts → Divides d (gcd_from g ts)
gcd_from_greatest d g [] one each_one = one
gcd_from_greatest d g (t ∷ ts) one each_one = gcd_from_greatest d (gcd g t.1) ts ((gcd_is_greatest g t.1).greatest d one each_one.0) each_one.1

-- ---- the divisor of a whole line

line_gcd_greatest : (d : ℤ) (f : List ℤ) → ((j : ℕ) → Divides d (entry f j)) → Divides d (line_gcd f)
line_gcd_greatest d [] each_one = divides_zero d
line_gcd_greatest d (x ∷ f) each_one = (gcd_is_greatest x (line_gcd f)).greatest d (each_one 0) (line_gcd_greatest d f (λ j. each_one (suc j)))

same_divisor : (a b : ℤ) → pos 1 ≤ℤ a → pos 0 ≤ℤ b → Divides a b → Divides b a → a ≡ b
same_divisor a b above least m n =
    let b_above = divisor_above b a least n above in
    let one : a ≤ℤ b = divides_at_most a b m (omega (arith, ints, b_above)) (omega (arith, ints, above)) in
    let two : b ≤ℤ a = divides_at_most b a n (omega (arith, ints, above)) least in
    omega (arith, ints, one, two)

-- the divisor of the terms, started from one of their numbers, is that of the whole line
pub gcd_is_line : (w : ℕ) (first : ℤ) (own : ℕ) (ts : List (ℕ × ℤ)) → IsWithin w ts → IsAscending ts
    → first ≡ coefficient ts own → pos 1 ≤ℤ first
    → gcd_from first ts ≡ line_gcd (spread w 0 ts)
gcd_is_line w first own ts within rises is above =
    let f = spread w 0 ts in
    let at_place : (j : ℕ) → Divides (line_gcd (spread w 0 ts)) (coefficient ts j) =
    λ j. subst (λ (z : ℤ). Divides (line_gcd f) z) (spread_is w ts j within) (line_gcd_divides f j) in
    same_divisor (gcd_from first ts) (line_gcd f) (gcd_from_above first ts above) (line_gcd_least f)
    (line_gcd_greatest (gcd_from first ts) f
    (λ j. subst (λ (z : ℤ). Divides (gcd_from first ts) z) (sym (spread_is w ts j within)) (each_at (gcd_from first ts) ts j (gcd_from_each first ts))))
    (gcd_from_greatest (line_gcd f) first ts (subst (λ (z : ℤ). Divides (line_gcd f) z) (sym is) (at_place own)) (each_of (line_gcd f) ts rises at_place))

-- a line divided by its common divisor has the divisor 1
pub reduced_one : (f : List ℤ) → pos 1 ≤ℤ line_gcd f → line_gcd (reduced f) ≡ pos 1
reduced_one f above =
    let g = line_gcd f in
    let d = line_gcd (reduced f) in
    let each_one : (j : ℕ) → Divides (line_gcd (reduced f) *ℤ line_gcd f) (entry f j) = λ j.
    subst (λ (z : ℤ). Divides (d *ℤ g) z) (*ℤ_comm (entry (reduced f) j) g ∙ entry_divided g f j above (line_gcd_divides f))
    (divides_scaled g d (entry (reduced f) j) (line_gcd_divides (reduced f) j)) in
    let m : Divides (line_gcd (reduced f) *ℤ line_gcd f) (line_gcd f) = line_gcd_greatest (d *ℤ g) f each_one in
    let turn : d *ℤ g ≡ g *ℤ d = *ℤ_comm d g in
    let d_least : pos 0 ≤ℤ line_gcd (reduced f) = line_gcd_least (reduced f) in
    let product_least : pos 0 ≤ℤ (line_gcd (reduced f) *ℤ line_gcd f) = times_not_negative d g d_least (omega (arith, ints, above)) in
    let product_above : pos 1 ≤ℤ (line_gcd (reduced f) *ℤ line_gcd f) = divisor_above (d *ℤ g) g product_least m above in
    let product_most : (line_gcd (reduced f) *ℤ line_gcd f) ≤ℤ line_gcd f = divides_at_most (d *ℤ g) g m (omega (arith, ints, above)) product_least in
    let least : pos 1 ≤ℤ line_gcd (reduced f) = cancel_above g d above (rw (← turn) product_above) in
    let one : line_gcd f *ℤ pos 1 ≡ line_gcd f = omega (arith, ints) in
    let most : pos 0 ≤ℤ (pos 1 -ℤ line_gcd (reduced f)) =
    cancel_at_least g (pos 1 -ℤ d) above (omega (arith, ints, times_difference g (pos 1) d, one, turn, product_most)) in
    omega (arith, ints, least, most)

times_size : (x : ℤ) → unsigned_abs (neg_ℤ (pos 1) *ℤ x) ≡ unsigned_abs x
times_size (pos zero) = refl
times_size (pos (suc n)) = omega (arith, ints)
times_size (negsuc n) = omega (arith, ints)

-- a line turned has the divisor of the line
pub turned_gcd : (f : List ℤ) → line_gcd (times_line (neg_ℤ (pos 1)) f) ≡ line_gcd f
turned_gcd [] = refl
turned_gcd (x ∷ f) =
    ap (λ (n : ℕ). pos (gcd_nat n (unsigned_abs (line_gcd (times_line (neg_ℤ (pos 1)) f))))) (times_size x)
    ∙ ap (λ (z : ℤ). gcd x z) (turned_gcd f)
