-- Sums over openings that fit 64 bits, and turns of the loops.
--   room_left       where costs and totals have 16 bits, the sum over the openings fits 64 bits
--   limited_more    one node more that is limited
use Rattle.std.proofs.Common.{◌<◌, ◌^◌, ◌+◌, ◌*◌, ℕ, zero, suc, ℤ, pos, List, length, All, inl, inr, sym, subst, arith}
use Rattle.std.specs.Prelude.{◌≤ℤ◌, ◌<ℤ◌, slice_index}
use Rattle.std.proofs.lemmas.Int.{ints}
use Rattle.std.proofs.lemmas.Bool.{cases_eq}
use Rattle.std.proofs.lemmas.List.Elements.{All-contains}
use Rattle.domain_core.specs.Outlines.{Outlined}
use Rattle.flow_facts.specs.declared.fact.Fact.{Fact}
use Rattle.flow_facts.specs.declared.fact.Fact.TheVariants.{Total}
use Rattle.ipet_rows.specs.Sums.{total}
use Rattle.dual_check.specs.Openings.{costs_of}
use Rattle.simplex_rules.specs.OutlineOpenings.{IsLimited}
use Rattle.path_lp.specs.Bounding.{opening_sum}
use Rattle.path_lp.specs.OpeningCostLaws.{openings_within}
use Rattle.fact_tests.specs.Low.{IsLow, AreCheap}

-- ---- the sum

total_bounded : (n c : ℕ) (f : ℕ → ℤ) → ((k : ℕ) → k < n → f k ≤ℤ pos c) → total n f ≤ℤ pos (n * c)
total_bounded zero c f each = omega (arith, ints)
total_bounded (suc n) c f each =
    let rest = total_bounded n c f (λ k low. each k (omega (arith, low))) in
    let last = each n (omega arith) in
    omega (arith, ints, rest, last)

-- where costs and totals have 16 bits, the sum over the openings fits 64 bits
pub room_left : (o : Outlined) (facts : List Fact) → All IsLow facts → AreCheap o → length o.nodes < 2 ^ 32
    → opening_sum o facts <ℤ pos (2 ^ 64)
room_left o facts low cheap few =
    let most = openings_within o facts (λ n. 65535) (λ n least high there. All-contains IsLow facts (Total n least high) low there) in
    let sum = total_bounded (length o.nodes) (65535 * 65535) (λ n. pos (slice_index (costs_of o) n * 65535))
    (λ k below. let price = cheap k below in omega (arith, ints, price)) in
    omega (arith, ints, most, sum, few)

-- ---- the loops

-- one node more that is limited
pub limited_more : (facts : List Fact) (n : ℕ) → ((k : ℕ) → k < n → IsLimited facts k) → IsLimited facts n → (k : ℕ)
    → k < n + 1 → IsLimited facts k
limited_more facts n so_far is k low = elim (cases_eq k n) [
  | inl same ↦ subst (λ (i : ℕ). IsLimited facts i) (sym same) is
  | inr other ↦ so_far k (omega (arith, low, other))
]
