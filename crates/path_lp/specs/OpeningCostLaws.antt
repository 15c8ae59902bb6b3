-- Laws of opening costs.
--   openings_within        then the sum over the openings is at most that
use Rattle.std.proofs.Common.{◌≡◌, ◌≤◌, ◌+◌, ◌*◌, ◌==◌, ℕ, zero, suc, ℤ, pos, true, List, [], ◌∷◌, ◌++◌, map, length, All, Contains, Option, None, Some, refl, ap, sym, ◌∙◌, subst, arith}
use Rattle.std.specs.Prelude.{◌+ℤ◌, ◌*ℤ◌, ◌≤ℤ◌, slice_index}
use Rattle.std.specs.List.{flat_map, range_with_len}
use Rattle.std.proofs.lemmas.Int.{ints}
use Rattle.std.proofs.lemmas.Nat.{mul-le}
use Rattle.std.proofs.lemmas.Bool.{eqb-true}
use Rattle.std.proofs.lemmas.List.Elements.{All-head, All-tail}
use Rattle.lists.specs.TestLaws.{by_test}
use Rattle.domain_core.specs.Outlines.{Shape, Outlined, shape_of}
use Rattle.flow_facts.specs.declared.fact.Fact.{Fact}
use Rattle.flow_facts.specs.declared.fact.Fact.TheVariants.{Loop, Count, Dead, Total, Pair, Alarm}
use Rattle.ipet_rows.specs.Sums.{total}
use Rattle.ipet_rows.specs.Programs.{Program, row_at, cost_at}
use Rattle.ipet_rows.specs.Columns.{Column, columns_of}
use Rattle.ipet_rows.specs.Rows.{row_of, cost_of}
use Rattle.ipet_rows.specs.SumLaws.{total_first, total_same}
use Rattle.dual_check.specs.declared.constraint.Constraint.{Constraint}
use Rattle.dual_check.specs.declared.constraint.Constraint.TheVariants.{Flow, Most, Least, Limit, Demand, Apart}
use Rattle.dual_check.specs.Systems.{System}
use Rattle.dual_check.specs.Constraints.{weighing_of, constraints_of, is_limit_of}
use Rattle.dual_check.specs.Openings.{place_of, both_of, opening_of, costs_of, system_from}
use Rattle.simplex_rules.specs.PivotRule.{opening_at}
use Rattle.simplex_rules.specs.SystemLaws.{system_same}
use Rattle.path_lp.specs.Solving.{opening_worth}
use Rattle.path_lp.specs.Bounding.{opening_sum}
use Rattle.path_lp.specs.GroupLaws.{PartsHold, all_constraints}
use Rattle.path_lp.specs.OpeningCosts.{AreWithin, worth_of_visits}

-- ---- the rows of the openings

-- a row that says how often a run leaves the node says no more
abbrev IsLimit : (ℕ → ℕ) → Constraint → Type 0
IsLimit most (Limit n high) = high ≤ most n
IsLimit most (Flow n) = Unit {0}
IsLimit most (Most s header n high) = Unit {0}
IsLimit most (Least s header n low) = Unit {0}
IsLimit most (Demand n low) = Unit {0}
IsLimit most (Apart header a b) = Unit {0}

limits_within : (o : Shape) (most : ℕ → ℕ) (facts : List Fact) → AreWithin most facts
    → All (IsLimit most) (constraints_of o facts)
limits_within o most facts within = all_constraints o (IsLimit most) facts (λ n. tt) parts
  where
    parts : (f : Fact) → Contains facts f → PartsHold o (IsLimit most) f
    parts (Loop s low high) there = (tt, tt)
    parts (Count s n low high) there = (tt, tt)
    parts (Dead n) there = omega arith
    parts (Total n low high) there = (within n low high there, tt)
    parts (Pair s a b) there = tt
    parts (Alarm n why) there = tt

-- what is known of a row that limits the node
record IsRowOf (o : Shape) (columns : List Column) (most : ℕ → ℕ) (m b r : ℕ) (ks : List Constraint) : Type 0 where
  later : ℕ
  is : r ≡ b + later
  high : ℕ
  right : (row_at (map (λ k. row_of columns (weighing_of o k)) ks) later).right ≡ pos high
  within : high ≤ most m

limit_right : (o : Shape) (most : ℕ → ℕ) (m : ℕ) (k : Constraint) → is_limit_of m k ≡ true
    → IsLimit most k → (high : ℕ) × ((weighing_of o k).right ≡ pos high) × (high ≤ most m)
limit_right o most m (Limit n high) is within = (high, refl, subst (λ (i : ℕ). high ≤ most i) (sym (eqb-true m n is)) within)
limit_right o most m (Flow n) is within = absurd cc
limit_right o most m (Most s header n high) is within = absurd cc
limit_right o most m (Least s header n low) is within = absurd cc
limit_right o most m (Demand n low) is within = absurd cc
limit_right o most m (Apart header a b) is within = absurd cc

row_found : (o : Shape) (columns : List Column) (most : ℕ → ℕ) (m b r : ℕ) (ks : List Constraint)
    → All (IsLimit most) ks
    → place_of (λ k. is_limit_of m k) b ks ≡ Some r → IsRowOf o columns most m b r ks
row_found o columns most m b r [] all found = absurd cc
row_found o columns most m b r (k ∷ ks) all found = by_test (is_limit_of m k)
    (λ is.
    let here : place_of (λ k. is_limit_of m k) b (k ∷ ks) ≡ Some b = rw is refl in
    let same : b ≡ r = cc in
    let limit = limit_right o most m k is (All-head (IsLimit most) k ks all) in
    record { later = 0; is = omega (arith, same); high = limit.0; right = limit.1; within = limit.2 })
    (λ clear.
    let later : place_of (λ k. is_limit_of m k) b (k ∷ ks) ≡ place_of (λ k. is_limit_of m k) (b + 1) ks = rw clear refl in
    let rest = row_found o columns most m (b + 1) r ks (All-tail (IsLimit most) k ks all) (sym later ∙ found) in
    let is = rest.is in
    record { later = suc rest.later; is = omega (arith, is); high = rest.high; right = rest.right; within = rest.within })

-- what is known of a column that leaves the node
record IsColumnOf (costs : List ℕ) (m b e : ℕ) (columns : List Column) : Type 0 where
  later : ℕ
  is : e ≡ b + later
  cost : cost_at (map (λ c. cost_of costs c) columns) later ≡ slice_index costs m

column_found : (costs : List ℕ) (m b e : ℕ) (columns : List Column)
    → place_of (λ (c : Column). m == c.from) b columns ≡ Some e → IsColumnOf costs m b e columns
column_found costs m b e [] found = absurd cc
column_found costs m b e (c ∷ columns) found = by_test (m == c.from)
    (λ is.
    let here : place_of (λ (c : Column). m == c.from) b (c ∷ columns) ≡ Some b = rw is refl in
    let same : b ≡ e = cc in
    record { later = 0; is = omega (arith, same); cost = ap (λ (n : ℕ). slice_index costs n) (sym (eqb-true m c.from is)) })
    (λ clear.
    let later : place_of (λ (c : Column). m == c.from) b (c ∷ columns) ≡ place_of (λ (c : Column). m == c.from) (b + 1) columns = rw clear refl in
    let rest = column_found costs m (b + 1) e columns (sym later ∙ found) in
    let is = rest.is in
    record { later = suc rest.later; is = omega (arith, is); cost = rest.cost })

-- ---- the sum

abbrev part : Program → ℕ × ℕ → ℤ
part p x = pos (cost_at p.costs x.1) *ℤ (row_at p.rows x.0).right

worth_more : (p : Program) (x : ℕ × ℕ) (os : List (ℕ × ℕ)) → opening_worth p (x ∷ os) ≡ part p x +ℤ opening_worth p os
worth_more p x os = total_first (length os) (λ i. pos (cost_at p.costs (opening_at (x ∷ os) i).1) *ℤ (row_at p.rows (opening_at (x ∷ os) i).0).right)

module _ (o : Outlined) (most : ℕ → ℕ) (columns : List Column) (ks : List Constraint) (limits : All (IsLimit most) ks) where
  abbrev p : Program
  p = (system_from o columns ks).program

  abbrev most_cost : ℕ → ℕ
  most_cost n = slice_index (costs_of o) n * most n

  part_is : (m r e : ℕ) → place_of (λ k. is_limit_of m k) 0 ks ≡ Some r
      → place_of (λ (c : Column). m == c.from) 0 columns ≡ Some e
      → (pos 0 ≤ℤ part p (r, e)) × (part p (r, e) ≤ℤ pos (most_cost m))
  part_is m r e row column =
      let its = row_found (shape_of o) columns most m 0 r ks limits row in
      let place = column_found (costs_of o) m 0 e columns column in
      let row_same : its.later ≡ r = (let is = its.is in omega (arith, is)) in
      let column_same : place.later ≡ e = (let is = place.is in omega (arith, is)) in
      let right : (row_at p.rows r).right ≡ pos its.high = ap (λ (k : ℕ). (row_at p.rows k).right) (sym row_same) ∙ its.right in
      let cost : cost_at p.costs e ≡ slice_index (costs_of o) m = ap (λ (j : ℕ). cost_at p.costs j) (sym column_same) ∙ place.cost in
      let value : part p (r, e) ≡ pos (slice_index (costs_of o) m * its.high) =
      ap (λ (z : ℤ). pos (cost_at p.costs e) *ℤ z) right ∙ ap (λ (n : ℕ). pos n *ℤ pos its.high) cost in
      let low = mul-le (slice_index (costs_of o) m) its.high (slice_index (costs_of o) m) (most m) (omega arith) its.within in
      (omega (arith, ints, value), omega (arith, ints, value, low))

  node_step : (m : ℕ) (a c : Option ℕ) (os : List (ℕ × ℕ)) → place_of (λ k. is_limit_of m k) 0 ks ≡ a
      → place_of (λ (c : Column). m == c.from) 0 columns ≡ c
      → (opening_worth p os ≤ℤ opening_worth p (both_of a c ++ os)) × (opening_worth p (both_of a c ++ os) ≤ℤ (pos (most_cost m) +ℤ opening_worth p os))
  node_step m None c os row column = (omega (arith, ints), omega (arith, ints))
  node_step m (Some r) None os row column = (omega (arith, ints), omega (arith, ints))
  node_step m (Some r) (Some e) os row column =
      let more = worth_more p (r, e) os in
      let parts = part_is m r e row column in
      (omega (arith, ints, more, parts.0), omega (arith, ints, more, parts.1))

  all_steps : (b n : ℕ) → (pos 0 ≤ℤ opening_worth p (flat_map (λ m. opening_of columns ks m) (range_with_len b n)))
      × (opening_worth p (flat_map (λ m. opening_of columns ks m) (range_with_len b n)) ≤ℤ total n (λ k. pos (most_cost (b + k))))
  all_steps b zero = (omega (arith, ints), omega (arith, ints))
  all_steps b (suc n) =
      let rest = all_steps (b + 1) n in
      let step = node_step b (place_of (λ k. is_limit_of b k) 0 ks) (place_of (λ (c : Column). b == c.from) 0 columns)
      (flat_map (λ m. opening_of columns ks m) (range_with_len (b + 1) n)) refl refl in
      let first = total_first n (λ k. pos (most_cost (b + k))) in
      let here : pos (most_cost (b + 0)) ≡ pos (most_cost b) = ap (λ (m : ℕ). pos (most_cost m)) (omega arith) in
      let later : total n (λ k. pos (most_cost (b + suc k))) ≡ total n (λ k. pos (most_cost ((b + 1) + k))) =
      total_same n (λ k. pos (most_cost (b + suc k))) (λ k. pos (most_cost ((b + 1) + k))) (λ k low. ap (λ (m : ℕ). pos (most_cost m)) (omega arith)) in
      (omega (arith, ints, rest.0, step.0), omega (arith, ints, rest.1, step.1, first, here, later))

pub openings_between : (o : Outlined) (facts : List Fact) (most : ℕ → ℕ) → AreWithin most facts
    → (pos 0 ≤ℤ opening_sum o facts) × (opening_sum o facts ≤ℤ worth_of_visits o most)
openings_between o facts most within =
    let columns = columns_of (shape_of o) facts in
    let ks = constraints_of (shape_of o) facts in
    let steps = all_steps o most columns ks (limits_within (shape_of o) most facts within) 0 (length o.nodes) in
    let same : total (length o.nodes) (λ k. pos (slice_index (costs_of o) (0 + k) * most (0 + k))) ≡ worth_of_visits o most =
    total_same (length o.nodes) (λ k. pos (slice_index (costs_of o) (0 + k) * most (0 + k))) (λ n. pos (slice_index (costs_of o) n * most n))
    (λ k low. ap (λ (m : ℕ). pos (slice_index (costs_of o) m * most m)) (let none : 0 + k ≡ k = omega arith in none)) in
    let upper : opening_worth (system_from o columns ks).program (system_from o columns ks).openings ≤ℤ worth_of_visits o most =
    omega (arith, ints, steps.1, same) in
    subst (λ (s : System). (pos 0 ≤ℤ opening_worth s.program s.openings) × (opening_worth s.program s.openings ≤ℤ worth_of_visits o most))
    (system_same o facts) (steps.0, upper)

-- where no `total` line tells more than these numbers, the sum over the openings is at most that
pub openings_within : (o : Outlined) (facts : List Fact) (most : ℕ → ℕ) → AreWithin most facts
    → opening_sum o facts ≤ℤ worth_of_visits o most
openings_within o facts most within = (openings_between o facts most within).1
