-- Laws of outline openings.
--   outline_opens            so the openings are rows that share no column and have each column
--   lists_open   the openings open the program of these columns and constraints
use Rattle.std.proofs.Common.{inl, inr, ◌≡◌, ◌≢◌, ◌<◌, ◌≤◌, ◌+◌, ◌==◌, ℕ, zero, suc, ℤ, pos, Bool, true, false, List, [], ◌∷◌, ◌++◌, map, get_or, length, Contains, Option, None, Some, refl, ap, sym, ◌∙◌, subst, arith}
use Rattle.std.specs.Prelude.{slice_index}
use Rattle.std.specs.List.{flat_map, range_with_len}
use Rattle.std.proofs.lemmas.List.{length-map}
use Rattle.std.proofs.lemmas.List.Elements.{Contains-append_left, Contains-append_right, Contains-get_or}
use Rattle.std.proofs.lemmas.Bool.{eq-eqb, ne_eqb, eqb-true, cases_eq, cases_lt, both_ways}
use Rattle.lists.specs.TestLaws.{by_test}
use Rattle.lists.specs.MemberLaws.{no_member, first_member, first_or_further}
use Rattle.domain_core.specs.declared.outline.NodeRow.{NodeRow}
use Rattle.domain_core.specs.Outlines.{Shape, Outlined, IsOutline, shape_of}
use Rattle.flow_facts.specs.declared.fact.Fact.{Fact}
use Rattle.flow_facts.specs.declared.fact.Fact.TheVariants.{Dead, Total}
use Rattle.ipet_rows.specs.Sums.{coefficient}
use Rattle.ipet_rows.specs.Programs.{Row, row_at, cost_at}
use Rattle.ipet_rows.specs.Columns.{Column, nodes_of, columns_of}
use Rattle.ipet_rows.specs.Weights.{Weighing, leaves}
use Rattle.ipet_rows.specs.Rows.{row_of, cost_of}
use Rattle.ipet_rows.specs.PathSparseLaws.{weight_at, coefficient_is}
use Rattle.dual_check.specs.declared.constraint.Constraint.{Constraint}
use Rattle.dual_check.specs.declared.constraint.Constraint.TheVariants.{Flow, Most, Least, Limit, Demand, Apart}
use Rattle.dual_check.specs.declared.group.Group.TheVariants.{Loops, Deads, Totals}
use Rattle.dual_check.specs.Systems.{System}
use Rattle.dual_check.specs.Constraints.{weighing_of, group_of, constraints_of, is_limit_of}
use Rattle.dual_check.specs.Openings.{place_of, both_of, opening_of, openings_of, costs_of, system_from, system_of}
use Rattle.simplex_rules.specs.PivotRule.{opening_at}
use Rattle.simplex_rules.specs.OpeningPlaces.{IsOfOne, OpensRows}
use Rattle.simplex_rules.specs.SystemLaws.{system_same}
use Rattle.simplex_rules.proofs.SystemLemmas.{AreLow, columns_low}
use Rattle.simplex_rules.specs.OutlineOpenings.{IsLimited, AreLimited}

-- ---- the place of the first that passes

record IsPlace {A : Type 0} (p : A → Bool) (b : ℕ) (xs : List A) (r : ℕ) : Type 0 where
  later : ℕ
  is : r ≡ b + later
  low : later < length xs
  passes : (d : A) → p (get_or xs later d) ≡ true

place_is : {A : Type 0} (p : A → Bool) (b : ℕ) (xs : List A) (r : ℕ) → place_of p b xs ≡ Some r → IsPlace p b xs r
place_is p b [] r found = absurd cc
place_is p b (x ∷ xs) r found = by_test (p x)
    (λ is. let here : place_of p b (x ∷ xs) ≡ Some b = rw is refl in
    let same : b ≡ r = cc in
    record { later = 0; is = omega (arith, same); low = omega arith; passes = λ d. is })
    (λ clear. let later : place_of p b (x ∷ xs) ≡ place_of p (b + 1) xs = rw clear refl in
    let rest = place_is p (b + 1) xs r (sym later ∙ found) in
    let is = rest.is in
    let low = rest.low in
    record { later = suc rest.later; is = omega (arith, is); low = omega (arith, low); passes = rest.passes })

place_found : {A : Type 0} (p : A → Bool) (b : ℕ) (xs : List A) (x : A) → Contains xs x → p x ≡ true
    → (r : ℕ) × (place_of p b xs ≡ Some r)
place_found p b [] x there passes = no_member x there
place_found p b (y ∷ xs) x there passes = by_test (p y)
    (λ is. (b, rw is refl))
    (λ clear. first_or_further y xs x there
    (λ same. absurd (both_ways (p y) clear (ap p same ∙ passes)))
    (λ later. let rest = place_found p (b + 1) xs x later passes in (rest.0, rw clear rest.1)))

-- ---- lists by places

column_weight : (f : Column → ℤ) (cs : List Column) (e : ℕ) (d : Column) → e < length cs
    → weight_at f cs e ≡ f (get_or cs e d)
column_weight f [] e d low = absurd (omega arith)
column_weight f (c ∷ cs) zero d low = refl
column_weight f (c ∷ cs) (suc e) d low = column_weight f cs e d (omega arith)

row_there : (columns : List Column) (w : Constraint → Weighing) (ks : List Constraint) (k : ℕ) (d : Constraint)
    → k < length ks → row_at (map (λ c. row_of columns (w c)) ks) k ≡ row_of columns (w (get_or ks k d))
row_there columns w [] k d low = absurd (omega arith)
row_there columns w (c ∷ ks) zero d low = refl
row_there columns w (c ∷ ks) (suc k) d low = row_there columns w ks k d (omega arith)

cost_there : (f : Column → ℕ) (cs : List Column) (e : ℕ) (d : Column) → e < length cs
    → cost_at (map f cs) e ≡ f (get_or cs e d)
cost_there f [] e d low = absurd (omega arith)
cost_there f (c ∷ cs) zero d low = refl
cost_there f (c ∷ cs) (suc e) d low = cost_there f cs e d (omega arith)

from_low : (n e : ℕ) (cs : List Column) (d : Column) → AreLow n cs → e < length cs → (get_or cs e d).from < n
from_low n e [] d are low = absurd (omega arith)
from_low n zero (c ∷ cs) d are low = are.0
from_low n (suc e) (c ∷ cs) d are low = from_low n e cs d are.1 (omega arith)

limit_weighs : (o : Shape) (k : Constraint) (n : ℕ) (c : Column) → is_limit_of n k ≡ true
    → (weighing_of o k).weight c ≡ leaves n c
limit_weighs o (Limit m high) n c is = let same : n ≡ m = eqb-true n m is in ap (λ (i : ℕ). leaves i c) (sym same)
limit_weighs o (Flow m) n c is = absurd cc
limit_weighs o (Most s h m high) n c is = absurd cc
limit_weighs o (Least s h m low) n c is = absurd cc
limit_weighs o (Demand m low) n c is = absurd cc
limit_weighs o (Apart h a b) n c is = absurd cc

module _ (columns : List Column) (ks : List Constraint) where
  -- the node's first limit and first column
  record IsOpeningOf (m : ℕ) (x : ℕ × ℕ) : Type 0 where
    row : place_of (λ k. is_limit_of m k) 0 ks ≡ Some x.0
    column : place_of (λ (c : Column). m == c.from) 0 columns ≡ Some x.1

  abbrev opened_nodes : ℕ → ℕ → List (ℕ × ℕ)
  opened_nodes b n = flat_map (λ m. opening_of columns ks m) (range_with_len b n)

  -- an opening is that of one node
  record IsFrom (b : ℕ) (x : ℕ × ℕ) : Type 0 where
    node : ℕ
    above : b ≤ node
    opens : IsOpeningOf node x

  widened : (b : ℕ) (x : ℕ × ℕ) → IsFrom (b + 1) x → IsFrom b x
  widened b x is = let above = is.above in record { node = is.node; above = omega (arith, above); opens = is.opens }

  node_of : (m : ℕ) (x : ℕ × ℕ) (d : Column) → IsOpeningOf m x
      → (x.1 < length columns) × (m ≡ (get_or columns x.1 d).from)
  node_of m x d is =
      let place = place_is (λ (c : Column). m == c.from) 0 columns x.1 is.column in
      let low = place.low in
      let at_place : x.1 ≡ place.later = (let i = place.is in omega (arith, i)) in
      (omega (arith, low, at_place), eqb-true m (get_or columns x.1 d).from (ap (λ (j : ℕ). m == (get_or columns j d).from) at_place ∙ place.passes d))

  one_node : (m l : ℕ) (x : ℕ × ℕ) → IsOpeningOf m x → IsOpeningOf l x → m ≡ l
  one_node m l x a b =
      let d : Column = record { from = 0; into = 0; fault = false } in
      (node_of m x d a).1 ∙ sym (node_of l x d b).1

  each_step : (b n : ℕ) (a c : Option ℕ) → place_of (λ k. is_limit_of b k) 0 ks ≡ a
      → place_of (λ (k : Column). b == k.from) 0 columns ≡ c
      → ((i : ℕ) → i < length (opened_nodes (b + 1) n) → IsFrom (b + 1) (opening_at (opened_nodes (b + 1) n) i))
      → (i : ℕ) → i < length (both_of a c ++ opened_nodes (b + 1) n) → IsFrom b (opening_at (both_of a c ++ opened_nodes (b + 1) n) i)
  each_step b n None c fa gc later i below = widened b (opening_at (opened_nodes (b + 1) n) i) (later i below)
  each_step b n (Some r) None fa gc later i below = widened b (opening_at (opened_nodes (b + 1) n) i) (later i below)
  each_step b n (Some r) (Some e) fa gc later zero below = record { node = b; above = omega arith; opens = record { row = fa; column = gc } }
  each_step b n (Some r) (Some e) fa gc later (suc i) below = widened b (opening_at (opened_nodes (b + 1) n) i) (later i (omega arith))

  each_from : (b n i : ℕ) → i < length (opened_nodes b n) → IsFrom b (opening_at (opened_nodes b n) i)
  each_from b zero i below = absurd (omega arith)
  each_from b (suc n) i below = each_step b n (place_of (λ k. is_limit_of b k) 0 ks) (place_of (λ (k : Column). b == k.from) 0 columns) refl refl (each_from (b + 1) n) i below

  -- the nodes of the openings rise
  rise_step : (b n : ℕ) (a c : Option ℕ) → place_of (λ k. is_limit_of b k) 0 ks ≡ a
      → place_of (λ (k : Column). b == k.from) 0 columns ≡ c
      → ((i k m l : ℕ) → i < k → k < length (opened_nodes (b + 1) n) → IsOpeningOf m (opening_at (opened_nodes (b + 1) n) i) → IsOpeningOf l (opening_at (opened_nodes (b + 1) n) k) → m < l)
      → (i k m l : ℕ) → i < k → k < length (both_of a c ++ opened_nodes (b + 1) n) → IsOpeningOf m (opening_at (both_of a c ++ opened_nodes (b + 1) n) i) → IsOpeningOf l (opening_at (both_of a c ++ opened_nodes (b + 1) n) k) → m < l
  rise_step b n None c fa gc later i k m l less below x y = later i k m l less below x y
  rise_step b n (Some r) None fa gc later i k m l less below x y = later i k m l less below x y
  rise_step b n (Some r) (Some e) fa gc later i zero m l less below x y = absurd (omega arith)
  rise_step b n (Some r) (Some e) fa gc later zero (suc k) m l less below x y =
      let first : m ≡ b = one_node m b (r, e) x (record { row = fa; column = gc }) in
      let other = each_from (b + 1) n k (omega arith) in
      let above = other.above in
      let same : l ≡ other.node = one_node l other.node (opening_at (opened_nodes (b + 1) n) k) y other.opens in
      omega (arith, first, above, same)
  rise_step b n (Some r) (Some e) fa gc later (suc i) (suc k) m l less below x y = later i k m l (omega arith) (omega arith) x y

  nodes_rise : (b n i k m l : ℕ) → i < k → k < length (opened_nodes b n)
      → IsOpeningOf m (opening_at (opened_nodes b n) i) → IsOpeningOf l (opening_at (opened_nodes b n) k) → m < l
  nodes_rise b zero i k m l less below x y = absurd (omega arith)
  nodes_rise b (suc n) i k m l less below x y = rise_step b n (place_of (λ j. is_limit_of b j) 0 ks) (place_of (λ (j : Column). b == j.from) 0 columns) refl refl (nodes_rise (b + 1) n) i k m l less below x y

  -- a node with a limit and a column has an opening
  record HasOpening (os : List (ℕ × ℕ)) (m : ℕ) : Type 0 where
    at_index : ℕ
    below : at_index < length os
    opens : IsOpeningOf m (opening_at os at_index)

  has_step : (b n m : ℕ) (a c : Option ℕ) → HasOpening (opened_nodes (b + 1) n) m
      → HasOpening (both_of a c ++ opened_nodes (b + 1) n) m
  has_step b n m None c is = is
  has_step b n m (Some r) None is = is
  has_step b n m (Some r) (Some e) is = let below = is.below in record { at_index = suc is.at_index; below = omega (arith, below); opens = is.opens }

  has_opening : (b n m r e : ℕ) → b ≤ m → m < b + n → place_of (λ k. is_limit_of m k) 0 ks ≡ Some r
      → place_of (λ (k : Column). m == k.from) 0 columns ≡ Some e → HasOpening (opened_nodes b n) m
  has_opening b zero m r e above below row column = absurd (omega arith)
  has_opening b (suc n) m r e above below row column = elim (cases_eq b m) [
    | inl same ↦
        let f : opening_of columns ks b ≡ (r, e) ∷ [] = rw same (rw (row, column) refl) in
        let first : HasOpening ((r, e) ∷ opened_nodes (b + 1) n) m = record { at_index = 0; below = omega arith; opens = record { row = row; column = column } } in
        subst (λ (os : List (ℕ × ℕ)). HasOpening (os ++ opened_nodes (b + 1) n) m) (sym f) first
    | inr other ↦ has_step b n m (place_of (λ k. is_limit_of b k) 0 ks) (place_of (λ (k : Column). b == k.from) 0 columns) (has_opening (b + 1) n m r e (omega arith) (omega arith) row column)
  ]

  -- what an opening's row has at a column
  row_weighs : (o : Shape) (m e : ℕ) (x : ℕ × ℕ) (d : Column) → IsOpeningOf m x → e < length columns
      → (x.0 < length ks) × (coefficient (row_at (map (λ k. row_of columns (weighing_of o k)) ks) x.0).terms e ≡ leaves m (get_or columns e d))
  row_weighs o m e x d is low =
      let place = place_is (λ k. is_limit_of m k) 0 ks x.0 is.row in
      let later = place.low in
      let at_place : x.0 ≡ place.later = (let i = place.is in omega (arith, i)) in
      let within : x.0 < length ks = omega (arith, later, at_place) in
      let k = get_or ks x.0 (Flow 0) in
      let limit : is_limit_of m (get_or ks x.0 (Flow 0)) ≡ true = ap (λ (j : ℕ). is_limit_of m (get_or ks j (Flow 0))) at_place ∙ place.passes (Flow 0) in (
        within,
        ap (λ (r : Row). coefficient r.terms e) (row_there columns (weighing_of o) ks x.0 (Flow 0) within)
            ∙ coefficient_is (weighing_of o k).weight 0 columns e e (omega arith) ∙ column_weight (weighing_of o k).weight columns e d low ∙ limit_weighs o k m (get_or columns e d) limit,
      )

-- ---- the program

leaves_here : (m : ℕ) (c : Column) → m ≡ c.from → leaves m c ≡ pos 1
leaves_here m c same = rw (eq-eqb m c.from same) refl

leaves_not : (m : ℕ) (c : Column) → m ≢ c.from → leaves m c ≡ pos 0
leaves_not m c other = rw (ne_eqb m c.from other) refl

module _ (o : Outlined) (columns : List Column) (ks : List Constraint) (from : AreLow (length o.nodes) columns)
    (limited : (n : ℕ) → n < length o.nodes → (r : ℕ) × (place_of (λ k. is_limit_of n k) 0 ks ≡ Some r)) where
  abbrev no_column : Column
  no_column = record { from = 0; into = 0; fault = false }

  abbrev nodes : ℕ
  nodes = length o.nodes

  abbrev os : List (ℕ × ℕ)
  os = openings_of columns ks (length o.nodes)

  abbrev rows : List Row
  rows = map (λ k. row_of columns (weighing_of (shape_of o) k)) ks

  -- the node of an opening
  its_node : (i : ℕ) → i < length os → IsFrom columns ks 0 (opening_at os i)
  its_node i below = each_from columns ks 0 nodes i below

  column_low : (i : ℕ) → i < length os → (opening_at os i).1 < length columns
  column_low i below = (node_of columns ks (its_node i below).node (opening_at os i) no_column (its_node i below).opens).0

  node_is : (i : ℕ) (below : i < length os)
      → (its_node i below).node ≡ (get_or columns (opening_at os i).1 no_column).from
  node_is i below = (node_of columns ks (its_node i below).node (opening_at os i) no_column (its_node i below).opens).1

  has_at : (i e : ℕ) (below : i < length os) → e < length columns → coefficient (row_at rows (opening_at os i).0).terms e ≡ leaves (its_node i below).node (get_or columns e no_column)
  has_at i e below low = (row_weighs columns ks (shape_of o) (its_node i below).node e (opening_at os i) no_column (its_node i below).opens low).1

  apart_nodes : (i k m l : ℕ) → i < length os → k < length os → i ≢ k → IsOpeningOf columns ks m (opening_at os i)
      → IsOpeningOf columns ks l (opening_at os k) → m ≢ l
  apart_nodes i k m l a b other x y = elim (cases_lt i k) [
    | inl less ↦ λ same. let rises = nodes_rise columns ks 0 nodes i k m l less b x y in absurd (omega (arith, rises, same))
    | inr over ↦ λ same. let rises = nodes_rise columns ks 0 nodes k i l m (omega (arith, over, other)) a y x in absurd (omega (arith, rises, same))
  ]

  covered : (e : ℕ) → e < length columns
      → IsOfOne (record { costs = map (λ c. cost_of (costs_of o) c) columns; rows = rows }) os e
  covered e low =
      let c = get_or columns e no_column in
      let n = c.from in
      let node_low : n < nodes = from_low nodes e columns no_column from low in
      let row = limited n node_low in
      let column = place_found (λ (k : Column). n == k.from) 0 columns c (Contains-get_or columns e no_column low) (eq-eqb n n refl) in
      let h = has_opening columns ks 0 nodes n row.0 column.0 (omega arith) (omega (arith, node_low)) row.1 column.1 in
      let its = node_of columns ks n (opening_at os h.at_index) no_column h.opens in
      record {
        by = h.at_index;
        below = h.below;
        own = (row_weighs columns ks (shape_of o) n e (opening_at os h.at_index) no_column h.opens low).1 ∙ leaves_here n c refl;
        others = λ k below other.
            has_at k e below low ∙ leaves_not (its_node k below).node c (apart_nodes k h.at_index (its_node k below).node n below h.below other (its_node k below).opens h.opens);
        cost = cost_there (λ c. cost_of (costs_of o) c) columns e no_column low ∙ ap (λ (m : ℕ). slice_index (costs_of o) m) its.1
            ∙ sym (cost_there (λ c. cost_of (costs_of o) c) columns (opening_at os h.at_index).1 no_column its.0);
      }

  -- the openings open the program of these columns and constraints
  pub lists_open : OpensRows (system_from o columns ks).program (system_from o columns ks).openings
  lists_open =
      let wide = length-map columns (λ c. cost_of (costs_of o) c) in
      let high = length-map ks (λ k. row_of columns (weighing_of (shape_of o) k)) in
      record {
        rows = λ i below. let low = (row_weighs columns ks (shape_of o) (its_node i below).node (opening_at os i).1 (opening_at os i) no_column (its_node i below).opens (column_low i below)).0 in omega (arith, high, low);
        columns = λ i below. let low = column_low i below in omega (arith, wide, low);
        own = λ i below. has_at i (opening_at os i).1 below (column_low i below) ∙ leaves_here (its_node i below).node (get_or columns (opening_at os i).1 no_column) (node_is i below);
        apart = λ i k a b other. has_at i (opening_at os k).1 a (column_low k b)
            ∙ leaves_not (its_node i a).node (get_or columns (opening_at os k).1 no_column) (λ same. apart_nodes i k (its_node i a).node (its_node k b).node a b other (its_node i a).opens (its_node k b).opens (same ∙ sym (node_is k b)));
        covers = λ e low. covered e (omega (arith, wide, low));
      }

-- ---- facts

in_flat : {A B : Type 0} (g : A → List B) (xs : List A) (x : A) (y : B) → Contains xs x → Contains (g x) y
    → Contains (flat_map g xs) y
in_flat g [] x y there is = no_member x there
in_flat g (z ∷ xs) x y there is = first_or_further z xs x there
    (λ same. Contains-append_left (g z) (flat_map g xs) y (subst (λ a. Contains (g a) y) (sym same) is))
    (λ later. Contains-append_right (g z) (flat_map g xs) y (in_flat g xs x y later is))

dead_there : (o : Shape) (facts : List Fact) (n : ℕ) → Contains facts (Dead n)
    → Contains (constraints_of o facts) (Limit n 0)
dead_there o facts n there =
    let found = in_flat (λ f. group_of o Deads f) facts (Dead n) (Limit n 0) there (first_member (Limit n 0) []) in
    Contains-append_right (map (λ m. Flow m) (nodes_of o)) _ (Limit n 0) (Contains-append_right (flat_map (λ f. group_of o Loops f) facts) _ (Limit n 0) (Contains-append_left (flat_map (λ f. group_of o Deads f) facts) _ (Limit n 0) found))

total_there : (o : Shape) (facts : List Fact) (n low high : ℕ) → Contains facts (Total n low high)
    → Contains (constraints_of o facts) (Limit n high)
total_there o facts n low high there =
    let found = in_flat (λ f. group_of o Totals f) facts (Total n low high) (Limit n high) there (first_member (Limit n high) (Demand n low ∷ [])) in
    Contains-append_right (map (λ m. Flow m) (nodes_of o)) _ (Limit n high) (Contains-append_right (flat_map (λ f. group_of o Loops f) facts) _ (Limit n high) (Contains-append_right (flat_map (λ f. group_of o Deads f) facts) _ (Limit n high) (Contains-append_left (flat_map (λ f. group_of o Totals f) facts) _ (Limit n high) found)))

limit_found : (o : Shape) (facts : List Fact) (n : ℕ) → IsLimited facts n
    → (r : ℕ) × (place_of (λ k. is_limit_of n k) 0 (constraints_of o facts) ≡ Some r)
limit_found o facts n (inl dead) = place_found (λ k. is_limit_of n k) 0 (constraints_of o facts) (Limit n 0) (dead_there o facts n dead) (eq-eqb n n refl)
limit_found o facts n (inr total) = place_found (λ k. is_limit_of n k) 0 (constraints_of o facts) (Limit n total.1) (total_there o facts n total.0 total.1 total.2) (eq-eqb n n refl)

-- the openings of an outline and facts open their program
pub outline_opens : (o : Outlined) (facts : List Fact) → IsOutline (shape_of o) → AreLimited (length o.nodes) facts
    → OpensRows (system_of o facts).program (system_of o facts).openings
outline_opens o facts ok limited =
    let columns = columns_of (shape_of o) facts in
    let ks = constraints_of (shape_of o) facts in
    let long : length (shape_of o).own ≡ length o.nodes = length-map o.nodes (λ (row : NodeRow). row.scope) in
    let low = subst (λ (n : ℕ). AreLow n (columns_of (shape_of o) facts)) long (columns_low (shape_of o) facts ok) in
    subst (λ (s : System). OpensRows s.program s.openings) (system_same o facts) (lists_open o columns ks low (λ n below. limit_found (shape_of o) facts n (limited n below)))
