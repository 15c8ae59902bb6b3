-- The rows of the constraints are those of the weighings, and columns lead from nodes.
--   system_same    the program of an outline's columns and constraints is that of its facts
use Rattle.std.proofs.Common.{◌≡◌, ℕ, zero, suc, List, [], ◌∷◌, ◌++◌, map, take, length, refl, ap, sym, ◌∙◌}
use Rattle.std.specs.List.{flat_map}
use Rattle.std.proofs.lemmas.List.{map-append}
use Rattle.domain_core.specs.Outlines.{Shape, Outlined, shape_of}
use Rattle.flow_facts.specs.declared.fact.Fact.{Fact}
use Rattle.flow_facts.specs.declared.fact.Fact.TheVariants.{Loop, Count, Dead, Total, Pair, Alarm}
use Rattle.ipet_rows.specs.Columns.{Column, nodes_of, columns_of}
use Rattle.ipet_rows.specs.Weights.{Weighing, flow_row, loop_rows, dead_rows, total_rows, pair_rows, count_rows, most_pairs, weighings}
use Rattle.ipet_rows.specs.Rows.{row_of, cost_of}
use Rattle.dual_check.specs.declared.constraint.Constraint.{Constraint}
use Rattle.dual_check.specs.declared.constraint.Constraint.TheVariants.{Flow}
use Rattle.dual_check.specs.declared.group.Group.TheVariants.{Loops, Deads, Totals, Pairs, Counts}
use Rattle.dual_check.specs.Systems.{System}
use Rattle.dual_check.specs.Constraints.{weighing_of, group_of, constraints_of}
use Rattle.dual_check.specs.Openings.{openings_of, costs_of, system_from, system_of}

-- ---- constraints

map_flat : {A B C : Type 0} (f : B → C) (g : A → List B) (h : A → List C) (xs : List A) → ((x : A) → map f (g x) ≡ h x)
    → map f (flat_map g xs) ≡ flat_map h xs
map_flat f g h [] same = refl
map_flat f g h (x ∷ xs) same = map-append f (g x) (flat_map g xs) ∙ ap (λ ys. ys ++ map f (flat_map g xs)) (same x) ∙ ap (λ ys. h x ++ ys) (map_flat f g h xs same)

map_take : {B C : Type 0} (f : B → C) (n : ℕ) (xs : List B) → map f (take n xs) ≡ take n (map f xs)
map_take f zero xs = refl
map_take f (suc n) [] = refl
map_take f (suc n) (x ∷ xs) = ap (λ ys. f x ∷ ys) (map_take f n xs)

map_twice : {A B C : Type 0} (f : B → C) (g : A → B) (xs : List A) → map f (map g xs) ≡ map (λ x. f (g x)) xs
map_twice f g [] = refl
map_twice f g (x ∷ xs) = ap (λ ys. f (g x) ∷ ys) (map_twice f g xs)

module _ (o : Shape) where
  loops_weigh : (f : Fact) → map (weighing_of o) (group_of o Loops f) ≡ loop_rows o f
  loops_weigh (Loop s low high) = refl
  loops_weigh (Count s n low high) = refl
  loops_weigh (Dead n) = refl
  loops_weigh (Total n low high) = refl
  loops_weigh (Pair s a b) = refl
  loops_weigh (Alarm n why) = refl

  deads_weigh : (f : Fact) → map (weighing_of o) (group_of o Deads f) ≡ dead_rows f
  deads_weigh (Loop s low high) = refl
  deads_weigh (Count s n low high) = refl
  deads_weigh (Dead n) = refl
  deads_weigh (Total n low high) = refl
  deads_weigh (Pair s a b) = refl
  deads_weigh (Alarm n why) = refl

  totals_weigh : (f : Fact) → map (weighing_of o) (group_of o Totals f) ≡ total_rows f
  totals_weigh (Loop s low high) = refl
  totals_weigh (Count s n low high) = refl
  totals_weigh (Dead n) = refl
  totals_weigh (Total n low high) = refl
  totals_weigh (Pair s a b) = refl
  totals_weigh (Alarm n why) = refl

  pairs_weigh : (f : Fact) → map (weighing_of o) (group_of o Pairs f) ≡ pair_rows o f
  pairs_weigh (Loop s low high) = refl
  pairs_weigh (Count s n low high) = refl
  pairs_weigh (Dead n) = refl
  pairs_weigh (Total n low high) = refl
  pairs_weigh (Pair s a b) = refl
  pairs_weigh (Alarm n why) = refl

  counts_weigh : (f : Fact) → map (weighing_of o) (group_of o Counts f) ≡ count_rows o f
  counts_weigh (Loop s low high) = refl
  counts_weigh (Count s n low high) = refl
  counts_weigh (Dead n) = refl
  counts_weigh (Total n low high) = refl
  counts_weigh (Pair s a b) = refl
  counts_weigh (Alarm n why) = refl

  joined : (a b : List Constraint) (u v : List Weighing) → map (weighing_of o) a ≡ u → map (weighing_of o) b ≡ v
      → map (weighing_of o) (a ++ b) ≡ u ++ v
  joined a b u v p q = map-append (weighing_of o) a b ∙ ap (λ ys. ys ++ map (weighing_of o) b) p ∙ ap (λ ys. u ++ ys) q

  -- the constraints weigh what the rows weigh
  pub weighings_made : (facts : List Fact) → map (weighing_of o) (constraints_of o facts) ≡ weighings o facts
  weighings_made facts =
      joined (map (λ n. Flow n) (nodes_of o)) _ (map (λ n. flow_row n) (nodes_of o)) _ (map_twice (weighing_of o) (λ n. Flow n) (nodes_of o))
      (joined (flat_map (λ f. group_of o Loops f) facts) _ (flat_map (λ f. loop_rows o f) facts) _ (map_flat (weighing_of o) (λ f. group_of o Loops f) (λ f. loop_rows o f) facts loops_weigh)
      (joined (flat_map (λ f. group_of o Deads f) facts) _ (flat_map (λ f. dead_rows f) facts) _ (map_flat (weighing_of o) (λ f. group_of o Deads f) (λ f. dead_rows f) facts deads_weigh)
      (joined (flat_map (λ f. group_of o Totals f) facts) _ (flat_map (λ f. total_rows f) facts) _ (map_flat (weighing_of o) (λ f. group_of o Totals f) (λ f. total_rows f) facts totals_weigh)
      (joined (take most_pairs (flat_map (λ f. group_of o Pairs f) facts)) (flat_map (λ f. group_of o Counts f) facts) (take most_pairs (flat_map (λ f. pair_rows o f) facts)) (flat_map (λ f. count_rows o f) facts)
      (map_take (weighing_of o) most_pairs (flat_map (λ f. group_of o Pairs f) facts) ∙ ap (λ ys. take most_pairs ys) (map_flat (weighing_of o) (λ f. group_of o Pairs f) (λ f. pair_rows o f) facts pairs_weigh))
      (map_flat (weighing_of o) (λ f. group_of o Counts f) (λ f. count_rows o f) facts counts_weigh)))))

-- so the program is that of the facts
same_rows : (o : Shape) (columns : List Column) (facts : List Fact) → map (λ k. row_of columns (weighing_of o k)) (constraints_of o facts) ≡ map (λ w. row_of columns w) (weighings o facts)
same_rows o columns facts = sym (map_twice (λ w. row_of columns w) (weighing_of o) (constraints_of o facts)) ∙ ap (λ ws. map (λ w. row_of columns w) ws) (weighings_made o facts)

pub system_same : (o : Outlined) (facts : List Fact)
    → system_from o (columns_of (shape_of o) facts) (constraints_of (shape_of o) facts) ≡ system_of o facts
system_same o facts =
    ap (λ rows. let s : System = record {
      program = record { costs = map (λ c. cost_of (costs_of o) c) (columns_of (shape_of o) facts); rows = rows };
      openings = openings_of (columns_of (shape_of o) facts) (constraints_of (shape_of o) facts) (length o.nodes);
    } in s) (same_rows (shape_of o) (columns_of (shape_of o) facts) facts)
