-- What holds of each row that facts make.
--   PartsHold o P f      it holds of each constraint of the fact
--   all_constraints      then of all constraints
use Rattle.std.proofs.Common.{ℕ, List, [], ◌∷◌, map, take, All, Contains}
use Rattle.std.specs.List.{flat_map}
use Rattle.std.proofs.lemmas.List.Elements.{All-nil, All-cons, All-append, All-take}
use Rattle.lists.specs.ImageLaws.{all_images, all_joined}
use Rattle.domain_core.specs.Outlines.{Shape, header_of}
use Rattle.flow_facts.specs.declared.fact.Fact.{Fact}
use Rattle.flow_facts.specs.declared.fact.Fact.TheVariants.{Loop, Count, Dead, Total, Pair, Alarm}
use Rattle.ipet_rows.specs.Columns.{nodes_of}
use Rattle.ipet_rows.specs.Weights.{most_pairs}
use Rattle.dual_check.specs.declared.constraint.Constraint.{Constraint}
use Rattle.dual_check.specs.declared.constraint.Constraint.TheVariants.{Flow, Most, Least, Limit, Demand, Apart}
use Rattle.dual_check.specs.declared.group.Group.{Group}
use Rattle.dual_check.specs.declared.group.Group.TheVariants.{Loops, Deads, Totals, Pairs, Counts}
use Rattle.dual_check.specs.Constraints.{group_of, constraints_of}

-- it holds of each constraint of the fact
abbrev pub PartsHold : Shape → (Constraint → Type 0) → Fact → Type 0
PartsHold o P (Loop s low high) = P (Most s (header_of o.scopes s) (header_of o.scopes s) high) × P (Least s (header_of o.scopes s) (header_of o.scopes s) low)
PartsHold o P (Count s n low high) = P (Most s (header_of o.scopes s) n high) × P (Least s (header_of o.scopes s) n low)
PartsHold o P (Dead n) = P (Limit n 0)
PartsHold o P (Total n low high) = P (Limit n high) × P (Demand n low)
PartsHold o P (Pair s a b) = P (Apart (header_of o.scopes s) a b)
PartsHold o P (Alarm n fault) = Unit {0}

module _ (o : Shape) (P : Constraint → Type 0) where
  none : All P []
  none = All-nil P

  one : (k : Constraint) → P k → All P (k ∷ [])
  one k is = All-cons P k [] is none

  two : (k l : Constraint) → P k × P l → All P (k ∷ l ∷ [])
  two k l both = All-cons P k (l ∷ []) both.0 (one l both.1)

  of_group : (g : Group) (f : Fact) → PartsHold o P f → All P (group_of o g f)
  of_group Loops (Loop s low high) parts =
      two (Most s (header_of o.scopes s) (header_of o.scopes s) high) (Least s (header_of o.scopes s) (header_of o.scopes s) low) parts
  of_group Loops (Count s n low high) parts = none
  of_group Loops (Dead n) parts = none
  of_group Loops (Total n low high) parts = none
  of_group Loops (Pair s a b) parts = none
  of_group Loops (Alarm n why) parts = none
  of_group Deads (Loop s low high) parts = none
  of_group Deads (Count s n low high) parts = none
  of_group Deads (Dead n) parts = one (Limit n 0) parts
  of_group Deads (Total n low high) parts = none
  of_group Deads (Pair s a b) parts = none
  of_group Deads (Alarm n why) parts = none
  of_group Totals (Loop s low high) parts = none
  of_group Totals (Count s n low high) parts = none
  of_group Totals (Dead n) parts = none
  of_group Totals (Total n low high) parts = two (Limit n high) (Demand n low) parts
  of_group Totals (Pair s a b) parts = none
  of_group Totals (Alarm n why) parts = none
  of_group Pairs (Loop s low high) parts = none
  of_group Pairs (Count s n low high) parts = none
  of_group Pairs (Dead n) parts = none
  of_group Pairs (Total n low high) parts = none
  of_group Pairs (Pair s a b) parts = one (Apart (header_of o.scopes s) a b) parts
  of_group Pairs (Alarm n why) parts = none
  of_group Counts (Loop s low high) parts = none
  of_group Counts (Count s n low high) parts = two (Most s (header_of o.scopes s) n high) (Least s (header_of o.scopes s) n low) parts
  of_group Counts (Dead n) parts = none
  of_group Counts (Total n low high) parts = none
  of_group Counts (Pair s a b) parts = none
  of_group Counts (Alarm n why) parts = none

  -- then of all constraints
  pub all_constraints : (facts : List Fact) → ((n : ℕ) → P (Flow n)) → ((f : Fact) → Contains facts f → PartsHold o P f)
      → All P (constraints_of o facts)
  all_constraints facts flows parts =
      let of_all : (g : Group) → All P (flat_map (λ f. group_of o g f) facts) = λ g. all_joined P (λ f. group_of o g f) facts (λ f there. of_group g f (parts f there)) in
      All-append P (map (λ n. Flow n) (nodes_of o)) _ (all_images P (λ n. Flow n) (nodes_of o) (λ n there. flows n))
      (All-append P (flat_map (λ f. group_of o Loops f) facts) _ (of_all Loops)
      (All-append P (flat_map (λ f. group_of o Deads f) facts) _ (of_all Deads)
      (All-append P (flat_map (λ f. group_of o Totals f) facts) _ (of_all Totals)
      (All-append P (take most_pairs (flat_map (λ f. group_of o Pairs f) facts)) (flat_map (λ f. group_of o Counts f) facts)
      (All-take P most_pairs (flat_map (λ f. group_of o Pairs f) facts) (of_all Pairs)) (of_all Counts)))))
