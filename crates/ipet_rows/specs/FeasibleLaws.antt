-- Laws of feasible.
--   all_met      each row is met
--   feasible     so the column counts meet the program
--   worth_cost   and are worth the run's cost
use Rattle.std.proofs.Common.{◌≡◌, ℕ, pos, Bool, false, List, [], ◌∷◌, map, take, reverse, Contains, All, subst, ◌∙◌, arith}
use Rattle.std.specs.Prelude.{◌+ℤ◌, ◌-ℤ◌, ◌≤ℤ◌}
use Rattle.std.specs.List.{flat_map}
use Rattle.std.proofs.lemmas.Int.{ints}
use Rattle.std.proofs.lemmas.List.Elements.{All-nil, All-cons, All-append, All-take}
use Rattle.lists.specs.ImageLaws.{all_joined}
use Rattle.domain_core.specs.Outlines.{Shape, IsOutline, header_of}
use Rattle.flow_facts.specs.declared.fact.Fact.{Fact}
use Rattle.flow_facts.specs.declared.fact.Fact.TheVariants.{Loop, Count, Dead, Total, Pair, Alarm}
use Rattle.flow_facts.specs.Facts.{Meets}
use Rattle.ipet_rows.specs.Points.{MeetsAll, worth}
use Rattle.ipet_rows.specs.Columns.{nodes_of, columns_of}
use Rattle.ipet_rows.specs.Weights.{Weighing, leaves, flow_row, loop_rows, dead_rows, total_rows, pair_rows, count_rows, most_pairs, weighings}
use Rattle.ipet_rows.specs.Rows.{program_of}
use Rattle.ipet_rows.specs.Uses.{steps_of, uses, number_at, column_counts, run_cost, IsEnded}
use Rattle.ipet_rows.specs.Shaped.{FitsOutline, FitOutline}
use Rattle.ipet_rows.specs.FlowLaws.{worth_is}
use Rattle.ipet_rows.specs.ColumnLaws.{columns_apart, steps_within}
use Rattle.ipet_rows.specs.PathRowLaws.{IsMet, flow_met, loop_met, dead_met, total_met, count_met, rows_meet, worth_of}
use Rattle.ipet_rows.specs.IterationSumLaws.{pair_met}
use Rattle.ipet_rows.specs.Feasible.{MeetFacts}

of_all : {A : Type 0} (P : A → Type 0) (xs : List A) → All P xs → (x : A) → Contains xs x → P x
of_all P xs all x there = subst P there.2 (all there.0 x there.1)

module _ (o : Shape) (ok : IsOutline o) (facts : List Fact) (fault : Bool) (k : ℕ) (past : List ℕ) (run : IsEnded o facts fault (k ∷ past)) (fits : FitOutline o facts) (met : MeetFacts o (reverse (k ∷ past)) facts) where
  pair_rows_met : (f : Fact) → FitsOutline o f → Meets o (reverse (k ∷ past)) f
      → All (λ w. IsMet (steps_of o fault (k ∷ past)) w) (pair_rows o f)
  pair_rows_met (Pair s a b) shape apart =
      All-cons (λ w. IsMet (steps_of o fault (k ∷ past)) w) (record { equation = false; weight = λ c. (leaves a c +ℤ leaves b c) -ℤ leaves (header_of o.scopes s) c; right = pos 0 }) []
      (pair_met o ok s a b shape.0 shape.3 shape.4 shape.5 shape.6 fault k past run.trace apart) (All-nil (λ w. IsMet (steps_of o fault (k ∷ past)) w))
  pair_rows_met (Loop s low high) shape m = All-nil (λ w. IsMet (steps_of o fault (k ∷ past)) w)
  pair_rows_met (Count s n low high) shape m = All-nil (λ w. IsMet (steps_of o fault (k ∷ past)) w)
  pair_rows_met (Dead n) shape m = All-nil (λ w. IsMet (steps_of o fault (k ∷ past)) w)
  pair_rows_met (Total n low high) shape m = All-nil (λ w. IsMet (steps_of o fault (k ∷ past)) w)
  pair_rows_met (Alarm n why) shape m = All-nil (λ w. IsMet (steps_of o fault (k ∷ past)) w)

  -- what is met of each fact's rows is met of all facts' rows
  joined_met : (rows : Fact → List Weighing)
      → ((f : Fact) → FitsOutline o f → Meets o (reverse (k ∷ past)) f → All (λ w. IsMet (steps_of o fault (k ∷ past)) w) (rows f)) → All (λ w. IsMet (steps_of o fault (k ∷ past)) w) (flat_map rows facts)
  joined_met rows each = all_joined (λ w. IsMet (steps_of o fault (k ∷ past)) w) rows facts (λ f there. each f (of_all (λ f. FitsOutline o f) facts fits f there) (of_all (λ f. Meets o (reverse (k ∷ past)) f) facts met f there))

  -- each row is met
  pub all_met : All (λ w. IsMet (steps_of o fault (k ∷ past)) w) (weighings o facts)
  all_met =
      let P : Weighing → Type 0 = λ w. IsMet (steps_of o fault (k ∷ past)) w in
      let loops = joined_met (λ f. loop_rows o f) (loop_met o ok fault k past run.trace) in
      let deads = joined_met (λ f. dead_rows f) (dead_met o ok fault k past run.trace) in
      let totals = joined_met (λ f. total_rows f) (total_met o ok fault k past run.trace) in
      let pairs = All-take P most_pairs (flat_map (λ f. pair_rows o f) facts) (joined_met (λ f. pair_rows o f) pair_rows_met) in
      let counts = joined_met (λ f. count_rows o f) (count_met o ok fault k past run.trace) in
      All-append P (map (λ n. flow_row n) (nodes_of o)) _ (flow_met o ok fault k past run.trace)
      (All-append P (flat_map (λ f. loop_rows o f) facts) _ loops
      (All-append P (flat_map (λ f. dead_rows f) facts) _ deads
      (All-append P (flat_map (λ f. total_rows f) facts) _ totals
      (All-append P (take most_pairs (flat_map (λ f. pair_rows o f) facts)) (flat_map (λ f. count_rows o f) facts) pairs counts))))

  -- so the column counts meet the program
  pub feasible : (costs : List ℕ)
      → MeetsAll (program_of o costs facts) (column_counts (columns_of o facts) (steps_of o fault (k ∷ past))) (pos 1)
  feasible costs = record {
    columns = λ e. none_below (number_at (map (λ c. uses c (steps_of o fault (k ∷ past))) (columns_of o facts)) e);
    meets = rows_meet (columns_of o facts) (steps_of o fault (k ∷ past)) (weighings o facts) (columns_apart o facts ok) (steps_within o facts ok fault k past run) all_met;
  }
    where
      none_below : (n : ℕ) → pos 0 ≤ℤ pos n
      none_below n = omega (arith, ints)

  -- and are worth the run's cost
  pub worth_cost : (costs : List ℕ) → worth (program_of o costs facts) (column_counts (columns_of o facts) (steps_of o fault (k ∷ past))) ≡ pos (run_cost costs (k ∷ past))
  worth_cost costs = worth_of costs (columns_of o facts) (steps_of o fault (k ∷ past)) (columns_apart o facts ok) (steps_within o facts ok fault k past run) ∙ worth_is o fault costs k past
