-- A run that meets the facts meets the rows.
--   IsMet w steps     the steps meet the row
--   flow_met, loop_met, dead_met, total_met, count_met   the rows of each kind are met
--   rows_meet         where all rows are met, the uses of the columns meet the program
--   worth_of          what the uses are worth
use Rattle.std.proofs.Common.{◌≡◌, ◌≢◌, ◌<◌, ◌+◌, ℕ, zero, suc, ℤ, pos, Bool, true, false, List, [], ◌∷◌, map, length, reverse, Contains, All, inl, inr, refl, ap, sym, ◌∙◌, subst, arith}
use Rattle.std.specs.Prelude.{◌+ℤ◌, ◌-ℤ◌, ◌*ℤ◌, ◌≤ℤ◌}
use Rattle.std.specs.List.{range_with_len}
use Rattle.std.proofs.lemmas.Int.{ints}
use Rattle.std.proofs.lemmas.List.Elements.{All-nil, All-cons, All-head, All-tail}
use Rattle.lists.specs.MemberLaws.{no_member}
use Rattle.lists.specs.ImageLaws.{all_images}
use Rattle.graph_walks.specs.ListLaws.{contains_cases}
use Rattle.domain_core.specs.declared.scope_kind.ScopeKind.TheVariants.{Call, Loop as LoopScope}
use Rattle.domain_core.specs.Outlines.{Shape, IsOutline, Holds, LeadsTo, here, header_of, kind_of}
use Rattle.domain_core.specs.Traces.{IsTrace}
use Rattle.flow_facts.specs.declared.fact.Fact.{Fact}
use Rattle.flow_facts.specs.declared.fact.Fact.TheVariants.{Loop, Count, Dead, Total, Pair, Alarm}
use Rattle.flow_facts.specs.Facts.{places, Meets}
use Rattle.ipet_rows.specs.Sums.{total, value_at}
use Rattle.ipet_rows.specs.Programs.{row_at, cost_at}
use Rattle.ipet_rows.specs.Points.{MeetsAs, Meets as MeetsRow}
use Rattle.ipet_rows.specs.Columns.{Column, nodes_of}
use Rattle.ipet_rows.specs.Weights.{Weighing, leaves, begins, flow_row, loop_rows, dead_rows, total_rows, count_rows}
use Rattle.ipet_rows.specs.Rows.{row_of, cost_of}
use Rattle.ipet_rows.specs.Uses.{steps_of, uses, number_at, column_counts}
use Rattle.ipet_rows.specs.Shaped.{FitsOutline}
use Rattle.ipet_rows.specs.UseLaws.{AreApart, weigh, weighted, all_uses, row_value}
use Rattle.ipet_rows.specs.FlowLaws.{left, flow_is, weigh_minus}
use Rattle.ipet_rows.specs.ExecutionSumLaws.{places_turned, most_met, least_met}

-- the steps meet the row
abbrev pub IsMet : List Column → Weighing → Type 0
IsMet steps w = MeetsAs w.equation (weigh w.weight steps) w.right

range_below : (b n m : ℕ) → Contains (range_with_len b n) m → m < b + n
range_below b zero m there = no_member m there
range_below b (suc n) m there = elim (contains_cases b (range_with_len (b + 1) n) m there) [ inl e ↦ omega arith | inr later ↦ let low = range_below (b + 1) n m later in omega arith ]

module _ (o : Shape) (ok : IsOutline o) (fault : Bool) (k : ℕ) (past : List ℕ) (trace : IsTrace o (k ∷ past)) where
  pub flow_met : All (λ w. IsMet (steps_of o fault (k ∷ past)) w) (map (λ n. flow_row n) (nodes_of o))
  flow_met = all_images (λ w. IsMet (steps_of o fault (k ∷ past)) w) (λ n. flow_row n) (nodes_of o) (λ n there. flow_is o fault n k past trace (let low = range_below 0 (length o.own) n there in omega arith))

  -- a loop is not the outermost scope
  inner : (s : ℕ) → kind_of o.scopes s ≡ LoopScope → s ≢ 0
  inner s loops e = let bad : Call ≡ LoopScope = sym ok.first_scope.1 ∙ ap (λ (j : ℕ). kind_of o.scopes j) (sym e) ∙ loops in cc

  none : All (λ w. IsMet (steps_of o fault (k ∷ past)) w) []
  none = All-nil (λ w. IsMet (steps_of o fault (k ∷ past)) w)

  two : (v w : Weighing) → IsMet (steps_of o fault (k ∷ past)) v → IsMet (steps_of o fault (k ∷ past)) w
      → All (λ w. IsMet (steps_of o fault (k ∷ past)) w) (v ∷ w ∷ [])
  two v w first second = All-cons (λ w. IsMet (steps_of o fault (k ∷ past)) w) v (w ∷ []) first (All-cons (λ w. IsMet (steps_of o fault (k ∷ past)) w) w [] second none)

  pub loop_met : (f : Fact) → FitsOutline o f → Meets o (reverse (k ∷ past)) f
      → All (λ w. IsMet (steps_of o fault (k ∷ past)) w) (loop_rows o f)
  loop_met (Loop s low high) fits met =
      let header = header_of o.scopes s in
      two (record { equation = false; weight = λ c. leaves header c -ℤ (pos high *ℤ begins o s c); right = pos 0 })
      (record { equation = false; weight = λ c. (pos low *ℤ begins o s c) -ℤ leaves header c; right = pos 0 })
      (most_met o ok s header low high fits.0 (inner s fits.1) (ok.headers_held s fits.0) fault k past trace met)
      (least_met o ok s header low high fits.0 (inner s fits.1) (ok.headers_held s fits.0) fault k past trace met)
  loop_met (Count s n low high) fits met = none
  loop_met (Dead n) fits met = none
  loop_met (Total n low high) fits met = none
  loop_met (Pair s a b) fits met = none
  loop_met (Alarm n why) fits met = none

  pub count_met : (f : Fact) → FitsOutline o f → Meets o (reverse (k ∷ past)) f
      → All (λ w. IsMet (steps_of o fault (k ∷ past)) w) (count_rows o f)
  count_met (Count s n low high) fits met =
      let held : Holds o s n = subst (λ (j : ℕ). LeadsTo o.scopes s j) (sym fits.3) here in
      two (record { equation = false; weight = λ c. leaves n c -ℤ (pos high *ℤ begins o s c); right = pos 0 })
      (record { equation = false; weight = λ c. (pos low *ℤ begins o s c) -ℤ leaves n c; right = pos 0 })
      (most_met o ok s n low high fits.0 (inner s fits.1) held fault k past trace met)
      (least_met o ok s n low high fits.0 (inner s fits.1) held fault k past trace met)
  count_met (Loop s low high) fits met = none
  count_met (Dead n) fits met = none
  count_met (Total n low high) fits met = none
  count_met (Pair s a b) fits met = none
  count_met (Alarm n why) fits met = none

  pub dead_met : (f : Fact) → FitsOutline o f → Meets o (reverse (k ∷ past)) f
      → All (λ w. IsMet (steps_of o fault (k ∷ past)) w) (dead_rows f)
  dead_met (Dead n) fits met =
      let out = left o fault n k past in
      let turned : places n (k ∷ past) ≡ 0 = sym (places_turned n (k ∷ past)) ∙ met in
      All-cons (λ w. IsMet (steps_of o fault (k ∷ past)) w) (record { equation = false; weight = λ c. leaves n c; right = pos 0 }) [] (omega (arith, ints, out, turned)) none
  dead_met (Loop s low high) fits met = none
  dead_met (Count s n low high) fits met = none
  dead_met (Total n low high) fits met = none
  dead_met (Pair s a b) fits met = none
  dead_met (Alarm n why) fits met = none

  pub total_met : (f : Fact) → FitsOutline o f → Meets o (reverse (k ∷ past)) f
      → All (λ w. IsMet (steps_of o fault (k ∷ past)) w) (total_rows f)
  total_met (Total n low high) fits met =
      let out = left o fault n k past in
      let turned = places_turned n (k ∷ past) in
      let most : weigh (λ c. leaves n c) (steps_of o fault (k ∷ past)) ≤ℤ pos high = omega (arith, ints, out, turned, met) in
      let minus = weigh_minus (λ c. pos 0) (λ c. leaves n c) (steps_of o fault (k ∷ past)) in
      let nothing = no_weight (steps_of o fault (k ∷ past)) in
      let least : weigh (λ c. pos 0 -ℤ leaves n c) (steps_of o fault (k ∷ past)) ≤ℤ (pos 0 -ℤ pos low) = omega (arith, ints, out, turned, met, minus, nothing) in
      two (record { equation = false; weight = λ c. leaves n c; right = pos high }) (record { equation = false; weight = λ c. pos 0 -ℤ leaves n c; right = pos 0 -ℤ pos low }) most least
    where
      no_weight : (steps : List Column) → weigh (λ c. pos 0) steps ≡ pos 0
      no_weight [] = refl
      no_weight (s ∷ steps) = omega (arith, ints, no_weight steps)
  total_met (Loop s low high) fits met = none
  total_met (Count s n low high) fits met = none
  total_met (Dead n) fits met = none
  total_met (Pair s a b) fits met = none
  total_met (Alarm n why) fits met = none

-- ---- the program

-- one row
meets_one : (cs steps : List Column) (w : Weighing) → AreApart cs → ((s : Column) → Contains steps s → Contains cs s)
    → IsMet steps w
    → MeetsRow (row_of cs w) (column_counts cs steps) (pos 1)
meets_one cs steps w apart within met = by w.equation met
  where
    value : value_at (row_of cs w).terms (column_counts cs steps) ≡ weigh w.weight steps
    value = row_value w.weight cs steps apart within

    by : (v : Bool) → MeetsAs v (weigh w.weight steps) w.right
        → MeetsAs v (value_at (row_of cs w).terms (column_counts cs steps)) (w.right *ℤ pos 1)
    by true is = omega (arith, ints, value, is)
    by false is = omega (arith, ints, value, is)

-- where all rows are met, the uses of the columns meet each
pub rows_meet : (cs steps : List Column) (ws : List Weighing) → AreApart cs
    → ((s : Column) → Contains steps s → Contains cs s) → All (λ w. IsMet steps w) ws
    → (k : ℕ) → k < length (map (λ w. row_of cs w) ws) → MeetsRow (row_at (map (λ w. row_of cs w) ws) k) (column_counts cs steps) (pos 1)
rows_meet cs steps [] apart within all k low = absurd (omega arith)
rows_meet cs steps (w ∷ ws) apart within all zero low = meets_one cs steps w apart within (All-head (λ w. IsMet steps w) w ws all)
rows_meet cs steps (w ∷ ws) apart within all (suc k) low = rows_meet cs steps ws apart within (All-tail (λ w. IsMet steps w) w ws all) k (omega arith)

-- the first part of a sum
total_first : (n : ℕ) (f : ℕ → ℤ) → total (suc n) f ≡ f 0 +ℤ total n (λ k. f (suc k))
total_first zero f = omega (arith, ints)
total_first (suc n) f = omega (arith, ints, total_first n f)

total_of : (price count : Column → ℕ) (cs : List Column)
    → total (length (map price cs)) (λ e. pos (cost_at (map price cs) e) *ℤ pos (number_at (map count cs) e)) ≡ weighted (λ c. pos (price c)) (λ c. pos (count c)) cs
total_of price count [] = refl
total_of price count (c ∷ cs) =
    total_first (length (map price cs)) (λ e. pos (cost_at (map price (c ∷ cs)) e) *ℤ pos (number_at (map count (c ∷ cs)) e))
    ∙ ap (λ (z : ℤ). (pos (price c) *ℤ pos (count c)) +ℤ z) (total_of price count cs)

-- what the uses are worth
pub worth_of : (costs : List ℕ) (cs steps : List Column) → AreApart cs
    → ((s : Column) → Contains steps s → Contains cs s)
    → total (length (map (λ c. cost_of costs c) cs)) (λ e. pos (cost_at (map (λ c. cost_of costs c) cs) e) *ℤ column_counts cs steps e) ≡ weigh (λ c. pos (cost_of costs c)) steps
worth_of costs cs steps apart within = total_of (λ c. cost_of costs c) (λ c. uses c steps) cs ∙ all_uses (λ c. pos (cost_of costs c)) cs steps apart within
