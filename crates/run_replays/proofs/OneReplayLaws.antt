-- Laws of one replay.
--   one_replay        why
--   numbers_push   one node more
use Rattle.std.proofs.Common.{◌≡◌, ◌<◌, ◌≤◌, ◌+◌, ◌-◌, ◌==◌, ℕ, zero, suc, ℤ, List, [], ◌∷◌, ◌++◌, Bool, cond, length, take, slice_get, All, Contains, Option, Some, Err, inl, inr, refl, sym, ap, ◌∙◌, subst, arith}
use Rattle.std.specs.Prelude.{IfSome, position}
use Rattle.std.proofs.lemmas.Option.{slice_get_within, get_or_from_slice_get, same_Some, none-some}
use Rattle.std.proofs.lemmas.Bool.{cases_order, cases_lt}
use Rattle.std.proofs.lemmas.List.Sums.{sum_by-cons}
use Rattle.std.proofs.lemmas.List.Elements.{All-contains}
use Rattle.alf_ops.specs.declared.history.RunFault.{RunFault}
use Rattle.alf_ops.specs.declared.history.RunEvent.{RunEvent}
use Rattle.alf_check.specs.declared.rows.InputRow.{InputRow}
use Rattle.alf_check.specs.CheckedPrograms.{NumberedProgram}
use Rattle.flow_graph.specs.Nodes.{Node}
use Rattle.alf_runs.specs.Outcomes.{Outcome}
use Rattle.alf_runs.specs.Steps.{Moment, At, Over}
use Rattle.alf_runs.specs.Runs.{after, trace as passed}
use Rattle.alf_runs.specs.RunLaws.{AfterMore, StaysOver, HasOneEnd}
use Rattle.alf_runs.specs.Starts.{IsWithin, AreWithin, start, words_of}
use Rattle.alf_interp.specs.Traces.{IsNodeAt, AreNumbersOf, Runs}
use Rattle.domain_core.specs.Outlines.{Outlined, Shape, shape_of}
use Rattle.flow_facts.specs.declared.fact.Fact.{Fact}
use Rattle.flow_facts.specs.declared.fact.Fact.TheVariants.{Alarm}
use Rattle.flow_facts.specs.declared.report.BoundWord.{BoundWord}
use Rattle.flow_facts.specs.Facts.{places, Meets}
use Rattle.flow_facts.specs.Reports.{Reported}
use Rattle.ipet_rows.specs.Uses.{run_cost}
use Rattle.report_soundness.specs.ReportTold.{costs_of}
use Rattle.report_soundness.specs.Exact.{IsLast}
use Rattle.report_soundness.specs.Runs.{HasAlarm, HasAlarmOf}
use Rattle.report_objections.specs.declared.objection.Objection.{Objection}
use Rattle.report_objections.specs.declared.objection.Objection.TheVariants.{NoAlarm, NoFact, Outside}
use Rattle.report_objections.specs.Shaping.{tells_total, IsShaped}
use Rattle.report_objections.specs.Objecting.{first_line}
use Rattle.run_replays.specs.Replays.{Told, Asks, objects, passes, IsUnshaped, IsInside, IsOutside, AreWithinLines, Reaches, IsStop, fault_of, LacksAlarm, IsUnmet, IsAboveCount, IsAbovePath, TellBounds, TellFacts, TellEnd, TellsReplayedRun, stops, ends, IsReplayed}
use Rattle.run_replays.specs.OneReplay.{Differ}

-- ---- one thing that is asked

-- one thing is told, where one thing objects, none does where it passes, and the rest tells one thing
one_asked : {Objects : Objection → Type 0} {Passes : Type 0} {Rest : Told → Type 0}
    → ((e f : Objection) → Objects e → Objects f → e ≡ f) → ((e : Objection) → Objects e → Passes → ⊥)
    → ((a b : Told) → Rest a → Rest b → a ≡ b) → (a b : Told) → Asks Objects Passes Rest a → Asks Objects Passes Rest b → a ≡ b
one_asked one never rest a b (objects e first is) (objects f second same) = is ∙ ap (λ (x : Objection). Err x) (one e f first second) ∙ sym same
one_asked one never rest a b (objects e first is) (passes holds later) = absurd (never e first holds)
one_asked one never rest a b (passes holds later) (objects f second same) = absurd (never f second holds)
one_asked one never rest a b (passes holds first) (passes again second) = rest a b first second

-- ---- bounds

module _ (report : Reported) (cost : ℕ) where
  counts_one : (e f : Objection) → IsAboveCount report cost e → IsAboveCount report cost f → e ≡ f
  counts_one e f first second = first.is ∙ sym second.is

  count_never : (e : Objection) → IsAboveCount report cost e → cost ≤ report.count_bound → ⊥
  count_never e above below = let more = above.above in omega (arith, more, below)

  paths_one : (e f : Objection) → IsAbovePath report cost e → IsAbovePath report cost f → e ≡ f
  paths_one e f first second = first.is ∙ sym second.is

  path_never : (e : Objection) → IsAbovePath report cost e → IfSome report.path_bound (λ b. cost ≤ b.0) → ⊥
  path_never e above below =
      let more = above.above in
      let less : cost ≤ above.bound.0 = subst (λ (t : Option (ℕ × BoundWord)). IfSome t (λ b. cost ≤ b.0)) above.bound_is below in
      omega (arith, more, less)

  bounds_one : (a b : Told) → TellBounds report cost a → TellBounds report cost b → a ≡ b
  bounds_one = one_asked counts_one count_never (one_asked paths_one path_never (λ a b first second. first ∙ sym second))

-- ---- lines

-- the members before a place hold the one at a lesser place
member_before : {A : Type 0} (xs : List A) (i j : ℕ) (x : A) → i < j → slice_get xs i ≡ Some x
    → slice_get (take j xs) i ≡ Some x
member_before [] i j x less is = absurd (none-some x is)
member_before (y ∷ xs) i zero x less is = absurd (omega (arith, less))
member_before (y ∷ xs) zero (suc j) x less is = is
member_before (y ∷ xs) (suc i) (suc j) x less is = member_before xs i j x (omega (arith, less)) is

contained : {A : Type 0} (xs : List A) (i : ℕ) (x : A) → slice_get xs i ≡ Some x → Contains xs x
contained xs i x is = (i, slice_get_within xs i x is, get_or_from_slice_get xs i x x is)

module _ (o : Shape) (costs : List ℕ) (report : Reported) (trace : List ℕ) where
  met_before : (place : ℕ) (fact : Fact) → slice_get report.facts place ≡ Some fact → (later : ℕ) → place < later
      → All (Meets o trace) (take later report.facts) → Meets o trace fact
  met_before place fact there later less met =
      All-contains (Meets o trace) (take later report.facts) fact met (contained (take later report.facts) place fact (member_before report.facts place later fact less there))

  unmet_one : (e f : Objection) → IsUnmet o report trace e → IsUnmet o report trace f → e ≡ f
  unmet_one e f first second =
      elim (cases_order first.place second.place) [
        | inl same ↦ first.is ∙ ap (λ (i : ℕ). NoFact (first_line report + i)) same ∙ sym second.is
        | inr (inl before) ↦ absurd (first.unmet (met_before first.place first.fact first.there second.place before second.before))
        | inr (inr after) ↦ absurd (second.unmet (met_before second.place second.fact second.there first.place after first.before))
      ]

  unmet_never : (e : Objection) → IsUnmet o report trace e → All (Meets o trace) report.facts → ⊥
  unmet_never e is met = is.unmet (All-contains (Meets o trace) report.facts is.fact met (contained report.facts is.place is.fact is.there))

  facts_one : (a b : Told) → TellFacts o costs report trace a → TellFacts o costs report trace b → a ≡ b
  facts_one = one_asked unmet_one unmet_never (bounds_one report (run_cost costs trace))

-- ---- alarms

-- two lists with one more node have one last node
last_one : (before other : List ℕ) (n m : ℕ) → before ++ n ∷ [] ≡ other ++ m ∷ [] → n ≡ m
last_one [] [] n m same = cc
last_one [] (k ∷ other) n m same = absurd (no_longer k other n m same)
  where
    no_longer : (k : ℕ) (other : List ℕ) (n m : ℕ) → n ∷ [] ≡ k ∷ (other ++ m ∷ []) → ⊥
    no_longer k [] n m same = cc
    no_longer k (j ∷ other) n m same = cc
last_one (k ∷ before) [] n m same = absurd (no_shorter k before n m same)
  where
    no_shorter : (k : ℕ) (before : List ℕ) (n m : ℕ) → k ∷ (before ++ n ∷ []) ≡ m ∷ [] → ⊥
    no_shorter k [] n m same = cc
    no_shorter k (j ∷ before) n m same = cc
last_one (k ∷ before) (j ∷ other) n m same = last_one before other n m (tails same)
  where
    tails : {x y : ℕ} {xs ys : List ℕ} → x ∷ xs ≡ y ∷ ys → xs ≡ ys
    tails e = cc

last_is : (trace : List ℕ) (n m : ℕ) → IsLast trace n → IsLast trace m → n ≡ m
last_is trace n m first second = last_one first.0 second.0 n m (sym first.1 ∙ second.1)

module _ (o : Shape) (costs : List ℕ) (report : Reported) (trace : List ℕ) (fault : Option RunFault) where
  alarms_one : (e f : Objection) → LacksAlarm report.facts trace fault e → LacksAlarm report.facts trace fault f → e ≡ f
  alarms_one e f first second =
      let node = last_is trace first.node second.node first.last second.last in
      let kind : first.kind ≡ second.kind = same_Some first.kind second.kind (sym first.faults ∙ second.faults) in
      first.is ∙ ap (λ (n : ℕ). NoAlarm n first.kind) node ∙ ap (λ (k : RunFault). NoAlarm second.node k) kind ∙ sym second.is

  alarm_never : (e : Objection) → LacksAlarm report.facts trace fault e → HasAlarm report.facts trace fault → ⊥
  alarm_never e lacking has =
      let alarm : HasAlarmOf report.facts trace lacking.kind = subst (λ (f : Option RunFault). HasAlarm report.facts trace f) lacking.faults has in
      let node = last_is trace alarm.node lacking.node (alarm.before, alarm.last) lacking.last in
      lacking.lacks (subst (λ (n : ℕ). Contains report.facts (Alarm n lacking.kind)) node alarm.among)

  end_one : (a b : Told) → TellEnd o costs report trace fault a → TellEnd o costs report trace fault b → a ≡ b
  end_one = one_asked alarms_one alarm_never (facts_one o costs report trace)

-- ---- runs

-- nodes have one list of numbers
numbers_one : (nodes : List Node) → Differ nodes → (xs ys : List ℕ) (run : List Node) → AreNumbersOf nodes xs run
    → AreNumbersOf nodes ys run → xs ≡ ys
numbers_one nodes apart [] [] [] h k = refl
numbers_one nodes apart [] (n ∷ ys) [] h k = absurd k
numbers_one nodes apart (m ∷ xs) ys [] h k = absurd h
numbers_one nodes apart [] ys (node ∷ run) h k = absurd h
numbers_one nodes apart (m ∷ xs) [] (node ∷ run) h k = absurd k
numbers_one nodes apart (m ∷ xs) (n ∷ ys) (node ∷ run) h k =
    let first = apart m n node h.0 k.0 in
    let rest = numbers_one nodes apart xs ys run h.1 k.1 in
    ap (λ (x : ℕ). x ∷ xs) first ∙ ap (λ (l : List ℕ). n ∷ l) rest

-- one node more
pub numbers_push : (nodes : List Node) (xs : List ℕ) (run : List Node) (n : ℕ) (node : Node) → AreNumbersOf nodes xs run
    → IsNodeAt nodes n node → AreNumbersOf nodes (xs ++ n ∷ []) (run ++ node ∷ [])
numbers_push nodes [] [] n node are is = (is, tt)
numbers_push nodes [] (x ∷ run) n node are is = absurd are
numbers_push nodes (m ∷ xs) [] n node are is = absurd are
numbers_push nodes (m ∷ xs) (x ∷ run) n node are is = (are.0, numbers_push nodes xs run n node are.1 is)

-- 1 where it is so, and 0 where it is not
abbrev bit : Bool → ℕ
bit v = cond v 1 0

-- what stands first among nodes is there no more often than among all
places_grow : (nodes : List Node) → Differ nodes → (n : ℕ) (xs ys : List ℕ) (run more : List Node)
    → AreNumbersOf nodes xs run → AreNumbersOf nodes ys (run ++ more) → places n xs ≤ places n ys
places_grow nodes apart n [] ys [] more h k = let none : places n [] ≡ 0 = refl in omega (arith, none)
places_grow nodes apart n [] ys (node ∷ run) more h k = absurd h
places_grow nodes apart n (m ∷ xs) ys [] more h k = absurd h
places_grow nodes apart n (m ∷ xs) [] (node ∷ run) more h k = absurd k
places_grow nodes apart n (m ∷ xs) (j ∷ ys) (node ∷ run) more h k =
    let first = apart m j node h.0 k.0 in
    let rest = places_grow nodes apart n xs ys run more h.1 k.1 in
    let one : places n (m ∷ xs) ≡ bit (n == m) + places n xs = sum_by-cons (λ i. bit (n == i)) m xs in
    let other : places n (j ∷ ys) ≡ bit (n == j) + places n ys = sum_by-cons (λ i. bit (n == i)) j ys in
    let same : bit (n == m) ≡ bit (n == j) = ap (λ (i : ℕ). bit (n == i)) first in
    omega (arith, rest, one, other, same)

at_over : (node : Node) (history : List RunEvent) (outcome : Outcome) → At node history ≡ Over outcome → ⊥
at_over node history outcome same = cc

-- one node is there at a moment
at_node : (a b : Node) (c d : List RunEvent) → At a c ≡ At b d → a ≡ b
at_node a b c d same = cc

module _ (more : AfterMore) (over : StaysOver) (one : HasOneEnd) (program : NumberedProgram) (nodes : List Node) (apart : Differ nodes) (begin : Moment) (o : Shape) (costs : List ℕ) (report : Reported) where
  -- the node where the run stops is among those of each longer part of the run
  longer : (before : List ℕ) (n : ℕ) → Reaches program nodes begin before n → (ys : List ℕ) (t : ℕ)
      → length before + 1 ≤ t → AreNumbersOf nodes ys (passed program t begin)
      → places n (before ++ n ∷ []) ≤ places n ys
  longer before n reaches ys t less are =
      let k = length before in
      let rest : ℕ = t - (k + 1) in
      let whole : (k + 1) + rest ≡ t = omega (arith, less) in
      let all = more program (k + 1) rest begin in
      let here = more program k 1 begin in
      let stands : passed program 1 (after program k begin) ≡ reaches.node ∷ [] = ap (λ (m : Moment). passed program 1 m) reaches.stands in
      let shorter : passed program (k + 1) begin ≡ passed program k begin ++ reaches.node ∷ [] = here.passes ∙ ap (λ (l : List Node). passed program k begin ++ l) stands in
      let numbers = numbers_push nodes before (passed program k begin) n reaches.node reaches.numbers reaches.number in
      let given : AreNumbersOf nodes ys (passed program ((k + 1) + rest) begin) = subst (λ (u : ℕ). AreNumbersOf nodes ys (passed program u begin)) (sym whole) are in
      places_grow nodes apart n (before ++ n ∷ []) ys (passed program k begin ++ reaches.node ∷ []) (passed program rest (after program (k + 1) begin)) numbers
      (subst (λ (l : List Node). AreNumbersOf nodes ys l) (all.passes ∙ ap (λ (l : List Node). l ++ passed program rest (after program (k + 1) begin)) shorter) given)

  -- a run that stops is not within its lines farther on
  stop_within : (e : Objection) (stop : IsStop program nodes begin report e) (ys : List ℕ) (t : ℕ)
      → length stop.before + 1 ≤ t → AreNumbersOf nodes ys (passed program t begin)
      → AreWithinLines report.facts ys → ⊥
  stop_within e stop ys t less are within =
      let grown = longer stop.before stop.node stop.reaches ys t less are in
      let above = stop.above in
      let below = within stop.node in
      omega (arith, grown, above, below)

  stops_one : (e f : Objection) → IsStop program nodes begin report e → IsStop program nodes begin report f → e ≡ f
  stops_one e f first second =
      elim (cases_order (length first.before) (length second.before)) [
        | inl same ↦
            let stands : At first.reaches.node first.reaches.history ≡ At second.reaches.node second.reaches.history =
            sym first.reaches.stands ∙ ap (λ (k : ℕ). after program k begin) same ∙ second.reaches.stands in
            let one_node : first.reaches.node ≡ second.reaches.node = at_node first.reaches.node second.reaches.node first.reaches.history second.reaches.history stands in
            let number : first.node ≡ second.node = apart first.node second.node second.reaches.node (first.reaches.number ∙ ap Some one_node) second.reaches.number in
            let places : Some first.place ≡ Some second.place = sym first.place_is ∙ ap (λ (n : ℕ). position (λ f. tells_total n f) report.facts) number ∙ second.place_is in
            first.is ∙ ap (λ (i : ℕ). NoFact (first_line report + i)) (same_Some first.place second.place places) ∙ sym second.is
        | inr (inl before) ↦ absurd (stop_within e first second.before (length second.before) (omega (arith, before)) second.reaches.numbers second.within)
        | inr (inr after) ↦ absurd (stop_within f second first.before (length first.before) (omega (arith, after)) first.reaches.numbers first.within)
      ]

  -- and does not come to its end within its lines
  stop_ends : (e : Objection) → IsStop program nodes begin report e → (trace : List ℕ) (outcome : Outcome)
      → Runs program nodes begin trace outcome → AreWithinLines report.facts trace → ⊥
  stop_ends e stop trace outcome runs within =
      let k = length stop.before in
      let u = runs.ends.steps in
      elim (cases_lt k u) [
        | inl less ↦ stop_within e stop trace u (omega (arith, less)) (subst (λ (l : List Node). AreNumbersOf nodes trace l) (sym runs.ends.passes) runs.numbers) within
        | inr more ↦
            let rest : ℕ = k - u in
            let whole : u + rest ≡ k = omega (arith, more) in
            let stays = over program u rest begin outcome runs.ends.over in
            at_over stop.reaches.node stop.reaches.history outcome (sym stop.reaches.stands ∙ ap (λ (t : ℕ). after program t begin) (sym whole) ∙ stays)
      ]

  -- one thing is told of a run
  run_one : (a b : Told) → TellsReplayedRun program nodes begin o costs report a → TellsReplayedRun program nodes begin o costs report b
      → a ≡ b
  run_one a b (stops e first is) (stops f second same) = is ∙ ap (λ (x : Objection). Err x) (stops_one e f first second) ∙ sym same
  run_one a b (stops e first is) (ends trace outcome runs within told) = absurd (stop_ends e first trace outcome runs within)
  run_one a b (ends trace outcome runs within told) (stops f second same) = absurd (stop_ends f second trace outcome runs within)
  run_one a b (ends trace outcome runs within told) (ends other ending again kept last) =
      let same = one program begin runs.run again.run outcome ending runs.ends again.ends in
      let traces : trace ≡ other = numbers_one nodes apart trace other again.run (subst (λ (run : List Node). AreNumbersOf nodes trace run) same.same_nodes runs.numbers) again.numbers in
      let first : TellEnd o costs report other (fault_of outcome) a = subst (λ (t : List ℕ). TellEnd o costs report t (fault_of outcome) a) traces told in
      end_one o costs report other (fault_of ending) a b (subst (λ (out : Outcome). TellEnd o costs report other (fault_of out) a) same.same_outcome first) last

-- ---- values

-- one row and one value are at a place
same_row : (rows : List InputRow) (values : List ℤ) (k : ℕ) (row : InputRow) (value : ℤ) → slice_get rows k ≡ Some row
    → slice_get values k ≡ Some value → IsInside rows values k → IsWithin row value
same_row rows values k row value row_is value_is inside =
    let one : inside.row ≡ row = same_Some inside.row row (sym inside.row_is ∙ row_is) in
    let other : inside.value ≡ value = same_Some inside.value value (sym inside.value_is ∙ value_is) in
    subst (λ (r : InputRow). IsWithin r value) one (subst (λ (v : ℤ). IsWithin inside.row v) other inside.within)

within_at : (rows : List InputRow) (values : List ℤ) (k : ℕ) (row : InputRow) (value : ℤ) → slice_get rows k ≡ Some row
    → slice_get values k ≡ Some value → AreWithin rows values → IsWithin row value
within_at [] values k row value row_is value_is within = absurd (none-some row row_is)
within_at (r ∷ rows) [] k row value row_is value_is within = absurd within
within_at (r ∷ rows) (v ∷ values) zero row value row_is value_is within =
    subst (λ (x : InputRow). IsWithin x value) (same_Some r row row_is) (subst (λ (y : ℤ). IsWithin r y) (same_Some v value value_is) within.0)
within_at (r ∷ rows) (v ∷ values) (suc k) row value row_is value_is within = within_at rows values k row value row_is value_is within.1

module _ (rows : List InputRow) (values : List ℤ) where
  outside_one : (e f : Objection) → IsOutside rows values e → IsOutside rows values f → e ≡ f
  outside_one e f first second =
      elim (cases_order first.k second.k) [
        | inl same ↦ first.is ∙ ap (λ (k : ℕ). Outside k) same ∙ sym second.is
        | inr (inl before) ↦ absurd (first.outside (same_row rows values first.k first.row first.value first.row_is first.value_is (second.before first.k before)))
        | inr (inr after) ↦ absurd (second.outside (same_row rows values second.k second.row second.value second.row_is second.value_is (first.before second.k after)))
      ]

  outside_never : (e : Objection) → IsOutside rows values e → AreWithin rows values → ⊥
  outside_never e is within = is.outside (within_at rows values is.k is.row is.value is.row_is is.value_is within)

-- ---- all

module _ (o : Outlined) (report : Reported) where
  unshaped_one : (e f : Objection) → IsUnshaped o report e → IsUnshaped o report f → e ≡ f
  unshaped_one e f first second = first.is ∙ sym second.is

  unshaped_never : (e : Objection) → IsUnshaped o report e → IsShaped o report → ⊥
  unshaped_never e is shaped = is.shapeless shaped

-- one thing is told of a replay
pub one_replay : AfterMore → StaysOver → HasOneEnd → (program : NumberedProgram) (nodes : List Node) (rows : List InputRow) (o : Outlined) (report : Reported) (values : List ℤ) → Differ nodes
    → (a b : Told) → IsReplayed program nodes rows o report values a → IsReplayed program nodes rows o report values b → a ≡ b
one_replay more over one program nodes rows o report values apart =
    one_asked (unshaped_one o report) (unshaped_never o report)
    (one_asked (outside_one rows values) (outside_never rows values) (run_one more over one program nodes apart (start program rows (words_of rows values)) (shape_of o) (costs_of o) report))
