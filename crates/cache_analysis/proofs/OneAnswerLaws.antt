-- A program has one analysis with a cache.
--   AreAlike o other    the outlines have one shape, the same costs and the same notes
--   miss_twins          the recorder answers the same along both
--   told_along          and the same is told
--   one_analysis        so a program has one answer
use Rattle.std.specs.Prelude.{slice_index, slice_index_or, slice_set, nat_lt, not, if◌then◌else◌}
use Rattle.std.specs.List.{AllZip, range_with_len}
use Rattle.std.proofs.Common.{◌≡◌, ◌+◌, ◌-◌, ◌*◌, ℕ, zero, suc, Bool, true, false, ◌&&◌, List, [], ◌∷◌, ◌++◌, length, replicate, slice_get, refl, sym, ap, subst, ◌∙◌}
use Rattle.std.proofs.lemmas.List.{length-map}
use Rattle.std.proofs.lemmas.Option.{none-some, same_Some}
use Rattle.alf_check.specs.declared.rows.InputRow.{InputRow}
use Rattle.alf_check.specs.CheckedPrograms.{CheckedParts, NumberedProgram, seen}
use Rattle.flow_graph.specs.Numbering.{GraphParts}
use Rattle.flow_graph.specs.Graphs.{HasProgram}
use Rattle.domain_core.specs.declared.event.Event.{Event}
use Rattle.domain_core.specs.Outlines.{Outlined, Shape as OutlineShape, shape_of}
use Rattle.worklist_rules.specs.declared.policy.Policy.{Policy}
use Rattle.worklist_rules.specs.Pools.{Spot, Pooled}
use Rattle.worklist_rules.specs.Events.{opened}
use Rattle.worklist_rules.specs.Policies.{IsPolicyRun}
use Rattle.worklist_rules.specs.PolicyLaws.{run_unique}
use Rattle.abstract_exec.specs.Explorations.{IsLeftIn}
use Rattle.memory_model.specs.KeptMemories.{MemoryParts}
use Rattle.memory_model.specs.SeenOrders.{parts_order}
use Rattle.abstract_step.specs.Steppers.{StepperParts, stepped_by}
use Rattle.report_soundness.specs.ReportTold.{costs_of}
use Rattle.program_machines.specs.Rankings.{HasOneShape}
use Rattle.program_analysis.specs.Twins.{AreTwins, along}
use Rattle.program_analysis.specs.TwinLaws.{opened_along, run_along, run_same}
use Rattle.program_analysis.specs.AlongsideLaws.{zip_at}
use Rattle.program_analysis.specs.TwinRuns.{IsBeside, RunsAlso, beside}
use Rattle.program_analysis.specs.TwinRunLaws.{none_beside, run_beside}
use Rattle.program_analysis.specs.TwinMachines.{IsProgramOf, IsTwin}
use Rattle.program_analysis.specs.TwinMachineLaws.{first_twin, machines_are_twins}
use Rattle.line_cache.specs.Sure.{rows_after, unsure}
use Rattle.line_cache.specs.MissRules.{Counted, Collected, may_miss, miss_order, miss_recording}
use Rattle.cached_runs.specs.Answers.{CacheLines, CacheAnswer, Told, Unbounded}
use Rattle.cached_runs.specs.CachedRuns.{hits_at, hits_below, told_lines, IsFound}
use Rattle.cache_analysis.specs.Analyses.{HasOneAnalysis}

-- the outlines have one shape, the same costs and the same notes
record AreAlike (o other : Outlined) : Type 0 where
  shape : shape_of o ≡ shape_of other
  costs : costs_of o ≡ costs_of other
  notes : o.notes ≡ other.notes

-- ---- the recorder

-- what the notes tell of a node's lines, and what a visit makes of a recorder
abbrev lines_by : List ℕ → ℕ → List ℕ
lines_by notes k = range_with_len (slice_index notes (3 + 2 * k)) (slice_index notes (4 + 2 * k) - slice_index notes (3 + 2 * k))

abbrev unsure_by : List ℕ → Counted → ℕ → ℕ
unsure_by notes r k = unsure (slice_index notes 0) (slice_index notes 1) r.rows (lines_by notes k)

abbrev gone_by : List ℕ → List ℕ → Counted → ℕ → Counted
gone_by notes costs r k = record {
  rows = rows_after (slice_index notes 0) (slice_index notes 1) r.rows (lines_by notes k);
  number = r.number + (slice_index costs k + slice_index notes 2 * unsure_by notes r k);
}

module _ (o other : Outlined) (alike : AreAlike o other) where
  count_same : length o.nodes ≡ length other.nodes
  count_same = sym (length-map o.nodes (λ row. row.scope)) ∙ ap (λ (shape : OutlineShape). length shape.own) alike.shape ∙ length-map other.nodes (λ row. row.scope)

  -- the recorder answers the same along both
  miss_twins : AreTwins miss_recording o other
  miss_twins =
      let begun : List ℕ → List ℕ → Counted = λ notes costs. record { rows = replicate (slice_index notes 0) []; number = slice_index costs 0 } in
      let noted : Collected → List Bool → Collected = λ b nodes. record { worst = b.worst; missed = nodes } in
      record {
        shape = alike.shape;
        count = count_same;
        first = ap (λ (notes : List ℕ). begun notes (costs_of o)) alike.notes ∙ ap (λ (costs : List ℕ). begun other.notes costs) alike.costs;
        first_book = ap (λ (n : ℕ). record { worst = 0; missed = replicate n false }) count_same;
        gone = λ r b n k. ap (λ (notes : List ℕ). gone_by notes (costs_of o) r k) alike.notes ∙ ap (λ (costs : List ℕ). gone_by other.notes costs r k) alike.costs;
        gone_book = λ r b n k. ap (λ (notes : List ℕ). noted b (if nat_lt 0 (unsure_by notes r k) then slice_set b.missed k true else b.missed)) alike.notes;
        finished = λ r b n. refl;
      }

-- the same hits are told
hits_same : (o other : Outlined) (b : Collected) (stepped : List Bool) (k : ℕ) → o.notes ≡ other.notes
    → hits_below o b stepped k ≡ hits_below other b stepped k
hits_same o other b stepped zero notes = refl
hits_same o other b stepped (suc k) notes =
    ap (λ (hits : List ℕ). hits ++ hits_at o b stepped k) (hits_same o other b stepped k notes)
    ∙ ap (λ (all : List ℕ). hits_below other b stepped k ++ (if slice_index_or stepped k false && (nat_lt (slice_index all (3 + 2 * k)) (slice_index all (4 + 2 * k)) && not (may_miss b k)) then k ∷ [] else [])) notes

abbrev PoolOf : Type 0
PoolOf = Pooled StepperParts MemoryParts Counted Collected

-- what is told of a pool along the one is told of it along the other
told_along : (w : PoolOf) (other : Outlined) → w.outline.notes ≡ other.notes
    → length w.outline.nodes ≡ length other.nodes → told_lines w ≡ told_lines (along w other)
told_along w other notes count =
    let made : List ℕ → CacheLines = λ hits. record { hits = hits; bound = w.book.worst } in
    ap (λ (n : ℕ). made (hits_below w.outline w.book w.stepped n)) count ∙ ap made (hits_same w.outline other w.book w.stepped (length other.nodes) notes)

-- ---- explorations

abbrev first_pool : StepperParts → Outlined → PoolOf
first_pool parts o = opened stepped_by miss_recording parts o

abbrev IsExploration : StepperParts → Outlined → Policy → ℕ → List Event → PoolOf → Type 0
IsExploration parts o policy turns events pool = IsPolicyRun stepped_by parts_order miss_order miss_recording policy turns (first_pool parts o) events pool

abbrev Finds : StepperParts → Outlined → Policy → ℕ → CacheAnswer → Type 0
Finds parts o policy turns answer = IsFound stepped_by parts_order parts o policy turns answer

module _ (parts : StepperParts) (o other : Outlined) (policy : Policy) (turns : ℕ) (alike : AreAlike o other) where
  twins : AreTwins miss_recording o other
  twins = miss_twins o other alike

  explored_along : (events : List Event) (pool : PoolOf) → IsExploration parts o policy turns events pool
      → IsExploration parts other policy turns events (along pool other)
  explored_along events pool explored =
      subst (λ (first : PoolOf). IsPolicyRun stepped_by parts_order miss_order miss_recording policy turns first events (along pool other)) (opened_along stepped_by parts_order miss_order miss_recording parts o other twins)
      (run_along stepped_by parts_order miss_order miss_recording policy turns events (first_pool parts o) pool other twins explored)

  outline_is : (events : List Event) (pool : PoolOf) → IsExploration parts o policy turns events pool → pool.outline ≡ o
  outline_is events pool explored = run_same stepped_by parts_order miss_order miss_recording policy turns events (first_pool parts o) pool explored

  -- the answer is found along the other
  found_along : (answer : CacheAnswer) → Finds parts o policy turns answer → Finds parts other policy turns answer
  found_along (Told lines) closed =
      let is = outline_is closed.events closed.pool closed.explored in
      record {
        events = closed.events;
        pool = along closed.pool other;
        explored = explored_along closed.events closed.pool closed.explored;
        empty = closed.empty;
        told = closed.told ∙ told_along closed.pool other (ap (λ (out : Outlined). out.notes) is ∙ alike.notes) (ap (λ (out : Outlined). length out.nodes) is ∙ count_same o other alike);
      }
  found_along (Unbounded scope) left = record {
    events = left.events;
    pool = along left.pool other;
    explored = explored_along left.events left.pool left.explored;
    left = go left.left;
  }
    where
      go : IsLeftIn left.pool scope → IsLeftIn (along left.pool other) scope
      go (spot, first, is) = (
        spot,
        first,
        is ∙ ap (λ (out : Outlined). slice_index (shape_of out).own spot.node) (outline_is left.events left.pool left.explored) ∙ ap (λ (shape : OutlineShape). slice_index shape.own spot.node) alike.shape,
      )

-- ---- other parts of the program

module _ (program : NumberedProgram) (graph : GraphParts) (rows : List InputRow) (checked other : CheckedParts) (first : IsProgramOf program checked) (second : IsProgramOf program other) (o : Outlined) (policy : Policy) (turns : ℕ) where
  -- the two as steppers
  abbrev parts_with : CheckedParts → StepperParts
  parts_with c = record { checked = c; graph = graph; rows = rows }

  abbrev Twin : MemoryParts → MemoryParts → Type 0
  Twin = IsTwin checked other

  abbrev first_spots : CheckedParts → List (Spot MemoryParts Counted)
  first_spots c = (first_pool (parts_with c) o).spots

  first_beside : AllZip (IsBeside Twin) (first_spots checked) (first_spots other)
  first_beside = (((stepped_by (parts_with other)).first, first_twin program checked other first second graph rows, refl), tt)

  -- what explorations make of the pool beside
  explored : (pool : PoolOf) (events : List Event) → IsExploration (parts_with checked) o policy turns events pool
      → RunsAlso stepped_by parts_order miss_order miss_recording Twin (parts_with other) policy turns (first_pool (parts_with checked) o) pool (first_spots other) events
  explored pool events run =
      run_beside stepped_by parts_order miss_order miss_recording Twin (parts_with other) policy turns events (first_pool (parts_with checked) o) pool (first_spots other)
      (machines_are_twins program checked other first second graph rows) first_beside run

  -- what is found of the parts of a program is found of other parts of it
  found_of_other : (answer : CacheAnswer) → Finds (parts_with checked) o policy turns answer
      → Finds (parts_with other) o policy turns answer
  found_of_other (Told lines) h =
      let also = explored h.pool h.events h.explored in
      record {
        events = h.events;
        pool = beside h.pool (parts_with other) also.others;
        explored = also.run;
        empty = none_beside (IsBeside Twin) h.pool.spots also.others also.beside_new h.empty;
        told = h.told;
      }
  found_of_other (Unbounded scope) h =
      let also = explored h.pool h.events h.explored in
      let spot = h.left.0 in
      let found = zip_at (IsBeside Twin) h.pool.spots also.others 0 spot also.beside_new h.left.1 in
      record {
        events = h.events;
        pool = beside h.pool (parts_with other) also.others;
        explored = also.run;
        left = (found.0, found.1, h.left.2 ∙ ap (λ (s : Spot MemoryParts Counted). slice_index (shape_of h.pool.outline).own s.node) (sym found.2.2));
      }

-- ---- one answer

no_place_left : (pool : PoolOf) (scope : ℕ) → pool.spots ≡ [] → IsLeftIn pool scope → ⊥
no_place_left pool scope none (spot, first, is) = none-some spot (ap (λ (spots : List (Spot MemoryParts Counted)). slice_get spots 0) (sym none) ∙ first)

same_scope : (pool : PoolOf) (a b : ℕ) → IsLeftIn pool a → IsLeftIn pool b → a ≡ b
same_scope pool a b (spot, first, is) (place, second, was) =
    is ∙ ap (λ (s : Spot MemoryParts Counted). slice_index (shape_of pool.outline).own s.node) (same_Some spot place (sym first ∙ second)) ∙ sym was

module _ (parts : StepperParts) (o : Outlined) (policy : Policy) (turns : ℕ) where
  same_pool : (events others : List Event) (pool pool' : PoolOf) → IsExploration parts o policy turns events pool
      → IsExploration parts o policy turns others pool' → pool ≡ pool'
  same_pool events others pool pool' first second = (run_unique stepped_by parts_order miss_order miss_recording policy turns events others (first_pool parts o) pool pool' first second).1

  one_answer : (a b : CacheAnswer) → Finds parts o policy turns a → Finds parts o policy turns b → a ≡ b
  one_answer (Told lines) (Told more) first second =
      let pools = same_pool first.events second.events first.pool second.pool first.explored second.explored in
      ap Told (first.told ∙ ap (λ (pool : PoolOf). told_lines pool) pools ∙ sym second.told)
  one_answer (Told lines) (Unbounded scope) first second =
      let pools = same_pool first.events second.events first.pool second.pool first.explored second.explored in
      absurd (no_place_left second.pool scope (ap (λ (pool : PoolOf). pool.spots) (sym pools) ∙ first.empty) second.left)
  one_answer (Unbounded scope) (Told lines) first second =
      let pools = same_pool first.events second.events first.pool second.pool first.explored second.explored in
      absurd (no_place_left first.pool scope (ap (λ (pool : PoolOf). pool.spots) pools ∙ second.empty) first.left)
  one_answer (Unbounded scope) (Unbounded more) first second =
      let pools = same_pool first.events second.events first.pool second.pool first.explored second.explored in
      ap Unbounded (same_scope second.pool scope more (subst (λ (pool : PoolOf). IsLeftIn pool scope) pools first.left) second.left)

-- so a program has one answer
pub one_analysis : HasOneShape → HasOneAnalysis
one_analysis one program graph rows shape costs policy turns a b h k =
    let has : HasProgram graph = record { program = seen h.checked; keeps = h.keeps; is = h.graph_is } in
    let alike : AreAlike h.outline k.outline = record {
      shape = one graph (shape_of h.outline) (shape_of k.outline) has h.outline_is k.outline_is;
      costs = h.costs_are ∙ sym k.costs_are;
      notes = h.noted ∙ sym k.noted;
    } in
    let other = found_of_other program graph rows h.checked k.checked h.program_is k.program_is h.outline policy turns a h.found in
    let parts : StepperParts = record { checked = k.checked; graph = graph; rows = rows } in
    one_answer parts k.outline policy turns a b (found_along parts h.outline k.outline policy turns alike a other) k.found
