-- On the way to the laws of analysis.
--   one_analysis, longer_analysis, one_event_list, alike_outlines   why
use Rattle.std.specs.Prelude.{slice_index, nat_lt, not, if◌then◌else◌}
use Rattle.std.proofs.Common.{◌≡◌, ◌≤◌, ◌<◌, ◌*◌, ℕ, List, [], ◌∷◌, ◌++◌, length, None, slice_get, ◌==◌, ◌&&◌, refl, sym, ap, subst, ◌∙◌, arith, ⊎_elim}
use Rattle.std.proofs.lemmas.Bool.{cases_lt}
use Rattle.std.proofs.lemmas.Option.{none-some, same_Some}
use Rattle.domain_core.specs.declared.event.Event.{Event}
use Rattle.domain_core.specs.declared.outline.ScopeRow.{ScopeRow}
use Rattle.domain_core.specs.Outlines.{Outlined, Shape, shape_of, header_of, kind_of}
use Rattle.flow_facts.specs.declared.fact.Fact.{Fact}
use Rattle.flow_facts.specs.declared.fact.Fact.TheVariants.{Loop, Count, Pair}
use Rattle.flow_facts.specs.Reports.{NamedNode, Reported}
use Rattle.recorder_rules.specs.TotalRules.{spread_at}
use Rattle.recorder_rules.specs.LoopRules.{is_loop, own_of, is_counted}
use Rattle.recorder_rules.specs.PairRules.{together}
use Rattle.worklist_rules.specs.declared.policy.Policy.{Policy}
use Rattle.worklist_rules.specs.Pools.{Spot}
use Rattle.worklist_rules.specs.Policies.{IsPolicyRun}
use Rattle.worklist_rules.specs.PolicyLaws.{run_unique, run_within, closed_longer}
use Rattle.abstract_exec.specs.Explorations.{IsLeftIn}
use Rattle.memory_model.specs.KeptMemories.{MemoryParts}
use Rattle.memory_model.specs.SeenOrders.{parts_order}
use Rattle.abstract_step.specs.Steppers.{StepperParts, stepped_by}
use Rattle.report_soundness.specs.ReportTold.{FourRecorders, four_order, four_recording, Found, found_of, is_stepped, below, sum_below, span_lines, dead_lines, total_lines, alarm_lines, greatest_total, told_facts, costs_of, count_bound, named_nodes, told_report}
use Rattle.program_machines.specs.Rankings.{HasOneShape}
use Rattle.program_analysis.specs.Answers.{Answer, Told, Unbounded}
use Rattle.program_analysis.specs.Analyses.{PoolOf, first_pool, IsExploration, IsClosed, IsLeft, IsFound}
use Rattle.program_analysis.specs.Twins.{AreTwins, along}
use Rattle.program_analysis.specs.TwinLaws.{opened_along, run_along, run_same}
use Rattle.program_analysis.specs.FourTwinLaws.{four_twins, by_shape}
use Rattle.program_analysis.specs.AnalysisLaws.{AreAlike, PartsHaveOneAnalysis, StaysFound, PartsHaveOneEventList, HasOneAlike, same_named}

pub alike_outlines : HasOneShape → HasOneAlike
alike_outlines one program graph costs o other kept is names priced was named costed = record {
  shape = one graph (shape_of o) (shape_of other) kept is was;
  names = names ∙ sym named;
  costs = priced ∙ sym costed;
}

-- ---- what is told

-- the facts, by the shape and the count of nodes
abbrev facts_by : Found → Shape → ℕ → List Fact
facts_by found shape count =
    below (λ s. if is_loop (kind_of shape.scopes s) then span_lines (Loop s) (spread_at found.books.loops.spreads s) else []) (length shape.scopes)
    ++ (below (λ s. below (λ n. if is_stepped found n && (is_counted shape n && (own_of shape n == s)) then span_lines (Count s n) (spread_at found.books.counts.spreads n) else []) count) (length shape.scopes)
    ++ (below (dead_lines found) count
    ++ (below (total_lines found) count
    ++ (below
    (λ s. below
    (λ a. if is_stepped found a && ((own_of shape a == s) && not (header_of shape.scopes s == a))
    then below (λ b. if nat_lt a b && ((is_stepped found b && ((own_of shape b == s) && not (header_of shape.scopes s == b))) && not (together found.books.pairs a b)) then Pair s a b ∷ [] else []) count
    else [])
    count)
    (length shape.scopes)
    ++ below (alarm_lines found) count))))

told_by : (o : Outlined) (found : Found) → told_facts o found ≡ facts_by found (shape_of o) (length o.nodes)
told_by o found = refl

-- the report is the same along alike outlines
told_alike : (o other : Outlined) → AreAlike o other → (found : Found) → told_report o found ≡ told_report other found
told_alike o other alike found =
    let made : List NamedNode → List ScopeRow → List Fact → ℕ → Reported = λ nodes scopes facts bound. record {
      form = 2;
      nodes = nodes;
      scopes = scopes;
      facts = facts;
      count_bound = bound;
      path_bound = None;
      cert = None;
    } in
    let nodes : named_nodes o ≡ named_nodes other = same_named o.nodes other.nodes (ap (λ (shape : Shape). shape.own) alike.shape) alike.costs alike.names in
    let scopes : o.scopes ≡ other.scopes = ap (λ (shape : Shape). shape.scopes) alike.shape in
    let facts : told_facts o found ≡ told_facts other found = by_shape o other alike.shape (facts_by found) in
    let bound : count_bound o found ≡ count_bound other found =
    ap (λ (costs : List ℕ). sum_below (λ n. slice_index costs n * greatest_total found n) (length o.nodes)) alike.costs
    ∙ by_shape o other alike.shape (λ shape count. sum_below (λ n. slice_index (costs_of other) n * greatest_total found n) count) in
    ap (λ (ns : List NamedNode). made ns o.scopes (told_facts o found) (count_bound o found)) nodes
    ∙ ap (λ (ss : List ScopeRow). made (named_nodes other) ss (told_facts o found) (count_bound o found)) scopes
    ∙ ap (λ (fs : List Fact). made (named_nodes other) other.scopes fs (count_bound o found)) facts
    ∙ ap (made (named_nodes other) other.scopes (told_facts other found)) bound

-- ---- explorations

module _ (parts : StepperParts) (o other : Outlined) (policy : Policy) (turns : ℕ) (alike : AreAlike o other) where
  twins : AreTwins four_recording o other
  twins = four_twins o other alike.shape

  explored_along : (events : List Event) (pool : PoolOf) → IsExploration parts o policy turns events pool
      → IsExploration parts other policy turns events (along pool other)
  explored_along events pool explored =
      subst (λ (first : PoolOf). IsPolicyRun stepped_by parts_order four_order four_recording policy turns first events (along pool other)) (opened_along stepped_by parts_order four_order four_recording parts o other twins)
      (run_along stepped_by parts_order four_order four_recording policy turns events (first_pool parts o) pool other twins explored)

  closed_along : (report : Reported) → IsClosed parts o policy turns report → IsClosed parts other policy turns report
  closed_along report closed = record {
    events = closed.events;
    pool = along closed.pool other;
    explored = explored_along closed.events closed.pool closed.explored;
    empty = closed.empty;
    told = closed.told ∙ told_alike o other alike (found_of closed.pool);
  }

  left_along : (scope : ℕ) → IsLeft parts o policy turns scope → IsLeft parts other policy turns scope
  left_along scope left =
      let along_other : IsExploration parts other policy turns left.events (along left.pool other) = explored_along left.events left.pool left.explored in
      record {
        events = left.events;
        pool = along left.pool other;
        explored = along_other;
        left = go left.left;
      }
    where
      outline_is : left.pool.outline ≡ o
      outline_is = (run_same stepped_by parts_order four_order four_recording policy turns left.events (first_pool parts o) left.pool left.explored)

      go : IsLeftIn left.pool scope → IsLeftIn (along left.pool other) scope
      go (spot, first, is) = (spot, first, is ∙ ap (λ (out : Outlined). slice_index (shape_of out).own spot.node) outline_is ∙ ap (λ (shape : Shape). slice_index shape.own spot.node) alike.shape)

  -- the answer is found along the other
  found_along : (answer : Answer) → IsFound parts o policy turns answer → IsFound parts other policy turns answer
  found_along (Told report) closed = closed_along report closed
  found_along (Unbounded scope) left = left_along scope left

-- the pool in the end
same_pool : (parts : StepperParts) (o : Outlined) (policy : Policy) (turns : ℕ) (events others : List Event) (pool pool' : PoolOf)
    → IsExploration parts o policy turns events pool → IsExploration parts o policy turns others pool' → pool ≡ pool'
same_pool parts o policy turns events others pool pool' first second =
    (run_unique stepped_by parts_order four_order four_recording policy turns events others (first_pool parts o) pool pool' first second).1

no_place_left : (pool : PoolOf) (scope : ℕ) → pool.spots ≡ [] → IsLeftIn pool scope → ⊥
no_place_left pool scope none (spot, first, is) = none-some spot (ap (λ (spots : List (Spot MemoryParts FourRecorders)). slice_get spots 0) (sym none) ∙ first)

same_scope : (pool : PoolOf) (a b : ℕ) → IsLeftIn pool a → IsLeftIn pool b → a ≡ b
same_scope pool a b (spot, first, is) (place, second, was) =
    is ∙ ap (λ (s : Spot MemoryParts FourRecorders). slice_index (shape_of pool.outline).own s.node) (same_Some spot place (sym first ∙ second)) ∙ sym was

one_answer : (parts : StepperParts) (o : Outlined) (policy : Policy) (turns : ℕ) (a b : Answer)
    → IsFound parts o policy turns a → IsFound parts o policy turns b → a ≡ b
one_answer parts o policy turns (Told report) (Told other) first second =
    let pools : first.pool ≡ second.pool = same_pool parts o policy turns first.events second.events first.pool second.pool first.explored second.explored in
    ap Told (first.told ∙ ap (λ (pool : PoolOf). told_report o (found_of pool)) pools ∙ sym second.told)
one_answer parts o policy turns (Told report) (Unbounded scope) first second =
    let pools : first.pool ≡ second.pool = same_pool parts o policy turns first.events second.events first.pool second.pool first.explored second.explored in
    absurd (no_place_left second.pool scope (ap (λ (pool : PoolOf). pool.spots) (sym pools) ∙ first.empty) second.left)
one_answer parts o policy turns (Unbounded scope) (Told report) first second =
    let pools : first.pool ≡ second.pool = same_pool parts o policy turns first.events second.events first.pool second.pool first.explored second.explored in
    absurd (no_place_left first.pool scope (ap (λ (pool : PoolOf). pool.spots) pools ∙ second.empty) first.left)
one_answer parts o policy turns (Unbounded scope) (Unbounded other) first second =
    let pools : first.pool ≡ second.pool = same_pool parts o policy turns first.events second.events first.pool second.pool first.explored second.explored in
    ap Unbounded (same_scope second.pool scope other (subst (λ (pool : PoolOf). IsLeftIn pool scope) pools first.left) second.left)

-- a program has one analysis
pub one_analysis : PartsHaveOneAnalysis
one_analysis parts o other policy turns a b alike first second = one_answer parts other policy turns a b (found_along parts o other policy turns alike a first) second

-- and each number of turns that is not below the steps finds the same report
pub longer_analysis : StaysFound
longer_analysis parts o policy turns report closed =
    let within = run_within stepped_by parts_order four_order four_recording policy turns closed.events (first_pool parts o) closed.pool (omega arith) closed.explored in (
      within,
      λ more enough. record {
        events = closed.events;
        pool = closed.pool;
        explored = closed_longer stepped_by parts_order four_order four_recording policy turns more closed.events (first_pool parts o) closed.pool enough closed.explored closed.empty;
        empty = closed.empty;
        told = closed.told;
      },
    )

-- two explorations that leave no place, in so many turns and in more
module _ (parts : StepperParts) (o : Outlined) (policy : Policy) where
  events_on : (turns more : ℕ) (events others : List Event) (pool pool' : PoolOf) → turns ≤ more
      → IsExploration parts o policy turns events pool → pool.spots ≡ []
      → IsExploration parts o policy more others pool' → events ≡ others
  events_on turns more events others pool pool' enough first none second =
      let within = run_within stepped_by parts_order four_order four_recording policy turns events (first_pool parts o) pool (omega arith) first in
      let on = closed_longer stepped_by parts_order four_order four_recording policy turns more events (first_pool parts o) pool (omega (arith, within, enough)) first none in
      (run_unique stepped_by parts_order four_order four_recording policy more events others (first_pool parts o) pool pool' on second).0

-- they have one list of events
pub one_event_list : PartsHaveOneEventList
one_event_list parts o other policy turns more a b alike first second =
    let pool = along first.pool other in
    let moved : IsExploration parts other policy turns first.events pool = explored_along parts o other policy turns alike first.events first.pool first.explored in
    ⊎_elim
    (λ (less : turns < more). events_on parts other policy turns more first.events second.events pool second.pool (omega (arith, less)) moved first.empty second.explored)
    (λ (enough : more ≤ turns). sym (events_on parts other policy more turns second.events first.events second.pool pool enough second.explored second.empty moved))
    (cases_lt turns more)
