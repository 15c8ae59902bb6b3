-- When a bound and a list of hits are right for the runs of a system, whatever the cache has at first.
--   has_line o n         the node has a line
--   hits_at o b stepped n   the list of the node, where it was stepped, has a line, and is not missed
--   hits_below           so of the nodes below k, in order
--   told_lines w         what is told of a pool
--   IsBoundFor o lines trace c   a run costs no more than the bound, and each access at a node told hits, where the cache has c at first
--   AreSoundLinesFor           so it is for each contents
--   AreSoundLines system o lines   each run ends, and so it is for each run that ends
--   IsClosed, IsLeft     the policy's run leaves no place, and the lines tell what was collected; or the turns are used up in a scope
--   IsFound machine states stepper o policy turns answer   the one or the other
use Rattle.std.specs.Prelude.{◌≡◌, ◌≤◌, ◌+◌, ◌*◌, ℕ, zero, suc, Bool, true, false, not, ◌&&◌, nat_lt, if◌then◌else◌, List, [], ◌∷◌, ◌++◌, length, Option, Contains, slice_index_or}
use Rattle.alf_ops.specs.declared.history.RunFault.{RunFault}
use Rattle.domain_core.specs.declared.event.Event.{Event}
use Rattle.domain_core.specs.Orders.{Order}
use Rattle.domain_core.specs.Outlines.{Outlined}
use Rattle.domain_core.specs.Machines.{System, Machine}
use Rattle.ipet_rows.specs.Uses.{run_cost}
use Rattle.worklist_rules.specs.declared.policy.Policy.{Policy}
use Rattle.worklist_rules.specs.Pools.{Pooled}
use Rattle.worklist_rules.specs.Events.{opened}
use Rattle.worklist_rules.specs.Policies.{IsPolicyRun}
use Rattle.domain_core.specs.SystemRuns.{IsRun}
use Rattle.abstract_exec.specs.Explorations.{IsLeftIn}
use Rattle.report_soundness.specs.ReportTold.{costs_of}
use Rattle.worklist_rules.specs.EndedRuns.{Passes, RunEnds}
use Rattle.line_cache.specs.Lines.{sets_of, ways_of, penalty_of, first_of, end_of}
use Rattle.line_cache.specs.Lru.{Contents, IsContents, Access, missed_of}
use Rattle.line_cache.specs.Traced.{accesses_along}
use Rattle.line_cache.specs.MissRules.{Counted, Collected, may_miss, miss_order, miss_recording}
use Rattle.cached_runs.specs.Answers.{CacheLines, CacheAnswer, Told, Unbounded}

-- the node has a line
abbrev pub has_line : Outlined → ℕ → Bool
has_line o n = nat_lt (first_of o n) (end_of o n)

-- the node, where it was stepped, has a line, and is not missed
abbrev pub hits_at : Outlined → Collected → List Bool → ℕ → List ℕ
hits_at o b stepped n = if slice_index_or stepped n false && (has_line o n && not (may_miss b n)) then n ∷ [] else []

abbrev pub hits_below : Outlined → Collected → List Bool → ℕ → List ℕ
hits_below o b stepped zero = []
hits_below o b stepped (suc k) = hits_below o b stepped k ++ hits_at o b stepped k

-- what is told of a pool
abbrev pub told_lines : {S T : Type 0} → Pooled S T Counted Collected → CacheLines
told_lines w = record { hits = hits_below w.outline w.book w.stepped (length w.outline.nodes); bound = w.book.worst }

-- a run costs no more than the bound, and each access at a node told hits, where the cache has c at first
pub record IsBoundFor (o : Outlined) (lines : CacheLines) (trace : List ℕ) (c : Contents) : Type 0 where
  pub bound : run_cost (costs_of o) trace + penalty_of o * missed_of (accesses_along o c trace) ≤ lines.bound
  pub hits : (a : Access) → Contains (accesses_along o c trace) a → Contains lines.hits a.node → a.hits ≡ true

abbrev pub AreSoundLinesFor : Outlined → CacheLines → List ℕ → Type 0
AreSoundLinesFor o lines trace = (c : Contents) → IsContents (sets_of o) (ways_of o) c → IsBoundFor o lines trace c

-- each run ends, and so it is for each run that ends
pub record AreSoundLines {C : Type 0} (system : System C) (o : Outlined) (lines : CacheLines) : Type 0 where
  pub ends : (run : ℕ → Option (ℕ × C)) → IsRun system run → RunEnds system run
  pub right : (c : C) (trace : List ℕ) (fault : Option RunFault) → system.starts c → Passes system 0 c trace fault
      → AreSoundLinesFor o lines trace

-- ---- what the policy finds

-- no place is left in the end, and the lines tell what was collected
pub record IsClosed {S T C : Type 0} (machine : S → Machine T C) (states : Order T) (stepper : S) (o : Outlined)
    (policy : Policy) (turns : ℕ) (lines : CacheLines) : Type 0 where
  pub events : List Event
  pub pool : Pooled S T Counted Collected
  pub explored : IsPolicyRun machine states miss_order miss_recording policy turns (opened machine miss_recording stepper o) events pool
  pub empty : pool.spots ≡ []
  pub told : lines ≡ told_lines pool

-- the turns are used up, and the first place that is left stands in the scope
pub record IsLeft {S T C : Type 0} (machine : S → Machine T C) (states : Order T) (stepper : S) (o : Outlined)
    (policy : Policy) (turns scope : ℕ) : Type 0 where
  pub events : List Event
  pub pool : Pooled S T Counted Collected
  pub explored : IsPolicyRun machine states miss_order miss_recording policy turns (opened machine miss_recording stepper o) events pool
  pub left : IsLeftIn pool scope

-- the one or the other
abbrev pub IsFound : {S T C : Type 0} → (S → Machine T C) → Order T → S → Outlined → Policy → ℕ → CacheAnswer → Type 0
IsFound machine states stepper o policy turns (Told lines) = IsClosed machine states stepper o policy turns lines
IsFound machine states stepper o policy turns (Unbounded scope) = IsLeft machine states stepper o policy turns scope
