-- Flow charts over one number, as a concrete system and as a machine over spans.
--   way_of fork c       the way that the number takes at a fork
--   IsWayOf forks n c way   it takes this way at the node n
--   chart_system forks span   the runs of the numbers of the span
--   lowered span less   the numbers that are so much less
--   low_part, high_part the numbers below the limit, and the others
--   next_if, faults_if  what a way gives, where some number takes it
--   next_of, faults_of  what a fork gives
--   span_order          spans by inclusion
--   chart_machine forks span  the machine
--   IsWayAlong, AreForksAlong  the ways lie along these edges
use Rattle.std.specs.Prelude.{◌≡◌, ◌≢◌, ◌≤◌, ◌-◌, ℕ, Bool, true, false, List, [], ◌∷◌, ◌++◌, Option, None, Some, if◌then◌else◌, nat_lt, min, max, not, length, slice_get, Contains}
use Rattle.domain_core.specs.declared.fault_set.FaultSet.{FaultSet}
use Rattle.domain_core.specs.FaultSets.{no_faults, with_fault, either}
use Rattle.domain_core.specs.Orders.{Order}
use Rattle.domain_core.specs.Machines.{System, Machine}
use Rattle.exec_toys.specs.declared.span.Span.{Span}
use Rattle.exec_toys.specs.declared.fork.Way.{Way}
use Rattle.exec_toys.specs.declared.fork.Way.TheVariants.{Goes, Fails}
use Rattle.exec_toys.specs.declared.fork.Fork.{Fork}

-- the way that the number takes at a fork
abbrev pub way_of : Fork → ℕ → Way
way_of fork c = if nat_lt c fork.limit then fork.below else fork.above

-- it takes this way at the node n
abbrev pub IsWayOf : List Fork → ℕ → ℕ → Way → Type 0
IsWayOf forks n c way = (fork : Fork) × (slice_get forks n ≡ Some fork) × (way_of fork c ≡ way)

-- the runs of the numbers of the span
abbrev pub chart_system : List Fork → Span → System ℕ
chart_system forks span = record {
  starts = λ c. (span.least ≤ c) × (c ≤ span.most);
  goes = λ n c k d. (less : ℕ) × IsWayOf forks n c (Goes k less) × (k ≢ length forks) × (d ≡ c - less);
  ends = λ n c. (less : ℕ) × IsWayOf forks n c (Goes (length forks) less);
  fails = λ n c fault. IsWayOf forks n c (Fails fault);
}

-- the numbers that are so much less
abbrev pub lowered : Span → ℕ → Span
lowered span less = record { least = span.least - less; most = span.most - less }

-- the numbers below the limit
abbrev pub low_part : Span → ℕ → Span
low_part span limit = record { least = span.least; most = min span.most (limit - 1) }

-- the others
abbrev pub high_part : Span → ℕ → Span
high_part span limit = record { least = max span.least limit; most = span.most }

-- what a way gives, where some number takes it
abbrev pub next_if : Bool → Way → Span → List (ℕ × Span)
next_if false way span = []
next_if true (Goes to less) span = (to, lowered span less) ∷ []
next_if true (Fails fault) span = []

abbrev pub faults_if : Bool → Way → FaultSet
faults_if false way = no_faults
faults_if true (Goes to less) = no_faults
faults_if true (Fails fault) = with_fault no_faults fault

-- what a fork gives
abbrev pub next_of : Fork → Span → List (ℕ × Span)
next_of fork span = next_if (nat_lt span.least fork.limit) fork.below (low_part span fork.limit) ++ next_if (not (nat_lt span.most fork.limit)) fork.above (high_part span fork.limit)

abbrev pub faults_of : Fork → Span → FaultSet
faults_of fork span = either (faults_if (nat_lt span.least fork.limit) fork.below) (faults_if (not (nat_lt span.most fork.limit)) fork.above)

-- and where there is none
abbrev pub next_at : Option Fork → Span → List (ℕ × Span)
next_at None span = []
next_at (Some fork) span = next_of fork span

abbrev pub faults_at : Option Fork → Span → FaultSet
faults_at None span = no_faults
faults_at (Some fork) span = faults_of fork span

-- spans by inclusion
abbrev pub span_order : Order Span
span_order = record {
  alike = λ a b. Unit {0};
  under = λ a b. (b.least ≤ a.least) × (a.most ≤ b.most);
  joined = λ a b. record { least = min a.least b.least; most = max a.most b.most };
}

-- the machine
abbrev pub chart_machine : List Fork → Span → Machine Span ℕ
chart_machine forks span = record {
  kept = Unit {0};
  system = chart_system forks span;
  covers = λ t c. (t.least ≤ c) × (c ≤ t.most);
  sharp = λ t c. (t.least ≡ c) × (t.most ≡ c);
  fits = λ n t. Unit {0};
  first = span;
  next = λ n t. next_at (slice_get forks n) t;
  faults = λ n t. faults_at (slice_get forks n) t;
  exit = length forks;
}

-- the way from a node lies along one of these edges, or is a fault
abbrev pub IsWayAlong : List (ℕ × ℕ) → ℕ → Way → Type 0
IsWayAlong edges n (Goes to less) = Contains edges (n, to)
IsWayAlong edges n (Fails fault) = Unit {0}

-- both ways of each fork do
abbrev pub AreForksAlong : List (ℕ × ℕ) → List Fork → Type 0
AreForksAlong edges forks = (n : ℕ) (fork : Fork) → slice_get forks n ≡ Some fork → IsWayAlong edges n fork.below × IsWayAlong edges n fork.above
