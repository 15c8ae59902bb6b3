-- The report of an exploration: what its books, its alarms and the nodes that it stepped tell, line by line.
--   FourRecorders, FourBooks   the recorders of totals, loops, counts and pairs side by side, and their books
--   four_order, four_recording what they state
--   Found                  what was collected: the books, the faults told at each node, and whether it was stepped
--   found_of w             what a pool has collected
--   is_stepped found n     the node was stepped
--   below f k              the lists of the numbers below k, in order
--   sum_below f k          the numbers of the numbers below k, added up
--   loop_lines, count_lines, dead_lines, total_lines, pair_lines, alarm_lines   the lines of one kind for a scope or a node
--   told_facts o found     the facts, in the order of lines
--   greatest_total found n the greatest total of a node that is not dead, and 0 of one that is
--   costs_of o             what a visit of each node costs
--   count_bound o found    each node's cost times its greatest total, added up
--   told_report o found    the report
use Rattle.std.specs.Prelude.{◌+◌, ◌*◌, ℕ, zero, suc, List, [], ◌∷◌, ◌++◌, map, length, slice_index, Option, None, Bool, not, ◌&&◌, ◌==◌, nat_lt, if◌then◌else◌}
use Rattle.std.specs.List.{flat_map}
use Rattle.std.specs.Option.{option_map_or}
use Rattle.alf_ops.specs.declared.history.RunFault.{RunFault}
use Rattle.alf_ops.specs.declared.history.RunFault.TheVariants.{Divide, Uninit, Mixed, Bounds, Dead as DeadFrame, Kind, Pointers}
use Rattle.domain_core.specs.declared.fault_set.FaultSet.{FaultSet}
use Rattle.domain_core.specs.FaultSets.{has_fault}
use Rattle.domain_core.specs.Orders.{Order}
use Rattle.domain_core.specs.Outlines.{Outlined, shape_of, header_of, kind_of}
use Rattle.domain_core.specs.Recordings.{Recording}
use Rattle.flow_facts.specs.declared.fact.Fact.{Fact}
use Rattle.flow_facts.specs.declared.fact.Fact.TheVariants.{Loop, Count, Dead, Total, Pair, Alarm}
use Rattle.flow_facts.specs.Reports.{NamedNode, Reported}
use Rattle.recorder_rules.specs.TotalRules.{spread_at, span_order, total_recording}
use Rattle.recorder_rules.specs.TallyRules.{Ledger}
use Rattle.recorder_rules.specs.LoopRules.{is_loop, own_of, is_counted, loop_recording, count_recording}
use Rattle.recorder_rules.specs.Tables.{truth}
use Rattle.recorder_rules.specs.PairRules.{Sightings, PairBook, together, pair_order, pair_recording}
use Rattle.report_soundness.specs.BookTold.{Books}
use Rattle.flow_recorders.specs.declared.both.Both.{Both}
use Rattle.flow_recorders.specs.declared.both.BothBook.{BothBook}
use Rattle.flow_recorders.specs.BothRules.{both_order, both_recording}
use Rattle.worklist_rules.specs.Pools.{Pooled, alarm_at}

-- ---- the four recorders

-- totals and loops, and counts and pairs
abbrev pub FourRecorders : Type 0
FourRecorders = Both (Both (List (ℕ × ℕ)) (List (ℕ × ℕ))) (Both (List (ℕ × ℕ)) Sightings)

abbrev pub FourBooks : Type 0
FourBooks = BothBook (BothBook (List (Option (ℕ × ℕ))) Ledger) (BothBook Ledger PairBook)

-- what they state
abbrev pub four_order : Order FourRecorders
four_order = both_order (both_order span_order span_order) (both_order span_order pair_order)

abbrev pub four_recording : Recording FourRecorders FourBooks
four_recording = both_recording (both_recording total_recording loop_recording) (both_recording count_recording pair_recording)

abbrev pub books_of : FourBooks → Books
books_of book = record { totals = book.first.first; loops = book.first.second; counts = book.second.first; pairs = book.second.second }

-- ---- what was collected

pub record Found : Type 0 where
  pub books : Books
  -- for each node the faults told there, and whether it was stepped
  pub alarms : List FaultSet
  pub stepped : List Bool

-- what a pool has collected
abbrev pub found_of : {S T : Type 0} → Pooled S T FourRecorders FourBooks → Found
found_of w = record { books = books_of w.book; alarms = w.alarms; stepped = w.stepped }

-- the node was stepped
abbrev pub is_stepped : Found → ℕ → Bool
is_stepped found n = truth found.stepped n

-- ---- numbers in order

-- the lists of the numbers below k, in order
abbrev pub below : {A : Type 0} → (ℕ → List A) → ℕ → List A
below f zero = []
below f (suc k) = below f k ++ f k

-- the numbers of the numbers below k, added up
abbrev pub sum_below : (ℕ → ℕ) → ℕ → ℕ
sum_below f zero = 0
sum_below f (suc k) = sum_below f k + f k

-- ---- lines

-- a line where a span was collected
abbrev pub span_lines : (ℕ → ℕ → Fact) → Option (ℕ × ℕ) → List Fact
span_lines line spread = option_map_or (λ span. line span.0 span.1 ∷ []) spread []

-- a loop with an execution
abbrev pub loop_lines : Outlined → Found → ℕ → List Fact
loop_lines o found s = if is_loop (kind_of o.scopes s) then span_lines (Loop s) (spread_at found.books.loops.spreads s) else []

-- in an execution of the scope, which is a loop, a node that was stepped, of this own scope, and not its header
abbrev pub count_line : Outlined → Found → ℕ → ℕ → List Fact
count_line o found s n =
    if is_stepped found n && (is_counted (shape_of o) n && (own_of (shape_of o) n == s)) then span_lines (Count s n) (spread_at found.books.counts.spreads n) else []

abbrev pub count_lines : Outlined → Found → ℕ → List Fact
count_lines o found s = below (count_line o found s) (length o.nodes)

-- a node that was never stepped
abbrev pub dead_lines : Found → ℕ → List Fact
dead_lines found n = if is_stepped found n then [] else Dead n ∷ []

-- any other
abbrev pub total_lines : Found → ℕ → List Fact
total_lines found n = if is_stepped found n then span_lines (Total n) (spread_at found.books.totals n) else []

-- a node that was stepped, of this own scope, and not its header
abbrev pub may_pair : Outlined → Found → ℕ → ℕ → Bool
may_pair o found s n = is_stepped found n && ((own_of (shape_of o) n == s) && not (header_of o.scopes s == n))

-- two of these, in order, that were not collected as a pair
abbrev pub pair_line : Outlined → Found → ℕ → ℕ → ℕ → List Fact
pair_line o found s a b = if nat_lt a b && (may_pair o found s b && not (together found.books.pairs a b)) then Pair s a b ∷ [] else []

abbrev pub pairs_with : Outlined → Found → ℕ → ℕ → List Fact
pairs_with o found s a = if may_pair o found s a then below (pair_line o found s a) (length o.nodes) else []

abbrev pub pair_lines : Outlined → Found → ℕ → List Fact
pair_lines o found s = below (pairs_with o found s) (length o.nodes)

-- the faults told at a node, by their numbers
abbrev pub all_faults : List RunFault
all_faults = Divide ∷ Uninit ∷ Mixed ∷ Bounds ∷ DeadFrame ∷ Kind ∷ Pointers ∷ []

abbrev pub alarm_line : FaultSet → ℕ → RunFault → List Fact
alarm_line set n fault = if has_fault set fault then Alarm n fault ∷ [] else []

abbrev pub alarm_lines : Found → ℕ → List Fact
alarm_lines found n = flat_map (alarm_line (alarm_at found.alarms n) n) all_faults

-- ---- the report

-- the facts, in the order of lines
abbrev pub told_facts : Outlined → Found → List Fact
told_facts o found =
    below (loop_lines o found) (length o.scopes)
    ++ (below (count_lines o found) (length o.scopes)
    ++ (below (dead_lines found) (length o.nodes)
    ++ (below (total_lines found) (length o.nodes)
    ++ (below (pair_lines o found) (length o.scopes)
    ++ below (alarm_lines found) (length o.nodes)))))

-- the greatest total of a node that is not dead, and 0 of one that is
abbrev pub greatest_total : Found → ℕ → ℕ
greatest_total found n = if is_stepped found n then option_map_or (λ span. span.1) (spread_at found.books.totals n) 0 else 0

-- what a visit of each node costs
abbrev pub costs_of : Outlined → List ℕ
costs_of o = map (λ row. row.cost) o.nodes

-- each node's cost times its greatest total, added up
abbrev pub count_bound : Outlined → Found → ℕ
count_bound o found = sum_below (λ n. slice_index (costs_of o) n * greatest_total found n) (length o.nodes)

-- what is told of each node
abbrev pub named_nodes : Outlined → List NamedNode
named_nodes o = map (λ row. record { scope = row.scope; cost = row.cost; name = row.name.items }) o.nodes

abbrev pub told_report : Outlined → Found → Reported
told_report o found = record {
  form = 2;
  nodes = named_nodes o;
  scopes = o.scopes;
  facts = told_facts o found;
  count_bound = count_bound o found;
  path_bound = None;
  cert = None;
}
