-- What is known of a scope's executions and iterations along a trace that is written newest first.
--   is_some_part nodes          the list has an element
--   has n nodes                 the node is among the nodes
--   is_between low high k       the number k is low to high
--   fits n low high nodes       the node is so often among the nodes
--   tally_of o s n low high past    the execution of the scope s that is not over: whether there is one, how often it has n; and whether all that are over have it so often
--   tally_after low high held here tally   the same once the run enters a node of the scope, or another; here is whether it is n
--   tally_ends low high tally   all executions have it so often
--   seen_of o s a b past        the iteration of the scope s that is not over: whether there is one, whether it has a, and b; and whether none that is over has both
--   seen_after held at_header first second seen   the same once the run enters a node: of the scope, its header, a, b
--   seen_ends seen              no iteration has both
use Rattle.std.specs.Prelude.{ℕ, ◌+◌, Bool, true, false, ◌==◌, ◌&&◌, ◌||◌, not, nat_le, List, [], ◌∷◌, if◌then◌else◌}
use Rattle.std.specs.List.{list_all, list_any}
use Rattle.domain_core.specs.Outlines.{Shape}
use Rattle.domain_core.specs.Executions.{open_execution, closed_executions, open_iteration, closed_iterations}
use Rattle.flow_facts.specs.declared.executions.Tally.{Tally}
use Rattle.flow_facts.specs.declared.iterations.Seen.{Seen}
use Rattle.flow_facts.specs.Facts.{places}

-- the list has an element
abbrev pub is_some_part : List ℕ → Bool
is_some_part [] = false
is_some_part (n ∷ nodes) = true

-- the node is among the nodes
abbrev pub has : ℕ → List ℕ → Bool
has n nodes = list_any (λ m. n == m) nodes

-- the number k is low to high
abbrev pub is_between : ℕ → ℕ → ℕ → Bool
is_between low high k = nat_le low k && nat_le k high

-- the node is so often among the nodes
abbrev pub fits : ℕ → ℕ → ℕ → List ℕ → Bool
fits n low high nodes = is_between low high (places n nodes)

-- ---- executions

abbrev pub tally_of : Shape → ℕ → ℕ → ℕ → ℕ → List ℕ → Tally
tally_of o s n low high past = record {
  inside = is_some_part (open_execution o s past);
  count = places n (open_execution o s past);
  others_fit = list_all (λ e. fits n low high e) (closed_executions o s past);
}

-- all executions have the node so often
abbrev pub tally_ends : ℕ → ℕ → Tally → Bool
tally_ends low high tally = (not tally.inside || is_between low high tally.count) && tally.others_fit

-- once the run enters a node of the scope, or another
abbrev pub tally_after : ℕ → ℕ → Bool → Bool → Tally → Tally
tally_after low high true here tally = record { inside = true; count = if here then tally.count + 1 else tally.count; others_fit = tally.others_fit }
tally_after low high false here tally = record { inside = false; count = 0; others_fit = tally_ends low high tally }

-- ---- iterations

-- the nodes a and b are not both among the nodes
abbrev pub are_apart : ℕ → ℕ → List ℕ → Bool
are_apart a b nodes = not (has a nodes && has b nodes)

abbrev pub seen_of : Shape → ℕ → ℕ → ℕ → List ℕ → Seen
seen_of o s a b past = record {
  inside = is_some_part (open_iteration o s past);
  first = has a (open_iteration o s past);
  second = has b (open_iteration o s past);
  others_apart = list_all (λ i. are_apart a b i) (closed_iterations o s past);
}

-- no iteration has both nodes
abbrev pub seen_ends : Seen → Bool
seen_ends seen = not (seen.first && seen.second) && seen.others_apart

-- once the run enters a node: the scope's header, another node of the scope, or one outside
abbrev pub seen_after : Bool → Bool → Bool → Bool → Seen → Seen
seen_after false at_header first second seen = record { inside = false; first = false; second = false; others_apart = seen_ends seen }
seen_after true true first second seen = record { inside = true; first = first; second = second; others_apart = seen_ends seen }
seen_after true false first second seen = record {
  inside = seen.inside;
  first = (seen.inside && first) || seen.first;
  second = (seen.inside && second) || seen.second;
  others_apart = seen.others_apart;
}
