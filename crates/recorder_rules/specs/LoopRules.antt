-- How often each execution of a scope visits its header, and the other nodes of a loop.
--   loop_tally o        at each scope: its header
--   is_counted o n      the node is not the header of its scope, which is a loop
--   count_tally o       at each counted node: the node, in its own scope
--   loop_recording, count_recording   what `Loops` and `Counts` keep, cover and answer
use Rattle.std.proofs.Common.{ℕ, List, Option, Some, None, Bool, true, false, not, ◌&&◌, ◌==◌, if◌then◌else◌, length}
use Rattle.std.specs.Prelude.{slice_index}
use Rattle.domain_core.specs.declared.scope_kind.ScopeKind.{ScopeKind}
use Rattle.domain_core.specs.declared.scope_kind.ScopeKind.TheVariants.{Call, Loop}
use Rattle.domain_core.specs.Outlines.{Outlined, Shape, shape_of, header_of, kind_of}
use Rattle.domain_core.specs.Recordings.{Recording}
use Rattle.recorder_rules.specs.Generated.{generated}
use Rattle.recorder_rules.specs.TallyRules.{Tally, Ledger, tally_recording}

abbrev pub is_loop : ScopeKind → Bool
is_loop Loop = true
is_loop Call = false

-- the scope of a node
abbrev pub own_of : Shape → ℕ → ℕ
own_of o n = slice_index o.own n

-- the node is not the header of its scope, which is a loop
abbrev pub is_counted : Shape → ℕ → Bool
is_counted o n = is_loop (kind_of o.scopes (own_of o n)) && not (header_of o.scopes (own_of o n) == n)

-- at each scope its header
abbrev pub loop_tally : Outlined → Tally
loop_tally o = record { scopes = generated (length o.scopes) (λ t. Some t); nodes = generated (length o.scopes) (λ t. Some (header_of o.scopes t)) }

-- at each counted node the node, in its own scope
abbrev pub counted_scope : Shape → ℕ → Option ℕ
counted_scope o n = if is_counted o n then Some (own_of o n) else None

abbrev pub counted_node : Shape → ℕ → Option ℕ
counted_node o n = if is_counted o n then Some n else None

abbrev pub count_tally : Outlined → Tally
count_tally o = record { scopes = generated (length o.nodes) (counted_scope (shape_of o)); nodes = generated (length o.nodes) (counted_node (shape_of o)) }

abbrev pub loop_recording : Recording (List (ℕ × ℕ)) Ledger
loop_recording = tally_recording loop_tally

abbrev pub count_recording : Recording (List (ℕ × ℕ)) Ledger
count_recording = tally_recording count_tally
