-- What a refusal says.
use Rattle.std.specs.Prelude.{ℕ, ⊤}
use Rattle.domain_core.specs.Reducible.{IsCrossing}
use Rattle.scope_graph.specs.declared.reduce.OutlineFault.{OutlineFault}
use Rattle.scope_graph.specs.declared.reduce.OutlineFault.TheVariants.{Irreducible, Memory}

-- the walks cross, so the graph is not reducible; a want of memory says nothing
abbrev pub IsFaultOf : (ℕ → ℕ → Type 0) → OutlineFault → Type 0
IsFaultOf Leads (Irreducible to_header to_tail around) = IsCrossing Leads to_header.items to_tail.items around.items
IsFaultOf Leads Memory = ⊤
