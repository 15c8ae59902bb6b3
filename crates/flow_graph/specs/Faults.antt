-- Why a program has no graph.
--   FaultTells fault Nodes Edges   a fault of the limit on nodes tells the one, and of that on edges the other
use Rattle.std.specs.Prelude.{◌≡◌, ℕ}
use Rattle.flow_base.specs.declared.place.Which.{Which}
use Rattle.flow_base.specs.declared.place.Which.TheVariants as which
use Rattle.flow_graph.specs.declared.fault.GraphFault.{GraphFault}
use Rattle.flow_graph.specs.declared.fault.GraphFault.TheVariants as faults

-- a limit is told with one more than it
abbrev pub LimitTells : Which → ℕ → Type 0 → Type 0 → Type 0
LimitTells which.Bytes count Nodes Edges = ⊥
LimitTells which.Depth count Nodes Edges = ⊥
LimitTells which.Functions count Nodes Edges = ⊥
LimitTells which.Frames count Nodes Edges = ⊥
LimitTells which.FrameBytes count Nodes Edges = ⊥
LimitTells which.AllBytes count Nodes Edges = ⊥
LimitTells which.Nodes count Nodes Edges = (count ≡ 513) × Nodes
LimitTells which.Edges count Nodes Edges = (count ≡ 1025) × Edges
LimitTells which.Parens count Nodes Edges = ⊥
LimitTells which.Nesting count Nodes Edges = ⊥
LimitTells which.Elements count Nodes Edges = ⊥
LimitTells which.Statements count Nodes Edges = ⊥
LimitTells which.Tasks count Nodes Edges = ⊥

-- a fault of the limit on nodes tells the one, and of that on edges the other
abbrev pub FaultTells : GraphFault → Type 0 → Type 0 → Type 0
FaultTells (faults.Limit which count) Nodes Edges = LimitTells which count Nodes Edges
FaultTells faults.Memory Nodes Edges = Unit {0}
