-- A program has one analysis.
--   AreAlike o other     the outlines have one shape, and each node has one name and one cost in both
--   PartsHaveOneAnalysis       along such outlines one policy finds one answer in so many turns
--   StaysFound           a report is found in each number of turns that is not below the steps of its exploration
--   PartsHaveOneEventList      along such outlines explorations that leave no place have one list of events, whatever the turns
--   HasOneAlike          outlines of one graph with the same costs are alike
use Rattle.std.proofs.Common.{◌≡◌, ◌≤◌, ℕ, List, [], ◌∷◌, map, refl, sym, ap, ◌∙◌}
use Rattle.alf_check.specs.CheckedPrograms.{NumberedProgram}
use Rattle.cost_table.specs.CostTables.{CostTable}
use Rattle.domain_core.specs.declared.outline.NodeRow.{NodeRow}
use Rattle.domain_core.specs.Outlines.{Outlined, shape_of}
use Rattle.domain_core.specs.OutlineOf.{IsOutlineOf}
use Rattle.flow_graph.specs.Numbering.{GraphParts}
use Rattle.flow_graph.specs.Graphs.{HasProgram}
use Rattle.scope_graph.specs.Placing.{plan_of}
use Rattle.flow_facts.specs.Reports.{NamedNode, Reported}
use Rattle.worklist_rules.specs.declared.policy.Policy.{Policy}
use Rattle.abstract_step.specs.Steppers.{StepperParts}
use Rattle.report_soundness.specs.ReportTold.{costs_of}
use Rattle.program_machines.specs.NodeCosts.{HasCosts}
use Rattle.program_analysis.specs.Answers.{Answer, Told, Unbounded}
use Rattle.program_analysis.specs.Analyses.{IsClosed, IsFound}

-- the names of the nodes
abbrev pub names_of : Outlined → List (List ℕ)
names_of o = map (λ row. row.name.items) o.nodes

-- the outlines have one shape, and each node has one name and one cost in both
pub record AreAlike (o other : Outlined) : Type 0 where
  pub shape : shape_of o ≡ shape_of other
  pub names : names_of o ≡ names_of other
  pub costs : costs_of o ≡ costs_of other

-- along such outlines one policy finds one answer in so many turns
abbrev pub PartsHaveOneAnalysis : Type 0
PartsHaveOneAnalysis = (parts : StepperParts) (o other : Outlined) (policy : Policy) (turns : ℕ) (a b : Answer) → AreAlike o other → IsFound parts o policy turns a → IsFound parts other policy turns b → a ≡ b

-- a report is found in no fewer turns than its exploration makes steps, and in each number of turns that is not below
-- them
abbrev pub StaysFound : Type 0
StaysFound = (parts : StepperParts) (o : Outlined) (policy : Policy) (turns : ℕ) (report : Reported) (closed : IsClosed parts o policy turns report)
    → (closed.pool.steps ≤ turns) × ((more : ℕ) → closed.pool.steps ≤ more → IsClosed parts o policy more report)

-- along such outlines explorations that leave no place have one list of events, whatever the turns
abbrev pub PartsHaveOneEventList : Type 0
PartsHaveOneEventList = (parts : StepperParts) (o other : Outlined) (policy : Policy) (turns more : ℕ) (a b : Reported) → AreAlike o other
    → (first : IsClosed parts o policy turns a) (second : IsClosed parts other policy more b) → first.events ≡ second.events

-- outlines of one graph with the same names and costs are alike
abbrev pub HasOneAlike : Type 0
HasOneAlike = (program : NumberedProgram) (graph : GraphParts) (costs : CostTable) (o other : Outlined) → HasProgram graph
    → IsOutlineOf (plan_of graph) (shape_of o) → names_of o ≡ graph.names → HasCosts program graph costs o
    → IsOutlineOf (plan_of graph) (shape_of other) → names_of other ≡ graph.names → HasCosts program graph costs other
    → AreAlike o other

-- ---- what is told

same_head : {X : Type 0} (x y : X) (xs ys : List X) → x ∷ xs ≡ y ∷ ys → x ≡ y
same_head x y xs ys e = cc

same_tail : {X : Type 0} (x y : X) (xs ys : List X) → x ∷ xs ≡ y ∷ ys → xs ≡ ys
same_tail x y xs ys e = cc

no_cons : {X : Type 0} (x : X) (xs : List X) → [] ≡ x ∷ xs → ⊥
no_cons x xs e = cc

abbrev named_row : NodeRow → NamedNode
named_row row = record { scope = row.scope; cost = row.cost; name = row.name.items }

-- rows that have one scope, one cost and one name
pub same_named : (xs ys : List NodeRow) → map (λ row. row.scope) xs ≡ map (λ row. row.scope) ys
    → map (λ row. row.cost) xs ≡ map (λ row. row.cost) ys
    → map (λ row. row.name.items) xs ≡ map (λ row. row.name.items) ys
    → map named_row xs ≡ map named_row ys
same_named [] [] scopes costs names = refl
same_named [] (y ∷ ys) scopes costs names = absurd (no_cons y.scope (map (λ row. row.scope) ys) scopes)
same_named (x ∷ xs) [] scopes costs names = absurd (no_cons x.scope (map (λ row. row.scope) xs) (sym scopes))
same_named (x ∷ xs) (y ∷ ys) scopes costs names =
    let made : ℕ → ℕ → List ℕ → NamedNode = λ scope cost name. record { scope = scope; cost = cost; name = name } in
    let scope : x.scope ≡ y.scope = same_head x.scope y.scope (map (λ row. row.scope) xs) (map (λ row. row.scope) ys) scopes in
    let cost : x.cost ≡ y.cost = same_head x.cost y.cost (map (λ row. row.cost) xs) (map (λ row. row.cost) ys) costs in
    let name : x.name.items ≡ y.name.items = same_head x.name.items y.name.items (map (λ row. row.name.items) xs) (map (λ row. row.name.items) ys) names in
    let rest : map named_row xs ≡ map named_row ys = same_named xs ys
    (same_tail x.scope y.scope (map (λ row. row.scope) xs) (map (λ row. row.scope) ys) scopes)
    (same_tail x.cost y.cost (map (λ row. row.cost) xs) (map (λ row. row.cost) ys) costs)
    (same_tail x.name.items y.name.items (map (λ row. row.name.items) xs) (map (λ row. row.name.items) ys) names) in
    ap (λ (s : ℕ). made s x.cost x.name.items ∷ map named_row xs) scope
    ∙ ap (λ (c : ℕ). made y.scope c x.name.items ∷ map named_row xs) cost
    ∙ ap (λ (n : List ℕ). made y.scope y.cost n ∷ map named_row xs) name
    ∙ ap (λ (ns : List NamedNode). made y.scope y.cost y.name.items ∷ ns) rest
