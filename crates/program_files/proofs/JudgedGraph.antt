-- The graph of a program, or the limit that it passes, is its only meaning.
use Rattle.std.proofs.Common.{◌≡◌, ℕ, List, Result, Ok, Err, Some, refl, ap, sym, ◌∙◌}
use Rattle.flow_base.specs.declared.place.Which.{Which}
use Rattle.flow_base.specs.declared.place.Which.TheVariants as which
use Rattle.alf_check.specs.CheckedPrograms.{NumberedProgram}
use Rattle.flow_graph.specs.Numbering.{GraphParts, IsGraph, HasMoreNodes, HasMoreEdges, most_nodes, most_edges}
use Rattle.flow_graph.specs.Faults.{FaultTells, LimitTells}
use Rattle.flow_graph.specs.declared.fault.GraphFault.{GraphFault}
use Rattle.flow_graph.specs.declared.fault.GraphFault.TheVariants as faults
use Rattle.command_plans.specs.Outcome.{Outcome, Source, AreAlikeResults, refused}
use Rattle.command_plans.specs.Work.{IsOnly, alike}
use Rattle.program_files.specs.FaultLines.{limit_line}
use Rattle.program_files.specs.CheckLines.{graph_line}
use Rattle.program_files.specs.Expanding.{GraphMeans}
use Rattle.program_files.proofs.Judged.{outcome_is}

some_is : {A : Type 0} (x y : A) → Some x ≡ Some y → x ≡ y
some_is x y e = cc

-- what a line of a limit says
data Says (program : NumberedProgram) (text : List ℕ) : Type 0 where
  nodes : HasMoreNodes program most_nodes → text ≡ limit_line which.Nodes 513 → Says program text
  edges : HasMoreEdges program most_edges → text ≡ limit_line which.Edges 1025 → Says program text

module _ (program : NumberedProgram) where
  limit : (which : Which) (count : ℕ) (text : List ℕ)
      → LimitTells which count (HasMoreNodes program most_nodes) (HasMoreEdges program most_edges)
      → limit_line which count ≡ text → Says program text
  limit which.Bytes count text h line = absurd h
  limit which.Depth count text h line = absurd h
  limit which.Functions count text h line = absurd h
  limit which.Frames count text h line = absurd h
  limit which.FrameBytes count text h line = absurd h
  limit which.AllBytes count text h line = absurd h
  limit which.Nodes count text h line = nodes h.1 (sym line ∙ ap (limit_line which.Nodes) h.0)
  limit which.Edges count text h line = edges h.1 (sym line ∙ ap (limit_line which.Edges) h.0)
  limit which.Parens count text h line = absurd h
  limit which.Nesting count text h line = absurd h
  limit which.Elements count text h line = absurd h
  limit which.Statements count text h line = absurd h
  limit which.Tasks count text h line = absurd h

  says : (fault : GraphFault) (text : List ℕ)
      → FaultTells fault (HasMoreNodes program most_nodes) (HasMoreEdges program most_edges)
      → graph_line fault ≡ Some text → Says program text
  says (faults.Limit which count) text h line = limit which count text h (some_is _ _ line)
  says faults.Memory text h line = absurd (cc)

  module _ (one : (graph other : GraphParts) → IsGraph program graph → IsGraph program other → graph ≡ other)
      (not_nodes : (graph : GraphParts) → IsGraph program graph → HasMoreNodes program most_nodes → ⊥)
      (not_edges : (graph : GraphParts) → IsGraph program graph → HasMoreEdges program most_edges → ⊥)
      (either : HasMoreNodes program most_nodes → HasMoreEdges program most_edges → ⊥) where
    graph_not : (graph : GraphParts) (text : List ℕ) → IsGraph program graph → Says program text → ⊥
    graph_not graph text is (nodes more e) = not_nodes graph is more
    graph_not graph text is (edges more e) = not_edges graph is more

    says_one : (x y : List ℕ) → Says program x → Says program y → x ≡ y
    says_one x y (nodes more e) (nodes again f) = e ∙ sym f
    says_one x y (nodes more e) (edges again f) = absurd (either more again)
    says_one x y (edges more e) (nodes again f) = absurd (either again more)
    says_one x y (edges more e) (edges again f) = e ∙ sym f

    pub graph_only : (graph : GraphParts) → IsGraph program graph → IsOnly (GraphMeans program) (Ok graph)
    graph_only graph is = record { means = is; only = only }
      where
        only : (y : Result GraphParts Outcome) → GraphMeans program y → AreAlikeResults (Ok graph) y
        only (Ok other) k = one graph other is k
        only (Err o) k = graph_not graph o.text is (says k.fault o.text k.told k.line)

    pub limit_only : (fault : GraphFault) (text : List ℕ)
        → FaultTells fault (HasMoreNodes program most_nodes) (HasMoreEdges program most_edges)
        → graph_line fault ≡ Some text
        → IsOnly (GraphMeans program) (Err (refused text))
    limit_only fault text h line = record { means = record { fault = fault; told = h; line = line; cause = refl }; only = only }
      where
        only : (y : Result GraphParts Outcome) → GraphMeans program y → AreAlikeResults (Err (refused text)) y
        only (Ok graph) k = graph_not graph text k (says fault text h line)
        only (Err o) k = alike (refused text) o (sym (outcome_is o Source text k.cause (sym (says_one text o.text (says fault text h line) (says k.fault o.text k.told k.line)))))
