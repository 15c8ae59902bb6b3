-- The outline with the lines of the code suits, and the stepper goes along it.
use Rattle.std.proofs.Common.{◌≡◌, length, sym, ◌∙◌}
use Rattle.std.proofs.lemmas.List.{length-map}
use Rattle.alf_check.specs.CheckedPrograms.{NumberedProgram, seen}
use Rattle.domain_core.specs.Outlines.{shape_of}
use Rattle.scope_graph.specs.Placing.{place_of}
use Rattle.cache_analysis.proofs.NotedLaws.{code_is_noted}
use Rattle.cache_analysis.proofs.exploring.explored.Goals as goal

pub cached-requires-clause-noted : goal.cached-requires-clause-noted
cached-requires-clause-noted c =
    let program : NumberedProgram = seen c.args.stepper.now.checked in
    let graph = c.args.stepper.now.graph in
    let o = c.args.outline.now in
    let count : length o.nodes ≡ length graph.nodes = sym (length-map o.nodes (λ row. row.scope)) ∙ c.requires.outline.one_each ∙ length-map graph.nodes place_of in
    code_is_noted program graph (c.graphs_are_expansions.ensures program graph c.requires.keeps c.requires.graph) c.requires.few c.args.shape o c.requires.shape c.requires.noted count c.costs_fit.ensures

pub cached-requires-clause-along : goal.cached-requires-clause-along
cached-requires-clause-along c =
    c.goes_along.ensures (shape_of c.args.outline.now) c.requires.outline.edges (c.requires.outline.one_each ∙ length-map c.args.stepper.now.graph.nodes place_of)
