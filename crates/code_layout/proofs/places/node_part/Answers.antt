-- What is left to show of `node_part`.
use Rattle.std.proofs.Common.{◌<◌, ℕ, length, Option, sym, ap, subst, ◌∙◌}
use Rattle.alf_check.specs.CheckedPrograms.{NumberedProgram, seen}
use Rattle.flow_graph.specs.Nodes.{function_at}
use Rattle.flow_graph.specs.Expansions.{node_number}
use Rattle.flow_graph.specs.Paths.{HasBlock}
use Rattle.code_layout.specs.Layouts.{place_part}
use Rattle.code_layout.proofs.Placing.{func_is, block_is}
use Rattle.code_layout.proofs.places.node_part.Goals as goal

pub place_part-requires-clause-func : goal.place_part-requires-clause-func
place_part-requires-clause-func c =
    let program : NumberedProgram = seen c.args.checked.now in
    let graph = c.args.graph.now in
    let expansion = c.graphs_are_expansions.ensures program graph c.keeps.ensures c.requires.graph in
    subst (λ (f : ℕ). f < length program.funcs) (func_is program graph c.args.n c.node-node.result.func expansion c.requires.node c.node-node.ensures.func) (expansion.places c.args.n c.requires.node).placed.function

pub place_part-requires-clause-block : goal.place_part-requires-clause-block
place_part-requires-clause-block c =
    let program : NumberedProgram = seen c.args.checked.now in
    let graph = c.args.graph.now in
    let expansion = c.graphs_are_expansions.ensures program graph c.keeps.ensures c.requires.graph in
    subst (λ (f : ℕ). HasBlock program f c.node-node.result.block) (func_is program graph c.args.n c.node-node.result.func expansion c.requires.node c.node-node.ensures.func)
    (subst (λ (block : Option ℕ). HasBlock program (function_at program (node_number graph c.args.n).path) block) (block_is graph c.args.n c.node-node.result.path.now c.node-node.result.block c.node-node.ensures.node)
    (expansion.places c.args.n c.requires.node).placed.block)

pub returns : goal.returns
returns c =
    let program : NumberedProgram = seen c.args.checked.now in
    let graph = c.args.graph.now in
    let expansion = c.graphs_are_expansions.ensures program graph c.keeps.ensures c.requires.graph in
    c.place_part.ensures
    ∙ ap (λ (f : ℕ). place_part program f c.node-node.result.block) (sym (func_is program graph c.args.n c.node-node.result.func expansion c.requires.node c.node-node.ensures.func))
    ∙ ap (λ (block : Option ℕ). place_part program (function_at program (node_number graph c.args.n).path) block) (sym (block_is graph c.args.n c.node-node.result.path.now c.node-node.result.block c.node-node.ensures.node))
