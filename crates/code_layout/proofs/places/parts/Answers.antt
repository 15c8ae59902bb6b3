-- What is left to show of `parts`.
use Rattle.std.proofs.Common.{◌<◌, ◌++◌, ◌∷◌, [], ℕ, List, length, ap, ◌∙◌, arith}
use Rattle.alf_check.specs.CheckedPrograms.{NumberedProgram, seen}
use Rattle.code_layout.proofs.Summing.{parts_more}
use Rattle.code_layout.proofs.places.parts.Goals as goal

pub loop-n-preserved : goal.loop-n-preserved
loop-n-preserved c =
    let program : NumberedProgram = seen c.args.checked.now in
    let graph = c.args.graph.now in
    let low : c.loop-n.n < length graph.nodes = (let test = c.loop-n-test.true in let count = c.node_count-n-end.ensures in omega arith) in
    c.in_ok-push.ensures.items ∙ ap (λ (parts : List (ℕ × ℕ)). parts ++ c.node_part.result ∷ []) c.loop-n.invariant ∙ parts_more program graph c.loop-n.n c.node_part.result low c.node_part.ensures
