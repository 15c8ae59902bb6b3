-- What is left to show of `edges_of`.
use Rattle.std.proofs.Common.{◌≡◌, ◌++◌, ◌∷◌, [], ℕ, List, take, ap, sym, ◌∙◌, arith}
use Rattle.std.proofs.lemmas.Grind.{common_steps}
use Rattle.std.proofs.lemmas.List.{take_more}
use Rattle.std.proofs.lemmas.Option.{get_or_from_slice_get, slice_get_within}
use Rattle.scope_graph.proofs.made.edges_of.Goals as goal

pub loop-e-preserved : goal.loop-e-preserved
loop-e-preserved c =
    let edges = c.args.graph.now.edges in
    let e = c.loop-e.e in
    let edge = c.edge.result in
    let pushed : c.push.new.self.items ≡ c.loop-e.edges.items ++ edge ∷ [] = grind (arith, common_steps) in
    pushed ∙ ap (λ (xs : List (ℕ × ℕ)). xs ++ edge ∷ []) c.loop-e.invariant
    ∙ sym (take_more edges e edge (slice_get_within edges e edge c.edge.ensures) ∙ ap (λ (x : ℕ × ℕ). take e edges ++ x ∷ []) (get_or_from_slice_get edges e edge edge c.edge.ensures))
