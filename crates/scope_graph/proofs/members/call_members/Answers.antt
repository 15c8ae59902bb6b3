-- What is left to show of `call_members`.
use Rattle.std.proofs.Common.{◌≡◌, ◌++◌, ◌∷◌, [], ℕ, arith}
use Rattle.std.proofs.lemmas.Grind.{common_steps}
use Rattle.domain_core.specs.Scopes.{path_at, Extends}
use Rattle.scope_graph.specs.Placing.{plan_of}
use Rattle.scope_graph.proofs.MarkLists.{marks_more}
use Rattle.scope_graph.proofs.members.call_members.Goals as goal

pub loop-n-preserved : goal.loop-n-preserved
loop-n-preserved c =
    let pushed : c.push.new.self.items ≡ c.loop-n.marks.items ++ c.is_under-held.result ∷ [] = grind (arith, common_steps) in
    let plan = plan_of c.args.graph.now in
    rw pushed (marks_more (λ (n : ℕ). Extends (path_at plan n) (path_at plan c.args.header)) c.loop-n.n c.loop-n.marks.items c.is_under-held.result c.loop-n.invariant c.is_under-held.ensures.yes c.is_under-held.ensures.no)
