-- What is left to show of `loop_members`.
use Rattle.std.proofs.Common.{◌≡◌, ◌+◌, ◌-◌, ◌++◌, ◌∷◌, [], ℕ, Bool, false, get_or, refl, sym, subst, arith}
use Rattle.std.proofs.lemmas.Grind.{common_steps}
use Rattle.scope_graph.specs.Placing.{plan_of}
use Rattle.scope_graph.specs.Members.{IsCalled, IsTaken, Tells}
use Rattle.scope_graph.proofs.MarkLists.{marks_more, taken_tells}
use Rattle.scope_graph.proofs.members.loop_members.Goals as goal

pub loop-n-preserved : goal.loop-n-preserved
loop-n-preserved c =
    let plan = plan_of c.args.graph.now in
    let body = c.args.body.now in
    let n = c.loop-n.n in
    let called = c.called_at-called.result in
    let held = c.either-held.result in
    let pushed : c.push.new.self.items ≡ c.loop-n.marks.items ++ held ∷ [] = grind (arith, common_steps) in
    let tells : Tells held (IsTaken plan body n) = subst (λ (v : Bool). Tells v (IsTaken plan body n)) (sym c.either-held.ensures) (taken_tells plan body n (get_or body n false) called refl c.called_at-called.ensures) in
    let before : n + 1 - 1 ≡ n = omega arith in
    record {
      marked = rw pushed (marks_more (IsTaken plan body) n c.loop-n.marks.items held c.loop-n.invariant.marked tells.0 tells.1);
      told = λ some. subst (λ (k : ℕ). Tells called (IsCalled plan body k)) (sym before) c.called_at-called.ensures;
    }
