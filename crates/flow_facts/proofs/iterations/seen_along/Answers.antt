-- What is left to show of `seen_along`.
use Rattle.std.proofs.Common.{◌≡◌, ◌+◌, get_or, reverse, take, ap, ◌∙◌, ◌∷◌, [], ℕ, List}
use Rattle.std.proofs.lemmas.List.{take_more, reverse-append}
use Rattle.domain_core.specs.Outlines.{shape_of}
use Rattle.flow_facts.proofs.Walks.{seen_step}
use Rattle.flow_facts.proofs.iterations.seen_along.Goals as goal

pub loop-n-preserved : goal.loop-n-preserved
loop-n-preserved c =
    let i = c.loop-n.n-index in
    let trace = c.args.trace.now in
    let turned : reverse (take (i + 1) trace) ≡ get_or trace i 0 ∷ reverse (take i trace) =
    ap (λ (xs : List ℕ). reverse xs) (take_more trace i 0 c.loop-n-test.true) ∙ reverse-append (take i trace) (get_or trace i 0 ∷ []) in
    let further = seen_step (shape_of c.args.outline.now) c.args.scope c.args.a c.args.b (get_or trace i 0) (reverse (take i trace)) in
    record { known = cc (turned, further); header = c.loop-n.invariant.header }
