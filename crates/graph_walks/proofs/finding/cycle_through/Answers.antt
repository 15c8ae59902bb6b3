-- A cycle from a walk that a call closes.
use Rattle.std.proofs.Common.{◌≡◌, Bool, false, List, ℕ, [], ◌∷◌, ◌++◌, replicate, length, ap, subst, sym, ◌∙◌, arith}
use Rattle.std.proofs.lemmas.Grind.{common_steps}
use Rattle.graph_walks.specs.Walks.{Walk, goes_on, IsDistinct}
use Rattle.graph_walks.proofs.WalkLemmas.{walk_starts}
use Rattle.graph_walks.specs.MarkedNodes.{IsMarked, IsBarred, IsPathPast}
use Rattle.graph_walks.specs.MarkedNodeLaws.{none_marked}
use Rattle.graph_walks.specs.Calls.{Calls, calls_of}
use Rattle.graph_walks.proofs.finding.cycle_through.Goals as goal

-- where nothing is marked, what is reached is not barred
pub unreachable-requires : goal.unreachable-requires
unreachable-requires c =
    let clear : c.deref.result.now ≡ replicate (length c.args.calls.now) false = grind (arith, common_steps) in
    let bars : IsBarred (Calls (calls_of c.args.calls.now)) c.deref.result.now c.args.function c.args.last = (let h = rw c.in_default.is at c.in_ok-path.ensures.none in h) in
    let met = bars c.requires.reached.0 c.requires.reached.1 in
    none_marked (length c.args.calls.now) met.0 (subst (λ (xs : List Bool). IsMarked xs met.0) clear met.2)

-- a walk without repeats, and a call back from its end
pub returns : goal.returns
returns c =
    let way : IsPathPast (Calls (calls_of c.args.calls.now)) c.deref.result.now c.args.function c.args.last c.in-Some.path.items = (let h = rw c.in-Some.is at c.in_ok-path.ensures.walk in h) in
    let start = walk_starts (Calls (calls_of c.args.calls.now)) c.args.function c.args.last c.in-Some.path.items way.walk in
    let is = c.in_ok-push.ensures.items in
    record {
      between = start.0;
      closed = is ∙ ap (λ (xs : List ℕ). xs ++ c.args.function ∷ []) start.1;
      walks = subst (λ (xs : List ℕ). Walk (Calls (calls_of c.args.calls.now)) c.args.function c.args.function xs) (sym is) (goes_on way.walk c.requires.call);
      once = subst (λ (xs : List ℕ). IsDistinct xs) start.1 way.once;
    }
