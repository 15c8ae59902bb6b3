-- Ranks, and the first function on a cycle.
use Rattle.std.proofs.Common.{◌<◌, ℕ, Bool, List, [], ◌∷◌, length, length-append, ap, arith}
use Rattle.std.proofs.lemmas.List.Sums.{count_by-le-length}
use Rattle.graph_walks.specs.Walks.{Walk, stays, goes_on}
use Rattle.graph_walks.specs.WalkLaws.{walk_cons}
use Rattle.graph_walks.specs.MarkedNodeLaws.{unmarked_is, marked_more}
use Rattle.graph_walks.specs.TableLaws.{rows_long}
use Rattle.graph_walks.specs.Calls.{Calls, Reaches, calls_of}
use Rattle.graph_walks.specs.CallLaws.{caller_low}
use Rattle.graph_walks.specs.Findings.{IsRankOf}
use Rattle.graph_walks.proofs.ranks.call_ranks.Goals as goal

module _ (calls : List (List ℕ)) where
  -- where a function with a rank calls one with a rank, that one's is lower: calls lead there to no more, and not to
  -- the caller
  rank_falls : (f g rank lower : ℕ) → IsRankOf calls f rank → IsRankOf calls g lower → Calls calls f g → lower < rank
  rank_falls f g rank lower r s call =
      let clear = unmarked_is s.marks f (λ is. let way = s.marking.reached f is in r.alone (on f way.0 way.1)) in
      omega (
        arith,
        marked_more s.marks r.marks f (omega (arith, r.marking.long, s.marking.long)) (λ h is. let way = s.marking.reached h is in r.marking.all h (f ∷ way.0, walk_cons (Calls calls) f g h way.0 call way.1)) clear
            (r.marking.all f (f ∷ [], stays)),
        r.counted,
        s.counted,
      )
    where
      -- the call of g and a walk from it lead where the walk does
      on : (h : ℕ) (path : List ℕ) → Walk (Calls calls) g h path → Reaches calls f h
      on h path stays = record { last = f; path = f ∷ []; walk = stays; call = call }
      on h path (goes_on {u = u} {v = v} {path = before} way last) = record { last = u; path = f ∷ before; walk = walk_cons (Calls calls) f g u before call way; call = last }

  -- a walk of two nodes or more is one call or more
  longer : (f g : ℕ) (way : List ℕ) → Walk (Calls calls) f g way → 1 < length way → Reaches calls f g
  longer f g way stays long = absurd (omega arith)
  longer f g way (goes_on {u = u} {v = v} {path = before} walk call) long = record { last = u; path = before; walk = walk; call = call }

pub returns-in-Ok-Cycle-clause-cycle : goal.returns-in-Ok-Cycle-clause-cycle
returns-in-Ok-Cycle-clause-cycle c =
    let f = c.loop-function.function in
    let path = c.in-Ok-Cycle.path.items in
    let cycle = rw c.in-Ok-Cycle.field-0-is at c.in-Ok-Cycle.ensures in
    record {
      first = f;
      cycle = cycle;
      on_cycle = longer (calls_of c.args.calls.now) f f path cycle.walks (omega (arith, ap length cycle.closed, length-append cycle.between (f ∷ [])));
      least = λ g before. (c.loop-function.invariant.ranked g before).alone;
    }

pub returns-clause-ranked : goal.returns-clause-ranked
returns-clause-ranked c =
    let calls = calls_of c.args.calls.now in
    let long = rows_long c.args.calls.now in
    let rank = c.loop-function.invariant.ranked in
    record {
      one_each = omega arith;
      within = λ f inside. let r = rank f (omega arith) in omega (arith, r.counted, r.marking.long, count_by-le-length (λ (mark : Bool). mark) r.marks);
      falls = λ f g call. rank_falls calls f g _ _ (rank f (let low = caller_low calls f g call in omega arith)) (rank g (let low = c.requires.within f g call in omega arith)) call;
    }
