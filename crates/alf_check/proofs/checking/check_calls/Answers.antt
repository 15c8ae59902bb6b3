use Rattle.std.proofs.Common.{◌≡◌, ℕ, List, subst, sym, rules}
use Rattle.alf_program.specs.Tree.{program_of}
use Rattle.graph_walks.specs.Calls.{CallsWithin, IsRanked, calls_of}
use Rattle.alf_check.specs.Checking.{calls_in}
use Rattle.alf_check.proofs.Kept.{calls_within}
use Rattle.alf_check.proofs.checking.check_calls.Goals as goal

pub call_ranks-requires-clause-within : goal.call_ranks-requires-clause-within
call_ranks-requires-clause-within c =
    let are : calls_of c.as_slice-calls.result.now ≡ calls_in (program_of c.args.program.now) = search rules in
    subst (λ (calls : List (List ℕ)). CallsWithin calls) (sym are) (calls_within (program_of c.args.program.now).funcs)

pub returns-in-Ok-call_ranks-clause-acyclic : goal.returns-in-Ok-call_ranks-clause-acyclic
returns-in-Ok-call_ranks-clause-acyclic c =
    let are : calls_of c.as_slice-calls.result.now ≡ calls_in (program_of c.args.program.now) = search rules in
    c.ranked_calls_have_no_cycle.ensures (calls_in (program_of c.args.program.now)) c.in-Ok-call_ranks._ranks.items
    (subst (λ (calls : List (List ℕ)). IsRanked calls c.in-Ok-call_ranks._ranks.items) are c.in-Ok-call_ranks.ensures.ranked)
