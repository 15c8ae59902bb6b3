-- Who calls, and what ranks promise.
use Rattle.std.proofs.Common.{◌<◌, ℕ, List, [], length, Contains, inl, inr, subst}
use Rattle.std.proofs.lemmas.Bool.{cases_lt}
use Rattle.std.proofs.lemmas.List.{get_or_past}
use Rattle.lists.specs.MemberLaws.{no_member}
use Rattle.graph_walks.specs.Calls.{Calls}

-- a function that calls is one of them
pub caller_low : (calls : List (List ℕ)) (f g : ℕ) → Calls calls f g → f < length calls
caller_low calls f g call =
    elim (cases_lt f (length calls)) [
      | inl low ↦ low
      | inr past ↦ no_member g (subst (λ (xs : List ℕ). Contains xs g) (get_or_past calls f [] past) call)
    ]
