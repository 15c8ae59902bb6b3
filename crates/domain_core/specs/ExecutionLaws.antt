-- Executions and iteration numbers along the trace are those of the run.
--   found_execution, execution_found   the executions found are the longest stretches in the scope
--   length-turns_of     there is one number for each scope
use Rattle.std.proofs.Common.{◌≡◌, ℕ, suc, ◌+◌, List, [], ◌∷◌, length, reverse, Contains, refl, ap, ◌∙◌, subst}
use Rattle.std.proofs.lemmas.List.{length-replicate, reverse-reverse}
use Rattle.domain_core.specs.Outlines.{Shape, Holds, is_held, IsOutline}
use Rattle.domain_core.specs.OutlineLaws.{held_is, is_holder}
use Rattle.domain_core.specs.Stretches.{IsStretch, Passes}
use Rattle.domain_core.specs.StretchLaws.{found_stretch, stretch_found, stretch_turned, stretch_same}
use Rattle.domain_core.specs.Executions.{IsExecution, executions, turns_after, turns_of}

module _ (o : Shape) (ok : IsOutline o) (t : ℕ) where
  -- an execution that is found is one of the run
  pub found_execution : (past e : List ℕ) → Contains (executions o t past) e
      → IsExecution o t (reverse past) (reverse e)
  found_execution past e there =
      stretch_turned (λ n. Holds o t n) past e
      (stretch_same (Passes (λ n. is_held o t n)) (λ n. Holds o t n) (λ n. held_is o ok t n) (λ n. is_holder o ok t n) past e (found_stretch (λ n. is_held o t n) past e there))

  -- and each one is found
  pub execution_found : (past e : List ℕ) → IsExecution o t (reverse past) (reverse e)
      → Contains (executions o t past) e
  execution_found past e is =
      let turned = stretch_turned (λ n. Holds o t n) (reverse past) (reverse e) is in
      let back : IsStretch (λ n. Holds o t n) past e = subst (λ (xs : List ℕ). IsStretch (λ n. Holds o t n) past xs) (reverse-reverse e) (subst (λ (xs : List ℕ). IsStretch (λ n. Holds o t n) xs (reverse (reverse e))) (reverse-reverse past) turned) in
      stretch_found (λ n. is_held o t n) past e (stretch_same (λ n. Holds o t n) (Passes (λ n. is_held o t n)) (λ n. is_holder o ok t n) (λ n. held_is o ok t n) past e back)

-- ---- iteration numbers

length-turns_after : (o : Shape) (n t : ℕ) (turns : List ℕ) → length (turns_after o n t turns) ≡ length turns
length-turns_after o n t [] = refl
length-turns_after o n t (turn ∷ turns) = ap suc (length-turns_after o n (t + 1) turns)

-- there is one number for each scope
pub length-turns_of : (o : Shape) (trace : List ℕ) → length (turns_of o trace) ≡ length o.scopes
length-turns_of o [] = length-replicate (length o.scopes) 0
length-turns_of o (n ∷ past) = length-turns_after o n 0 (turns_of o past) ∙ length-turns_of o past
