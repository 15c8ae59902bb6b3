use Rattle.std.proofs.Common.{◌≡◌, ◌+◌, ◌<◌, ◌++◌, ◌∙◌, ℕ, Bool, true, false, not, List, [], ◌∷◌, length, get_or, drop, sym, refl, nat_eq, if◌then◌else◌}
use Rattle.std.specs.List.{list_any}
use Rattle.std.proofs.lemmas.List.{at_drop_more}
use Rattle.alf_program.specs.declared.program.Num.{Num}
use Rattle.alf_faults.specs.Fault.{earliest}
use Rattle.alf_faults.specs.Duplicates.{target_duplicates}
use Rattle.alf_faults.proofs.repeated_names.repeated_target.Goals as goal

-- a new number is kept for the targets after it
new_passed : (seen after : List ℕ) (targets : List (Num × List ℕ)) (i : ℕ) (t : Num × List ℕ) → i < length targets
    → t ≡ get_or targets i t
    → list_any (nat_eq t.0.bits) seen ≡ false → after ≡ (if list_any (nat_eq t.0.bits) seen then seen else seen ++ t.0.bits ∷ [])
    → earliest (target_duplicates after (drop (i + 1) targets)) ≡ earliest (target_duplicates seen (drop i targets))
new_passed seen after targets i t low is new kept =
    let grown : after ≡ seen ++ t.0.bits ∷ [] = rw new at kept in
    sym (at_drop_more (λ ys. earliest (target_duplicates seen ys)) targets i t low ∙ rw (← is, new, ← grown) refl)

is_new : (added found : Bool) → added ≡ not found → added ≡ true → found ≡ false
is_new added true is true_added = absurd cc
is_new added false is true_added = refl

pub loop-target-preserved : goal.loop-target-preserved
loop-target-preserved c =
    let new : list_any (nat_eq c.target-item.result.0.bits) c.loop-target.seen.keys ≡ false = is_new _ _ c.in_ok-insert.ensures.added c.if-not-branch.false in
    new_passed _ _ c.args.targets.now c.loop-target.target-index c.target-item.result c.loop-target-test.true c.target-item.is new c.in_ok-insert.ensures.keys ∙ c.loop-target.invariant
