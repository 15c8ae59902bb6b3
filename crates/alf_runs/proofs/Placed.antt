-- The law of places, from the functions that a test tells to the frames that are active.
use Rattle.std.proofs.Common.{◌≡◌, ◌↔◌, ◌<◌, ◌^◌, ℕ, ℤ, pos, negsuc, zero, suc, Bool, true, false, List, [], ◌∷◌, Some, None, Contains, refl, sym, ◌∙◌, subst, mod-lt, arith}
use Rattle.std.specs.Prelude.{◌==◌}
use Rattle.std.proofs.lemmas.Nat.{pow_pos}
use Rattle.std.proofs.lemmas.Bool.{eqb-true, eq-eqb, false≢true}
use Rattle.alf_ops.specs.declared.history.RunEvent.{RunEvent}
use Rattle.alf_ops.specs.Histories.{is_running}
use Rattle.alf_ops.specs.TwosComplement.{word}
use Rattle.alf_check.specs.declared.rows.InputRow.{InputRow}
use Rattle.alf_check.specs.CheckedPrograms.{NumberedProgram}
use Rattle.alf_check.specs.Kept.{IsKept}
use Rattle.flow_graph.specs.Nodes.{Node, first_node}
use Rattle.alf_runs.specs.Outcomes.{Ended, Faulted, Lost}
use Rattle.alf_runs.specs.Steps.{Moment, At, Over, step}
use Rattle.alf_runs.specs.Runs.{after}
use Rattle.alf_runs.specs.Starts.{start, start_history, AreWithin, words_of}
use Rattle.alf_runs.specs.Places.{functions_on, ActiveAlong, IsPlace, AreWords}
use Rattle.alf_runs.specs.PlaceLaws.{IsPlaced}
use Rattle.alf_runs.proofs.Paths.{is_among}
use Rattle.alf_runs.proofs.Growing.{Promised}
use Rattle.alf_runs.proofs.Standing.{Stands, IsSafe, step_safe, start_stands}
use Rattle.lists.specs.MemberLaws.{no_member, first_member, further_member, first_or_further}
use Rattle.lists.specs.TestLaws.{by_test}

-- a function is told by the test exactly where it is a member
among_member : (functions : List ℕ) (f : ℕ) → (is_among f functions ≡ true) ↔ Contains functions f
among_member [] f = (λ among. absurd (false≢true among), λ member. no_member f member)
among_member (g ∷ functions) f = by_test (g == f)
    (λ same. (
      λ among. let e : g ≡ f = eqb-true g f same in subst (λ h. Contains (g ∷ functions) h) e (first_member g functions),
      λ member. rw same refl,
    ))
    (λ other. (
      λ among. further_member g functions f ((among_member functions f).0 (rw other at among)),
      λ member. rw other (first_or_further g functions f member
          (λ same. absurd (false≢true (sym other ∙ eq-eqb g f same)))
          (λ further. (among_member functions f).1 further)),
    ))

-- two tests that pass together are one
same_test : (a b : Bool) → (a ≡ true → b ≡ true) → (b ≡ true → a ≡ true) → a ≡ b
same_test true b on back = sym (on refl)
same_test false true on back = back refl
same_test false false on back = refl

active_along : (program : NumberedProgram) (path : List ℕ) (history : List RunEvent)
    → ((f : ℕ) → is_running history f ≡ is_among f (functions_on program path)) → ActiveAlong program path history
active_along program path history runs None = (λ _. tt, λ _. refl)
active_along program path history runs (Some f) = (
  λ running. (among_member (functions_on program path) f).0 (sym (runs f) ∙ running),
  λ member. runs f ∙ (among_member (functions_on program path) f).1 member,
)

-- the law of places, from what the test tells, and back
pub to_place : (program : NumberedProgram) (node : Node) (history : List RunEvent)
    → Stands program node.path node.block history → IsPlace program node history
to_place program node history stands = record { calls = stands.calls; there = stands.there; active = active_along program node.path history stands.runs; sound = stands.sound }

from_place : (program : NumberedProgram) (node : Node) (history : List RunEvent) → IsPlace program node history
    → Stands program node.path node.block history
from_place program node history place = record {
  calls = place.calls;
  there = place.there;
  runs = λ f. same_test (is_running history f) (is_among f (functions_on program node.path))
      (λ running. (among_member (functions_on program node.path) f).1 ((place.active (Some f)).0 running))
      (λ among. (place.active (Some f)).1 ((among_member (functions_on program node.path) f).0 among));
  sound = place.sound;
}

placed : (program : NumberedProgram) (moment : Moment) → IsSafe program moment → IsPlaced program moment
placed program (At node history) safe = to_place program node history safe
placed program (Over (Ended outputs)) safe = tt
placed program (Over (Faulted fault)) safe = tt
placed program (Over Lost) safe = safe

pub step_keeps : Promised → (program : NumberedProgram) (node : Node) (history : List RunEvent) → IsKept program
    → IsPlace program node history → IsPlaced program (step program (At node history))
step_keeps promised program node history kept place =
    placed program (step program (At node history)) (step_safe promised program kept node.path node.block history (from_place program node history place))

-- ---- runs

safe_step : Promised → (program : NumberedProgram) → IsKept program → (moment : Moment) → IsSafe program moment
    → IsSafe program (step program moment)
safe_step promised program kept (At node history) safe = step_safe promised program kept node.path node.block history safe
safe_step promised program kept (Over outcome) safe = safe

safe_after : Promised → (program : NumberedProgram) → IsKept program → (t : ℕ) (moment : Moment) → IsSafe program moment
    → IsSafe program (after program t moment)
safe_after promised program kept zero moment safe = safe
safe_after promised program kept (suc t) moment safe = safe_after promised program kept t (step program moment) (safe_step promised program kept moment safe)

pub start_place : (program : NumberedProgram) (rows : List InputRow) (words : List ℕ) → IsKept program
    → AreWords rows words → IsPlace program first_node (start_history program rows words)
start_place program rows words kept fit = to_place program first_node (start_history program rows words) (start_stands program kept rows words fit)

pub each_place : Promised → (program : NumberedProgram) (rows : List InputRow) (words : List ℕ) (t : ℕ) (node : Node) (history : List RunEvent)
    → IsKept program → AreWords rows words → after program t (start program rows words) ≡ At node history → IsPlace program node history
each_place promised program rows words t node history kept fit at =
    to_place program node history (subst (IsSafe program) at (safe_after promised program kept t (start program rows words) (start_stands program kept rows words fit)))

pub never_lost : Promised → (program : NumberedProgram) (rows : List InputRow) (words : List ℕ) (t : ℕ)
    → IsKept program → AreWords rows words → after program t (start program rows words) ≡ Over Lost → ⊥
never_lost promised program rows words t kept fit lost =
    subst (IsSafe program) lost (safe_after promised program kept t (start program rows words) (start_stands program kept rows words fit))

-- ---- inputs

word_below : (size : ℕ) (z : ℤ) → word size z < 2 ^ size
word_below size (pos n) = mod-lt n (pow_pos size)
word_below size (negsuc n) = omega (arith, pow_pos size)

pub inputs_are_words : (rows : List InputRow) (numbers : List ℤ) → AreWithin rows numbers
    → AreWords rows (words_of rows numbers)
inputs_are_words [] [] within = tt
inputs_are_words [] (number ∷ numbers) within = absurd within
inputs_are_words (row ∷ rows) [] within = absurd within
inputs_are_words (row ∷ rows) (number ∷ numbers) within = (word_below row.size number, inputs_are_words rows numbers within.1)
