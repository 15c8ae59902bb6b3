-- What a function of the code does, beside the work that it stands for.
--   Tells name before after            the failed read that is told is the shelf's last one; where none is told, none has failed
--   Works w view before result after   the answer is one of the work, and the shelf is left as it says
--   OverRead before after names Over   these names were read in between, and over all files that hold what was read this is true
--   Judges Means view result           the answer is the one that is meant; no shelf is touched
use Rattle.std.proofs.Common.{◌≡◌, ◌≤◌, ℕ, List, Result, Ok, Err, Option, None, Some}
use Rattle.flow_base.specs.Outside.{Files, Rose}
use Rattle.flow_base.specs.Shelves.{ShelfState}
use Rattle.command_plans.specs.declared.stop.Stop.{Stop}
use Rattle.command_plans.specs.declared.stop.Stop.TheVariants as stops
use Rattle.command_plans.specs.Outcome.{Outcome, cause_of, unread_of}
use Rattle.command_plans.specs.Log.{log_of}
use Rattle.command_plans.specs.Work.{Work, IsOnly, IsMadeOf}

-- the failed read that is told is the shelf's last one; where none is told, none has failed
abbrev pub Tells : Option (List ℕ) → ShelfState → ShelfState → Type 0
Tells None before after = after.failed ≡ before.failed
Tells (Some name) before after = Rose before.faults after.faults × (after.failed ≡ Some name)

-- the answer is one of the work, and what it reads was read
abbrev pub Ends : {A X : Type 0} → Work A → (X → A) → ShelfState → Result X Stop → ShelfState → Type 0
Ends w view before (Ok x) after = w.steps.Gives before.files (log_of before) (view x) (log_of after) × (after.failed ≡ before.failed)
Ends w view before (Err (stops.Told why text)) after =
    w.steps.Stops before.files (log_of before) (record { cause = cause_of why; text = text.items }) (log_of after) × Tells (unread_of (cause_of why)) before after
Ends w view before (Err stops.Memory) after = Unit {0}

pub record Works {A X : Type 0} (w : Work A) (view : X → A) (before : ShelfState) (result : Result X Stop)
    (after : ShelfState) : Type 0 where
  pub ends : Ends w view before result after
  pub same : after.files ≡ before.files
  pub later : before.faults ≤ after.faults

-- what a function says of files is true over all files that hold what it read under these names, those that the shelf tells
-- among them
abbrev pub OverRead : ShelfState → ShelfState → List (List ℕ) → (Files → Type 0) → Type 0
OverRead before after names Over = IsMadeOf before.files (log_of before) (log_of after) names Over

-- a function that only judges answers what is meant, and tells no failed read
abbrev pub Judges : {A X : Type 0} → (Result A Outcome → Type 0) → (X → A) → Result X Stop → Type 0
Judges Means view (Ok x) = IsOnly Means (Ok (view x))
Judges Means view (Err (stops.Told why text)) = (unread_of (cause_of why) ≡ None) × IsOnly Means (Err (record { cause = cause_of why; text = text.items }))
Judges Means view (Err stops.Memory) = Unit {0}
