-- How work ends.
--   Cause              why it stops
--   Outcome            the cause, and the line that tells it
--   Ending             finished with a text, or stopped with an outcome
--   status_of cause    the status of a stop
--   AreAlike x y       two outcomes are the same, but for a line that gives one example of several
--   unread_of cause    the name of the file whose failed read is told, if one is
--   IsStop stop outcome   what the code's stop tells, unless memory ran out
--   ending_status, ending_text, ending_unread   the same of an ending
use Rattle.std.specs.Prelude.{◌≡◌, ⊤, ℕ, List, Option, None, Some, Result, Ok, Err}
use Rattle.command_plans.specs.declared.status.Status.{Status}
use Rattle.command_plans.specs.declared.status.Status.TheVariants as statuses
use Rattle.command_plans.specs.declared.stop.Why.{Why}
use Rattle.command_plans.specs.declared.stop.Why.TheVariants as whys
use Rattle.command_plans.specs.declared.stop.Stop.{Stop}
use Rattle.command_plans.specs.declared.stop.Stop.TheVariants as stops

-- why work stops: a failed write and want of memory are none of these
pub data Cause : Type 0 where
  -- the words are no command
  Usage : Cause
  -- what was read is refused
  Source : Cause
  -- what was read is refused, and the line gives one example of several
  Example : Cause
  -- there are more turns than are given
  Unbounded : Cause
  -- what was asked does not hold
  No : Cause
  -- the read of the file of this name failed
  Unread : List ℕ → Cause

pub record Outcome : Type 0 where
  pub cause : Cause
  pub text : List ℕ

-- the cause that the code tells
abbrev pub cause_of : Why → Cause
cause_of whys.Usage = Usage
cause_of whys.Source = Source
cause_of whys.Example = Example
cause_of whys.Unbounded = Unbounded
cause_of whys.No = No
cause_of (whys.Unread name) = Unread name.items

-- the status of a stop
abbrev pub status_of : Cause → Status
status_of Usage = statuses.Usage
status_of Source = statuses.Source
status_of Example = statuses.Source
status_of Unbounded = statuses.Unbounded
status_of No = statuses.No
status_of (Unread name) = statuses.ReadFailed

-- the name of the file whose failed read is told, if one is
abbrev pub unread_of : Cause → Option (List ℕ)
unread_of Usage = None
unread_of Source = None
unread_of Example = None
unread_of Unbounded = None
unread_of No = None
unread_of (Unread name) = Some name

-- no failed read is told
abbrev pub IsOfFiles : Outcome → Type 0
IsOfFiles outcome = unread_of outcome.cause ≡ None

-- the lines are the same, but where each gives one example of several
abbrev pub LinesAgree : Cause → List ℕ → List ℕ → Type 0
LinesAgree Usage a b = a ≡ b
LinesAgree Source a b = a ≡ b
LinesAgree Example a b = ⊤
LinesAgree Unbounded a b = a ≡ b
LinesAgree No a b = a ≡ b
LinesAgree (Unread name) a b = a ≡ b

-- two outcomes are the same, but for a line that gives one example of several
pub record AreAlike (x y : Outcome) : Type 0 where
  pub same_cause : x.cause ≡ y.cause
  pub lines : LinesAgree x.cause x.text y.text

-- two results are: values are the same
abbrev pub AreAlikeResults : {A : Type 0} → Result A Outcome → Result A Outcome → Type 0
AreAlikeResults (Ok a) (Ok b) = a ≡ b
AreAlikeResults (Ok a) (Err y) = ⊥
AreAlikeResults (Err x) (Ok b) = ⊥
AreAlikeResults (Err x) (Err y) = AreAlike x y

-- what was read is refused, with this line
abbrev pub refused : List ℕ → Outcome
refused text = record { cause = Source; text = text }

-- the stop tells this outcome, or memory ran out
abbrev pub IsStop : Stop → Outcome → Type 0
IsStop (stops.Told why text) outcome = record { cause = cause_of why; text = text.items } ≡ outcome
IsStop stops.Memory outcome = Unit {0}

-- finished with a text, or stopped
pub data Ending : Type 0 where
  Finished : List ℕ → Ending
  Stopped : Outcome → Ending

-- two endings are alike
abbrev pub AreAlikeEndings : Ending → Ending → Type 0
AreAlikeEndings (Finished a) (Finished b) = a ≡ b
AreAlikeEndings (Finished a) (Stopped y) = ⊥
AreAlikeEndings (Stopped x) (Finished b) = ⊥
AreAlikeEndings (Stopped x) (Stopped y) = AreAlike x y

abbrev pub ending_status : Ending → Status
ending_status (Finished text) = statuses.Done
ending_status (Stopped outcome) = status_of outcome.cause

abbrev pub ending_text : Ending → List ℕ
ending_text (Finished text) = text
ending_text (Stopped outcome) = outcome.text

abbrev pub ending_unread : Ending → Option (List ℕ)
ending_unread (Finished text) = None
ending_unread (Stopped outcome) = unread_of outcome.cause
