-- What a run of a tool does, whose work is given.
--   Answers w before ending after   the work ends so over what the shelf tells, and leaves the shelf so
--   IsAnswered status               the text of such an answer was written whole
--   Wrote text before after         one write was made, of all of the text
--   CutShort text before after      one write was made, and failed after a prefix of the text
--   WroteNothing before after       at most one write was made, and nothing was taken
--   IsAnswerOf w files status text  the work over told files ends with this status and text, and no read fails
use Rattle.std.specs.Prelude.{◌≡◌, ℕ, List, ◌⊎◌, None, Some}
use Rattle.flow_base.specs.Outside.{Files, Rose, next_count}
use Rattle.flow_base.specs.Shelves.{ShelfState}
use Rattle.flow_base.specs.Sinks.{SinkState, Appended, AppendedPrefix}
use Rattle.command_plans.specs.declared.status.Status.{Status}
use Rattle.command_plans.specs.declared.status.Status.TheVariants as statuses
use Rattle.command_plans.specs.declared.answer.Answer.{Answer}
use Rattle.command_plans.specs.declared.answer.Answer.TheVariants as answers
use Rattle.command_plans.specs.Outcome.{Ending, Finished, Stopped, cause_of, ending_status, ending_text, ending_unread}
use Rattle.command_plans.specs.Log.{Log, log_of}
use Rattle.command_plans.specs.Work.{Work, EndsSo}
use Rattle.command_plans.specs.Works.{Tells}

-- the ending that an answer in memory stands for
abbrev pub ending_of : Answer → Ending
ending_of (answers.Finished text) = Finished text.items
ending_of (answers.Stopped why text) = Stopped (record { cause = cause_of why; text = text.items })

-- the work ends so, having read so; a failed read that it tells is the shelf's last one, and no other has failed
pub record Answers (w : Work (List ℕ)) (before : ShelfState) (ending : Ending) (after : ShelfState) : Type 0 where
  pub due : EndsSo w before.files (log_of before) ending (log_of after)
  pub unread : Tells (ending_unread ending) before after

-- the text of an answer was written whole
abbrev pub IsAnswered : Status → Type 0
IsAnswered statuses.Done = Unit {0}
IsAnswered statuses.Usage = Unit {0}
IsAnswered statuses.Source = Unit {0}
IsAnswered statuses.Unbounded = Unit {0}
IsAnswered statuses.No = Unit {0}
IsAnswered statuses.ReadFailed = Unit {0}
IsAnswered statuses.WriteFailed = ⊥
IsAnswered statuses.Memory = ⊥

-- one write was made, of all of the text
pub record Wrote (text : List ℕ) (before after : SinkState) : Type 0 where
  pub once : after.writes ≡ next_count before.writes
  pub all : Appended before.taken after.taken text

-- one write was made, and failed after a prefix of the text
pub record CutShort (text : List ℕ) (before after : SinkState) : Type 0 where
  pub once : after.writes ≡ next_count before.writes
  pub prefix : AppendedPrefix before.taken after.taken text
  pub rose : Rose before.faults after.faults

-- at most one write was made, and nothing was taken
pub record WroteNothing (before after : SinkState) : Type 0 where
  pub most : (after.writes ≡ before.writes) ⊎ (after.writes ≡ next_count before.writes)
  pub same : after.taken ≡ before.taken

-- the work over told files ends with this status and text, and no read fails
pub record IsAnswerOf (w : Work (List ℕ)) (files : Files) (status : Status) (text : List ℕ) : Type 0 where
  pub ending : Ending
  pub before : Log
  pub after : Log
  pub due : EndsSo w (Some files) before ending after
  pub no_failed_read : ending_unread ending ≡ None
  pub status_is : status ≡ ending_status ending
  pub text_is : text ≡ ending_text ending
