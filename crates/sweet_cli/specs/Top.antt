-- What a run of the program does, from its words and from its arguments.
--   IsAnswerRead words status shelf later out now   what was written is the answer over all files that hold what was read
--   IsRun words status shelf later out now   a run with these words ends so, leaves the shelf so, and wrote so
--   words_of arguments                       the words: all arguments but the first, which is the program's name
--   IsUnreadCode why code                    the exit code where the arguments could not be read: 7 where memory ran out, and else 8
use Rattle.std.specs.Prelude.{◌≡◌, ◌≢◌, ◌⊎◌, ℕ, List, true, drop, map, string_bytes, IfSome, String}
use Rattle.std.specs.declared.alloc.Global.{Global}
use Rattle.std.specs.declared.io.Error.{Error}
use Rattle.std.specs.declared.io.ErrorKind.TheVariants.{OutOfMemory}
use Rattle.std.specs.IoError.{error_kind}
use Rattle.flow_base.specs.Outside.{Rose}
use Rattle.flow_base.specs.Shelves.{ShelfState}
use Rattle.flow_base.specs.Sinks.{SinkState}
use Rattle.command_plans.specs.declared.status.Status.{Status}
use Rattle.command_plans.specs.declared.status.Status.TheVariants as statuses
use Rattle.command_plans.specs.Lines.{is_line}
use Rattle.command_plans.specs.Outcome.{Ending, ending_status, ending_text}
use Rattle.command_plans.specs.Run.{Answers, IsAnswered, Wrote, CutShort, WroteNothing, IsAnswerOf}
use Rattle.command_plans.specs.Log.{Log, log_after}
use Rattle.command_plans.specs.Work.{EndsSo}
use Rattle.command_plans.specs.Works.{OverRead}
use Rattle.sweet_cli.specs.Task.{KeepsPromise, Promised}
use Rattle.sweet_cli.specs.Table.{task_of}

-- the names were read in this order, whatever was read before, and over all files that hold what was read the text that was
-- written is the answer
pub record IsAnswerRead (words : List (List ℕ)) (status : Status) (shelf later : ShelfState) (out now : SinkState) : Type 0 where
  pub ending : Ending
  pub names : List (List ℕ)
  pub anyhow : (log : Log) → EndsSo (task_of words).work shelf.files log ending (log_after log names)
  pub over : OverRead shelf later names (λ files. IsAnswerOf (task_of words).work files status (ending_text ending))
  pub wrote : Wrote (ending_text ending) out now

-- a run with these words ends so, leaves the shelf so, and wrote so: each field is the clause of `run` of its name
pub record IsRun (words : List (List ℕ)) (status : Status) (shelf later : ShelfState) (out now : SinkState) : Type 0 where
  pub answer : IsAnswered status → (ending : Ending) × (status ≡ ending_status ending)
      × Answers (task_of words).work shelf ending later
      × IfSome shelf.files (λ files. KeepsPromise (task_of words) files ending) × Wrote (ending_text ending) out now
  pub promised : status ≡ statuses.Done → IfSome shelf.files (λ files. Promised (task_of words) files out now)
  pub answer_read : IsAnswered status → (status ≡ statuses.ReadFailed → ⊥) → IsAnswerRead words status shelf later out now
  pub promised_read : status ≡ statuses.Done → OverRead shelf later (task_of words).names (λ files. Promised (task_of words) files out now)
  pub one_line : IsAnswered status → (status ≡ statuses.Done → ⊥) → (line : List ℕ) × (is_line line ≡ true) × Wrote line out now
  pub no_other_read : IsAnswered status → (status ≡ statuses.ReadFailed → ⊥) → later.failed ≡ shelf.failed
  pub same_files : later.files ≡ shelf.files
  pub write_failed : status ≡ statuses.WriteFailed → (ending : Ending) × Answers (task_of words).work shelf ending later
      × IfSome shelf.files (λ files. KeepsPromise (task_of words) files ending) × CutShort (ending_text ending) out now
  pub nothing_written : status ≡ statuses.Memory → WroteNothing out now
  pub settled : (Rose shelf.faults later.faults → ⊥) → (Rose out.faults now.faults → ⊥)
      → (status ≡ statuses.Memory)
      ⊎ IfSome shelf.files (λ files. (text : List ℕ) × IsAnswerOf (task_of words).work files status text × Wrote text out now)

-- all arguments but the first
abbrev pub words_of : List (String Global) → List (List ℕ)
words_of arguments = map string_bytes (drop 1 arguments)

-- the exit code where the arguments could not be read: one of them is not UTF-8, unless memory ran out
pub record IsUnreadCode (why : Error) (code : ℕ) : Type 0 where
  pub memory : error_kind why ≡ OutOfMemory → code ≡ 7
  pub other : error_kind why ≢ OutOfMemory → code ≡ 8
