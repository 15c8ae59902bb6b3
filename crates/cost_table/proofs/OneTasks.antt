-- A tasks file has one answer.
--   few_or_many, wrong_or_many   a file that has not too many entries
--   tasks_one   it has
use Rattle.std.proofs.Common.{◌≡◌, ◌≤◌, ◌∙◌, ℕ, List, length, Result, Ok, Err, refl, ap, sym, arith}
use Rattle.std.specs.Prelude.{⊤}
use Rattle.toml.specs.Data.{Data}
use Rattle.cost_table.specs.declared.fault.TableFault.{TableFault}
use Rattle.cost_table.specs.declared.task_set.Task.{Task}
use Rattle.cost_table.specs.Files.{HasEntries, HasWrongTop}
use Rattle.cost_table.specs.TaskFiles.{HasTooMany, IsTaskRange, MeansTasks, RefusesTasks, TooMany, Otherwise, task_entries, task_entry, task_judging, tasks_in}
use Rattle.cost_table.specs.Laws.{AnswersTasks, TasksHaveOneAnswer}
use Rattle.cost_table.proofs.OneFault.{IsFair, one_list, one_refusal, one_wrong, right_or_refused, right_or_wrong, told_or_not}

-- entries are judged fairly
fair : IsFair task_judging
fair = record {
  apart = λ before k datum fault right wrong. right_or_wrong task_entry (IsTaskRange (tasks_in before)) (λ entry. ⊤) k datum fault right wrong;
  one = λ before k datum f g a b. one_wrong task_entry (IsTaskRange (tasks_in before)) (λ entry. ⊤) k datum f g a b;
}

-- a file with few entries has not too many
pub few_or_many : (bytes : List ℕ) (entries : List Data) → HasEntries bytes task_entries entries → length entries ≤ 64
    → ¬ HasTooMany bytes
few_or_many bytes entries told few = λ h.
    let same : length h.entries ≡ length entries = ap length (one_list bytes task_entries h.entries entries h.told told) in
    let many = h.many in
    omega arith

-- nor has one with a key fault at the top
pub wrong_or_many : (bytes : List ℕ) → HasWrongTop bytes task_entries → ¬ HasTooMany bytes
wrong_or_many bytes wrong = λ h. told_or_not bytes task_entries h.entries wrong h.told

-- it is not refused
means_or_refused : (bytes : List ℕ) (tasks : List Task) (fault : TableFault) → MeansTasks bytes tasks
    → RefusesTasks bytes fault → ⊥
means_or_refused bytes tasks fault m (TooMany h) = few_or_many bytes m.entries m.told m.few h
means_or_refused bytes tasks fault m (Otherwise one few r) = right_or_refused bytes task_entries task_judging m.entries one fair m.told m.right r

-- a file is refused for one fault
one_task_refusal : (bytes : List ℕ) (f g : TableFault) → RefusesTasks bytes f → RefusesTasks bytes g → f ≡ g
one_task_refusal bytes f g (TooMany h) (TooMany k) = refl
one_task_refusal bytes f g (TooMany h) (Otherwise other few r) = absurd (few h)
one_task_refusal bytes f g (Otherwise one few r) (TooMany h) = absurd (few h)
one_task_refusal bytes f g (Otherwise one few r) (Otherwise other some s) = one_refusal bytes task_entries task_judging one other fair r s

-- a tasks file has one answer
pub tasks_one : TasksHaveOneAnswer
tasks_one bytes = answers
  where
    answers : (a b : Result (List Task) TableFault) → AnswersTasks bytes a → AnswersTasks bytes b → a ≡ b
    answers (Ok tasks) (Ok more) m n = ap Ok (m.all ∙ ap tasks_in (one_list bytes task_entries m.entries n.entries m.told n.told) ∙ sym n.all)
    answers (Ok tasks) (Err f) m r = absurd (means_or_refused bytes tasks f m r)
    answers (Err f) (Ok tasks) r m = absurd (means_or_refused bytes tasks f m r)
    answers (Err f) (Err g) r s = ap Err (one_task_refusal bytes f g r s)
