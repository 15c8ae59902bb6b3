-- What an analysis answers, without where it lies in memory.
--   Answer                a report, or the scope in which the exploration was left
--   answer_of analysed    what the code's answer stands for
--   IfTold answer P       P holds of the report, if the answer is one
--   IfClosed analysed P   P holds of the report and the events, if there are any
use Rattle.std.specs.Prelude.{ℕ, List}
use Rattle.domain_core.specs.declared.event.Event.{Event}
use Rattle.flow_facts.specs.Reports.{Reported, reported}
use Rattle.program_analysis.specs.declared.analysed.Analysed.{Analysed}
use Rattle.program_analysis.specs.declared.analysed.Analysed.TheVariants as answers

pub data Answer : Type 0 where
  Told : Reported → Answer
  Unbounded : ℕ → Answer

-- what the code's answer stands for
abbrev pub answer_of : Analysed → Answer
answer_of (answers.Told report events) = Told (reported report)
answer_of (answers.Unbounded scope) = Unbounded scope

-- P holds of the report, if the answer is one
abbrev pub IfTold : Answer → (Reported → Type 0) → Type 0
IfTold (Told report) P = P report
IfTold (Unbounded scope) P = Unit {0}

-- P holds of the report and the events, if there are any
abbrev pub IfClosed : Analysed → (Reported → List Event → Type 0) → Type 0
IfClosed (answers.Told report events) P = P (reported report) events.items
IfClosed (answers.Unbounded scope) P = Unit {0}
