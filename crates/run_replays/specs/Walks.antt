-- A run made by a machine and entered in the books of a recorder, within so many visits of each node.
--   IsPassed program graph begin allowed n   the run comes to node n, which was there as often as it is allowed
--   IsEntered z o book past       the book, which is one of the outline, has exactly the run whose nodes are these, the newest first
--   IsOver z program graph o begin allowed run   the run is over within these visits, and what is told of it is so
--   Walks z program graph o begin allowed walked   so it is, or the run comes to a node too often
use Rattle.std.specs.Prelude.{◌≡◌, ◌≤◌, ℕ, List, ◌∷◌, reverse, slice_index}
use Rattle.alf_check.specs.CheckedPrograms.{NumberedProgram}
use Rattle.flow_graph.specs.Numbering.{GraphParts}
use Rattle.alf_runs.specs.Outcomes.{Outcome}
use Rattle.alf_runs.specs.Steps.{Moment}
use Rattle.alf_interp.specs.Traces.{Runs}
use Rattle.domain_core.specs.Outlines.{Outlined, IsOutline, shape_of}
use Rattle.domain_core.specs.Recordings.{Recording}
use Rattle.flow_facts.specs.Facts.{places}
use Rattle.ipet_rows.specs.Uses.{run_cost}
use Rattle.report_soundness.specs.ReportTold.{costs_of}
use Rattle.run_replays.specs.declared.walked.RunBook.{RunBook}
use Rattle.run_replays.specs.declared.walked.Walked.{Walked}
use Rattle.run_replays.specs.declared.walked.Walked.TheVariants as walks
use Rattle.run_replays.specs.Replays.{Reaches, fault_of}

-- no node is there more often than it is allowed
abbrev pub AreAllowed : List ℕ → List ℕ → Type 0
AreAllowed allowed trace = (n : ℕ) → places n trace ≤ slice_index allowed n

-- the run comes to node n, which was there as often as it is allowed
pub record IsPassed (program : NumberedProgram) (graph : GraphParts) (begin : Moment) (allowed : List ℕ)
    (n : ℕ) : Type 0 where
  pub before : List ℕ
  pub reaches : Reaches program graph.nodes begin before n
  pub within : AreAllowed allowed before
  pub full : places n before ≡ slice_index allowed n

-- the book has exactly the run
pub record IsEntered {R B : Type 0} (z : Recording R B) (o : Outlined) (book : B) (past : List ℕ) : Type 0 where
  pub kept : IsOutline (shape_of o)
  pub sized : z.book_is_of o book
  pub sums : z.sums_up o book past
  pub exact : z.exact o book past

-- the run is over within these visits
pub record IsOver {R B : Type 0} (z : Recording R B) (program : NumberedProgram) (graph : GraphParts) (o : Outlined)
    (begin : Moment) (allowed : List ℕ) (run : RunBook B) : Type 0 where
  pub past : List ℕ
  pub outcome : Outcome
  pub runs : Runs program graph.nodes begin (reverse (run.last ∷ past)) outcome
  pub fault : run.fault ≡ fault_of outcome
  pub within : AreAllowed allowed (reverse (run.last ∷ past))
  pub entered : IsEntered z o run.book (run.last ∷ past)
  pub cost : run.cost ≡ run_cost (costs_of o) (reverse (run.last ∷ past))

-- what is told of the run from there
abbrev pub Walks : {R B : Type 0} → Recording R B → NumberedProgram → GraphParts → Outlined → Moment → List ℕ → Walked B
    → Type 0
Walks z program graph o begin allowed (walks.Passed n) = IsPassed program graph begin allowed n
Walks z program graph o begin allowed (walks.Over run) = IsOver z program graph o begin allowed run
