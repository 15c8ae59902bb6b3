-- Sequences of jobs of small programs, worked out by hand.
--   ThreeJobs        a program that changes a global and puts it back has a sequence of three jobs, each with another input
--   NoSecondJob      a program that leaves another byte in a global that no row names has no job after its first
use Rattle.std.specs.Prelude.{ℕ, false, List, [], ◌∷◌, Some, None, pos}
use Rattle.alf_ops.specs.declared.history.Value.TheVariants.{Int}
use Rattle.alf_ops.specs.declared.history.RunEvent.{RunEvent}
use Rattle.alf_ops.specs.declared.history.RunEvent.TheVariants.{Store as Stored}
use Rattle.alf_program.specs.Tree.{NumberedExpression, Number, Address, Load}
use Rattle.alf_check.specs.declared.rows.FrameRow.{FrameRow}
use Rattle.alf_check.specs.declared.rows.InitRow.{InitRow}
use Rattle.alf_check.specs.declared.rows.InputRow.{InputRow}
use Rattle.alf_check.specs.CheckedPrograms.{NumberedStatement, Store, Return, NumberedProgram}
use Rattle.flow_graph.specs.Nodes.{entry_node, block_node}
use Rattle.alf_runs.specs.Starts.{start, start_history, words_of}
use Rattle.alf_runs.specs.Steps.{Moment}
use Rattle.job_rules.specs.Jobs.{Job, Jobs, IsJobStart}

-- ---- how the programs are written

abbrev byte : ℕ → NumberedExpression
byte bits = Number (record { signed = false; size = 8; bits = bits })

abbrev global : FrameRow
global = record { owner = None; name = []; bits = 8 }

abbrev init : ℕ → ℕ → InitRow
init frame bits = record { frame = frame; offset = 0; num = record { signed = false; size = 8; bits = bits } }

-- frame 0 holds 0 at the start, and frame 1 holds 5; the root does these statements, and returns what frame 0 holds
abbrev program : List NumberedStatement → NumberedProgram
program statements = record {
  frames = global ∷ global ∷ [];
  funcs = record {
    name = [];
    args = [];
    frames = [];
    inits = [];
    blocks = record { statements = statements; ending = Return (Some (Load 8 (Address 0 0))) } ∷ [];
  } ∷ [];
  inits = init 0 0 ∷ init 1 5 ∷ [];
  exports = [];
  root = 0;
}

-- frame 0 holds a number from 0 to 3 at the start of each job
abbrev pub rows : List InputRow
rows = record { frame = 0; offset = 0; size = 8; low = pos 0; high = pos 3 } ∷ []

abbrev pub history_with : NumberedProgram → ℕ → List RunEvent
history_with of n = start_history of rows (words_of rows (pos n ∷ []))

abbrev job : NumberedProgram → ℕ → List RunEvent → Job
job of n history = record {
  from = start of rows (words_of rows (pos n ∷ []));
  nodes = entry_node [] ∷ block_node [] 0 ∷ [];
  outputs = record { returned = Some (Int 8 2); globals = [] };
  history = history;
}

-- ---- a global that is put back

-- frame 1 is 9 for a while, and frame 0 is 2 in the end
abbrev pub puts_back : NumberedProgram
puts_back = program (Store (Address 1 0) (byte 9) ∷ Store (Address 1 0) (byte 5) ∷ Store (Address 0 0) (byte 2) ∷ [])

abbrev pub put_back : ℕ → List RunEvent
put_back n = Stored 0 0 8 (Int 8 2) ∷ Stored 1 0 8 (Int 8 5) ∷ Stored 1 0 8 (Int 8 9) ∷ history_with puts_back n

-- three jobs, which start with 0, 1 and 2 in frame 0, the newest first
abbrev pub ThreeJobs : Type 0
ThreeJobs = Jobs puts_back rows (job puts_back 2 (put_back 2) ∷ job puts_back 1 (put_back 1) ∷ job puts_back 0 (put_back 0) ∷ [])

-- ---- a global that is left changed

-- frame 1 is 9 in the end
abbrev pub changes : NumberedProgram
changes = program (Store (Address 1 0) (byte 9) ∷ Store (Address 0 0) (byte 2) ∷ [])

abbrev pub changed : List RunEvent
changed = Stored 0 0 8 (Int 8 2) ∷ Stored 1 0 8 (Int 8 9) ∷ history_with changes 0

abbrev pub first_job : Job
first_job = job changes 0 changed

-- it has a first job, and no second one
pub record NoSecondJob : Type 0 where
  pub first : Jobs changes rows (first_job ∷ [])
  pub none : (from : Moment) → IsJobStart changes rows (first_job ∷ []) from → ⊥
