-- On the way to the laws of jobs.
--   inside              each job of a sequence starts inside the ranges
--   apart_same          what a byte apart from the rows holds at a start does not depend on the numbers
--   any_next, alone     why sequences go on
--   one_job             one job is a run
use Rattle.std.specs.Prelude.{ℤ, ◌==◌, Contains, Some, slice_get}
use Rattle.std.specs.Option.{option_map}
use Rattle.std.proofs.lemmas.Option.{slice_get-map}
use Rattle.alf_ops.specs.declared.history.FrameShape.{FrameShape}
use Rattle.alf_check.specs.declared.rows.FrameRow.{FrameRow}
use Rattle.alf_check.specs.Shapes.{shapes_of}
use Rattle.std.proofs.Common.{◌≡◌, ℕ, List, [], ◌∷◌, Option, None, refl, sym, ap, subst, ◌∙◌}
use Rattle.std.proofs.lemmas.Bool.{eqb-true}
use Rattle.lists.specs.TestLaws.{by_test}
use Rattle.lists.specs.MemberLaws.{no_member, first_or_further}
use Rattle.alf_ops.specs.declared.history.Value.TheVariants.{Int}
use Rattle.alf_ops.specs.declared.history.RunEvent.{RunEvent}
use Rattle.alf_ops.specs.declared.history.RunEvent.TheVariants.{Store}
use Rattle.alf_ops.specs.Histories.{Byte, is_byte_of, origin, contents, loaded, address_in, fits_in}
use Rattle.alf_check.specs.declared.rows.InputRow.{InputRow}
use Rattle.alf_check.specs.CheckedPrograms.{NumberedProgram}
use Rattle.alf_runs.specs.Steps.{Moment}
use Rattle.alf_runs.specs.Entering.{entered, with_inits}
use Rattle.alf_runs.specs.Starts.{AreWithin, words_of, with_inputs, start_history, IsStart}
use Rattle.job_rules.specs.Held.{IsGlobal, read, IsInCell, IsApart, ReadAlike}
use Rattle.job_rules.specs.Jobs.{LeavesAStart, EachLeavesAStart, Job, IsNextStart, IsJobStart, first_start, next_start, Jobs}
use Rattle.job_rules.specs.JobLaws.{EachJobStartsInside, AnyInputsComeNext, LeftAloneComesNext, OneJobIsARun}
use Rattle.job_rules.specs.LeaveLaws.{leaves_and_ends}

-- ---- each job starts inside the ranges

start_inside : (program : NumberedProgram) (rows : List InputRow) (jobs : List Job) (from : Moment)
    → IsJobStart program rows jobs from → IsStart program rows from
start_inside program rows jobs from (first_start own is) = is
start_inside program rows jobs from (next_start last rest numbers next) = record { numbers = numbers; within = next.within; starts = refl }

each_inside : (program : NumberedProgram) (rows : List InputRow) (jobs : List Job) → Jobs program rows jobs → (job : Job)
    → Contains jobs job → IsStart program rows job.from
each_inside program rows [] are job among = no_member job among
each_inside program rows (first ∷ jobs) are job among = first_or_further first jobs job among
    (λ same. subst (λ (j : Job). IsStart program rows j.from) same (start_inside program rows jobs first.from are.0))
    (λ rest. each_inside program rows jobs are.2 job rest)

pub inside : EachJobStartsInside
inside program rows jobs are = record { next = start_inside program rows jobs; each = each_inside program rows jobs are }

-- ---- bytes apart from the rows

-- a store in the cell of a row leaves a byte that lies elsewhere
store_apart : (row : InputRow) (bits frame byte : ℕ) (history : List RunEvent) → (IsInCell row frame byte → ⊥)
    → origin None frame (Store row.frame row.offset row.size (Int row.size bits) ∷ history) byte ≡ origin None frame history byte
store_apart row bits frame byte history apart = by_test (row.frame == frame)
    (λ here. by_test (is_byte_of row.offset row.size byte)
    (λ within. absurd (apart (record { frame_is = eqb-true row.frame frame here; within = within })))
    (λ beside. rw (here, beside) refl))
    (λ other. rw other refl)

inputs_apart : (rows : List InputRow) (words : List ℕ) (history : List RunEvent) (frame byte : ℕ) → IsApart rows frame byte
    → origin None frame (with_inputs rows words history) byte ≡ origin None frame history byte
inputs_apart [] words history frame byte apart = refl
inputs_apart (row ∷ rows) [] history frame byte apart = refl
inputs_apart (row ∷ rows) (bits ∷ words) history frame byte apart =
    inputs_apart rows words (Store row.frame row.offset row.size (Int row.size bits) ∷ history) frame byte apart.1
    ∙ store_apart row bits frame byte history apart.0

-- a byte of a global frame reads alike where it comes from the same store
read_same : (program : NumberedProgram) (a b : List RunEvent) (frame byte : ℕ) → IsGlobal program frame
    → origin None frame a byte ≡ origin None frame b byte → read program a frame byte ≡ read program b frame byte
read_same program a b frame byte is same =
    let shape : FrameRow → FrameShape = λ (r : FrameRow). record { owner = r.owner; bits = r.bits } in
    let found : slice_get (shapes_of program.frames) frame ≡ Some (shape is.row) = slice_get-map shape program.frames frame ∙ ap (option_map shape) is.at in
    subst (λ (o : Option FrameShape). loaded a 8 (address_in o a frame byte 8) ≡ loaded b 8 (address_in o b frame byte 8)) (sym found) (of_owner is.row.owner is.global)
  where
    of_owner : (owner : Option ℕ) → owner ≡ None
        → loaded a 8 (address_in (Some (record { owner = owner; bits = is.row.bits })) a frame byte 8) ≡ loaded b 8 (address_in (Some (record { owner = owner; bits = is.row.bits })) b frame byte 8)
    of_owner None e = by_test (fits_in is.row.bits byte 8)
        (λ fits. rw fits (ap (λ (o : Option Byte). contents (o ∷ []) byte 8) same))
        (λ past. rw past refl)
    of_owner (Some function) e = cc

-- what such a byte holds at a start does not depend on the numbers
pub apart_same : (program : NumberedProgram) (rows : List InputRow) (words others : List ℕ)
    → ReadAlike program rows (start_history program rows words) (start_history program rows others)
apart_same program rows words others frame byte global apart =
    let first : List RunEvent = entered program program.root [] (with_inits program.inits []) in
    read_same program (start_history program rows words) (start_history program rows others) frame byte global.is
    (inputs_apart rows words first frame byte apart ∙ sym (inputs_apart rows others first frame byte apart))

-- ---- sequences go on

next_after : (program : NumberedProgram) (rows : List InputRow) (history : List RunEvent) (numbers : List ℤ)
    → LeavesAStart program rows history → AreWithin rows numbers → IsNextStart program rows history numbers
next_after program rows history numbers leaves within = record {
  within = within;
  kept = λ frame byte global apart.
      leaves.others frame byte global apart ∙ apart_same program rows (words_of rows leaves.numbers) (words_of rows numbers) frame byte global apart;
}

left_by_last : (program : NumberedProgram) (rows : List InputRow) (last : Job) (jobs : List Job)
    → EachLeavesAStart program rows → Jobs program rows (last ∷ jobs) → LeavesAStart program rows last.history
left_by_last program rows last jobs each are =
    each last.from last.nodes last.outputs last.history (start_inside program rows jobs last.from are.0) are.1

pub any_next : AnyInputsComeNext
any_next program rows last jobs numbers each are within = next_after program rows last.history numbers (left_by_last program rows last jobs each are) within

pub alone : LeftAloneComesNext
alone program rows last jobs each are =
    let leaves = left_by_last program rows last jobs each are in
    record { numbers = leaves.numbers; next = next_after program rows last.history leaves.numbers leaves leaves.within; cells = leaves.cells }

-- ---- one job

pub one_job : OneJobIsARun
one_job program rows job are = record {
  starts = start_inside program rows [] job.from are.0;
  ends = leaves_and_ends program job.from job.nodes job.outputs job.history are.1;
}
