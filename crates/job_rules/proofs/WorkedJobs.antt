-- The worked sequences.
use Rattle.std.specs.Prelude.{ℤ}
use lib.Signed.{◌≤ℤ◌}
use Rattle.std.proofs.Common.{◌≡◌, ◌<◌, ◌/◌, ℕ, zero, suc, pos, List, [], ◌∷◌, Result, Ok, refl, sym, ap, subst, arith}
use Rattle.std.proofs.lemmas.Int.{ints}
use Rattle.std.proofs.lemmas.Option.{none-some, same_Some}
use Rattle.alf_ops.specs.declared.history.Value.{Value}
use Rattle.alf_ops.specs.declared.history.Value.TheVariants.{Int}
use Rattle.alf_ops.specs.declared.history.RunFault.{RunFault}
use Rattle.alf_check.specs.declared.rows.FrameRow.{FrameRow}
use Rattle.alf_runs.specs.Starts.{AreWithin}
use Rattle.alf_runs.specs.Steps.{Moment}
use Rattle.job_rules.specs.Held.{ReadAlike}
use Rattle.job_rules.specs.Jobs.{IsNextStart, IsJobStart, first_start, next_start}
use Rattle.job_rules.specs.Worked.{rows, history_with, puts_back, put_back, ThreeJobs, changes, changed, first_job, NoSecondJob}

-- a frame has one byte
one_byte : (row : FrameRow) (byte : ℕ) → row.bits ≡ 8 → suc byte < row.bits / 8 → ⊥
one_byte row byte bits low = let few : suc byte < 8 / 8 = subst (λ (n : ℕ). suc byte < n / 8) bits low in omega (arith, few)

-- what is put back reads as at a start with another input
reads_back : (n next : ℕ) → ReadAlike puts_back rows (put_back n) (history_with puts_back next)
reads_back n next zero zero global apart = absurd (apart.0 (record { frame_is = refl; within = refl }))
reads_back n next zero (suc byte) global apart =
    absurd (one_byte global.is.row byte (ap (λ (row : FrameRow). row.bits) (sym (same_Some _ global.is.row global.is.at))) global.low)
reads_back n next (suc zero) zero global apart = refl
reads_back n next (suc zero) (suc byte) global apart =
    absurd (one_byte global.is.row byte (ap (λ (row : FrameRow). row.bits) (sym (same_Some _ global.is.row global.is.at))) global.low)
reads_back n next (suc (suc frame)) byte global apart = absurd (none-some global.is.row global.is.at)

within : (n : ℕ) → pos n ≤ℤ pos 3 → AreWithin rows (pos n ∷ [])
within n most = (record { least = omega (arith, ints); most = most }, tt)

next_number : (n next : ℕ) → pos next ≤ℤ pos 3 → IsNextStart puts_back rows (put_back n) (pos next ∷ [])
next_number n next most = record { within = within next most; kept = reads_back n next }

pub three_jobs : ThreeJobs
three_jobs = (
  next_start _ _ (pos 2 ∷ []) (next_number 1 2 (omega (arith, ints))),
  record { steps = 1; b = 0; block = _; before = history_with puts_back 2; stands = refl; at = refl; does = refl; over = refl; passes = refl },
  (
    next_start _ _ (pos 1 ∷ []) (next_number 0 1 (omega (arith, ints))),
    record { steps = 1; b = 0; block = _; before = history_with puts_back 1; stands = refl; at = refl; does = refl; over = refl; passes = refl },
    (
      first_start _ (record { numbers = pos 0 ∷ []; within = within 0 (omega (arith, ints)); starts = refl }),
      record { steps = 1; b = 0; block = _; before = history_with puts_back 0; stands = refl; at = refl; does = refl; over = refl; passes = refl },
      tt,
    ),
  ),
)

-- frame 1 does not read as at a start
reads_changed : (numbers : List ℤ) → IsNextStart changes rows changed numbers → ⊥
reads_changed [] next = next.within
reads_changed (number ∷ numbers) next =
    differs _ _ refl refl (next.kept 1 0 (record { is = record { row = _; at = refl; global = refl }; low = omega arith }) ((λ cell. other cell.frame_is), tt))
  where
    other : zero ≡ suc zero → ⊥
    other e = cc

    differs : (left first : Result Value RunFault) → left ≡ Ok (Int 8 9) → first ≡ Ok (Int 8 5) → left ≡ first → ⊥
    differs left first a b e = cc

pub no_second_job : NoSecondJob
no_second_job = record {
  first = (
    first_start _ (record { numbers = pos 0 ∷ []; within = within 0 (omega (arith, ints)); starts = refl }),
    record { steps = 1; b = 0; block = _; before = history_with changes 0; stands = refl; at = refl; does = refl; over = refl; passes = refl },
    tt,
  );
  none = λ from starts. go from starts;
}
  where
    go : (from : Moment) → IsJobStart changes rows (first_job ∷ []) from → ⊥
    go from (next_start last jobs numbers next) = reads_changed numbers next
