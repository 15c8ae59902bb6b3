-- The low ends of ranges, and their words.
use Rattle.std.proofs.Common.{◌≡◌, ◌≤◌, ◌==◌, ℕ, true, List, [], ◌∷◌, map, Contains, refl, ap, arith, rules}
use Rattle.std.specs.Int.Signed.{≤ℤ_refl}
use Rattle.lists.specs.MemberLaws.{first_member, further_member}
use Rattle.lists.specs.TestLaws.{by_test}
use Rattle.alf_ops.specs.TwosComplement.{word}
use Rattle.alf_faults.specs.Sizes.{is_export_size}
use Rattle.alf_check.specs.declared.rows.InputRow.{InputRow}
use Rattle.alf_check.specs.CheckedPrograms.{NumberedProgram}
use Rattle.alf_check.specs.Inputs.{KeepsInput}
use Rattle.alf_runs.specs.Starts.{AreWithin}
use Rattle.sweet_cli.specs.Run.{low_words}

-- the low word of a row
abbrev pub low_word_of : InputRow → ℕ
low_word_of row = word row.size row.low

pub lows_are : (rows : List InputRow) → map low_word_of rows ≡ low_words rows
lows_are [] = refl
lows_are (row ∷ rows) = ap (λ (l : List ℕ). word row.size row.low ∷ l) (lows_are rows)

-- a cell of an input has at most 64 bits
export_low : (n : ℕ) → is_export_size n ≡ true → n ≤ 64
export_low n h =
    by_test (n == 8)
    (λ e. let is : n ≡ 8 = search rules in omega arith)
    (λ a. by_test (n == 16)
    (λ e. let is : n ≡ 16 = search rules in omega arith)
    (λ b. by_test (n == 32)
    (λ e. let is : n ≡ 32 = search rules in omega arith)
    (λ c. let last : (n == 64) ≡ true = rw (a, b, c) at h in let is : n ≡ 64 = search rules in omega arith)))

-- the low ends lie in their ranges
pub lows_within : (program : NumberedProgram) (rows : List InputRow)
    → ((row : InputRow) → Contains rows row → KeepsInput program row)
    → AreWithin rows (map (λ (row : InputRow). row.low) rows)
lows_within program [] keep = tt
lows_within program (row ∷ rows) keep = (
  record { least = ≤ℤ_refl row.low; most = (keep row (first_member row rows)).ordered },
  lows_within program rows (λ r c. keep r (further_member row rows r c)),
)
