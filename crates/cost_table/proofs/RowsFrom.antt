-- The rows of one entry, cell after cell.
--   width row            how many bytes the row's cell has
--   rows_step            the first row, and those after it
--   room_step            the bytes of so many cells
--   IsCellOf row n c     c is one of n cells that begin at the row's: of its frame, size and range, and within them
--   cell_of              each member of the rows is
--   taken_from           each byte of the cells is one of a row
use Rattle.std.proofs.Common.{◌≡◌, ◌<◌, ◌≤◌, ◌+◌, ◌*◌, ◌/◌, ◌-◌, ⊎_elim, ℕ, zero, suc, List, ◌∷◌, Contains, refl, ap, subst, arith}
use Rattle.std.proofs.Math.Nat.{suc-mul}
use Rattle.lists.specs.MemberLaws.{no_member, first_member, further_member, first_or_further}
use Rattle.alf_check.specs.declared.rows.InputRow.{InputRow}
use Rattle.cost_table.specs.Inputs.{after, rows_from}
use Rattle.cost_table.specs.Marks.{IsTaken}
use Rattle.cost_table.proofs.Orders.{below_or_not}

-- how many bytes a row's cell has
abbrev pub width : InputRow → ℕ
width row = row.size / 8

-- the first row, and those after it
pub rows_step : (row : InputRow) (n : ℕ) → 0 < n → rows_from row n ≡ row ∷ rows_from (after row) (n - 1)
rows_step row zero some = absurd (omega arith)
rows_step row (suc n) some = ap (λ k. row ∷ rows_from (after row) k) (omega arith)

-- the bytes of n cells
pub room_step : (n w : ℕ) → 0 < n → n * w ≡ w + (n - 1) * w
room_step zero w some = absurd (omega arith)
room_step (suc n) w some =
    let before : suc n - 1 ≡ n = omega arith in
    rw before (omega (arith, suc-mul n w))

-- one of n cells that begin at the row's
pub record IsCellOf (row : InputRow) (n : ℕ) (c : InputRow) : Type 0 where
  pub frame : c.frame ≡ row.frame
  pub size : c.size ≡ row.size
  pub lowest : c.low ≡ row.low
  pub highest : c.high ≡ row.high
  pub from : row.offset ≤ c.offset
  pub to : c.offset + width row ≤ row.offset + n * width row

-- one of the cells after the first
shifted : (row : InputRow) (n : ℕ) (c : InputRow) → IsCellOf (after row) n c → IsCellOf row (suc n) c
shifted row n c is = record {
  frame = is.frame;
  size = is.size;
  lowest = is.lowest;
  highest = is.highest;
  from = omega (arith, is.from);
  to = omega (arith, is.to, suc-mul n (width row));
}

-- each member of the rows is one of the cells
pub cell_of : (row : InputRow) (n : ℕ) (c : InputRow) → Contains (rows_from row n) c → IsCellOf row n c
cell_of row zero c among = no_member c among
cell_of row (suc n) c among =
    first_or_further row (rows_from (after row) n) c among
    (λ same. subst (λ x. IsCellOf row (suc n) x) same (record { frame = refl; size = refl; lowest = refl; highest = refl; from = omega arith; to = omega (arith, suc-mul n (width row)) }))
    (λ further. shifted row n c (cell_of (after row) n c further))

-- a byte of a further row is taken
taken_further : (row : InputRow) (rows : List InputRow) (f b : ℕ) → IsTaken rows f b → IsTaken (row ∷ rows) f b
taken_further row rows f b taken = record { row = taken.row; among = further_member row rows taken.row taken.among; frame = taken.frame; low = taken.low; high = taken.high }

-- each byte of the cells is one of a row
pub taken_from : (row : InputRow) (n b : ℕ) → row.offset ≤ b → b < row.offset + n * width row
    → IsTaken (rows_from row n) row.frame b
taken_from row zero b low high = absurd (omega arith)
taken_from row (suc n) b low high = ⊎_elim
    (λ (here : b < row.offset + width row). record { row = row; among = first_member row (rows_from (after row) n); frame = refl; low = low; high = here })
    (λ (further : row.offset + width row ≤ b). taken_further row (rows_from (after row) n) row.frame b (taken_from (after row) n b further (omega (arith, suc-mul n (width row)))))
    (below_or_not b (row.offset + width row))
