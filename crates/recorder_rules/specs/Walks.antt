-- A walk along the marked places.
use Rattle.std.proofs.Common.{◌≡◌, ◌/◌, ◌%◌, ◌^◌, ◌<◌, ◌≤◌, ℕ, false, List, get_or}
use Rattle.recorder_rules.specs.BitWords.{is_marked}

module _ (marks : List ℕ) (start place : ℕ) (least : start ≤ place) (before : (x : ℕ) → start ≤ x → x < place → is_marked marks 0 x ≡ false) where
  word : ℕ
  word = get_or marks (place / 64) 0

  rest : ℕ
  rest = get_or marks (place / 64) 0 / 2 ^ (place % 64)
