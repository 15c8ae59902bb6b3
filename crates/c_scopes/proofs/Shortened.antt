-- What is left of names in a row while the newest are taken back, until no more than so many are left.
use Rattle.std.proofs.Common.{◌≡◌, ◌-◌, ◌≤◌, ℕ, length, drop}
use Rattle.c_scopes.specs.Rows.{Row}

pub record IsShortened (count : ℕ) (before after : Row) : Type 0 where
  pub words : after.words ≡ before.words
  pub oldest : after.names ≡ drop (length before.names - length after.names) before.names
  pub few : length after.names ≤ length before.names
  pub enough : count ≤ length before.names → count ≤ length after.names
  pub whole : length before.names ≤ count → length after.names ≡ length before.names
