-- How far the text of a unit is gone through.
--   file_at known names count   what is known of the file after so many definitions
use Rattle.std.specs.Prelude.{ℕ, List, take, reverse}
use Rattle.c_rules.specs.Names.{innermost}
use Rattle.c_rules.specs.Units.{File}
use Rattle.c_scopes.specs.Views.{Known}

abbrev pub file_at : Known → List ℕ → ℕ → File
file_at known names count = record { scope = innermost known.scopes; made = reverse (take count names) }
