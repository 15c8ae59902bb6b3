-- How calls are used.
--   use_of way   the use, as `c_rules` has it
use Rattle.std.specs.Prelude.{Some}
use Rattle.c_rules.specs.Calls.{Use, Dropped, Valued}
use Rattle.c_faults.specs.declared.uses.Use as code
use Rattle.c_faults.specs.declared.uses.Use.TheVariants as uses

abbrev pub use_of : code.Use → Use
use_of uses.Dropped = Dropped
use_of (uses.Valued wanted) = Valued (Some wanted)
