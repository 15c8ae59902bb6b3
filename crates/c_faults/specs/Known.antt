-- What is known after declarations.
--   with_declared kind known locals   the words, and the scopes after the locals
--   local_faults words defined kind scopes local   faults of one local
use Rattle.std.specs.Prelude.{ℕ, List, ◌++◌}
use Rattle.c_unit.specs.declared.types.Integer.{Integer}
use Rattle.c_unit.specs.Tree.{LocalTree}
use Rattle.c_scopes.specs.Views.{Known}
use Rattle.c_rules.specs.Statements.{with_local, with_locals, shape_faults, twice_faults}
use Rattle.c_rules.specs.Names.{Scope, innermost}
use Rattle.c_rules.specs.Faults.{Fault}
use Rattle.c_unit.specs.Units.{Word}

abbrev pub with_declared : Integer → Known → List LocalTree → Known
with_declared kind known locals = record known { scopes = with_locals kind known.scopes locals }

-- faults of one local
abbrev pub local_faults : List Word → List ℕ → Integer → List Scope → LocalTree → List Fault
local_faults words defined kind scopes local = twice_faults words (innermost scopes) local.name ++ shape_faults words defined (with_local kind scopes local) kind local.shape
