-- Entries of tables, to be worked out.
--   of_default n            the members of a costs file with this default alone
--   cost_of_entry name block cost   an entry of a costs file
--   named owner name        a frame of 32 bits with this owner and name
--   one_block               a program of one function `f` with one block
--   from_to low high        cells of 8 bits with these ends
--   task_entry_of name cost period deadline priority   an entry of a tasks file
--   numbers_are cost period deadline priority   its numbers
--   one_two                 the array of the whole numbers 1 and 2
use Rattle.std.specs.Prelude.{ℕ, ℤ, pos, List, [], ◌∷◌, Option, None, codes}
use Rattle.toml.specs.Data.{Data, Members, no_members, member, integer, string, table, array, item, no_items}
use Rattle.alf_check.specs.declared.rows.FrameRow.{FrameRow}
use Rattle.alf_check.specs.CheckedPrograms.{NumberedProgram, Return}
use Rattle.cost_table.specs.declared.input_entry.Cells.{Cells}
use Rattle.cost_table.specs.declared.task_entry.TaskNumbers.{TaskNumbers}

abbrev pub of_default : ℤ → Members
of_default n = member (codes "default") (integer n) no_members

abbrev pub cost_of_entry : List ℕ → ℤ → ℤ → Data
cost_of_entry name block cost = table (member (codes "block") (integer block) (member (codes "cost") (integer cost) (member (codes "function") (string name) no_members)))

abbrev pub named : Option ℕ → List ℕ → FrameRow
named owner name = record { owner = owner; name = name; bits = 32 }

abbrev pub one_block : NumberedProgram
one_block = record {
  frames = [];
  funcs = record { name = codes "f"; args = []; frames = []; inits = []; blocks = record { statements = []; ending = Return None } ∷ [] } ∷ [];
  inits = [];
  exports = [];
  root = 0;
}

abbrev pub from_to : ℤ → ℤ → Cells
from_to low high = record { offset = pos 0; size = pos 8; low = low; high = high; count = pos 1 }

abbrev pub task_entry_of : List ℕ → ℤ → ℤ → ℤ → ℤ → Data
task_entry_of name cost period deadline priority = table (member (codes "cost") (integer cost) (member (codes "deadline") (integer deadline) (member (codes "name") (string name)
    (member (codes "period") (integer period) (member (codes "priority") (integer priority) no_members)))))

abbrev pub numbers_are : ℤ → ℤ → ℤ → ℤ → TaskNumbers
numbers_are cost period deadline priority = record { cost = cost; period = period; deadline = deadline; priority = priority }

abbrev pub one_two : Data
one_two = array (item (integer (pos 1)) (item (integer (pos 2)) no_items))
