-- What stands around a statement, in the parts that code keeps.
--   Marks                   the labels of the innermost switch so far
--   no_marks                none
--   around_of place marks   what stands around a statement in this place
use Rattle.std.specs.Prelude.{ℕ, Bool, false, List, []}
use Rattle.c_rules.specs.Statements.{Around}
use Rattle.c_check.specs.declared.place.Place.{Place}

pub record Marks : Type 0 where
  pub labels : List ℕ
  pub has_default : Bool

abbrev pub no_marks : Marks
no_marks = record { labels = []; has_default = false }

abbrev pub around_of : Place → Marks → Around
around_of place marks = record { result = place.result; in_loop = place.in_loop; may_break = place.may_break; labels = marks.labels; has_default = marks.has_default }
