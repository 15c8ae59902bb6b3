-- What operators make of conditions, in three cases.
--   by_join join both either plain
use Rattle.condition_lowering.specs.declared.joins.Join.{Join}
use Rattle.condition_lowering.specs.declared.joins.Join.TheVariants as joins

abbrev pub by_join : {A : Type 0} → Join → A → A → A → A
by_join joins.Both both either plain = both
by_join joins.Either both either plain = either
by_join joins.Neither both either plain = plain
