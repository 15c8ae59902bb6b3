-- The items of checked programs.
--   items_of whole f       the items of function f
--   numbers_of whole f     what the names in function f stand for
--   with_items program whole   a numbered program, with the items that it comes from
--   EachIsCut              the blocks of each checked program do what its items do, and each label that is named stands
--   EachFollowsItems       so a run of a checked program that is over has the outcome of its items, and the other way round
use Rattle.std.specs.Prelude.{ℕ, List, [], slice_get}
use Rattle.std.specs.Option.{option_map_or}
use Rattle.alf_ops.specs.declared.history.RunEvent.{RunEvent}
use Rattle.alf_program.specs.Tree.{BodyItem, Function, WholeProgram}
use Rattle.alf_check.specs.CheckedPrograms.{NumberedProgram}
use Rattle.alf_check.specs.Numbers.{Numbers, first_frame, numbers_in}
use Rattle.alf_check.specs.Kept.{IsKept}
use Rattle.alf_runs.specs.Outcomes.{Outcome}
use Rattle.item_runs.specs.ItemRuns.{ItemProgram}
use Rattle.item_runs.specs.Following.{AreCut, FollowEachOther}

-- the items of function f
abbrev pub items_of : WholeProgram → ℕ → List BodyItem
items_of whole f = option_map_or (λ (func : Function). func.items) (slice_get whole.funcs f) []

-- where there is no function, no name stands for anything
abbrev pub no_numbers : Numbers
no_numbers = record { frame = λ name. 0; func = λ name. 0; block = λ label. 0 }

-- what the names in function f stand for
abbrev pub numbers_of : WholeProgram → ℕ → Numbers
numbers_of whole f = option_map_or (numbers_in whole (first_frame whole f)) (slice_get whole.funcs f) no_numbers

-- a numbered program, with the items that it comes from
abbrev pub with_items : NumberedProgram → WholeProgram → ItemProgram
with_items program whole = record { program = program; items = items_of whole; numbers = numbers_of whole }

-- the blocks of each checked program do what its items do, and each label that is named stands
abbrev pub EachIsCut : Type 0
EachIsCut = (program : NumberedProgram) (kept : IsKept program) → AreCut (with_items program kept.checked.whole)

-- so a run of a checked program that is over has the outcome of its items, and the other way round
abbrev pub EachFollowsItems : Type 0
EachFollowsItems = (program : NumberedProgram) (kept : IsKept program) (t : ℕ) (history : List RunEvent) (outcome : Outcome) → FollowEachOther (with_items program kept.checked.whole) t history outcome
