-- Laws of labels.
--   label_stands_once   no label of a function stands twice
use Rattle.std.proofs.Common.{◌<◌, ◌≤◌, ℕ, ◌^◌, List, [], ◌∷◌, inl, inr, arith, lt-ltb, le-ltb}
use Rattle.std.proofs.lemmas.Bool.{cases_lt}
use Rattle.alf_program.specs.Tree.{BodyItem}
use Rattle.c_meaning.specs.Objects.{Program, Function}
use Rattle.c_lowered.specs.Conditions.{Within, label}
use Rattle.c_lowered.specs.Statements.{labels_in, labels_in_all}
use Rattle.c_lowered.specs.Programs.{last_return, nowhere, function_items}
use Rattle.lowering_simulation.specs.Counts.{count, below}
use Rattle.lowering_simulation.specs.LabelLaws.{all_items_counts, last_times}

below_one : (n k : ℕ) → below n k ≤ 1
unfolding below
below_one n k =
    elim (cases_lt k n) [
      | inl less ↦ rw (lt-ltb k n less) (omega arith)
      | inr more ↦ rw (le-ltb k n more) (omega arith)
    ]

-- no label of a function stands twice
pub label_stands_once : (program : Program) (f : ℕ) (function : Function) (k : ℕ) → k < 2 ^ 64
    → labels_in_all function.body ≤ 2 ^ 64
    → count (label (record { program = program; function = f }) k) (function_items program f function) ≤ 1
label_stands_once program f function k low few =
    let within : Within = record { program = program; function = f } in
    let end : List BodyItem = last_return function.result ∷ [] in
    omega (
      arith,
      below_one (labels_in_all function.body) k,
      last_times (label within k) function.result,
      all_items_counts within k low function.scopes function.body 0 0 nowhere end (labels_in_all function.body) (omega arith) few,
    )
