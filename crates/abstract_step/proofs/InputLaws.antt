-- Inputs inside their ranges.
--   size_is, range_whole, range_up, range_one   a range is a progression of numbers that are not far, of words
--   input_storable, input_there  the words have the size of a cell, which lies in its frame
--   first_input, later_inputs    the first of the inputs, and those that are left
--   inputs_room    room for what global frames hold at first, and for inputs in the root
--   start_is                     the memory after all
use Rattle.std.specs.Prelude.{All, ◌==◌, if◌then◌else◌, ◌≤ℤ◌, ◌<ℤ◌, ◌-ℤ◌, int_lt}
use Rattle.std.specs.Option.{option_map}
use Rattle.std.proofs.Common.{◌≡◌, inl, inr, ℕ, ℤ, pos, Bool, true, List, [], ◌∷◌, Some, ◌≤◌, ◌+◌, ◌*◌, refl, sym, ap, subst, ◌∙◌, arith}
use Rattle.std.proofs.lemmas.Int.{ints, clamps}
use Rattle.std.proofs.lemmas.Bool.{le-leb, eq-eqb, eqb-true, false≢true}
use Rattle.std.proofs.lemmas.List.Elements.{All-head, All-tail}
use Rattle.std.proofs.lemmas.Option.{slice_get-map, same_Some}
use Rattle.lists.specs.TestLaws.{by_test}
use Rattle.whole_numbers.specs.Numbers.{Divides}
use Rattle.alf_ops.specs.declared.history.FrameShape.{FrameShape}
use Rattle.alf_faults.specs.Sizes.{is_export_size}
use Rattle.alf_check.specs.declared.rows.FrameRow.{FrameRow}
use Rattle.alf_check.specs.declared.rows.InputRow.{InputRow}
use Rattle.alf_check.specs.CheckedPrograms.{CheckedParts, NumberedProgram, seen}
use Rattle.alf_check.specs.Kept.{IsKept}
use Rattle.alf_check.specs.Inputs.{KeepsInput, KeepInputs}
use Rattle.flow_graph.specs.PathLaws.{function_there}
use Rattle.domain_core.specs.WordSets.{IsWordSize}
use Rattle.progressions.specs.Progressions.{IsProgression, from_to}
use Rattle.progressions.specs.ProgressionLaws.{is_from_to}
use Rattle.pointer_rules.specs.AbstractValues.{AbstractValue, Words, alone}
use Rattle.pointer_rules.specs.RuleLaws.{alone_is}
use Rattle.memory_rules.specs.Covers.{IsCellSize}
use Rattle.memory_rules.specs.Memories.{Mem, is_on, fresh}
use Rattle.memory_rules.specs.AbstractSets.{abstract_sets}
use Rattle.memory_model.specs.KeptMemories.{MemoryParts, memory_in, rows_of, IsMemory}
use Rattle.transfer_rules.specs.Evaluating.{width_of}
use Rattle.transfer_rules.specs.Filling.{range_of, with_inits, with_inputs, entered_with, first_memory}
use Rattle.transfer_rules.specs.FillingLaws.{args_of, entered_inits_kept}
use Rattle.transfer_rules.specs.StartLaws.{range_is}
use Rattle.transfer_rules.specs.CellStores.{IsCellAt}
use Rattle.step_statements.specs.Typed.{IsStorable}
use Rattle.abstract_step.specs.Inputs.{IsRange, HasInputRoom, HaveInputRoom}

-- ---- ranges

-- the size of an input is that of a cell
input_size : (size : ℕ) → is_export_size size ≡ true → IsCellSize size
input_size size e = by_test (size == 8)
    (λ h. subst IsCellSize (sym (eqb-true size 8 h)) (omega arith, refl, omega arith))
    (λ h. by_test (size == 16)
    (λ i. subst IsCellSize (sym (eqb-true size 16 i)) (omega arith, refl, omega arith))
    (λ i. by_test (size == 32)
    (λ j. subst IsCellSize (sym (eqb-true size 32 j)) (omega arith, refl, omega arith))
    (λ j. by_test (size == 64)
    (λ k. subst IsCellSize (sym (eqb-true size 64 k)) (omega arith, refl, omega arith))
    (λ k. absurd (false≢true (rw (h, i, j, k) at e))))))

-- and that of words
pub size_is : (row : InputRow) → IsRange row → IsWordSize row.size
size_is row range = (range_is range.program row range.input).kept.size

by_one : (z : ℤ) → Divides (pos 1) z
by_one z = record { times = z; is = omega (arith, ints) }

-- the range is a progression
pub range_whole : (row : InputRow) → IsRange row → IsProgression (from_to row.low row.high (pos 1))
range_whole row range = is_from_to row.low row.high (pos 1) range.input.ordered (omega (arith, ints)) (by_one (row.high -ℤ row.low))

-- as code makes it: of one number the step is 0
pub range_up : (row : InputRow) (lo hi step : ℤ) → IsRange row → lo ≡ row.low → hi ≡ row.high → lo <ℤ hi → step ≡ pos 1
    → IsProgression (record { lo = lo; hi = hi; step = step })
range_up row lo hi step range low high up one =
    subst (λ (x : ℤ). IsProgression (record { lo = x; hi = hi; step = step })) (sym low)
    (subst (λ (y : ℤ). IsProgression (record { lo = row.low; hi = y; step = step })) (sym high)
    (subst (λ (z : ℤ). IsProgression (record { lo = row.low; hi = row.high; step = z })) (step_is ∙ sym one) (range_whole row range)))
  where
    step_is : (if int_lt row.low row.high then pos 1 else pos 0) ≡ pos 1
    step_is = by_test (int_lt row.low row.high) (λ e. rw e refl) (λ e. absurd (omega (arith, ints, clamps, e, up, low, high)))

pub range_one : (row : InputRow) (lo hi step : ℤ) → IsRange row → lo ≡ row.low → hi ≡ row.high → hi ≤ℤ lo → step ≡ pos 0
    → IsProgression (record { lo = lo; hi = hi; step = step })
range_one row lo hi step range low high down none =
    subst (λ (x : ℤ). IsProgression (record { lo = x; hi = hi; step = step })) (sym low)
    (subst (λ (y : ℤ). IsProgression (record { lo = row.low; hi = y; step = step })) (sym high)
    (subst (λ (z : ℤ). IsProgression (record { lo = row.low; hi = row.high; step = z })) (step_is ∙ sym none) (range_whole row range)))
  where
    step_is : (if int_lt row.low row.high then pos 1 else pos 0) ≡ pos 0
    step_is = by_test (int_lt row.low row.high) (λ e. absurd (omega (arith, ints, clamps, e, down, low, high))) (λ e. rw e refl)

-- ---- one input

-- its words have the size of a cell
pub input_storable : (parts : MemoryParts) (row : InputRow) (v : AbstractValue) → HasInputRoom parts row
    → v ≡ alone (Words (range_of row)) → IsStorable v
input_storable parts row v room same = subst IsStorable (sym same) (record {
  size = row.size;
  cell = input_size row.size room.input.sized;
  is = alone_is row.size (Words (range_of row)) (range_is (seen parts.checked) row room.input);
})

-- its frame is active
input_active : (parts : MemoryParts) (row : InputRow) (room : HasInputRoom parts row)
    → is_on (memory_in parts).runs room.input.row.owner ≡ true
input_active parts row room = elim room.input.may [
  | inl global ↦ ap (is_on (memory_in parts).runs) global
  | inr argument ↦
      let program = seen parts.checked in
      let own = args_of program room.keeps program.root argument.function argument.at row.frame argument.among in
      let same : room.input.row ≡ own.row = same_Some room.input.row own.row (sym room.input.at ∙ own.at) in
      ap (is_on (memory_in parts).runs) (ap (λ (r : FrameRow). r.owner) same ∙ own.owned) ∙ room.runs
]

-- the cell lies in it
pub input_there : (parts : MemoryParts) (row : InputRow) (v : AbstractValue) → HasInputRoom parts row
    → v ≡ alone (Words (range_of row))
    → IsCellAt (rows_of parts.checked) (memory_in parts).runs row.frame row.offset (width_of v)
input_there parts row v room same =
    let shape : FrameRow → FrameShape = λ (r : FrameRow). record { owner = r.owner; bits = r.bits } in
    let lies : 8 * row.offset + row.size ≤ room.input.row.bits = room.input.lies in
    subst (λ (w : AbstractValue). IsCellAt (rows_of parts.checked) (memory_in parts).runs row.frame row.offset (width_of w)) (sym same) (record {
      row = shape room.input.row;
      found = slice_get-map shape (seen parts.checked).frames row.frame ∙ ap (option_map shape) room.input.at;
      active = input_active parts row room;
      fits = le-leb (row.offset * 8 + row.size) room.input.row.bits (omega (arith, lies));
    })

-- ---- inputs in a row

-- the first
pub first_input : (parts : MemoryParts) (row : InputRow) (others rows : List InputRow) → rows ≡ row ∷ others
    → HaveInputRoom parts rows → HasInputRoom parts row
first_input parts row others rows cons room = record {
  keeps = room.keeps;
  input = All-head (KeepsInput (seen parts.checked)) row others (subst (All (KeepsInput (seen parts.checked))) cons room.inputs);
  runs = room.runs;
}

-- and those that are left
pub later_inputs : (parts new : MemoryParts) (row : InputRow) (others rows : List InputRow) → rows ≡ row ∷ others
    → new.checked ≡ parts.checked → (memory_in new).runs ≡ (memory_in parts).runs
    → HaveInputRoom parts rows → HaveInputRoom new others
later_inputs parts new row others rows cons same runs room = record {
  keeps = subst (λ (checked : CheckedParts). IsKept (seen checked)) (sym same) room.keeps;
  inputs = subst (λ (checked : CheckedParts). All (KeepsInput (seen checked)) others) (sym same)
      (All-tail (KeepsInput (seen parts.checked)) row others (subst (All (KeepsInput (seen parts.checked))) cons room.inputs));
  runs = subst (λ (checked : CheckedParts). is_on (memory_in new).runs (Some (seen checked).root) ≡ true) (sym same)
      (ap (λ (r : ℕ → Bool). is_on r (Some (seen parts.checked).root)) runs ∙ room.runs);
}

-- ---- starts

-- room for inputs in the root
pub inputs_room : (program : NumberedProgram) (before parts : MemoryParts) (rows : List InputRow) → IsKept program
    → KeepInputs program rows → seen parts.checked ≡ program → IsMemory before
    → memory_in parts ≡ entered_with program program.root [] (memory_in before) → HaveInputRoom parts rows
inputs_room program before parts rows keeps inputs same is now =
    let root = function_there program keeps program.root keeps.root in
    let kept = entered_inits_kept program keeps program.root root.0 root.1 (memory_in before) is.sized in
    let runs : (memory_in parts).runs program.root ≡ true =
    ap (λ (m : Mem abstract_sets). m.runs program.root) now ∙ ap (λ (r : ℕ → Bool). r program.root) kept.runs ∙ rw (eq-eqb program.root program.root refl) refl in
    record {
      keeps = subst IsKept (sym same) keeps;
      inputs = subst (λ (p : NumberedProgram). All (KeepsInput p) rows) (sym same) inputs.each;
      runs = subst (λ (p : NumberedProgram). is_on (memory_in parts).runs (Some p.root) ≡ true) (sym same) runs;
    }

-- the memory after all
pub start_is : (program : NumberedProgram) (rows : List InputRow) (one two three last : Mem abstract_sets) (root : ℕ)
    → root ≡ program.root → one ≡ fresh abstract_sets → two ≡ with_inits program.inits one
    → three ≡ entered_with program root [] two → last ≡ with_inputs rows three → last ≡ first_memory program rows
start_is program rows one two three last root is_root first second third fourth =
    fourth ∙ ap (with_inputs rows) (third ∙ ap (λ (f : ℕ). entered_with program f [] two) is_root ∙ ap (entered_with program program.root []) (second ∙ ap (with_inits program.inits) first))
