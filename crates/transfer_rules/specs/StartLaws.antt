-- The memory at the start of runs stands for each start with inputs inside the ranges.
--   range_is, range_covers      the words of an input inside its range
--   OnlyInputs rows numbers     each range has one word alone
--   first_told                  the memory at the start
--   only_inputs                 where there is one start alone, each range has one word alone
--   first_kept                  its sizes, and the functions that run
use Rattle.std.specs.Prelude.{◌==◌, ◌-ℤ◌, ◌≤ℤ◌, All, if◌then◌else◌}
use Rattle.std.specs.List.{AllZip}
use Rattle.std.proofs.Common.{◌≡◌, ℕ, ℤ, pos, Bool, true, false, List, [], ◌∷◌, Option, None, ◌<◌, ◌^◌, inl, inr, refl, sym, ap, subst, ◌∙◌, arith}
use Rattle.std.proofs.lemmas.Int.{ints}
use Rattle.std.proofs.lemmas.Option.{same_Some}
use Rattle.std.proofs.lemmas.Bool.{eqb-true, false≢true}
use Rattle.std.proofs.lemmas.List.Elements.{All-head, All-tail}
use Rattle.lists.specs.TestLaws.{by_test}
use Rattle.alf_ops.specs.declared.history.Value.TheVariants.{Int}
use Rattle.alf_ops.specs.declared.history.RunEvent.{RunEvent}
use Rattle.alf_ops.specs.declared.history.RunEvent.TheVariants.{Store}
use Rattle.alf_ops.specs.TwosComplement.{word}
use Rattle.alf_ops.specs.Histories.{is_active, is_running}
use Rattle.alf_faults.specs.Sizes.{is_export_size}
use Rattle.alf_check.specs.declared.rows.FrameRow.{FrameRow}
use Rattle.alf_check.specs.declared.rows.InputRow.{InputRow}
use Rattle.alf_check.specs.CheckedPrograms.{NumberedProgram}
use Rattle.alf_check.specs.Kept.{IsKept}
use Rattle.alf_check.specs.Inputs.{KeepsInput, KeepInputs}
use Rattle.alf_runs.specs.Steps.{frames_of}
use Rattle.alf_runs.specs.Entering as runs
use Rattle.alf_runs.specs.Starts.{start_history, with_inputs as with_inputs_run, IsWithin, AreWithin, words_of}
use Rattle.flow_graph.specs.PathLaws.{function_there}
use Rattle.domain_core.specs.WordSets.{IsOnly, IsOfSize, IsWordSize}
use Rattle.whole_numbers.specs.Numbers.{Divides}
use Rattle.progressions.specs.Progressions.{Has, IsProgression, full, from_to}
use Rattle.progressions.specs.Images.{moved}
use Rattle.progressions.specs.ProgressionLaws.{is_from_to, has_from_to}
use Rattle.progressions.specs.PartLaws.{moved_has}
use Rattle.strided_rules.specs.Strides.{norm, centered, Covers as CoversWord}
use Rattle.strided_rules.specs.Domains.{stride_sets}
use Rattle.strided_rules.specs.PlacedLaws.{same_word, norm_once, norm_placed, norm_member, member_below, centered_same}
use Rattle.pointer_rules.specs.AbstractValues.{Words, alone}
use Rattle.pointer_rules.specs.RuleLaws.{alone_is, alone_covers, alone_only}
use Rattle.memory_rules.specs.Covers.{IsCellSize as IsCell}
use Rattle.memory_rules.specs.Memories.{Mem, fresh, entered, MemSized}
use Rattle.memory_rules.specs.AbstractSets.{abstract_sets}
use Rattle.memory_rules.specs.AbstractSetLaws.{abstract_is_sets}
use Rattle.memory_rules.specs.MemoryProofLaws.{start_sharp}
use Rattle.transfer_rules.specs.Filling.{filled, with_inits, entered_with, range_of, with_inputs, first_memory}
use Rattle.transfer_rules.specs.Standing.{Stands, ValueTold}
use Rattle.transfer_rules.specs.StandingLaws.{one_of}
use Rattle.transfer_rules.specs.DoingLaws.{Kept, unchanged, kept_on}
use Rattle.transfer_rules.specs.FillingLaws.{placed, filled_told, filled_kept, args_of, inits_told, inits_kept, entered_inits, entered_inits_kept}

-- ---- ranges

export_cell : (size : ℕ) → is_export_size size ≡ true → IsCell size
export_cell size e = by_test (size == 8)
    (λ h. subst IsCell (sym (eqb-true size 8 h)) (omega arith, refl, omega arith))
    (λ h. by_test (size == 16)
    (λ i. subst IsCell (sym (eqb-true size 16 i)) (omega arith, refl, omega arith))
    (λ i. by_test (size == 32)
    (λ j. subst IsCell (sym (eqb-true size 32 j)) (omega arith, refl, omega arith))
    (λ j. by_test (size == 64)
    (λ k. subst IsCell (sym (eqb-true size 64 k)) (omega arith, refl, omega arith))
    (λ k. absurd (false≢true (rw (h, i, j, k) at e))))))

cell_word : (size : ℕ) → IsCell size → IsWordSize size
cell_word size is = let some = is.0 in record { least = omega (arith, some); most = is.2 }

by_one : (z : ℤ) → Divides (pos 1) z
by_one z = record { times = z; is = omega (arith, ints) }

range_progression : (row : InputRow) → row.low ≤ℤ row.high → IsProgression (from_to row.low row.high (pos 1))
range_progression row ordered = is_from_to row.low row.high (pos 1) ordered (omega (arith, ints)) (by_one (row.high -ℤ row.low))

-- the words of an input inside its range
pub range_is : (program : NumberedProgram) (row : InputRow) → KeepsInput program row
    → IsOfSize stride_sets row.size (range_of row)
range_is program row keeps =
    let size = cell_word row.size (export_cell row.size keeps.sized) in
    record { kept = record { size = size; placed = norm_placed row.size (from_to row.low row.high (pos 1)) size.least (range_progression row keeps.ordered) }; size = refl }

within_has : (row : InputRow) (number : ℤ) → IsWithin row number → Has (from_to row.low row.high (pos 1)) number
within_has row number within = has_from_to row.low row.high (pos 1) number within.least within.most (by_one (number -ℤ row.low))

pub range_covers : (program : NumberedProgram) (row : InputRow) (number : ℤ) → KeepsInput program row
    → IsWithin row number → CoversWord (range_of row) (word row.size number)
range_covers program row number keeps within =
    norm_member row.size (from_to row.low row.high (pos 1)) number (cell_word row.size (export_cell row.size keeps.sized)).least (within_has row number within)

-- each range has one word alone
abbrev pub OnlyInput : InputRow → ℤ → Type 0
OnlyInput row number = IsOnly stride_sets (range_of row) (word row.size number)

abbrev pub OnlyInputs : List InputRow → List ℤ → Type 0
OnlyInputs rows numbers = AllZip OnlyInput rows numbers

-- ---- inputs

-- the frame of an input is global, or one of the root
input_active : (program : NumberedProgram) → IsKept program
    → (row : InputRow) (keeps : KeepsInput program row) (history : List RunEvent)
    → is_running history program.root ≡ true
    → is_active keeps.row.owner history ≡ true
input_active program kept row keeps history running = elim keeps.may [
  | inl global ↦ ap (λ (o : Option ℕ). is_active o history) global
  | inr argument ↦
      let own = args_of program kept program.root argument.function argument.at row.frame argument.among in
      let same : keeps.row ≡ own.row = same_Some keeps.row own.row (sym keeps.at ∙ own.at) in
      ap (λ (o : Option ℕ). is_active o history) (ap (λ (r : FrameRow). r.owner) same ∙ own.owned) ∙ running
]

module _ (Sharp : Type 0) (program : NumberedProgram) (kept : IsKept program) where
  inputs_told : (rows : List InputRow) (numbers : List ℤ) (m : Mem abstract_sets) (history : List RunEvent)
      → All (KeepsInput program) rows → AreWithin rows numbers → (Sharp → OnlyInputs rows numbers)
      → is_running history program.root ≡ true → Stands Sharp (frames_of program) m history
      → Stands Sharp (frames_of program) (with_inputs rows m) (with_inputs_run rows (words_of rows numbers) history)
  inputs_told [] [] m history keep within only running stands = stands
  inputs_told [] (number ∷ numbers) m history keep within only running stands = absurd within
  inputs_told (row ∷ rows) [] m history keep within only running stands = absurd within
  inputs_told (row ∷ rows) (number ∷ numbers) m history keep within only running stands =
      let keeps = All-head (KeepsInput program) row rows keep in
      let cell = export_cell row.size keeps.sized in
      let of_range = range_is program row keeps in
      let covers = range_covers program row number keeps within.0 in
      let v = alone (Words (range_of row)) in
      let bits = word row.size number in
      let lies = keeps.lies in
      let p = placed program.frames history row.frame row.offset row.size keeps.row keeps.at (input_active program kept row keeps history running) (omega (arith, lies)) in
      let told : ValueTold Sharp v (Int row.size bits) = record {
        covers = alone_covers (Words (range_of row)) (Int row.size bits) (refl, covers);
        only = λ sharp. one_of v (Int row.size bits) (alone_only (Words (range_of row)) (Int row.size bits) (refl, (only sharp).0));
      } in
      let small : bits < 2 ^ row.size = member_below row.size (range_of row).numbers bits covers in
      inputs_told rows numbers (filled m row.frame row.offset row.size v) (Store row.frame row.offset row.size (Int row.size bits) ∷ history) (All-tail (KeepsInput program) row rows keep) within.1
      (λ sharp. (only sharp).1) running
      (filled_told Sharp (frames_of program) m history row.frame row.offset row.size v (Int row.size bits) stands p cell (alone_is row.size (Words (range_of row)) of_range) told (refl, small))

  -- the memory before each event
  fresh_stands : Stands Sharp (frames_of program) (fresh abstract_sets) []
  fresh_stands =
      let start = start_sharp abstract_sets abstract_is_sets (frames_of program) in
      record { sound = tt; sized = start.1; covers = record { active = start.0.active; frames = λ frame row found runs. (start.0.frames frame row found runs).covers }; sharp = λ sharp. start.0 }

  -- the memory at the start
  pub first_told : (rows : List InputRow) (numbers : List ℤ) → KeepInputs program rows → AreWithin rows numbers
      → (Sharp → OnlyInputs rows numbers)
      → Stands Sharp (frames_of program) (first_memory program rows) (start_history program rows (words_of rows numbers))
  first_told rows numbers keep within only =
      let root = function_there program kept program.root kept.root in
      let globals = inits_told program.frames None Sharp program.inits (fresh abstract_sets) [] refl kept.inits fresh_stands in
      let in_root = entered_inits program kept program.root root.0 root.1 Sharp (with_inits program.inits (fresh abstract_sets)) (runs.with_inits program.inits []) globals in
      inputs_told rows numbers (entered_with program program.root [] (with_inits program.inits (fresh abstract_sets))) (runs.entered program program.root [] (runs.with_inits program.inits [])) keep.each within only
      in_root.1 in_root.0

-- ---- one start alone

-- a word of a range is that of a number inside it
record NumberOf (row : InputRow) (t : ℕ) : Type 0 where
  number : ℤ
  within : IsWithin row number
  is : word row.size number ≡ t

number_of : (program : NumberedProgram) (row : InputRow) (t : ℕ) → KeepsInput program row → CoversWord (range_of row) t
    → NumberOf row t
number_of program row t keeps member =
    let p = from_to row.low row.high (pos 1) in
    let d = centered row.size p.lo -ℤ p.lo in
    let once : norm row.size p ≡ moved d p = norm_once row.size p keeps.narrow in
    let had : Has (moved d p) member.number = subst (λ q. Has q member.number) once member.has in
    let own : Has p (member.number -ℤ d) = (moved_has d p member.number).0 had in
    let apart : Divides (full row.size) ((member.number -ℤ d) -ℤ member.number) =
    let c = centered_same row.size p.lo in record { times = c.times; is = let e = c.is in omega (arith, ints, e) } in
    record {
      number = member.number -ℤ d;
      within = record { least = own.least; most = own.most };
      is = same_word row.size (member.number -ℤ d) member.number apart ∙ member.word;
    }

-- the first and the further words
cons_parts : (a b : ℕ) (xs ys : List ℕ) → a ∷ xs ≡ b ∷ ys → (a ≡ b) × (xs ≡ ys)
cons_parts a b xs ys e = (let first : a ≡ b = cc in first, let rest : xs ≡ ys = cc in rest)

-- where there is one start alone, each range has one word alone
only_numbers : (program : NumberedProgram) (rows : List InputRow) (numbers : List ℤ) → All (KeepsInput program) rows
    → AreWithin rows numbers
    → ((others : List ℤ) → AreWithin rows others → words_of rows others ≡ words_of rows numbers) → OnlyInputs rows numbers
only_numbers program [] [] keep within same = tt
only_numbers program [] (number ∷ numbers) keep within same = absurd within
only_numbers program (row ∷ rows) [] keep within same = absurd within
only_numbers program (row ∷ rows) (number ∷ numbers) keep within same =
    let keeps = All-head (KeepsInput program) row rows keep in (
      record {
        is = range_covers program row number keeps within.0;
        one = λ t covers.
            let n = number_of program row t keeps covers in
            sym n.is ∙ (cons_parts (word row.size n.number) (word row.size number) (words_of rows numbers) (words_of rows numbers) (same (n.number ∷ numbers) (n.within, within.1))).0;
      },
      only_numbers program rows numbers (All-tail (KeepsInput program) row rows keep) within.1
          (λ others other_within. (cons_parts (word row.size number) (word row.size number) (words_of rows others) (words_of rows numbers) (same (number ∷ others) (within.0, other_within))).1),
    )

-- stores of the words of inputs tell the words
stored_parts : (row : InputRow) (a b : ℕ) (h k : List RunEvent) → Store row.frame row.offset row.size (Int row.size a) ∷ h ≡ Store row.frame row.offset row.size (Int row.size b) ∷ k → (a ≡ b) × (h ≡ k)
stored_parts row a b h k e = (let first : a ≡ b = cc in first, let rest : h ≡ k = cc in rest)

same_words : (rows : List InputRow) (ns ms : List ℤ) → AreWithin rows ns → AreWithin rows ms → (h k : List RunEvent)
    → with_inputs_run rows (words_of rows ns) h ≡ with_inputs_run rows (words_of rows ms) k
    → (words_of rows ns ≡ words_of rows ms) × (h ≡ k)
same_words [] [] [] a b h k e = (refl, e)
same_words [] [] (m ∷ ms) a b h k e = absurd b
same_words [] (n ∷ ns) ms a b h k e = absurd a
same_words (row ∷ rows) [] ms a b h k e = absurd a
same_words (row ∷ rows) (n ∷ ns) [] a b h k e = absurd b
same_words (row ∷ rows) (n ∷ ns) (m ∷ ms) a b h k e =
    let rest = same_words rows ns ms a.1 b.1 (Store row.frame row.offset row.size (Int row.size (word row.size n)) ∷ h) (Store row.frame row.offset row.size (Int row.size (word row.size m)) ∷ k) e in
    let first = stored_parts row (word row.size n) (word row.size m) h k rest.1 in
    (ap (λ (w : ℕ). w ∷ words_of rows ns) first.0 ∙ ap (λ (ws : List ℕ). word row.size m ∷ ws) rest.0, first.1)

pub only_inputs : (program : NumberedProgram) (rows : List InputRow) (numbers : List ℤ) → KeepInputs program rows
    → AreWithin rows numbers
    → ((others : List ℤ) → AreWithin rows others → start_history program rows (words_of rows others) ≡ start_history program rows (words_of rows numbers)) → OnlyInputs rows numbers
only_inputs program rows numbers keep within same =
    only_numbers program rows numbers keep.each within
    (λ others other_within.
    let base = runs.entered program program.root [] (runs.with_inits program.inits []) in
    (same_words rows others numbers other_within within base base (same others other_within)).0)

-- ---- sizes

inputs_kept : (program : NumberedProgram) (rows : List InputRow) (m : Mem abstract_sets) → All (KeepsInput program) rows
    → MemSized abstract_sets m → Kept m (with_inputs rows m)
inputs_kept program [] m keep sized = unchanged m sized
inputs_kept program (row ∷ rows) m keep sized =
    let keeps = All-head (KeepsInput program) row rows keep in
    let v = alone (Words (range_of row)) in
    let one = filled_kept m row.frame row.offset row.size v sized (export_cell row.size keeps.sized) (alone_is row.size (Words (range_of row)) (range_is program row keeps)) in
    kept_on m (filled m row.frame row.offset row.size v) (with_inputs rows (filled m row.frame row.offset row.size v)) one
    (inputs_kept program rows (filled m row.frame row.offset row.size v) (All-tail (KeepsInput program) row rows keep) one.sized)

-- at the start the root runs, and no other function
pub first_kept : (program : NumberedProgram) → IsKept program → (rows : List InputRow) → KeepInputs program rows
    → Kept (entered abstract_sets (frames_of program) (fresh abstract_sets) program.root) (first_memory program rows)
first_kept program kept rows keep =
    let root = function_there program kept program.root kept.root in
    let start = start_sharp abstract_sets abstract_is_sets (frames_of program) in
    let globals = inits_kept program.frames None program.inits (fresh abstract_sets) kept.inits start.1 in
    let before = with_inits program.inits (fresh abstract_sets) in
    let in_root = entered_inits_kept program kept program.root root.0 root.1 before globals.sized in
    let inside = entered_with program program.root [] before in
    let last = inputs_kept program rows inside keep.each in_root.sized in
    record {
      sized = last.sized;
      runs = last.runs ∙ in_root.runs ∙ ap (λ (runs : ℕ → Bool). (λ (g : ℕ). if g == program.root then true else runs g)) globals.runs;
    }
