-- A step of the abstract machine tells the step of a run.
--   EndTold              the goals have the end
--   Says Sharp rows r moment   the moment after a step of a run is one of the goals, or its fault is told
--   step_told            a step from a memory that stands for the history
use Rattle.std.specs.Prelude.{slice_get, IfSome, AllPairs, Contains}
use Rattle.std.specs.List.{AllZip}
use Rattle.std.proofs.Common.{◌≡◌, ◌≢◌, ℕ, List, [], ◌∷◌, map, Option, Some, None, Result, Ok, Err, refl, sym, ap, subst, ◌∙◌}
use Rattle.std.proofs.lemmas.Bool.{eq-eqb}
use Rattle.std.proofs.lemmas.List.Elements.{All-contains}
use Rattle.lists.specs.MemberLaws.{first_member}
use Rattle.alf_ops.specs.declared.history.Value.{Value}
use Rattle.alf_ops.specs.declared.history.Value.TheVariants.{Int, Ptr}
use Rattle.alf_ops.specs.declared.history.RunFault.{RunFault}
use Rattle.alf_ops.specs.declared.history.RunFault.TheVariants.{Kind}
use Rattle.alf_ops.specs.declared.history.FrameShape.{FrameShape}
use Rattle.alf_ops.specs.declared.history.RunEvent.{RunEvent}
use Rattle.alf_ops.specs.declared.history.RunEvent.TheVariants.{Leave}
use Rattle.alf_ops.specs.Values.{FitsValue, bits_of}
use Rattle.alf_ops.specs.Histories.{store, IsSoundHistory}
use Rattle.alf_ops.specs.Pointers.{operands, before as before_run}
use Rattle.alf_program.specs.Tree.{NumberedExpression}
use Rattle.alf_check.specs.declared.rows.FrameRow.{FrameRow}
use Rattle.alf_check.specs.CheckedPrograms.{NumberedProgram, NumberedBlock, BlockEnding, Fall, Jump, Switch, Call, Return, blocks_at}
use Rattle.alf_check.specs.Kept.{IsKept, HasSize, TargetKeeps, CallKeeps, KeepsEnding, KeepsResult, Gives, HasCellSize, ArgumentKeeps}
use Rattle.flow_graph.specs.Nodes.{Node, entry_node, block_node, function_at}
use Rattle.flow_graph.specs.Paths.{IsCallPath, IsPlaced}
use Rattle.flow_graph.specs.PathLaws.{path_low}
use Rattle.alf_runs.specs.Expressions.{value_of}
use Rattle.alf_runs.specs.Statements as runs
use Rattle.alf_runs.specs.Outcomes.{Ended, Faulted, Lost}
use Rattle.alf_runs.specs.Steps.{Moment, At, Over, frames_of, target_of, switch_step, call_step, move_on, result_step, go_back, leave, return_step, ending_step, then_ending, block_step, node_step, step}
use Rattle.alf_runs.specs.SizeLaws.{ValueHasSize}
use Rattle.domain_core.specs.WordSets.{IsOfSize}
use Rattle.strided_rules.specs.Strides.{Stride}
use Rattle.strided_rules.specs.MemberLaws.{some_word}
use Rattle.strided_rules.specs.Domains.{stride_sets}
use Rattle.pointer_rules.specs.AbstractValues.{AbstractValue, Covers, ArePlaces}
use Rattle.pointer_rules.specs.Covering.{IsValue}
use Rattle.memory_rules.specs.ValueSets.{OnlyCovers}
use Rattle.memory_rules.specs.Covers.{IsCellSize as IsCell}
use Rattle.memory_rules.specs.Memories.{Mem, left}
use Rattle.memory_rules.specs.AbstractSets.{abstract_sets}
use Rattle.memory_rules.specs.AbstractSetLaws.{abstract_is_sets}
use Rattle.memory_rules.specs.MemoryProofLaws.{leave_covers, sharp_leave, leave_sized}
use Rattle.transfer_rules.specs.Remains.{Remains, goes_on}
use Rattle.transfer_rules.specs.Evaluating.{pointer_value, value_at, arguments_at}
use Rattle.transfer_rules.specs.Doing.{stored_through, after_statements}
use Rattle.transfer_rules.specs.Filling.{entered_with}
use Rattle.transfer_rules.specs.Stepping.{Goals, to_goal, arms, arms_of, pointer_fault, switched, result_to, back_to, leave_to, call_to, end_at, block_at, step_at}
use Rattle.transfer_rules.specs.Standing.{Stands, ValueTold, AllTold}
use Rattle.transfer_rules.specs.StandingLaws.{pointer_is, pointer_told}
use Rattle.transfer_rules.specs.RemainsLaws.{HasNone, LeftTold, FaultTold, Answers, IfLeft, no_fault, one_alone, all_told, left_on, fault_on, fault_stops}
use Rattle.transfer_rules.specs.EvaluatingLaws.{cell_size, value_sized, value_told, arguments_told, ArgumentIs, arguments_sized}
use Rattle.transfer_rules.specs.DoingLaws.{store_told, statements_told}
use Rattle.transfer_rules.specs.FillingLaws.{ArgumentFits, entered_told}
use Rattle.transfer_rules.specs.SwitchLaws.{AreSmall, GoesTold, arms_told}
use Rattle.transfer_rules.specs.SteppingLaws.{words_of_size, size_once, BackTo, back_of, back_gives, block_keeps}

-- the goals have the end
pub record EndTold (Sharp : Type 0) (goals : Goals) : Type 0 where
  pub m : Mem abstract_sets
  pub among : Contains goals (None, m)
  pub only : Sharp → goals ≡ (None, m) ∷ []

-- the moment after a step of a run is one of the goals, or its fault is told
abbrev pub Says : Type 0 → List FrameShape → Remains Goals → Moment → Type 0
Says Sharp rows r (At node history) = LeftTold Sharp (λ goals. GoesTold Sharp rows goals node history) r
Says Sharp rows r (Over (Ended outputs)) = LeftTold Sharp (EndTold Sharp) r
Says Sharp rows r (Over (Faulted fault)) = FaultTold Sharp r fault
Says Sharp rows r (Over Lost) = Unit {0}

says_on : {A : Type 0} (Sharp : Type 0) (rows : List FrameShape) (P : A → Type 0) (r : Remains A) (further : A → Remains Goals) (moment : Moment) → LeftTold Sharp P r
    → ((a : A) → r.left ≡ Some a → P a → Says Sharp rows (further a) moment) → Says Sharp rows (goes_on r further) moment
says_on Sharp rows P r further (At node history) told rest = left_on Sharp P (λ goals. GoesTold Sharp rows goals node history) r further told (rest told.value told.is told.holds)
says_on Sharp rows P r further (Over (Ended outputs)) told rest = left_on Sharp P (EndTold Sharp) r further told (rest told.value told.is told.holds)
says_on Sharp rows P r further (Over (Faulted fault)) told rest = fault_on Sharp P r further fault told (rest told.value told.is told.holds)
says_on Sharp rows P r further (Over Lost) told rest = tt

kept_value : {A : Type 0} (P : A → Type 0) (r : Remains A) (a : A) → IfLeft P r → r.left ≡ Some a → P a
kept_value {A} P r a kept is = subst (λ (o : Option A). IfSome o P) is kept

-- one goal
goal_told : (Sharp : Type 0) (rows : List FrameShape) (next : Node) (m : Mem abstract_sets) (history : List RunEvent)
    → Stands Sharp rows m history → Says Sharp rows (to_goal (Some next) m) (At next history)
goal_told Sharp rows next m history stands =
    all_told Sharp (λ goals. GoesTold Sharp rows goals next history) ((Some next, m) ∷ [])
    (record { m = m; among = first_member (Some next, m) []; stands = stands; only = λ sharp. refl })

-- ---- switches

word_or_pointer : {A : Type 0} (size bits frame offset : ℕ) → Int size bits ≡ Ptr frame offset → A
word_or_pointer size bits frame offset e = absurd (apart e)
  where
    apart : Int size bits ≡ Ptr frame offset → ⊥
    apart e = cc

module _ (Sharp : Type 0) (rows : List FrameShape) (m : Mem abstract_sets) (history : List RunEvent) (stands : Stands Sharp rows m history) (table : List FrameRow) (k : ℕ) (sizes_are : ValueHasSize)
    (e : NumberedExpression) (size : ℕ) (has : HasSize table k size e) (path : List ℕ) (targets : List (ℕ × ℕ)) (others : ℕ) (small : AreSmall size targets)
    (apart : AllPairs (λ (s t : ℕ × ℕ). s.0 ≢ t.0) targets) where
  switch_word : (own w : ℕ) → value_of rows history e ≡ Ok (Int own w)
      → (words : Option Stride) (places : List (ℕ × Stride)) → IfSome words (IsOfSize stride_sets size)
      → ArePlaces places
      → Covers (record { words = words; places = places }) (Int own w) → (Sharp → OnlyCovers abstract_sets (record { words = words; places = places }) (Int own w))
      → LeftTold Sharp (λ goals. GoesTold Sharp rows goals (block_node path (target_of targets others w)) history)
      (record { left = arms_of rows m e path targets others words; faults = pointer_fault places })
  switch_word own w gives None places of_words of_places covers only = elim covers [ ]
  switch_word own w gives (Some words) places of_words of_places covers only = record {
    value = arms rows m e path targets others words;
    is = refl;
    holds = arms_told Sharp rows m history stands table k sizes_are e size own w has gives path words targets others of_words small apart covers.1
        (λ sharp. record { is = covers.1; one = λ y c. ap bits_of ((only sharp).1 (Int words.size y) (refl, c)) });
    none = λ sharp. no_pointer places of_places (only sharp);
  }
    where
      no_pointer : (places : List (ℕ × Stride)) → ArePlaces places
          → OnlyCovers abstract_sets (record { words = Some words; places = places }) (Int own w)
          → HasNone (pointer_fault places)
      no_pointer [] of_places only fault e = no_fault fault e
      no_pointer (place ∷ places) of_places only fault e =
          let o = some_word place.1 of_places.0.offsets in
          let is : Ptr place.0 o.0 ≡ Int own w = only.1 (Ptr place.0 o.0) (rw (eq-eqb place.0 place.0 refl) o.1) in
          word_or_pointer own w place.0 o.0 (sym is)

  switch_pointer : (frame offset : ℕ) (words : Option Stride) (places : List (ℕ × Stride))
      → IfSome words (IsOfSize stride_sets size)
      → Covers (record { words = words; places = places }) (Ptr frame offset) → (Sharp → OnlyCovers abstract_sets (record { words = words; places = places }) (Ptr frame offset))
      → FaultTold {A = Goals} Sharp (record { left = arms_of rows m e path targets others words; faults = pointer_fault places }) Kind
  switch_pointer frame offset words [] of_words covers only = elim covers [ ]
  switch_pointer frame offset words (place ∷ places) of_words covers only = record {
    told = refl;
    alone = λ sharp. no_word words of_words (only sharp);
    one = λ sharp. one_alone Kind;
  }
    where
      no_word : (words : Option Stride) → IfSome words (IsOfSize stride_sets size)
          → OnlyCovers abstract_sets (record { words = words; places = place ∷ places }) (Ptr frame offset)
          → arms_of rows m e path targets others words ≡ None
      no_word None of_words only = refl
      no_word (Some w) of_words only =
          let t = some_word w of_words.kept in
          word_or_pointer w.size t.0 frame offset (only.1 (Int w.size t.0) (refl, t.1))

  switch_told : (r : Result Value RunFault) → value_of rows history e ≡ r
      → Answers Sharp (ValueTold Sharp) (value_at rows m e) r
      → Says Sharp rows (goes_on (value_at rows m e) (switched rows m e path targets others)) (switch_step path targets others history r)
  switch_told (Err fault) gives told = fault_stops Sharp (value_at rows m e) (switched rows m e path targets others) fault told
  switch_told (Ok (Int own w)) gives told =
      says_on Sharp rows (λ v. ValueTold Sharp v (Int own w)) (value_at rows m e) (switched rows m e path targets others) (At (block_node path (target_of targets others w)) history) told
      (λ v v_is v_told.
      let of_v = kept_value (IsValue size) (value_at rows m e) v (value_sized table rows m stands.sized k e size has) v_is in
      switch_word own w gives v.words v.places (words_of_size size v of_v) of_v.is.places v_told.covers v_told.only)
  switch_told (Ok (Ptr frame offset)) gives told =
      says_on Sharp rows (λ v. ValueTold Sharp v (Ptr frame offset)) (value_at rows m e) (switched rows m e path targets others) (Over (Faulted Kind)) told
      (λ v v_is v_told.
      let of_v = kept_value (IsValue size) (value_at rows m e) v (value_sized table rows m stands.sized k e size has) v_is in
      switch_pointer frame offset v.words v.places (words_of_size size v of_v) v_told.covers v_told.only)

-- ---- calls

same_Ok : (vs ws : List Value) → (let r : Result (List Value) RunFault = Ok vs in r) ≡ Ok ws → vs ≡ ws
same_Ok vs ws e = cc

-- the values of arguments fit their frames
arguments_fit : (table : List FrameRow) (rows : List FrameShape) (history : List RunEvent) (k : ℕ) → ValueHasSize
    → IsSoundHistory history → (args : List ℕ) (es : List NumberedExpression) (values : List Value)
    → AllZip (ArgumentKeeps table k) args es → operands (map (value_of rows history) es) ≡ Ok values → AllZip (ArgumentFits table k) args values
arguments_fit table rows history k sizes_are sound [] [] values keep e = subst (AllZip (ArgumentFits table k) []) (same_Ok [] values e) tt
arguments_fit table rows history k sizes_are sound [] (e ∷ es) values keep is = absurd keep
arguments_fit table rows history k sizes_are sound (f ∷ args) [] values keep is = absurd keep
arguments_fit table rows history k sizes_are sound (f ∷ args) (e ∷ es) values keep is =
    go (value_of rows history e) refl (operands (map (value_of rows history) es)) refl (λ others others_are. arguments_fit table rows history k sizes_are sound args es others keep.1 others_are) is
  where
    go : (r : Result Value RunFault) → value_of rows history e ≡ r → (rs : Result (List Value) RunFault)
        → operands (map (value_of rows history) es) ≡ rs
        → ((others : List Value) → operands (map (value_of rows history) es) ≡ Ok others → AllZip (ArgumentFits table k) args others)
        → operands (r ∷ map (value_of rows history) es) ≡ Ok values → AllZip (ArgumentFits table k) (f ∷ args) values
    go (Err fault) r_is rs rs_is rest is = cc
    go (Ok value) r_is (Err fault) rs_is rest is =
        let bad : Err fault ≡ Ok values = ap (before_run value) (sym rs_is) ∙ is in cc
    go (Ok value) r_is (Ok others) rs_is rest is =
        let good : Ok (value ∷ others) ≡ Ok values = ap (before_run value) (sym rs_is) ∙ is in
        subst (AllZip (ArgumentFits table k) (f ∷ args)) (same_Ok (value ∷ others) values good)
        (record { arg = e; keeps = keep.0; fits = sizes_are table k keep.0.row.bits e rows history value keep.0.value_has sound r_is }, rest others rs_is)

module _ (Sharp : Type 0) (program : NumberedProgram) (keeps : IsKept program) (sizes_are : ValueHasSize) where
  call_told : (path : List ℕ) (b k f : ℕ) (args : List NumberedExpression) (result : Option (ℕ × ℕ)) (next : ℕ) (m : Mem abstract_sets) (history : List RunEvent) → Stands Sharp (frames_of program) m history
      → CallKeeps program k b f args result next → (r : Result (List Value) RunFault) → operands (map (value_of (frames_of program) history) args) ≡ r
      → Answers Sharp (AllTold Sharp) (arguments_at (frames_of program) m args) r
      → Says Sharp (frames_of program) (goes_on (arguments_at (frames_of program) m args) (call_to program path b f m)) (call_step program path b f history r)
  call_told path b k f args result next m history stands keep (Err fault) is told = fault_stops Sharp (arguments_at (frames_of program) m args) (call_to program path b f m) fault told
  call_told path b k f args result next m history stands keep (Ok values) is told =
      says_on Sharp (frames_of program) (λ vs. AllTold Sharp vs values) (arguments_at (frames_of program) m args) (call_to program path b f m) (call_step program path b f history (Ok values)) told
      (λ vs vs_are vs_told.
      let sized = kept_value (AllZip (ArgumentIs program.frames k) keep.function.args) (arguments_at (frames_of program) m args) vs
      (arguments_sized program.frames (frames_of program) m stands.sized k keep.function.args args keep.args_keep) vs_are in
      let fits = arguments_fit program.frames (frames_of program) history k sizes_are stands.sound keep.function.args args values keep.args_keep is in
      goal_told Sharp (frames_of program) (entry_node (b ∷ path)) (entered_with program f vs m) _ (entered_told program keeps f keep.function keep.at Sharp k vs values m history sized fits vs_told stands))

  -- ---- returns

  left_stands : (m : Mem abstract_sets) (history : List RunEvent) (f : ℕ) → Stands Sharp (frames_of program) m history
      → Stands Sharp (frames_of program) (left abstract_sets m f) (Leave f ∷ history)
  left_stands m history f stands = record {
    sound = stands.sound;
    sized = leave_sized abstract_sets abstract_is_sets m f stands.sized;
    covers = leave_covers abstract_sets abstract_is_sets (frames_of program) m history f stands.sound stands.sized stands.covers;
    sharp = λ sharp. sharp_leave abstract_sets abstract_is_sets (frames_of program) m history f stands.sound stands.sized (stands.sharp sharp);
  }

  -- a value that is returned, with the size of a cell
  pub record Returned (v : AbstractValue) (value : Value) : Type 0 where
    pub size : ℕ
    pub cell : IsCell size
    pub is : IsValue size v
    pub told : ValueTold Sharp v value
    pub fits : FitsValue size value

  moved_told : (path : List ℕ) (next : ℕ) (to : ℕ × ℕ) (m : Mem abstract_sets) (v : AbstractValue) (r : Result (List RunEvent) RunFault)
      → Answers Sharp (Stands Sharp (frames_of program)) (stored_through (frames_of program) m (pointer_value to.0 to.1) v) r
      → Says Sharp (frames_of program) (goes_on (stored_through (frames_of program) m (pointer_value to.0 to.1) v) (to_goal (Some (block_node path next)))) (move_on path next r)
  moved_told path next to m v (Err fault) told = fault_stops Sharp (stored_through (frames_of program) m (pointer_value to.0 to.1) v) (to_goal (Some (block_node path next))) fault told
  moved_told path next to m v (Ok later) told =
      says_on Sharp (frames_of program) (λ n. Stands Sharp (frames_of program) n later) (stored_through (frames_of program) m (pointer_value to.0 to.1) v) (to_goal (Some (block_node path next)))
      (At (block_node path next) later) told (λ n n_is stands. goal_told Sharp (frames_of program) (block_node path next) n later stands)

  result_told : (path : List ℕ) (next k : ℕ) (result : Option (ℕ × ℕ)) (v : AbstractValue) (value : Value) (m : Mem abstract_sets) (history : List RunEvent) → Stands Sharp (frames_of program) m history
      → KeepsResult program.frames k result → ((to : ℕ × ℕ) → result ≡ Some to → Returned v value)
      → Says Sharp (frames_of program) (result_to (frames_of program) path next result (Some v) m) (result_step program path next result (Some value) history)
  result_told path next k None v value m history stands keep given = tt
  result_told path next k (Some to) v value m history stands keep given =
      let own = given to refl in
      moved_told path next to m v (store (frames_of program) history (Ptr to.0 to.1) value)
      (store_told Sharp (frames_of program) m history (pointer_value to.0 to.1) v (Ptr to.0 to.1) value own.size stands own.cell (pointer_is to.0 to.1 keep.offset_fits)
      (pointer_told Sharp to.0 to.1 keep.offset_fits) own.is own.told own.fits)

  no_result_told : (path : List ℕ) (next : ℕ) (result : Option (ℕ × ℕ)) (m : Mem abstract_sets) (history : List RunEvent) → Stands Sharp (frames_of program) m history
      → Says Sharp (frames_of program) (result_to (frames_of program) path next result None m) (result_step program path next result None history)
  no_result_told path next None m history stands = goal_told Sharp (frames_of program) (block_node path next) m history stands
  no_result_told path next (Some to) m history stands = tt

  -- the root's return ends the run
  end_told : (m : Mem abstract_sets) → LeftTold Sharp (EndTold Sharp) (to_goal None m)
  end_told m = all_told Sharp (EndTold Sharp) ((None, m) ∷ []) (record { m = m; among = first_member (None, m) []; only = λ sharp. refl })

  leave_told : (path : List ℕ) (v : AbstractValue) (value : Value) (m : Mem abstract_sets) (history : List RunEvent)
      → IsCallPath program path → Stands Sharp (frames_of program) m history
      → ((b : ℕ) (rest : List ℕ) → path ≡ b ∷ rest → (back : BackTo program keeps rest b) → (to : ℕ × ℕ) → back.call.result ≡ Some to → Returned v value)
      → Says Sharp (frames_of program) (leave_to program path (Some v) m) (leave program path (Some value) history)
  leave_told [] v value m history calls stands given = end_told (left abstract_sets m program.root)
  leave_told (b ∷ path) v value m history calls stands given =
      let back = back_of program keeps path b calls in
      let f = function_at program (b ∷ path) in
      subst (λ (ending : Option BlockEnding). Says Sharp (frames_of program) (back_to (frames_of program) path ending (Some v) (left abstract_sets m f)) (go_back program path ending (Some value) (Leave f ∷ history)))
      (sym back.call.ends)
      (result_told path back.call.next (function_at program path) back.call.result v value (left abstract_sets m f) (Leave f ∷ history) (left_stands m history f stands) back.keep.result_keeps
      (λ to is. given b path refl back to is))

  leave_none_told : (path : List ℕ) (m : Mem abstract_sets) (history : List RunEvent) → IsCallPath program path
      → Stands Sharp (frames_of program) m history
      → Says Sharp (frames_of program) (leave_to program path None m) (leave program path None history)
  leave_none_told [] m history calls stands = end_told (left abstract_sets m program.root)
  leave_none_told (b ∷ path) m history calls stands =
      let back = back_of program keeps path b calls in
      let f = function_at program (b ∷ path) in
      subst (λ (ending : Option BlockEnding). Says Sharp (frames_of program) (back_to (frames_of program) path ending None (left abstract_sets m f)) (go_back program path ending None (Leave f ∷ history)))
      (sym back.call.ends) (no_result_told path back.call.next back.call.result (left abstract_sets m f) (Leave f ∷ history) (left_stands m history f stands))

  -- ---- a step

  module _ (path : List ℕ) (b : ℕ) (calls : IsCallPath program path) (block : NumberedBlock) (at : slice_get (blocks_at program (function_at program path)) b ≡ Some block) where
    return_told : (value : NumberedExpression) → block.ending ≡ Return (Some value) → (size : ℕ)
        → HasSize program.frames (function_at program path) size value
        → (m : Mem abstract_sets) (history : List RunEvent)
        → Stands Sharp (frames_of program) m history → (r : Result Value RunFault) → value_of (frames_of program) history value ≡ r → Answers Sharp (ValueTold Sharp) (value_at (frames_of program) m value) r
        → Says Sharp (frames_of program) (goes_on (value_at (frames_of program) m value) (λ v. leave_to program path (Some v) m)) (return_step program path history r)
    return_told value is size has m history stands (Err fault) gives told = fault_stops Sharp (value_at (frames_of program) m value) (λ v. leave_to program path (Some v) m) fault told
    return_told value is size has m history stands (Ok given) gives told =
        says_on Sharp (frames_of program) (λ v. ValueTold Sharp v given) (value_at (frames_of program) m value) (λ v. leave_to program path (Some v) m) (leave program path (Some given) history) told
        (λ v v_is v_told. leave_told path v given m history calls stands (λ c rest same back to r_is.
        let of_v = kept_value (IsValue size) (value_at (frames_of program) m value) v (value_sized program.frames (frames_of program) m stands.sized (function_at program path) value size has) v_is in
        let fits : FitsValue size given = sizes_are program.frames (function_at program path) size value (frames_of program) history given has stands.sound gives in
        let g = back_gives program keeps rest c b block (Some value) back (subst (λ (p : List ℕ). slice_get (blocks_at program (function_at program p)) b ≡ Some block) same at) is in
        let cell : HasCellSize program.frames (function_at program (c ∷ rest)) value =
        subst (λ (r : Option (ℕ × ℕ)). Gives program.frames (function_at program (c ∷ rest)) r (Some value)) r_is g in
        let own : HasSize program.frames (function_at program (c ∷ rest)) size value = subst (λ (p : List ℕ). HasSize program.frames (function_at program p) size value) same has in
        let eq : cell.size ≡ size = size_once program.frames (function_at program (c ∷ rest)) cell.size size value cell.value_has own in
        record { size = size; cell = subst IsCell eq (cell_size cell.size cell.cell); is = of_v; told = v_told; fits = fits }))

    ending_told : (ending : BlockEnding) → block.ending ≡ ending
        → KeepsEnding program (function_at program path) b ending → (m : Mem abstract_sets) (history : List RunEvent)
        → Stands Sharp (frames_of program) m history
        → Says Sharp (frames_of program) (end_at program path b ending m) (ending_step program path b ending history)
    ending_told (Fall next) is keep m history stands = goal_told Sharp (frames_of program) (block_node path next) m history stands
    ending_told (Jump to) is keep m history stands = goal_told Sharp (frames_of program) (block_node path to) m history stands
    ending_told (Switch value targets others) is keep m history stands =
        let k = function_at program path in
        switch_told Sharp (frames_of program) m history stands program.frames k sizes_are value keep.size keep.value_has path targets others
        (λ target among. (All-contains (TargetKeeps program k keep.size) targets target keep.targets_keep among).fits) keep.apart
        (value_of (frames_of program) history value) refl (value_told Sharp (frames_of program) m history stands program.frames k value keep.size keep.value_has)
    ending_told (Call f args result next) is keep m history stands =
        let k = function_at program path in
        call_told path b k f args result next m history stands keep (operands (map (value_of (frames_of program) history) args)) refl
        (arguments_told Sharp (frames_of program) m history stands program.frames k keep.function.args args keep.args_keep)
    ending_told (Return None) is keep m history stands = leave_none_told path m history calls stands
    ending_told (Return (Some value)) is keep m history stands =
        let k = function_at program path in
        return_told value is keep.size keep.gives m history stands (value_of (frames_of program) history value) refl
        (value_told Sharp (frames_of program) m history stands program.frames k value keep.size keep.gives)

    then_told : (m : Mem abstract_sets) (history : List RunEvent)
        → KeepsEnding program (function_at program path) b block.ending → (r : Result (List RunEvent) RunFault)
        → Answers Sharp (Stands Sharp (frames_of program)) (after_statements (frames_of program) block.statements m) r
        → Says Sharp (frames_of program) (goes_on (after_statements (frames_of program) block.statements m) (end_at program path b block.ending)) (then_ending program path b block.ending r)
    then_told m history keep (Err fault) told = fault_stops Sharp (after_statements (frames_of program) block.statements m) (end_at program path b block.ending) fault told
    then_told m history keep (Ok later) told =
        says_on Sharp (frames_of program) (λ n. Stands Sharp (frames_of program) n later) (after_statements (frames_of program) block.statements m) (end_at program path b block.ending)
        (ending_step program path b block.ending later) told (λ n n_is stands. ending_told block.ending refl keep n later stands)

  -- a step from a memory that stands for the history
  pub step_told : (node : Node) (m : Mem abstract_sets) (history : List RunEvent) → IsPlaced program node
      → Stands Sharp (frames_of program) m history
      → Says Sharp (frames_of program) (step_at program node.path node.block m) (step program (At node history))
  step_told node m history placed stands = go node.block
    where
      of_block : (b : ℕ) (o : Option NumberedBlock)
          → slice_get (blocks_at program (function_at program node.path)) b ≡ o
          → Says Sharp (frames_of program) (block_at program node.path b o m) (block_step program node.path b o history)
      of_block b None at = tt
      of_block b (Some block) at =
          let keep = block_keeps program keeps (function_at program node.path) b block (path_low program keeps node.path placed.path) at in
          then_told node.path b placed.path block at m history keep.ending (runs.after_statements (frames_of program) block.statements (Ok history))
          (statements_told Sharp (frames_of program) program.frames (function_at program node.path) sizes_are block.statements m history keep.statements stands)

      go : (block : Option ℕ) → Says Sharp (frames_of program) (step_at program node.path block m) (node_step program node.path block history)
      go None = goal_told Sharp (frames_of program) (block_node node.path 0) m history stands
      go (Some b) = of_block b (slice_get (blocks_at program (function_at program node.path)) b) refl
