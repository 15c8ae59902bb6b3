-- Each goal of a step is one of the node, and its memory is one for it.
--   GoalIs program node goal     the node leads to the goal, whose memory has the sizes and the active
--       frames of its path
--   goals_are                    of each goal of a step
use Rattle.std.specs.Prelude.{slice_get, ◌==◌, ◌↔◌, Contains, IfSome}
use Rattle.std.specs.List.{AllZip}
use Rattle.std.specs.Option.{option_map, option_map_or}
use Rattle.std.proofs.Common.{◌≡◌, inr, ℕ, suc, length, Bool, true, false, List, [], ◌∷◌, Option, Some, None, ◌<◌, refl, sym, ap, subst, ◌∙◌, arith}
use Rattle.std.proofs.lemmas.Option.{none-some, same_Some}
use Rattle.std.proofs.lemmas.Bool.{eqb-true, eqb-false, false≢true}
use Rattle.std.proofs.lemmas.List.Elements.{All-contains}
use Rattle.lists.specs.TestLaws.{by_test}
use Rattle.lists.specs.MemberLaws.{first_member, further_member, first_or_further}
use Rattle.lists.specs.ImageLaws.{image}
use Rattle.graph_walks.specs.Walks.{IsDistinct}
use Rattle.alf_program.specs.Tree.{NumberedExpression, Number, Address, Load, Apply}
use Rattle.alf_check.specs.declared.rows.FrameRow.{FrameRow}
use Rattle.alf_check.specs.CheckedPrograms.{NumberedProgram, NumberedFunction, NumberedBlock, BlockEnding, Fall, Jump, Switch, Call, Return, blocks_at}
use Rattle.alf_check.specs.Kept.{IsKept, HasSize, TargetKeeps, CallKeeps, KeepsEnding, KeepsBlock, Gives, HasCellSize}
use Rattle.flow_graph.specs.Nodes.{Node, Goal, entry_node, block_node, ending_at, callee_of, function_at, IsTarget, BackLeads, ReturnLeads, EndLeads, Leads}
use Rattle.flow_graph.specs.Paths.{IsCall, IsCallPath, IsPlaced, functions_on}
use Rattle.flow_graph.specs.PathLaws.{function_there, ending_keeps, path_low}
use Rattle.alf_runs.specs.Steps.{frames_of}
use Rattle.alf_runs.specs.Places.{IsOwnedAlong, functions_on as functions_along}
use Rattle.strided_rules.specs.Strides.{Stride, IsStride}
use Rattle.strided_rules.specs.Domains.{stride_sets}
use Rattle.domain_core.specs.WordSets.{IsOfSize}
use Rattle.pointer_rules.specs.AbstractValues.{AbstractValue}
use Rattle.pointer_rules.specs.Covering.{IsValue}
use Rattle.memory_rules.specs.Covers.{IsCellSize as IsCell}
use Rattle.memory_rules.specs.Memories.{Mem, is_on, entered, left, MemSized}
use Rattle.memory_rules.specs.AbstractSets.{abstract_sets}
use Rattle.memory_rules.specs.AbstractSetLaws.{abstract_is_sets}
use Rattle.memory_rules.specs.MemoryProofLaws.{leave_sized}
use Rattle.transfer_rules.specs.Evaluating.{pointer_value, value_at, arguments_at}
use Rattle.transfer_rules.specs.Doing.{stored_through, after_statements}
use Rattle.transfer_rules.specs.Filling.{entered_with}
use Rattle.transfer_rules.specs.Stepping.{Goals, to_goal, arms, arms_of, switched, result_to, back_to, leave_to, call_to, end_at, block_at, step_at}
use Rattle.transfer_rules.specs.Machines.{RunsAlong}
use Rattle.transfer_rules.specs.RemainsLaws.{IfLeft, keeps_on}
use Rattle.transfer_rules.specs.EvaluatingLaws.{cell_size, value_sized, ArgumentIs, arguments_sized}
use Rattle.transfer_rules.specs.DoingLaws.{Kept, stored_kept, statements_kept}
use Rattle.transfer_rules.specs.FillingLaws.{entered_kept}
use Rattle.transfer_rules.specs.SwitchLaws.{AreSmall, EachGoal, IsArm, arms_kept}

-- the memory is one for the goal: the sizes, and the active frames of its path
abbrev pub GoalFits : NumberedProgram → Goal → Mem abstract_sets → Type 0
GoalFits program None m = Unit {0}
GoalFits program (Some node) m = MemSized abstract_sets m × RunsAlong program node.path m

-- the node leads to the goal
abbrev pub GoalIs : NumberedProgram → Node → Goal × Mem abstract_sets → Type 0
GoalIs program node goal = Leads program node goal.0 × GoalFits program goal.0 goal.1

-- both crates name the functions of a path
pub same_functions : (program : NumberedProgram) (path : List ℕ)
    → functions_along program path ≡ functions_on program path
same_functions program [] = refl
same_functions program (b ∷ path) = ap (λ (fs : List ℕ). function_at program (b ∷ path) ∷ fs) (same_functions program path)

-- ---- active frames

-- memories in which the same functions run
pub same_along : (program : NumberedProgram) (path : List ℕ) (m n : Mem abstract_sets) → n.runs ≡ m.runs
    → RunsAlong program path m → RunsAlong program path n
same_along program path m n same along = subst (λ (runs : ℕ → Bool). (owner : Option ℕ) → (is_on runs owner ≡ true) ↔ IsOwnedAlong program path owner) (sym same) along

-- a function entered
enter_along : (program : NumberedProgram) (path : List ℕ) (b f : ℕ) (m : Mem abstract_sets)
    → function_at program (b ∷ path) ≡ f → RunsAlong program path m
    → RunsAlong program (b ∷ path) (entered abstract_sets (frames_of program) m f)
enter_along program path b f m is along None = (λ e. tt, λ t. refl)
enter_along program path b f m is along (Some g) = (
  λ e. by_test (g == f)
      (λ same. subst (λ (h : ℕ). Contains (function_at program (b ∷ path) ∷ functions_along program path) h) (is ∙ sym (eqb-true g f same)) (first_member (function_at program (b ∷ path)) (functions_along program path)))
      (λ other. further_member (function_at program (b ∷ path)) (functions_along program path) g ((along (Some g)).0 (rw other at e))),
  λ among. by_test (g == f)
      (λ same. rw same refl)
      (λ other. first_or_further (function_at program (b ∷ path)) (functions_along program path) g among
      (λ first. absurd (eqb-false g f other (sym first ∙ is)))
      (λ rest. rw other ((along (Some g)).1 rest))),
)

-- the newest function of a path stands in it once
newest_apart : (f : ℕ) (fs : List ℕ) → IsDistinct (f ∷ fs) → Contains fs f → ⊥
newest_apart f fs distinct among =
    let low : among.0 < length fs = among.1 in
    distinct 0 (suc among.0) f (omega arith) (omega (arith, low)) (sym among.2)

-- a function left
left_along : (program : NumberedProgram) (path : List ℕ) (b : ℕ) (m : Mem abstract_sets)
    → IsDistinct (functions_on program (b ∷ path)) → RunsAlong program (b ∷ path) m
    → RunsAlong program path (left abstract_sets m (function_at program (b ∷ path)))
left_along program path b m distinct along None = (λ e. tt, λ t. refl)
left_along program path b m distinct along (Some g) = (
  λ e. by_test (g == function_at program (b ∷ path))
      (λ same. absurd (false≢true (rw same at e)))
      (λ other. first_or_further (function_at program (b ∷ path)) (functions_along program path) g ((along (Some g)).0 (rw other at e))
      (λ first. absurd (eqb-false g (function_at program (b ∷ path)) other (sym first)))
      (λ rest. rest)),
  λ among. by_test (g == function_at program (b ∷ path))
      (λ same.
      let is : g ≡ function_at program (b ∷ path) = eqb-true g (function_at program (b ∷ path)) same in
      absurd (newest_apart (function_at program (b ∷ path)) (functions_on program path) distinct
      (subst (λ (fs : List ℕ). Contains fs (function_at program (b ∷ path))) (same_functions program path) (subst (Contains (functions_along program path)) is among))))
      (λ other. rw other ((along (Some g)).1 (further_member (function_at program (b ∷ path)) (functions_along program path) g among))),
)

-- ---- goals

-- an expression has one size
pub size_once : (table : List FrameRow) (k s t : ℕ) (e : NumberedExpression) → HasSize table k s e → HasSize table k t e
    → s ≡ t
size_once table k s t (Number num) a b = sym a.same ∙ b.same
size_once table k s t (Address frame offset) a b = sym a.same ∙ b.same
size_once table k s t (Load bits at) a b = sym a.same ∙ b.same
size_once table k s t (Apply op sizes es) a b = same_Some s t (sym a.result_is ∙ b.result_is)

each_goal : (P Q : Goal × Mem abstract_sets → Type 0) (goals : Goals)
    → ((goal : Goal × Mem abstract_sets) → P goal → Q goal) → EachGoal P goals → EachGoal Q goals
each_goal P Q [] turn each = tt
each_goal P Q (goal ∷ goals) turn each = (turn goal each.0, each_goal P Q goals turn each.1)

-- the words of a value have its size
pub words_of_size : (size : ℕ) (v : AbstractValue) → IsValue size v → IfSome v.words (IsOfSize stride_sets size)
words_of_size size v is = go v.words is.is.words is.sized.words
  where
    go : (words : Option Stride) → IfSome words IsStride → IfSome words (λ w. w.size ≡ size)
        → IfSome words (IsOfSize stride_sets size)
    go None strides sized = tt
    go (Some words) strides sized = record { kept = strides; size = sized }

module _ (program : NumberedProgram) (keeps : IsKept program) where
  -- the block of a function keeps the rules
  pub block_keeps : (f b : ℕ) (block : NumberedBlock) → f < length program.funcs
      → slice_get (blocks_at program f) b ≡ Some block → KeepsBlock program f b block
  block_keeps f b block low at =
      let own = function_there program keeps f low in
      (keeps.functions f own.0 own.1).blocks b block (subst (λ (blocks : List NumberedBlock). slice_get blocks b ≡ Some block) own.2 at)

  -- the call that a return goes back to
  pub record BackTo (path : List ℕ) (b : ℕ) : Type 0 where
    pub call : IsCall program (function_at program path) b
    pub keep : CallKeeps program (function_at program path) b call.callee call.args call.result call.next
    pub enters : function_at program (b ∷ path) ≡ call.callee

  pub back_of : (path : List ℕ) (b : ℕ) → IsCallPath program (b ∷ path) → BackTo path b
  back_of path b calls =
      let call = calls.0 in
      record {
        call = call;
        keep = ending_keeps program keeps (function_at program path) b (Call call.callee call.args call.result call.next) (path_low program keeps path calls.1) call.ends;
        enters = ap callee_of call.ends;
      }

  -- what a return gives is what the call takes
  pub back_gives : (path : List ℕ) (b own : ℕ) (block : NumberedBlock) (value : Option NumberedExpression) (back : BackTo path b) → slice_get (blocks_at program (function_at program (b ∷ path))) own ≡ Some block
      → block.ending ≡ Return value → Gives program.frames (function_at program (b ∷ path)) back.call.result value
  back_gives path b own block value back at ending =
      let there : blocks_at program back.call.callee ≡ back.keep.function.blocks =
      ap (λ (o : Option NumberedFunction). option_map_or (λ (g : NumberedFunction). g.blocks) o []) back.keep.at in
      let here : slice_get back.keep.function.blocks own ≡ Some block =
      subst (λ (blocks : List NumberedBlock). slice_get blocks own ≡ Some block) there (subst (λ (f : ℕ). slice_get (blocks_at program f) own ≡ Some block) back.enters at) in
      subst (λ (f : ℕ). Gives program.frames f back.call.result value) (sym back.enters) (back.keep.gives own block value here ending)

  -- a goal within the instance
  inside : (path : List ℕ) (node : Node) (to : ℕ) (m n : Mem abstract_sets) → Kept m n → RunsAlong program path m
      → Leads program node (Some (block_node path to))
      → IfLeft (EachGoal (GoalIs program node)) (to_goal (Some (block_node path to)) n)
  inside path node to m n kept along leads = ((leads, (kept.sized, same_along program path m n kept.runs along)), tt)

  unchanged_by : (m : Mem abstract_sets) → MemSized abstract_sets m → Kept m m
  unchanged_by m sized = record { sized = sized; runs = refl }

  -- ---- switches

  switch_goals : (path : List ℕ) (node : Node) (m : Mem abstract_sets) (k : ℕ) (e : NumberedExpression) (size : ℕ) (targets : List (ℕ × ℕ)) (others : ℕ) (v : AbstractValue) → MemSized abstract_sets m
      → RunsAlong program path m → HasSize program.frames k size e → AreSmall size targets → IsValue size v
      → ((goal : Goal) → ((to : ℕ) × IsTarget targets others to × (goal ≡ Some (block_node path to))) → Leads program node goal)
      → IfLeft (EachGoal (GoalIs program node)) (switched (frames_of program) m e path targets others v)
  switch_goals path node m k e size targets others v sized along has small of_v leads = go v.words (words_of_size size v of_v)
    where
      turn : (goal : Goal × Mem abstract_sets) → IsArm path targets others m goal → GoalIs program node goal
      turn goal is = (
        leads goal.0 is.0,
        subst (λ (g : Goal). GoalFits program g goal.1) (sym is.0.2) (is.1.sized, same_along program path m goal.1 is.1.runs along),
      )

      go : (words : Option Stride) → IfSome words (IsOfSize stride_sets size)
          → IfSome (arms_of (frames_of program) m e path targets others words) (EachGoal (GoalIs program node))
      go None of_words = tt
      go (Some words) of_words =
          each_goal (IsArm path targets others m) (GoalIs program node) (arms (frames_of program) m e path targets others words) turn
          (arms_kept program.frames k (frames_of program) m sized e size has path targets others words of_words small
          (λ target among. inr (image (λ (t : ℕ × ℕ). t.1) targets target among)))

  -- ---- returns

  -- the result is stored, and the run moves on
  result_goals : (path : List ℕ) (node : Node) (next : ℕ) (result : Option (ℕ × ℕ)) (v : Option AbstractValue) (m : Mem abstract_sets) (size : ℕ) → MemSized abstract_sets m → RunsAlong program path m
      → Leads program node (Some (block_node path next)) → ((to : ℕ × ℕ) (w : AbstractValue) → result ≡ Some to → v ≡ Some w → IsCell size × IsValue size w)
      → IfLeft (EachGoal (GoalIs program node)) (result_to (frames_of program) path next result v m)
  result_goals path node next (Some to) (Some w) m size sized along leads cell =
      let is = cell to w refl refl in
      keeps_on (Kept m) (EachGoal (GoalIs program node)) (stored_through (frames_of program) m (pointer_value to.0 to.1) w) (to_goal (Some (block_node path next)))
      (stored_kept (frames_of program) m (pointer_value to.0 to.1) w size sized is.0 is.1)
      (λ n kept. inside path node next m n kept along leads)
  result_goals path node next None None m size sized along leads cell = inside path node next m m (unchanged_by m sized) along leads
  result_goals path node next (Some to) None m size sized along leads cell = tt
  result_goals path node next None (Some w) m size sized along leads cell = tt

  -- an instance is left
  leave_goals : (path : List ℕ) (node : Node) (v : Option AbstractValue) (value : Option NumberedExpression) (m : Mem abstract_sets) (size : ℕ) → IsCallPath program path
      → IsDistinct (functions_on program path) → MemSized abstract_sets m → RunsAlong program path m → ((goal : Goal) → ReturnLeads program path goal → Leads program node goal)
      → ((b : ℕ) (rest : List ℕ) → path ≡ b ∷ rest → (back : BackTo rest b) → (to : ℕ × ℕ) (w : AbstractValue) → back.call.result ≡ Some to → v ≡ Some w → IsCell size × IsValue size w)
      → IfLeft (EachGoal (GoalIs program node)) (leave_to program path v m)
  leave_goals [] node v value m size calls distinct sized along leads cell = ((leads None refl, tt), tt)
  leave_goals (b ∷ path) node v value m size calls distinct sized along leads cell =
      let back = back_of path b calls in
      let after = left abstract_sets m (function_at program (b ∷ path)) in
      let next_leads : Leads program node (Some (block_node path back.call.next)) =
      leads (Some (block_node path back.call.next)) (subst (λ (ending : Option BlockEnding). BackLeads path ending (Some (block_node path back.call.next))) (sym back.call.ends) refl) in
      subst (λ (ending : Option BlockEnding). IfLeft (EachGoal (GoalIs program node)) (back_to (frames_of program) path ending v after)) (sym back.call.ends)
      (result_goals path node back.call.next back.call.result v after size (leave_sized abstract_sets abstract_is_sets m (function_at program (b ∷ path)) sized)
      (left_along program path b m distinct along) next_leads (λ to w r_is v_is. cell b path refl back to w r_is v_is))

  -- ---- a step

  module _ (path : List ℕ) (b : ℕ) (calls : IsCallPath program path) (distinct : IsDistinct (functions_on program path)) (block : NumberedBlock)
      (at : slice_get (blocks_at program (function_at program path)) b ≡ Some block) where
    leads_by : (ending : BlockEnding) → block.ending ≡ ending → (goal : Goal)
        → EndLeads program path b (Some ending) goal → Leads program (block_node path b) goal
    leads_by ending is goal leads =
        let found : ending_at program (function_at program path) b ≡ Some ending = ap (option_map (λ (x : NumberedBlock). x.ending)) at ∙ ap Some is in
        subst (λ (o : Option BlockEnding). EndLeads program path b o goal) (sym found) leads

    -- a value that is returned to a cell has the cell's size
    stored_result : (value : NumberedExpression) → block.ending ≡ Return (Some value) → (size : ℕ)
        → HasSize program.frames (function_at program path) size value → (v : AbstractValue) → IsValue size v
        → (c : ℕ) (rest : List ℕ) → path ≡ c ∷ rest → (back : BackTo rest c) → (to : ℕ × ℕ) (w : AbstractValue) → back.call.result ≡ Some to → Some v ≡ Some w → IsCell size × IsValue size w
    stored_result value is size has v of_v c rest same back to w r_is v_is =
        let g = back_gives rest c b block (Some value) back (subst (λ (p : List ℕ). slice_get (blocks_at program (function_at program p)) b ≡ Some block) same at) is in
        let cell : HasCellSize program.frames (function_at program (c ∷ rest)) value =
        subst (λ (r : Option (ℕ × ℕ)). Gives program.frames (function_at program (c ∷ rest)) r (Some value)) r_is g in
        let own : HasSize program.frames (function_at program (c ∷ rest)) size value = subst (λ (p : List ℕ). HasSize program.frames (function_at program p) size value) same has in
        let eq : cell.size ≡ size = size_once program.frames (function_at program (c ∷ rest)) cell.size size value cell.value_has own in
        (subst IsCell eq (cell_size cell.size cell.cell), subst (IsValue size) (same_Some v w v_is) of_v)

    end_goals : (ending : BlockEnding) → block.ending ≡ ending → KeepsEnding program (function_at program path) b ending
        → (m : Mem abstract_sets) → MemSized abstract_sets m → RunsAlong program path m
        → IfLeft (EachGoal (GoalIs program (block_node path b))) (end_at program path b ending m)
    end_goals (Fall next) is keep m sized along = inside path (block_node path b) next m m (unchanged_by m sized) along (leads_by (Fall next) is (Some (block_node path next)) refl)
    end_goals (Jump to) is keep m sized along = inside path (block_node path b) to m m (unchanged_by m sized) along (leads_by (Jump to) is (Some (block_node path to)) refl)
    end_goals (Switch value targets others) is keep m sized along =
        let f = function_at program path in
        keeps_on (IsValue keep.size) (EachGoal (GoalIs program (block_node path b))) (value_at (frames_of program) m value) (switched (frames_of program) m value path targets others)
        (value_sized program.frames (frames_of program) m sized f value keep.size keep.value_has)
        (λ v of_v. switch_goals path (block_node path b) m f value keep.size targets others v sized along keep.value_has
        (λ target among. (All-contains (TargetKeeps program f keep.size) targets target keep.targets_keep among).fits) of_v
        (λ goal to. leads_by (Switch value targets others) is goal to))
    end_goals (Call f args result next) is keep m sized along =
        let k = function_at program path in
        let found : ending_at program k b ≡ Some (Call f args result next) = ap (option_map (λ (x : NumberedBlock). x.ending)) at ∙ ap Some is in
        let enters : function_at program (b ∷ path) ≡ f = ap callee_of found in
        keeps_on (AllZip (ArgumentIs program.frames k) keep.function.args) (EachGoal (GoalIs program (block_node path b))) (arguments_at (frames_of program) m args) (call_to program path b f m)
        (arguments_sized program.frames (frames_of program) m sized k keep.function.args args keep.args_keep)
        (λ vs are.
        let kept = entered_kept program keeps f keep.function keep.at k vs m are sized in (
          (
            leads_by (Call f args result next) is (Some (entry_node (b ∷ path))) refl,
            (kept.sized, same_along program (b ∷ path) (entered abstract_sets (frames_of program) m f) (entered_with program f vs m) kept.runs (enter_along program path b f m enters along)),
          ),
          tt,
        ))
    end_goals (Return None) is keep m sized along =
        leave_goals path (block_node path b) None None m 0 calls distinct sized along (λ goal leads. leads_by (Return None) is goal leads)
        (λ c rest same back to w r_is v_is. absurd (none-some w v_is))
    end_goals (Return (Some value)) is keep m sized along =
        let k = function_at program path in
        keeps_on (IsValue keep.size) (EachGoal (GoalIs program (block_node path b))) (value_at (frames_of program) m value) (λ v. leave_to program path (Some v) m)
        (value_sized program.frames (frames_of program) m sized k value keep.size keep.gives)
        (λ v of_v. leave_goals path (block_node path b) (Some v) (Some value) m keep.size calls distinct sized along (λ goal leads. leads_by (Return (Some value)) is goal leads)
        (λ c rest same back to w r_is v_is. stored_result value is keep.size keep.gives v of_v c rest same back to w r_is v_is))

-- a step
pub goals_are : (program : NumberedProgram) → IsKept program → (node : Node) (m : Mem abstract_sets)
    → IsPlaced program node → IsDistinct (functions_on program node.path) → MemSized abstract_sets m
    → RunsAlong program node.path m → IfLeft (EachGoal (GoalIs program node)) (step_at program node.path node.block m)
goals_are program keeps node m placed distinct sized along = go node.block refl
  where
    of_block : (b : ℕ) (o : Option NumberedBlock) → slice_get (blocks_at program (function_at program node.path)) b ≡ o
        → IfLeft (EachGoal (GoalIs program (block_node node.path b))) (block_at program node.path b o m)
    of_block b None at = tt
    of_block b (Some block) at =
        let low = path_low program keeps node.path placed.path in
        let keep = block_keeps program keeps (function_at program node.path) b block low at in
        keeps_on (Kept m) (EachGoal (GoalIs program (block_node node.path b))) (after_statements (frames_of program) block.statements m) (end_at program node.path b block.ending)
        (statements_kept program.frames (frames_of program) (function_at program node.path) block.statements m keep.statements sized)
        (λ n kept. end_goals program keeps node.path b placed.path distinct block at block.ending refl keep.ending n kept.sized (same_along program node.path m n kept.runs along))

    go : (block : Option ℕ) → node.block ≡ block → IfLeft (EachGoal (GoalIs program (record { path = node.path; block = block }))) (step_at program node.path block m)
    go None is = inside program keeps node.path (entry_node node.path) 0 m m (record { sized = sized; runs = refl }) along refl
    go (Some b) is = of_block b (slice_get (blocks_at program (function_at program node.path)) b) refl
