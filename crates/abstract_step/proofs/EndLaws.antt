-- What blocks end with.
--   stands_leads          where a block ends so, its node leads to where this leads
--   value_left, values_left   what code finds, by the program's own frames
--   each_typed            statements keep the rules
--   arguments_typed       arguments have sizes
--   call_fits             values of arguments are those of a call
--   returned_cell         what is returned to a call has the size of a cell
--   back_at, end_there, is_call, back_leads   the call that it goes back to
--   arms_lead, arms_own, arms_turn  the arms of a switch
use Rattle.std.specs.Prelude.{slice_get, All, IfSome}
use Rattle.std.specs.List.{AllZip, AllByRecursion}
use Rattle.std.specs.Option.{option_map}
use Rattle.std.proofs.Common.{◌≡◌, ◌<◌, inr, ℕ, List, [], ◌∷◌, Vec, map, length, Option, Some, None, refl, sym, ap, subst, ◌∙◌}
use Rattle.std.proofs.lemmas.List.Elements.{All-nil, All-cons, All-head, All-tail, All-contains}
use Rattle.std.proofs.lemmas.Option.{same_Some}
use Rattle.lists.specs.ImageLaws.{image}
use Rattle.alf_program.specs.Tree.{NumberedExpression}
use Rattle.std.specs.declared.alloc.Global.{Global}
use Rattle.alf_check.specs.declared.rows.FrameRow.{FrameRow}
use Rattle.alf_check.specs.declared.rows.Term.{Term}
use Rattle.alf_check.specs.declared.rows.Block.{Block}
use Rattle.alf_check.specs.declared.rows.BlockEnd.{BlockEnd}
use Rattle.alf_check.specs.declared.rows.BlockEnd.TheVariants as ends
use Rattle.alf_check.specs.CheckedPrograms.{CheckedParts, NumberedProgram, NumberedBlock, NumberedStatement, BlockEnding, Switch, Call, Return, seen, blocks_at, block_of, end_of}
use Rattle.alf_check.specs.Kept.{IsKept, KeepsStatement, KeepsBlock, KeepsEnding, ArgumentKeeps, HasCellSize, Gives, TargetKeeps}
use Rattle.flow_graph.specs.Nodes.{Goal, Leads, PlaceLeads, EndLeads, ReturnLeads, BackLeads, block_node, ending_at, function_at}
use Rattle.flow_graph.specs.Paths.{IsCall, IsCallPath, IsPlaced, HasBlock, next_of}
use Rattle.flow_graph.specs.PathLaws.{path_low, ending_low}
use Rattle.alf_runs.specs.Steps.{frames_of}
use Rattle.domain_core.specs.declared.fault_set.FaultSet.{FaultSet}
use Rattle.strided_rules.specs.Strides.{Stride}
use Rattle.strided_rules.specs.Domains.{stride_sets}
use Rattle.domain_core.specs.WordSets.{IsOfSize}
use Rattle.pointer_rules.specs.AbstractValues.{AbstractValue}
use Rattle.pointer_rules.specs.Covering.{IsValue}
use Rattle.memory_rules.specs.Memories.{Mem, MemSized, left}
use Rattle.memory_rules.specs.AbstractSets.{abstract_sets}
use Rattle.memory_model.specs.KeptMemories.{MemoryParts, memory_in, rows_of}
use Rattle.transfer_rules.specs.Remains.{Remains}
use Rattle.transfer_rules.specs.RemainsLaws.{IfLeft}
use Rattle.transfer_rules.specs.Evaluating.{value_at, arguments_at}
use Rattle.transfer_rules.specs.EvaluatingLaws.{ArgumentIs, arguments_sized, value_sized, cell_size}
use Rattle.transfer_rules.specs.Stepping.{Goals, arms, arms_of, switched, pointer_fault, goals_left}
use Rattle.transfer_rules.specs.SteppingLaws.{words_of_size, back_of, back_gives}
use Rattle.transfer_rules.specs.SwitchLaws.{EachGoal, IsArm, arms_kept}
use Rattle.transfer_rules.specs.Machines.{numbered_goal}
use Rattle.transfer_rules.specs.PartMachines.{IsOwn}
use Rattle.step_statements.specs.Typed.{IsTyped, IsTypedStatement}
use Rattle.step_statements.specs.Arguments.{FitCall}
use Rattle.branch_refinement.specs.Arms.{IsArmOf}
use Rattle.abstract_step.specs.Standing.{HereParts, place_of, path_at, function_here, StandsAt, IsSwitchAt, IsCallAt, GoesBackTo, IsTaken}
use Rattle.abstract_step.specs.Turns.{seen_point, numbered_arm, IsTurn}

-- where a block ends so, its node leads to where this leads
pub stands_leads : (here : HereParts) (block : ℕ) (ending : BlockEnding) → StandsAt here block ending → (goal : Goal)
    → EndLeads (seen here.checked) (path_at here) block (Some ending) goal
    → Leads (seen here.checked) (place_of here) goal
stands_leads here block ending stands goal leads =
    subst (λ (o : Option ℕ). PlaceLeads (seen here.checked) (path_at here) o goal) (sym stands.at)
    (subst (λ (o : Option BlockEnding). EndLeads (seen here.checked) (path_at here) block o goal) (sym stands.ends) leads)

-- the block is one of the function
pub block_low : (here : HereParts) (block : ℕ) → IsPlaced (seen here.checked) (place_of here)
    → (place_of here).block ≡ Some block
    → (function_here here < length (seen here.checked).funcs) × (block < length (blocks_at (seen here.checked) (function_here here)))
block_low here block placed at = (placed.function, subst (HasBlock (seen here.checked) (function_here here)) at placed.block)

-- it ends as the program says
pub stands_at : (here : HereParts) (block func : ℕ) (row : NumberedBlock) → IsKept (seen here.checked)
    → IsPlaced (seen here.checked) (place_of here) → func ≡ function_here here → (place_of here).block ≡ Some block
    → slice_get (blocks_at (seen here.checked) func) block ≡ Some row
    → KeepsBlock (seen here.checked) func block row → StandsAt here block row.ending
stands_at here block func row kept placed is at found keeps = record {
  kept = kept;
  placed = placed;
  at = at;
  ends = ap (option_map (λ (b : NumberedBlock). b.ending)) (subst (λ (f : ℕ). slice_get (blocks_at (seen here.checked) f) block ≡ Some row) is found);
  keeps = subst (λ (f : ℕ). KeepsEnding (seen here.checked) f block row.ending) is keeps.ending;
}

-- ---- what code finds

-- a value, by the program's own frames
pub value_left : (here : HereParts) (memory : MemoryParts) (e : NumberedExpression) (o : Option AbstractValue) (v : AbstractValue) (faults : FaultSet) → IsOwn here.checked memory → o ≡ Some v
    → record { left = o; faults = faults } ≡ value_at (rows_of memory.checked) (memory_in memory) e → record { left = Some v; faults = faults } ≡ value_at (frames_of (seen here.checked)) (memory_in memory) e
value_left here memory e o v faults own some found =
    ap (λ (x : Option AbstractValue). record { left = x; faults = faults }) (sym some) ∙ found ∙ ap (λ (p : CheckedParts). value_at (rows_of p) (memory_in memory) e) own.checked

-- and the values of arguments
pub values_left : (here : HereParts) (memory : MemoryParts) (es : List NumberedExpression) (o : Option (Vec AbstractValue Global)) (vs : Vec AbstractValue Global) (given : List AbstractValue) (faults : FaultSet)
    → IsOwn here.checked memory → o ≡ Some vs → given ≡ vs.items
    → record { left = option_map (λ (values : Vec AbstractValue Global). values.items) o; faults = faults } ≡ arguments_at (rows_of memory.checked) (memory_in memory) es
    → record { left = Some given; faults = faults } ≡ arguments_at (frames_of (seen here.checked)) (memory_in memory) es
values_left here memory es o vs given faults own some items found =
    ap (λ (xs : List AbstractValue). record { left = Some xs; faults = faults }) items
    ∙ ap (λ (x : Option (Vec AbstractValue Global)). record { left = option_map (λ (values : Vec AbstractValue Global). values.items) x; faults = faults }) (sym some) ∙ found
    ∙ ap (λ (p : CheckedParts). arguments_at (rows_of p) (memory_in memory) es) own.checked

-- ---- what keeps the rules

-- statements keep the rules
pub each_typed : (table : List FrameRow) (k : ℕ) (ss : List NumberedStatement) → All (KeepsStatement table k) ss
    → AllByRecursion IsTypedStatement ss
each_typed table k [] keep = tt
each_typed table k (s ∷ ss) keep = (
  record { table = table; function = k; keeps = All-head (KeepsStatement table k) s ss keep },
  each_typed table k ss (All-tail (KeepsStatement table k) s ss keep),
)

arguments_have : (table : List FrameRow) (k : ℕ) (args : List ℕ) (es : List NumberedExpression)
    → AllZip (ArgumentKeeps table k) args es → AllByRecursion IsTyped es
arguments_have table k [] [] keep = tt
arguments_have table k [] (e ∷ es) keep = absurd keep
arguments_have table k (f ∷ args) [] keep = absurd keep
arguments_have table k (f ∷ args) (e ∷ es) keep = (
  record { table = table; function = k; size = keep.0.row.bits; has = keep.0.value_has },
  arguments_have table k args es keep.1,
)

-- arguments have sizes
pub arguments_typed : (here : HereParts) (f : ℕ) (args : List NumberedExpression) → IsCallAt here f args
    → AllByRecursion IsTyped args
arguments_typed here f args call =
    let keep = call.stands.keeps in arguments_have (seen here.checked).frames (function_here here) keep.function.args args keep.args_keep

-- values of arguments are those of a call
pub call_fits : (here : HereParts) (f : ℕ) (args : List NumberedExpression) (m : Mem abstract_sets) (vs : List AbstractValue) (faults : FaultSet) → IsCallAt here f args → MemSized abstract_sets m
    → record { left = Some vs; faults = faults } ≡ arguments_at (frames_of (seen here.checked)) m args → FitCall (seen here.checked) f vs
call_fits here f args m vs faults call sized found =
    let keep = call.stands.keeps in record {
      caller = function_here here;
      function = keep.function;
      at = keep.at;
      are = subst (λ (r : Remains (List AbstractValue)). IfLeft (AllZip (ArgumentIs (seen here.checked).frames (function_here here)) keep.function.args) r) (sym found)
          (arguments_sized (seen here.checked).frames (frames_of (seen here.checked)) m sized (function_here here) keep.function.args args keep.args_keep);
    }

-- ---- returns

-- what is returned to a call has the size of a cell
pub returned_taken : (here : HereParts) (block : ℕ) (e : NumberedExpression) (m : Mem abstract_sets) (v : AbstractValue) (faults : FaultSet)
    → StandsAt here block (Return (Some e)) → MemSized abstract_sets m → record { left = Some v; faults = faults } ≡ value_at (frames_of (seen here.checked)) m e → IsTaken (path_at here) (Some v)
returned_taken here block e m v faults stands sized found = go (path_at here) stands.placed.path stands.ends
  where
    program : NumberedProgram
    program = seen here.checked

    cell : (f : ℕ) (to : Option (ℕ × ℕ)) → Gives program.frames f to (Some e) → HasCellSize program.frames f e
    cell f None gives = absurd gives
    cell f (Some to) gives = gives

    row_of : (f b : ℕ) → ending_at program f b ≡ Some (Return (Some e))
        → (row : NumberedBlock) × (slice_get (blocks_at program f) b ≡ Some row) × (row.ending ≡ Return (Some e))
    row_of f b ends = found_in (slice_get (blocks_at program f) b) refl ends
      where
        found_in : (o : Option NumberedBlock) → slice_get (blocks_at program f) b ≡ o
            → option_map (λ (r : NumberedBlock). r.ending) o ≡ Some (Return (Some e))
            → (row : NumberedBlock) × (slice_get (blocks_at program f) b ≡ Some row) × (row.ending ≡ Return (Some e))
        found_in None at same = absurd (cc)
        found_in (Some row) at same = (row, at, same_Some row.ending (Return (Some e)) same)

    go : (path : List ℕ) → IsCallPath program path
        → ending_at program (function_at program path) block ≡ Some (Return (Some e)) → IsTaken path (Some v)
    go [] calls ends = tt
    go (c ∷ path) calls ends =
        let back = back_of program stands.kept path c calls in
        let row = row_of (function_at program (c ∷ path)) block ends in
        let is = cell (function_at program (c ∷ path)) back.call.result (back_gives program stands.kept path c block row.0 (Some e) back row.1 row.2) in
        record {
          size = is.size;
          cell = cell_size is.size is.cell;
          is = subst (λ (r : Remains AbstractValue). IfLeft (IsValue is.size) r) (sym found) (value_sized program.frames (frames_of program) m sized (function_at program (c ∷ path)) e is.size is.value_has);
        }

-- the call that it goes back to
pub record Back (here : HereParts) (block : ℕ) (rest : List ℕ) : Type 0 where
  pub call : IsCall (seen here.checked) (function_at (seen here.checked) rest) block
  pub low : function_at (seen here.checked) rest < length (seen here.checked).funcs
  pub there : block < length (blocks_at (seen here.checked) (function_at (seen here.checked) rest))
  pub leads : Leads (seen here.checked) (place_of here) (Some (block_node rest call.next))

pub back_at : (here : HereParts) (block : ℕ) (rest : List ℕ) → GoesBackTo here block → path_at here ≡ block ∷ rest
    → Back here block rest
back_at here block rest back cons =
    let program = seen here.checked in
    let keeps = back.returns.stands.kept in
    let calls : IsCallPath program (block ∷ rest) = subst (IsCallPath program) cons back.returns.stands.placed.path in
    let call = calls.0 in
    let returns : (goal : Goal) → ReturnLeads program (path_at here) goal → Leads program (place_of here) goal = λ goal leads. stands_leads here back.returns.block (Return back.returns.value) back.returns.stands goal leads in
    record {
      call = call;
      low = path_low program keeps rest calls.1;
      there = ending_low program keeps (function_at program rest) block (Call call.callee call.args call.result call.next) call.ends;
      leads = returns (Some (block_node rest call.next)) (subst (λ (p : List ℕ). ReturnLeads program p (Some (block_node rest call.next))) (sym cons)
          (subst (λ (ending : Option BlockEnding). BackLeads rest ending (Some (block_node rest call.next))) (sym call.ends) refl));
    }

-- the block that the call stands in ends with it
pub end_there : (program : NumberedProgram) (f b : ℕ) (row : Block) (ending : BlockEnding)
    → slice_get (blocks_at program f) b ≡ Some (block_of row) → ending_at program f b ≡ Some ending
    → end_of row.end ≡ ending
end_there program f b row ending at ends = same_Some (end_of row.end) ending (sym (ap (option_map (λ (r : NumberedBlock). r.ending)) at) ∙ ends)

pub is_call : (end : BlockEnd) (f next : ℕ) (args : List NumberedExpression) (to : Option (ℕ × ℕ))
    → end_of end ≡ Call f args to next
    → ((g : ℕ) (terms : Vec Term Global) (cell : Option (ℕ × ℕ)) (after : ℕ) → end ≡ ends.Call g terms cell after → ⊥) → ⊥
is_call (ends.Fall n) f next args to same none = cc
is_call (ends.Jump n) f next args to same none = cc
is_call (ends.Switch value targets others) f next args to same none = cc
is_call (ends.Call g terms cell after) f next args to same none = none g terms cell after refl
is_call (ends.Return value) f next args to same none = cc

-- and the node leads to the block after it
pub back_leads : (here : HereParts) (block : ℕ) (rest : List ℕ) (back : Back here block rest) (f next : ℕ) (args : List NumberedExpression) (to : Option (ℕ × ℕ))
    → ending_at (seen here.checked) (function_at (seen here.checked) rest) block ≡ Some (Call f args to next) → Leads (seen here.checked) (place_of here) (Some (block_node rest next))
back_leads here block rest back f next args to ends =
    let same : next ≡ back.call.next = ap next_of (sym ends ∙ back.call.ends) in
    subst (λ (n : ℕ). Leads (seen here.checked) (place_of here) (Some (block_node rest n))) (sym same) back.leads

-- ---- switches

-- each arm leads to a node of the switch
arm_leads : (here : HereParts) (e : NumberedExpression) (targets : List (ℕ × ℕ)) (others : ℕ) (m : Mem abstract_sets) (switch : IsSwitchAt here e targets others) (points : List (ℕ × MemoryParts)) (goals : Goals)
    → map (λ (arm : ℕ × MemoryParts). (Some (block_node (path_at here) arm.0), memory_in arm.1)) points ≡ goals → EachGoal (IsArm (path_at here) targets others m) goals
    → All (λ (arm : ℕ × MemoryParts). Leads (seen here.checked) (place_of here) (Some (block_node (path_at here) arm.0))) points
arm_leads here e targets others m switch [] goals same each = All-nil (λ (arm : ℕ × MemoryParts). Leads (seen here.checked) (place_of here) (Some (block_node (path_at here) arm.0)))
arm_leads here e targets others m switch (arm ∷ points) [] same each = absurd (cc)
arm_leads here e targets others m switch (arm ∷ points) (goal ∷ goals) same each =
    let first : (Some (block_node (path_at here) arm.0), memory_in arm.1) ≡ goal = cc in
    let rest : map (λ (a : ℕ × MemoryParts). (Some (block_node (path_at here) a.0), memory_in a.1)) points ≡ goals = cc in
    let is : Some (block_node (path_at here) arm.0) ≡ goal.0 = ap (λ (g : Goal × Mem abstract_sets). g.0) first in
    All-cons (λ (a : ℕ × MemoryParts). Leads (seen here.checked) (place_of here) (Some (block_node (path_at here) a.0))) arm points
    (subst (Leads (seen here.checked) (place_of here)) (sym is) (stands_leads here switch.block (Switch e targets others) switch.stands goal.0 each.0.0))
    (arm_leads here e targets others m switch points goals rest each.1)

pub arms_lead : (here : HereParts) (e : NumberedExpression) (targets : List (ℕ × ℕ)) (others : ℕ) (m : Mem abstract_sets) (v : AbstractValue) (words : Stride) (faults : FaultSet) (points : List (ℕ × MemoryParts))
    → (switch : IsSwitchAt here e targets others) → MemSized abstract_sets m → record { left = Some v; faults = faults } ≡ value_at (frames_of (seen here.checked)) m e → v.words ≡ Some words
    → map (λ (arm : ℕ × MemoryParts). (Some (block_node (path_at here) arm.0), memory_in arm.1)) points ≡ arms (frames_of (seen here.checked)) m e (path_at here) targets others words
    → All (λ (arm : ℕ × MemoryParts). Leads (seen here.checked) (place_of here) (Some (block_node (path_at here) arm.0))) points
arms_lead here e targets others m v words faults points switch sized found of_words same =
    let program = seen here.checked in
    let f = function_here here in
    let keep = switch.stands.keeps in
    let of_v : IsValue keep.size v = subst (λ (r : Remains AbstractValue). IfLeft (IsValue keep.size) r) (sym found) (value_sized program.frames (frames_of program) m sized f e keep.size keep.value_has) in
    let of_size : IsOfSize stride_sets keep.size words = subst (λ (o : Option Stride). IfSome o (IsOfSize stride_sets keep.size)) of_words (words_of_size keep.size v of_v) in
    arm_leads here e targets others m switch points (arms (frames_of program) m e (path_at here) targets others words) same
    (arms_kept program.frames f (frames_of program) m sized e keep.size keep.value_has (path_at here) targets others words of_size
    (λ target among. (All-contains (TargetKeeps program f keep.size) targets target keep.targets_keep among).fits)
    (λ target among. inr (image (λ (t : ℕ × ℕ). t.1) targets target among)))

-- their memories are of the program
pub arms_own : (here : HereParts) (memory : MemoryParts) → IsOwn here.checked memory → (points : List (ℕ × MemoryParts))
    → All (IsArmOf memory) points → All (λ (point : ℕ × MemoryParts). IsOwn here.checked point.1) points
arms_own here memory own [] each = All-nil (λ (point : ℕ × MemoryParts). IsOwn here.checked point.1)
arms_own here memory own (p ∷ ps) each =
    let first = All-head (IsArmOf memory) p ps each in
    All-cons (λ (point : ℕ × MemoryParts). IsOwn here.checked point.1) p ps (record { checked = first.checked ∙ own.checked; is = first.kept }) (arms_own here memory own ps (All-tail (IsArmOf memory) p ps each))

-- the arms with the numbers of their nodes
pub arms_turn : (here : HereParts) (e : NumberedExpression) (targets : List (ℕ × ℕ)) (others : ℕ) (m : Mem abstract_sets) (v : AbstractValue) (words : Stride) (faults : FaultSet) (points next : List (ℕ × MemoryParts))
    → v.words ≡ Some words → faults ≡ pointer_fault v.places
    → map (λ (arm : ℕ × MemoryParts). (Some (block_node (path_at here) arm.0), memory_in arm.1)) points ≡ arms (frames_of (seen here.checked)) m e (path_at here) targets others words
    → All (λ (arm : ℕ × MemoryParts). IsOwn here.checked arm.1) points
    → next ≡ map (numbered_arm here) points
    → IsTurn here next faults (switched (frames_of (seen here.checked)) m e (path_at here) targets others v)
arms_turn here e targets others m v words faults points next of_words told same own numbers = subst (λ (ps : List (ℕ × MemoryParts)). IsTurn here ps faults (switched (frames_of (seen here.checked)) m e (path_at here) targets others v)) (sym numbers)
    (record {
      goals = seen_goals points ∙ ap (map (numbered_goal here.graph)) same
          ∙ ap (λ (o : Option Stride). map (numbered_goal here.graph) (goals_left (arms_of (frames_of (seen here.checked)) m e (path_at here) targets others o))) (sym of_words);
      same = told;
      own = own_still points own;
    })
  where
    seen_goals : (ps : List (ℕ × MemoryParts)) → map seen_point (map (numbered_arm here) ps)
        ≡ map (numbered_goal here.graph) (map (λ (arm : ℕ × MemoryParts). (Some (block_node (path_at here) arm.0), memory_in arm.1)) ps)
    seen_goals [] = refl
    seen_goals (p ∷ ps) = ap (λ (xs : List (ℕ × Mem abstract_sets)). seen_point (numbered_arm here p) ∷ xs) (seen_goals ps)

    own_still : (ps : List (ℕ × MemoryParts)) → All (λ (arm : ℕ × MemoryParts). IsOwn here.checked arm.1) ps
        → All (λ (point : ℕ × MemoryParts). IsOwn here.checked point.1) (map (numbered_arm here) ps)
    own_still [] each = All-nil (λ (point : ℕ × MemoryParts). IsOwn here.checked point.1)
    own_still (p ∷ ps) each = All-cons (λ (point : ℕ × MemoryParts). IsOwn here.checked point.1) (numbered_arm here p) (map (numbered_arm here) ps)
        (All-head (λ (point : ℕ × MemoryParts). IsOwn here.checked point.1) p ps each) (own_still ps (All-tail (λ (point : ℕ × MemoryParts). IsOwn here.checked point.1) p ps each))
