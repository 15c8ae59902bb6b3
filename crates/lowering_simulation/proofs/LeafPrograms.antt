-- A lowered program has the outcome of the unit.
use Rattle.std.proofs.Common.{◌≡◌, ◌<◌, ℕ, ◌+◌, Bool, true, false, List, [], ◌∷◌, map, length, slice_get, Contains, Option, Some, if◌then◌else◌, refl, sym, ap, ◌∙◌, subst, arith, ne_eqb, eq-eqb}
use Rattle.std.specs.Prelude.{slice_index, ◌==◌}
use Rattle.std.specs.Option.{option_map_or}
use Rattle.lists.specs.TestLaws.{by_test}
use Rattle.lists.specs.MemberLaws.{contained}
use Rattle.alf_ops.specs.declared.history.Value.{Value}
use Rattle.alf_ops.specs.declared.history.RunEvent.{RunEvent}
use Rattle.alf_ops.specs.declared.history.RunEvent.TheVariants.{Enter, Leave, Store}
use Rattle.alf_ops.specs.Histories.{is_running}
use Rattle.alf_ops.specs.Values.{size_of}
use Rattle.alf_program.specs.Tree as alf
use Rattle.alf_check.specs.declared.rows.InitRow.{InitRow}
use Rattle.alf_check.specs.declared.rows.InputRow.{InputRow}
use Rattle.alf_check.specs.CheckedPrograms.{NumberedProgram}
use Rattle.alf_check.specs.Numbers.{func_number, first_frame, numbers_in}
use Rattle.alf_check.specs.Numbered.{numbered}
use Rattle.alf_runs.specs.Entering.{args_at, inits_at, with_arguments, with_inits, entered}
use Rattle.alf_runs.specs.Outcomes.{Outcome}
use Rattle.alf_runs.specs.Starts.{with_inputs, start_history, start}
use Rattle.item_runs.specs.Following.{FollowEachOther}
use Rattle.item_runs.specs.CheckedItems.{no_numbers, with_items, EachFollowsItems}
use Rattle.c_unit.specs.Units.{UnitTree}
use Rattle.c_rules.specs.Names.{text_at}
use Rattle.c_rules.specs.Programs.{IsProgram}
use Rattle.c_rules.specs.UnitsStand.{UnitStands}
use Rattle.c_rules.specs.UnitsStandLaws.{unit_stands}
use Rattle.c_rules.specs.Recursion.{called_in}
use Rattle.c_meaning.specs.Objects.{Function, program_of, function_at}
use Rattle.c_meaning.specs.Programs as meaning
use Rattle.c_meaning.specs.Programs.{Cell, root_of, outcome}
use Rattle.c_lowered.specs.Frames.{all_frames_in}
use Rattle.c_lowered.specs.Programs.{lowered_function, function_items, lowered}
use Rattle.lowering_values.specs.Embedding.{embedded_value}
use Rattle.lowering_layout.specs.Spelled.{HasNames}
use Rattle.lowering_layout.specs.PlaceLaws.{each_of_places}
use Rattle.lowering_values.specs.Frames.{frame_number, is_object_frame}
use Rattle.lowering_values.specs.Agreement.{AreCells}
use Rattle.lowering_simulation.specs.Leaves.{StatementsDo}
use Rattle.lowering_simulation.specs.Functions.{Apart, FunctionsDo}
use Rattle.lowering_simulation.specs.Related.{AreRunning, RunsHaveTheUnitsOutcome}
use Rattle.lowering_simulation.specs.Outcomes.{IsSameOutcome}
use Rattle.lowering_simulation.specs.Laws.{ValueLaws}
use Rattle.lowering_simulation.specs.Correct.{IsLowered, FramesArePlaced, UnitIsPlain}
use Rattle.lowering_simulation.proofs.Callees.{low_named, call_falls, lowered_at, func_is, function_there}
use Rattle.lowering_simulation.proofs.Scopes.{BlockKnown, each_block}
use Rattle.lowering_simulation.proofs.Leaves.{of, Rel}
use Rattle.lowering_simulation.proofs.LeafCalls.{FineIfDefined, IsFrame}
use Rattle.lowering_simulation.proofs.LeafStatements.{statements_do}

-- ---- functions that run

running_store : (fs : List ℕ) (m : List RunEvent) (frame offset size : ℕ) (v : Value) → AreRunning fs m
    → AreRunning fs (Store frame offset size v ∷ m)
running_store [] m frame offset size v running = tt
running_store (f ∷ fs) m frame offset size v running = (running.0, running_store fs m frame offset size v running.1)

running_arguments : (fs frames : List ℕ) (vs : List Value) (m : List RunEvent) → AreRunning fs m
    → AreRunning fs (with_arguments frames vs m)
running_arguments fs [] vs m running = running
running_arguments fs (frame ∷ frames) [] m running = running
running_arguments fs (frame ∷ frames) (v ∷ vs) m running = running_arguments fs frames vs (Store frame 0 (size_of v) v ∷ m) (running_store fs m frame 0 (size_of v) v running)

running_inits : (fs : List ℕ) (inits : List InitRow) (m : List RunEvent) → AreRunning fs m
    → AreRunning fs (with_inits inits m)
running_inits fs [] m running = running
running_inits fs (init ∷ inits) m running = running_inits fs inits _ (running_store fs m init.frame init.offset init.num.size _ running)

running_inputs : (fs : List ℕ) (rows : List InputRow) (words : List ℕ) (m : List RunEvent) → AreRunning fs m
    → AreRunning fs (with_inputs rows words m)
running_inputs fs [] words m running = running
running_inputs fs (row ∷ rows) [] m running = running
running_inputs fs (row ∷ rows) (bits ∷ words) m running = running_inputs fs rows words _ (running_store fs m row.frame row.offset row.size _ running)

running_enter : (g : ℕ) (fs : List ℕ) (m : List RunEvent) → AreRunning fs m → AreRunning fs (Enter g ∷ m)
running_enter g [] m running = tt
running_enter g (f ∷ fs) m running =
    (by_test (g == f) (λ t. ap (λ (b : Bool). if b then true else is_running m f) t) (λ t. ap (λ (b : Bool). if b then true else is_running m f) t ∙ running.0), running_enter g fs m running.1)

running_entered : (program : NumberedProgram) (g : ℕ) (fs : List ℕ) (vs : List Value) (m : List RunEvent)
    → AreRunning fs m → AreRunning (g ∷ fs) (entered program g vs m)
running_entered program g fs vs m running =
    running_inits (g ∷ fs) (inits_at program g) (with_arguments (args_at program g) vs (Enter g ∷ m)) (running_arguments (g ∷ fs) (args_at program g) vs (Enter g ∷ m)
    (ap (λ (b : Bool). if b then true else is_running m g) (eq-eqb g g refl), running_enter g fs m running))

running_leave : (g : ℕ) (fs : List ℕ) (m : List RunEvent) → Apart g fs → AreRunning fs m → AreRunning fs (Leave g ∷ m)
running_leave g [] m apart running = tt
running_leave g (f ∷ fs) m apart running =
    (ap (λ (b : Bool). if b then false else is_running m f) (ne_eqb g f (λ e. apart.0 (sym e))) ∙ running.0, running_leave g fs m apart.1 running.1)

module _ (unit : UnitTree) (root : List ℕ) (laws : ValueLaws) where
  abbrev target : NumberedProgram
  target = numbered (lowered unit) root

  module _ (name ranks : List ℕ) (is : IsProgram unit name ranks) (names : HasNames (program_of unit)) (plain : UnitIsPlain unit) (placed : FramesArePlaced unit target) where
    abbrev rank : ℕ → ℕ
    rank g = slice_index ranks g

    abbrev related : List ℕ → List RunEvent → List RunEvent → Type 0
    related = Rel unit root rank

    stands : UnitStands unit
    stands = unit_stands unit is.no_faults

    -- what a function is lowered to
    lowered_there : (f : ℕ) → f < length (program_of unit).functions → slice_get (lowered unit).funcs f ≡ Some (lowered_function (program_of unit) f (function_at (program_of unit) f))
    lowered_there f low =
        lowered_at (program_of unit) 0 (program_of unit).functions f (function_at (program_of unit) f) (function_there (program_of unit) f low)
        ∙ ap (λ (n : ℕ). Some (lowered_function (program_of unit) n (function_at (program_of unit) f))) (let e : 0 + f ≡ f = omega arith in e)

    items_are : (f : ℕ) → f < length (program_of unit).functions
        → (of unit root rank).items f ≡ function_items (program_of unit) f (function_at (program_of unit) f)
    items_are f low = ap (λ (x : Option alf.Function). option_map_or (λ (func : alf.Function). func.items) x []) (lowered_there f low)

    func_named : (f : ℕ) → f < length (program_of unit).functions → (text : List ℕ)
        → ((of unit root rank).numbers f).func text ≡ func_number (lowered unit).funcs text
    func_named f low text = ap (λ (x : Option alf.Function). (option_map_or (numbers_in (lowered unit) (first_frame (lowered unit) f)) x no_numbers).func text) (lowered_there f low)

    -- the calls of a function
    fine_token : (f : ℕ) (low : f < length (program_of unit).functions) (token : ℕ)
        → Contains (called_in (function_at (program_of unit) f).body) token
        → FineIfDefined unit root rank laws placed.frames f (placed.naming f low) token
    fine_token f low token among defined =
        let there = low_named unit.words (record { scope = []; made = [] }) unit.externals (text_at unit.words token) defined in
        record {
          named = func_named f low (text_at unit.words token) ∙ func_is (program_of unit) (text_at unit.words token) there;
          there = there;
          lower = call_falls unit ranks is.ranked f (function_at (program_of unit) f) (function_there (program_of unit) f low) token among defined;
        }

    leaves_do : (f : ℕ) → f < length (program_of unit).functions
        → StatementsDo (of unit root rank) (program_of unit) (frame_number unit) related rank f false false (function_at (program_of unit) f).scopes (function_at (program_of unit) f).body 0
    leaves_do f low =
        let function : Function = function_at (program_of unit) f in
        let naming = placed.naming f low in
        let block : BlockKnown unit f function = each_block unit names stands f function (function_there (program_of unit) f low) in
        statements_do unit root rank laws placed.frames f naming false false _ function.scopes function.body 0 (record { breaks = refl; continues = refl; gives = refl }) block.known block.stands (plain.plain f low) block.own
        (each_of_places (FineIfDefined unit root rank laws placed.frames f naming) (called_in function.body) (λ j token at. fine_token f low token (contained (called_in function.body) j token at)))
        (each_of_places (IsFrame unit root rank laws placed.frames f naming) (all_frames_in (program_of unit) f 0 function.body) (λ j a at. contained (all_frames_in (program_of unit) f 0 function.body) j a at))

    functions_do : FunctionsDo (of unit root rank) (program_of unit) (frame_number unit) related rank
    functions_do = record {
      items = items_are;
      room = plain.few_labels;
      leaves = leaves_do;
      enter = λ g fs m h vs low whole rel. record { agree = laws.enters unit target g vs m h placed.laid whole rel.agree; running = running_entered target g fs (map (embedded_value (frame_number unit)) vs) m rel.running };
      leave = λ g fs m h apart rel. record { agree = (laws.events (frame_number unit) (is_object_frame unit) m h rel.agree).leave g; running = running_leave g fs m apart rel.running.1 };
    }

    -- the root of this name
    root_is : root ≡ name → target.root ≡ root_of unit name
    root_is same =
        ap (func_number (lowered unit).funcs) same
        ∙ func_is (program_of unit) name (low_named unit.words (record { scope = []; made = [] }) unit.externals name is.rooted)

    pub target_has_the_outcome : RunsHaveTheUnitsOutcome → root ≡ name
        → (rows : List InputRow) (words : List ℕ) (cells : List Cell) → AreCells unit rows words cells
        → ((history : List RunEvent) (t : ℕ) (o : Outcome) → FollowEachOther (of unit root rank) t history o)
        → IsSameOutcome target (start target rows words) (frame_number unit) (λ n. outcome unit name n cells)
    target_has_the_outcome runs same rows words cells are follow =
        let there : target.root < length (program_of unit).functions =
        subst (λ (r : ℕ). r < length (program_of unit).functions) (sym (root_is same)) (low_named unit.words (record { scope = []; made = [] }) unit.externals name is.rooted) in
        let m : List RunEvent = start_history target rows words in
        let begins : related (target.root ∷ []) m (meaning.start_history unit target.root cells) = record {
          agree = laws.starts unit target rows words cells placed.laid are;
          running = running_inputs (target.root ∷ []) rows words _ (running_entered target target.root [] [] (with_inits target.inits []) tt);
        } in
        subst (λ (r : ℕ). IsSameOutcome target (start target rows words) (frame_number unit) (λ n. meaning.outcome_of unit (meaning.ending unit r n cells))) (root_is same)
        (runs unit (of unit root rank) (frame_number unit) (is_object_frame unit) rank cells m functions_do
        (λ u h rel. laws.outputs unit target u h placed.laid rel.agree) there begins (follow m))

-- so has each checked program that the unit is lowered to
pub lowered_has_the_outcome : ValueLaws → RunsHaveTheUnitsOutcome → EachFollowsItems → (unit : UnitTree) (name ranks : List ℕ) (program : NumberedProgram) (rows : List InputRow) (words : List ℕ) (cells : List Cell)
    → IsProgram unit name ranks → HasNames (program_of unit) → UnitIsPlain unit → IsLowered unit name program → FramesArePlaced unit program → AreCells unit rows words cells
    → IsSameOutcome program (start program rows words) (frame_number unit) (λ n. outcome unit name n cells)
lowered_has_the_outcome laws runs follows unit name ranks program rows words cells is names plain lower placed are =
    let root : List ℕ = lower.kept.checked.root in
    let target : NumberedProgram = numbered (lowered unit) root in
    let same : program ≡ target = lower.kept.checked.numbers ∙ ap (λ (w : alf.WholeProgram). numbered w root) lower.whole in
    subst (λ (p : NumberedProgram). IsSameOutcome p (start p rows words) (frame_number unit) (λ n. outcome unit name n cells)) (sym same)
    (target_has_the_outcome unit root laws name ranks is names plain (subst (λ (p : NumberedProgram). FramesArePlaced unit p) same placed) runs lower.root rows words cells are
    (λ history t o. subst (λ (p : NumberedProgram). FollowEachOther (with_items p (lowered unit)) t history o) same
    (subst (λ (w : alf.WholeProgram). FollowEachOther (with_items program w) t history o) lower.whole (follows program lower.kept t history o))))
