-- Runs by nodes keep to runs of items.
--   follow   a run that is over has the outcome of its items, and the other way round
use Rattle.std.proofs.Common.{◌≡◌, ◌≤◌, ◌+◌, ◌⊎◌, ℕ, zero, suc, List, [], ◌∷◌, length, map, Option, Some, None, Result, Ok, Err, refl, sym, ap, ◌∙◌, subst, inl, inr, arith}
use Rattle.std.specs.Prelude.{slice_get}
use Rattle.std.specs.Option.{option_map}
use Rattle.std.proofs.lemmas.Option.{slice_get_past}
use Rattle.alf_ops.specs.declared.history.Value.{Value}
use Rattle.alf_ops.specs.declared.history.Value.TheVariants.{Int, Ptr}
use Rattle.alf_ops.specs.declared.history.RunFault.{RunFault}
use Rattle.alf_ops.specs.declared.history.RunFault.TheVariants.{Kind}
use Rattle.alf_ops.specs.declared.history.RunEvent.{RunEvent}
use Rattle.alf_ops.specs.declared.history.RunEvent.TheVariants as events
use Rattle.alf_ops.specs.Histories.{store}
use Rattle.alf_ops.specs.Pointers.{operands}
use Rattle.alf_program.specs.Tree.{NumberedExpression, BodyItem}
use Rattle.alf_check.specs.CheckedPrograms.{NumberedProgram, NumberedBlock, BlockEnding, Fall, Jump, Switch, Call, Return, blocks_at}
use Rattle.flow_graph.specs.Nodes.{entry_node, block_node, ending_at, callee_of, function_at, first_node}
use Rattle.alf_runs.specs.Expressions.{value_of}
use Rattle.alf_runs.specs.Statements.{after_statements}
use Rattle.alf_runs.specs.Entering.{entered}
use Rattle.alf_runs.specs.Outcomes.{Outcome, Faulted, Lost}
use Rattle.alf_runs.specs.Steps.{Moment, At, Over, frames_of, target_of, step, switch_step, call_step, move_on, result_step, go_back, leave, return_step, ending_step, then_ending, block_step}
use Rattle.alf_runs.specs.Runs.{after}
use Rattle.alf_runs.specs.RunLaws.{AfterMore}
use Rattle.item_runs.specs.Stretches.{End, Falls, Goes, Enters, Leaves, Stops, IsNamed, GoesToNamed}
use Rattle.item_runs.specs.Cuts.{Leads, SwitchDoes, CallDoes, ReturnDoes, EndDoes, ThenDoes, BlockDoes}
use Rattle.item_runs.specs.ItemRuns.{Waiting, Standing, Run, Done, ItemProgram, ahead, resumed, result_stored, back, after_end, tick, ticks, at_start}
use Rattle.item_runs.specs.Following.{AreCut, FollowEachOther, RunsFollowItems}

module _ (of : ItemProgram) (are : AreCut of) where
  abbrev program : NumberedProgram
  program = of.program

  -- the items of function f from block b on
  abbrev from : ℕ → ℕ → List BodyItem
  from f b = (are.cut f).from b

  -- ---- paths and calls that wait

  data Tied : List ℕ → ℕ → List Waiting → Type 0 where
    tied_root : Tied [] of.program.root []
    tied_call : (path : List ℕ) (f : ℕ) (stack : List Waiting) (b g next : ℕ) (args : List NumberedExpression) (result : Option (ℕ × ℕ)) (rest : List BodyItem)
        → Tied path f stack → ending_at of.program f b ≡ Some (Call g args result next)
        → ((h : List RunEvent) → ahead of f rest h ≡ ahead of f ((are.cut f).from next) h)
        → Tied (b ∷ path) g (record { function = f; rest = rest; result = result } ∷ stack)

  tied_function : (path : List ℕ) (f : ℕ) (stack : List Waiting) → Tied path f stack → function_at program path ≡ f
  tied_function path f stack tied_root = refl
  tied_function path f stack (tied_call path' f' stack' b g next args result rest t e same) =
      ap (λ (k : ℕ). callee_of (ending_at program k b)) (tied_function path' f' stack' t) ∙ ap callee_of e

  -- the items at a place of function f
  abbrev items_at : ℕ → Option ℕ → List BodyItem
  items_at f None = of.items f
  items_at f (Some b) = from f b

  -- the run by nodes stands where that of items does
  record Stand (path : List ℕ) (block : Option ℕ) (history : List RunEvent) (standing : Standing) : Type 0 where
    f : ℕ
    stack : List Waiting
    tied : Tied path f stack
    is : standing ≡ Run f stack (ahead of f (items_at f block) history)

  abbrev Alike : Moment → Standing → Type 0
  Alike (At node history) standing = Stand node.path node.block history standing
  Alike (Over outcome) standing = standing ≡ Done outcome

  -- ---- functions left

  resumed_alike : (path : List ℕ) (f : ℕ) (stack : List Waiting) (rest : List BodyItem) (result : Option (ℕ × ℕ)) (next : ℕ) (r : Result (List RunEvent) RunFault) → Tied path f stack
      → ((h : List RunEvent) → ahead of f rest h ≡ ahead of f (from f next) h)
      → Alike (move_on path next r) (resumed of (record { function = f; rest = rest; result = result }) stack r)
  resumed_alike path f stack rest result next (Ok history) t same = record { f = f; stack = stack; tied = t; is = ap (Run f stack) (same history) }
  resumed_alike path f stack rest result next (Err fault) t same = refl

  result_alike : (path : List ℕ) (f : ℕ) (stack : List Waiting) (rest : List BodyItem) (own result : Option (ℕ × ℕ)) (next : ℕ) (value : Option Value) (history : List RunEvent) → Tied path f stack
      → ((h : List RunEvent) → ahead of f rest h ≡ ahead of f (from f next) h)
      → Alike (result_step program path next result value history) (result_stored of (record { function = f; rest = rest; result = own }) stack result value history)
  result_alike path f stack rest own (Some to) next (Some value) history t same = resumed_alike path f stack rest own next (store (frames_of program) history (Ptr to.0 to.1) value) t same
  result_alike path f stack rest own None next None history t same = resumed_alike path f stack rest own next (Ok history) t same
  result_alike path f stack rest own (Some to) next None history t same = refl
  result_alike path f stack rest own None next (Some value) history t same = refl

  leave_alike : (path : List ℕ) (f : ℕ) (stack : List Waiting) (value : Option Value) (history : List RunEvent)
      → Tied path f stack
      → Alike (leave program path value history) (back of stack value (events.Leave f ∷ history))
  leave_alike path f stack value history tied_root = refl
  leave_alike path f stack value history (tied_call path' f' stack' b g next args result rest t e same) =
      let waiting : Waiting = record { function = f'; rest = rest; result = result } in
      let left : function_at program (b ∷ path') ≡ g = tied_function (b ∷ path') g (waiting ∷ stack') (tied_call path' f' stack' b g next args result rest t e same) in
      let ending : ending_at program (function_at program path') b ≡ Some (Call g args result next) = ap (λ (k : ℕ). ending_at program k b) (tied_function path' f' stack' t) ∙ e in
      subst (λ (o : Option BlockEnding). Alike (go_back program path' o value (events.Leave (function_at program (b ∷ path')) ∷ history)) (back of (waiting ∷ stack') value (events.Leave g ∷ history))) (sym ending)
      (subst (λ (k : ℕ). Alike (result_step program path' next result value (events.Leave k ∷ history)) (back of (waiting ∷ stack') value (events.Leave g ∷ history))) (sym left)
      (result_alike path' f' stack' rest result result next value (events.Leave g ∷ history) t same))

  -- ---- one step

  -- a step falls on to the next block of the instance, or goes where the stretch leads
  record FallsOn (path : List ℕ) (f : ℕ) (b : ℕ) (moment : Moment) (end : End) : Type 0 where
    history : List RunEvent
    at : moment ≡ At (block_node path (suc b)) history
    is : end ≡ ahead of f (from f (suc b)) history

  abbrev Goes_on : List ℕ → ℕ → List Waiting → ℕ → Moment → End → Type 0
  Goes_on path f stack b moment end = FallsOn path f b moment end ⊎ Alike moment (after_end of f stack end)

  -- where the end is known
  known : (moment : Moment) (f : ℕ) (stack : List Waiting) (end other : End) → end ≡ other
      → Alike moment (after_end of f stack other) → Alike moment (after_end of f stack end)
  known moment f stack end other e alike = subst (λ (x : End). Alike moment (after_end of f stack x)) (sym e) alike

  module _ (path : List ℕ) (f : ℕ) (stack : List Waiting) (tied : Tied path f stack) (b : ℕ) (end : End)
      (named : (label : List ℕ) (history : List RunEvent) → end ≡ Goes label history → IsNamed (of.items f) label) where
    leads_alike : (to : ℕ) (history : List RunEvent)
        → Leads (frames_of program) (of.numbers f) (of.items f) (from f to) history end
        → Alike (At (block_node path to) history) (after_end of f stack end)
    leads_alike to history leads =
        let same = leads.same (are.stand f leads.label (named leads.label history leads.goes)) in
        known (At (block_node path to) history) f stack end (Goes leads.label history) leads.goes
        (record { f = f; stack = stack; tied = tied; is = ap (Run f stack) (same history) })

    switch_alike : (targets : List (ℕ × ℕ)) (others : ℕ) (history : List RunEvent) (r : Result Value RunFault)
        → SwitchDoes (frames_of program) (of.numbers f) (of.items f) (from f) targets others history end r
        → Alike (switch_step path targets others history r) (after_end of f stack end)
    switch_alike targets others history (Ok (Int size word)) does = leads_alike (target_of targets others word) history does
    switch_alike targets others history (Ok (Ptr frame offset)) does = known (Over (Faulted Kind)) f stack end (Stops Kind) does refl
    switch_alike targets others history (Err fault) does = known (Over (Faulted fault)) f stack end (Stops fault) does refl

    call_alike : (g : ℕ) (args : List NumberedExpression) (result : Option (ℕ × ℕ)) (next : ℕ) (history : List RunEvent) (r : Result (List Value) RunFault) → ending_at program f b ≡ Some (Call g args result next)
        → CallDoes (frames_of program) (of.numbers f) g result (from f next) history end r → Alike (call_step program path b g history r) (after_end of f stack end)
    call_alike g args result next history (Ok values) ends does =
        known (At (entry_node (b ∷ path)) (entered program g values history)) f stack end (Enters g values result does.rest history) does.enters
        (record { f = g; stack = record { function = f; rest = does.rest; result = result } ∷ stack; tied = tied_call path f stack b g next args result does.rest tied ends does.same; is = refl })
    call_alike g args result next history (Err fault) ends does = known (Over (Faulted fault)) f stack end (Stops fault) does refl

    return_alike : (history : List RunEvent) (r : Result Value RunFault)
        → ReturnDoes (frames_of program) (of.numbers f) history end r
        → Alike (return_step program path history r) (after_end of f stack end)
    return_alike history (Ok value) does = known (leave program path (Some value) history) f stack end (Leaves (Some value) history) does (leave_alike path f stack (Some value) history tied)
    return_alike history (Err fault) does = known (Over (Faulted fault)) f stack end (Stops fault) does refl

    end_goes : (ending : BlockEnding) (history : List RunEvent) → ending_at program f b ≡ Some ending
        → EndDoes (frames_of program) (of.numbers f) (of.items f) (from f) b ending history end
        → Goes_on path f stack b (ending_step program path b ending history) end
    end_goes (Fall next) history ends does =
        inl (record { history = history; at = ap (λ (n : ℕ). At (block_node path n) history) does.0; is = does.1 ∙ ap (λ (n : ℕ). ahead of f (from f n) history) does.0 })
    end_goes (Jump to) history ends does = inr (leads_alike to history does)
    end_goes (Switch value targets others) history ends does = inr (switch_alike targets others history (value_of (frames_of program) history value) does)
    end_goes (Call g args result next) history ends does = inr (call_alike g args result next history (operands (map (value_of (frames_of program) history) args)) ends does)
    end_goes (Return None) history ends does = inr (known (leave program path None history) f stack end (Leaves None history) does (leave_alike path f stack None history tied))
    end_goes (Return (Some value)) history ends does = inr (return_alike history (value_of (frames_of program) history value) does)

    then_goes : (ending : BlockEnding) (r : Result (List RunEvent) RunFault) → ending_at program f b ≡ Some ending
        → ThenDoes (frames_of program) (of.numbers f) (of.items f) (from f) b ending end r
        → Goes_on path f stack b (then_ending program path b ending r) end
    then_goes ending (Ok history) ends does = end_goes ending history ends does
    then_goes ending (Err fault) ends does = inr (known (Over (Faulted fault)) f stack end (Stops fault) does refl)

  module _ (goes : GoesToNamed) (more : AfterMore) where
    -- a block goes on as its items do
    block_goes : (path : List ℕ) (f : ℕ) (stack : List Waiting) → Tied path f stack → (b : ℕ) (history : List RunEvent)
        → Goes_on path f stack b (block_step program path b (slice_get (blocks_at program f) b) history) (ahead of f (from f b) history)
    block_goes path f stack tied b history = go (slice_get (blocks_at program f) b) refl ((are.cut f).does b history) where
      go : (o : Option NumberedBlock) → slice_get (blocks_at program f) b ≡ o
          → BlockDoes (frames_of program) (of.numbers f) (of.items f) (from f) b o history
          → Goes_on path f stack b (block_step program path b o history) (ahead of f (from f b) history)
      go None e does = inr (known (Over Lost) f stack (ahead of f (from f b) history) (Falls history) does refl)
      go (Some block) e does =
          then_goes path f stack tied b (ahead of f (from f b) history)
          (λ label later h. (are.cut f).among b label (goes (frames_of program) (of.numbers f) (from f b) history later label h))
          block.ending (after_statements (frames_of program) block.statements (Ok history)) (ap (option_map (λ (it : NumberedBlock). it.ending)) e) does

    -- a step at a block
    step_at : (path : List ℕ) (f : ℕ) (stack : List Waiting) → Tied path f stack → (b : ℕ) (history : List RunEvent)
        → Goes_on path f stack b (step program (At (block_node path b) history)) (ahead of f (from f b) history)
    step_at path f stack tied b history =
        subst (λ (k : ℕ). Goes_on path f stack b (block_step program path b (slice_get (blocks_at program k) b) history) (ahead of f (from f b) history)) (sym (tied_function path f stack tied))
        (block_goes path f stack tied b history)

    -- a step from an entry stands where it did
    enters_alike : (path : List ℕ) (f : ℕ) (stack : List Waiting) → Tied path f stack → (history : List RunEvent)
        → Alike (At (block_node path 0) history) (Run f stack (ahead of f (of.items f) history))
    enters_alike path f stack tied history =
        record { f = f; stack = stack; tied = tied; is = ap (λ (items : List BodyItem). Run f stack (ahead of f items history)) (sym ((are.cut f).first)) }

    -- ---- as many steps

    one_step : (moment : Moment) (standing : Standing) → Alike moment standing
        → Alike (step program moment) standing ⊎ Alike (step program moment) (tick of standing)
    one_step (Over outcome) standing alike = inl alike
    one_step (At node history) standing alike = by_block node.block alike where
      by_block : (block : Option ℕ) → Stand node.path block history standing
          → Alike (step program (At (record { path = node.path; block = block }) history)) standing ⊎ Alike (step program (At (record { path = node.path; block = block }) history)) (tick of standing)
      by_block None stand = inl (subst (λ (s : Standing). Alike (At (block_node node.path 0) history) s) (sym stand.is) (enters_alike node.path stand.f stand.stack stand.tied history))
      by_block (Some b) stand = by_goes (step_at node.path stand.f stand.stack stand.tied b history) where
        by_goes : Goes_on node.path stand.f stand.stack b (step program (At (block_node node.path b) history)) (ahead of stand.f (from stand.f b) history)
            → Alike (step program (At (block_node node.path b) history)) standing ⊎ Alike (step program (At (block_node node.path b) history)) (tick of standing)
        by_goes (inl falls) =
            let next : Stand node.path (Some (suc b)) falls.history standing = record { f = stand.f; stack = stand.stack; tied = stand.tied; is = stand.is ∙ ap (Run stand.f stand.stack) falls.is } in
            inl (subst (λ (m : Moment). Alike m standing) (sym falls.at) next)
        by_goes (inr leads) = inr (subst (λ (s : Standing). Alike (step program (At (block_node node.path b) history)) (tick of s)) (sym stand.is) leads)

    record Keeps (t : ℕ) (moment : Moment) (standing : Standing) : Type 0 where
      count : ℕ
      few : count ≤ t
      alike : Alike (after program t moment) (ticks of count standing)

    keeps : (t : ℕ) (moment : Moment) (standing : Standing) → Alike moment standing → Keeps t moment standing
    keeps zero moment standing alike = record { count = 0; few = omega arith; alike = alike }
    keeps (suc t) moment standing alike = by_step (one_step moment standing alike) (λ s a. keeps t (step program moment) s a) where
      by_step : Alike (step program moment) standing ⊎ Alike (step program moment) (tick of standing)
          → ((s : Standing) → Alike (step program moment) s → Keeps t (step program moment) s) → Keeps (suc t) moment standing
      by_step (inl same) further = let rest = further standing same in let few = rest.few in record { count = rest.count; few = omega arith; alike = rest.alike }
      by_step (inr next) further = let rest = further (tick of standing) next in let few = rest.few in record { count = suc rest.count; few = omega arith; alike = rest.alike }

    -- ---- as many stretches

    record Reaches (t : ℕ) (moment : Moment) (standing : Standing) : Type 0 where
      count : ℕ
      many : t ≤ count
      alike : Alike (after program count moment) standing

    -- a block goes where its stretch leads, or where the next block does
    goes_through : (path : List ℕ) (f : ℕ) (stack : List Waiting) (b : ℕ) (history : List RunEvent)
        → Goes_on path f stack b (step program (At (block_node path b) history)) (ahead of f (from f b) history)
        → ((falls : FallsOn path f b (step program (At (block_node path b) history)) (ahead of f (from f b) history)) → Reaches 1 (At (block_node path (suc b)) falls.history) (after_end of f stack (ahead of f (from f (suc b)) falls.history)))
        → Reaches 1 (At (block_node path b) history) (after_end of f stack (ahead of f (from f b) history))
    goes_through path f stack b history (inr leads) further = record { count = 1; many = omega arith; alike = leads }
    goes_through path f stack b history (inl falls) further =
        let rest = further falls in
        let many = rest.many in
        record {
          count = suc rest.count;
          many = omega arith;
          alike = subst (λ (m : Moment). Alike (after program rest.count m) (after_end of f stack (ahead of f (from f b) history))) (sym falls.at)
              (subst (λ (e : End). Alike (after program rest.count (At (block_node path (suc b)) falls.history)) (after_end of f stack e)) (sym falls.is) rest.alike);
        }

    -- where there is no block the run is lost
    lost : (path : List ℕ) (f : ℕ) (stack : List Waiting) → Tied path f stack → (b : ℕ) (history : List RunEvent)
        → length (blocks_at program f) ≤ b → step program (At (block_node path b) history) ≡ Over Lost
    lost path f stack tied b history past =
        ap (λ (k : ℕ). block_step program path b (slice_get (blocks_at program k) b) history) (tied_function path f stack tied)
        ∙ ap (λ (o : Option NumberedBlock). block_step program path b o history) (slice_get_past (blocks_at program f) b past)

    -- from a block on, the blocks that fall on are no more than there are
    falls_through : (n : ℕ) (path : List ℕ) (f : ℕ) (stack : List Waiting) → Tied path f stack
        → (b : ℕ) (history : List RunEvent) → length (blocks_at program f) ≤ b + n
        → Reaches 1 (At (block_node path b) history) (after_end of f stack (ahead of f (from f b) history))
    falls_through zero path f stack tied b history low =
        goes_through path f stack b history (step_at path f stack tied b history) (λ falls. absurd (let gone = lost path f stack tied b history (omega arith) in let at = falls.at in cc))
    falls_through (suc n) path f stack tied b history low =
        goes_through path f stack b history (step_at path f stack tied b history) (λ falls. falls_through n path f stack tied (suc b) falls.history (omega arith))

    to_tick : (moment : Moment) (standing : Standing) → Alike moment standing → Reaches 1 moment (tick of standing)
    to_tick (Over outcome) standing alike = record { count = 1; many = omega arith; alike = ap (tick of) alike }
    to_tick (At node history) standing alike = by_block node.block alike where
      by_block : (block : Option ℕ) → Stand node.path block history standing
          → Reaches 1 (At (record { path = node.path; block = block }) history) (tick of standing)
      by_block (Some b) stand =
          subst (λ (s : Standing). Reaches 1 (At (block_node node.path b) history) (tick of s)) (sym stand.is)
          (falls_through (length (blocks_at program stand.f)) node.path stand.f stand.stack stand.tied b history (omega arith))
      by_block None stand =
          let rest = falls_through (length (blocks_at program stand.f)) node.path stand.f stand.stack stand.tied 0 history (omega arith) in
          let many = rest.many in
          subst (λ (s : Standing). Reaches 1 (At (entry_node node.path) history) (tick of s)) (sym stand.is)
          (record {
            count = suc rest.count;
            many = omega arith;
            alike = subst (λ (items : List BodyItem). Alike (after program rest.count (At (block_node node.path 0) history)) (after_end of stand.f stand.stack (ahead of stand.f items history))) ((are.cut stand.f).first) rest.alike;
          })

    reaches : (t : ℕ) (moment : Moment) (standing : Standing) → Alike moment standing
        → Reaches t moment (ticks of t standing)
    reaches zero moment standing alike = record { count = 0; many = omega arith; alike = alike }
    reaches (suc t) moment standing alike =
        let one = to_tick moment standing alike in
        let rest = reaches t (after program one.count moment) (tick of standing) one.alike in
        let first = one.many in
        let many = rest.many in
        record {
          count = one.count + rest.count;
          many = omega arith;
          alike = subst (λ (m : Moment). Alike m (ticks of (suc t) standing)) (sym ((more program one.count rest.count moment).stands)) rest.alike;
        }

    -- ---- the whole run

    started : (history : List RunEvent) → Alike (At first_node history) (at_start of history)
    started history = record { f = program.root; stack = []; tied = tied_root; is = refl }

    over_with : (moment : Moment) (standing : Standing) (outcome : Outcome) → Alike moment standing
        → standing ≡ Done outcome → moment ≡ Over outcome
    over_with (At node history) standing outcome stand done = absurd (let is = stand.is in cc)
    over_with (Over own) standing outcome is done = cc

    follow_each_other : (t : ℕ) (history : List RunEvent) (outcome : Outcome) → FollowEachOther of t history outcome
    follow_each_other t history outcome = record {
      ends = λ over.
          let kept = keeps t (At first_node history) (at_start of history) (started history) in
          record { count = kept.count; few = kept.few; done = subst (λ (m : Moment). Alike m (ticks of kept.count (at_start of history))) over kept.alike };
      is_over = λ done.
          let reached = reaches t (At first_node history) (at_start of history) (started history) in
          record { count = reached.count; many = reached.many; over = over_with (after program reached.count (At first_node history)) (ticks of t (at_start of history)) outcome reached.alike done };
    }

-- a run that is over has the outcome of its items, and the other way round
pub follow : GoesToNamed → AfterMore → RunsFollowItems
follow goes more of t history outcome are = follow_each_other of are goes more t history outcome
