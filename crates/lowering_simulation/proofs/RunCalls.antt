-- Calls do what the functions do, and go on after them.
--   Called n callees         each call of a function goes as its ending says
--   call_run                 so the items of a call do what it does
use Rattle.std.proofs.Common.{◌≡◌, ◌<◌, ◌≤◌, ℕ, suc, ◌+◌, List, [], ◌∷◌, map, length, All, Option, Some, None, Result, Ok, Err, Bool, refl, sym, ap, ◌∙◌, subst, arith}
use Rattle.std.specs.Option.{option_map}
use Rattle.alf_ops.specs.declared.history.Value.{Value}
use Rattle.alf_ops.specs.declared.history.RunFault.{RunFault}
use Rattle.alf_ops.specs.declared.history.RunEvent.{RunEvent}
use Rattle.alf_ops.specs.Pointers.{operands}
use Rattle.alf_ops.specs.Values.{size_of, FitsValue}
use Rattle.alf_program.specs.Tree.{BodyItem}
use Rattle.alf_runs.specs.Entering.{entered}
use Rattle.item_runs.specs.Stretches.{End, Enters, called as called_end, numbered_result}
use Rattle.item_runs.specs.ItemRuns.{Waiting, Standing, Run, ItemProgram, ahead, back, resumed}
use Rattle.c_unit.specs.declared.types.Outcome.{Outcome}
use Rattle.c_unit.specs.declared.types.Outcome.TheVariants as outcomes
use Rattle.c_unit.specs.Tree.{CallTree}
use Rattle.c_rules.specs.Names.{Scope, text_at}
use Rattle.c_meaning.specs.Objects.{Program, function_at}
use Rattle.c_meaning.specs.Endings.{History, Ending, Normal, Broke, Continued, Returned, Faulted, UsedUp, after_call, with_values}
use Rattle.c_meaning.specs.Statements as does
use Rattle.c_meaning.specs.Statements.{Setting, Callees, callee}
use Rattle.c_lowered.specs.Names.{call_name}
use Rattle.c_lowered.specs.Effects.{result_frame, call_items}
use Rattle.lowering_values.specs.Embedding.{embedded_value, embedded_results}
use Rattle.lowering_simulation.specs.Leaves.{ResultFits, ResultsDo, CallDoes, ItemEnds}
use Rattle.lowering_simulation.proofs.Comes.{functions_of, IsBelow, CallReaches, Here, standing, Reaches, on_from, later_reaches, item_reaches}

-- what is below a rank is below a greater one
below_more : (rank : ℕ → ℕ) (r s : ℕ) (stack : List Waiting) → r ≤ s → IsBelow rank s stack → IsBelow rank r stack
below_more rank r s [] le below = tt
below_more rank r s (waiting ∷ stack) le below = ((let lt : s < rank waiting.function = below.0 in omega arith), below_more rank r s stack le below.1)

module _ (of : ItemProgram) (program : Program) (place : ℕ → ℕ) (Rel : List ℕ → List RunEvent → List RunEvent → Type 0) (rank : ℕ → ℕ) where
  abbrev pub embed : Value → Value
  embed = embedded_value place

  -- where a function starts
  abbrev pub start_of : ℕ → List Waiting → List Value → List RunEvent → Standing
  start_of g stack vs m = Run g stack (ahead of g (of.items g) (entered of.program g (map embed vs) m))

  abbrev pub Called : ℕ → Callees → Type 0
  Called n callees = (g : ℕ) (vs : List Value) (stack : List Waiting) (m h : List RunEvent) → g < length program.functions → IsBelow rank (rank g) stack
      → Rel (functions_of stack) m h → All (λ v. FitsValue (size_of v) v) vs → CallReaches of program place Rel g stack n (start_of g stack vs m) (callees g vs h)

  module _ (f : ℕ) (stack : List Waiting) where
    abbrev Reached : Bool → Bool → ℕ → List BodyItem → List BodyItem → List BodyItem → End → Ending → Type 0
    Reached p q n ko ka k start r = Reaches of program place Rel f stack p q n ko ka k start r

    -- the call that waits for a result of this outcome, in the frame of this name
    abbrev waiting_for : Outcome → List ℕ → List BodyItem → Waiting
    waiting_for o name rest = record { function = f; rest = rest; result = numbered_result (of.numbers f) (result_frame o name) }

    -- the call goes on after its result is stored
    record Back (rest after : List BodyItem) (o : Outcome) (name : List ℕ) (v : Option Value) (m : List RunEvent) (e : Ending) : Type 0 where
      later : List RunEvent
      so : back of (waiting_for o name after ∷ stack) (option_map embed v) m ≡ standing of program place Rel f stack (ahead of f after later)
      ends : ItemEnds of program place Rel rank f (functions_of stack) rest (ahead of f after later) e

    comes_back : (o : Outcome) (name : List ℕ) (v : Option Value) (m h : List RunEvent) (rest : List BodyItem) (after : List BodyItem → List BodyItem) (go : Option Value → History → Ending)
        → ResultsDo of program place Rel rank f o name after go → ResultFits o v → Here of program place Rel f stack m h → Back rest (after rest) o name v m (go v h)
    comes_back outcomes.Nothing name None m h rest after go results fits rel = record { later = m; so = refl; ends = results (functions_of stack) m h rest rel }
    comes_back outcomes.Nothing name (Some v) m h rest after go results fits rel = absurd fits
    comes_back (outcomes.Integer i) name None m h rest after go results fits rel = absurd fits
    comes_back (outcomes.Integer i) name (Some v) m h rest after go results fits rel =
        let r = results (functions_of stack) m h v rest rel fits in
        record {
          later = r.later;
          so = ap (resumed of (waiting_for (outcomes.Integer i) name (after rest)) stack) r.stored;
          ends = r.ends;
        }

    module _ (w : ℕ) (callees : Callees) (n n' : ℕ) (deep : n ≤ suc n') (goes : Called n' callees) (below : IsBelow rank (rank f) stack) where
      abbrev pub setting : Setting
      setting = record { program = program; result = (function_at program f).result; turns = w; callees = callees }

      -- what a function does, and then the call
      entered_run : (p q : Bool) (ko ka k : List BodyItem) (g : ℕ) (name : List ℕ) (vs : List Value) (m h : List RunEvent) (after : List BodyItem → List BodyItem) (go : Option Value → History → Ending) (e : Ending)
          → ResultsDo of program place Rel rank f (function_at program g).result name after go
          → CallReaches of program place Rel g (waiting_for (function_at program g).result name (after k) ∷ stack) n' (start_of g (waiting_for (function_at program g).result name (after k) ∷ stack) vs m) e
          → Reached p q n ko ka k (Enters g (map embed vs) (numbered_result (of.numbers f) (result_frame (function_at program g).result name)) (after k) m) (after_call e go)
      entered_run p q ko ka k g name vs m h after go (Normal l) results r = absurd r
      entered_run p q ko ka k g name vs m h after go (Broke l) results r = absurd r
      entered_run p q ko ka k g name vs m h after go (Continued l) results r = absurd r
      entered_run p q ko ka k g name vs m h after go (Returned v l) results r =
          let b = comes_back (function_at program g).result name v r.memory l k after go results r.fits r.rel in
          let start : End = Enters g (map embed vs) (numbered_result (of.numbers f) (result_frame (function_at program g).result name)) (after k) m in
          later_reaches of program place Rel f stack p q n n (1 + r.count) ko ka k start (ahead of f (after k) b.later) (go v l) (omega arith)
          (on_from of 1 r.count (standing of program place Rel f stack start)
          (start_of g (waiting_for (function_at program g).result name (after k) ∷ stack) vs m)
          (standing of program place Rel f stack (ahead of f (after k) b.later)) refl (r.so ∙ b.so))
          (item_reaches of program place Rel f stack rank p q n ko ka k (ahead of f (after k) b.later) (go v l) b.ends)
      entered_run p q ko ka k g name vs m h after go (Faulted fault) results r = record { count = suc r.count; so = r.so }
      entered_run p q ko ka k g name vs m h after go UsedUp results r =
          record { count = suc r.count; enough = (let le : n' ≤ r.count = r.enough in omega arith); so = r.so }

      -- where the arguments are known, the function is entered
      operands_run : (p q : Bool) (ko ka k : List BodyItem) (number g : ℕ) (name : List ℕ) (m h : List RunEvent) (after : List BodyItem → List BodyItem) (go : Option Value → History → Ending) (r : Result (List Value) RunFault)
          → number ≡ g → g < length program.functions → rank g < rank f → ResultsDo of program place Rel rank f (function_at program g).result name after go
          → ((vs : List Value) → r ≡ Ok vs → All (λ v. FitsValue (size_of v) v) vs) → Here of program place Rel f stack m h
          → Reached p q n ko ka k (called_end number (numbered_result (of.numbers f) (result_frame (function_at program g).result name)) (after k) m (embedded_results place r))
          (with_values r (λ vs. after_call (callees g vs h) go))
      operands_run p q ko ka k number g name m h after go (Err fault) same there lower results fit rel = record { count = 1; so = refl }
      operands_run p q ko ka k number g name m h after go (Ok vs) same there lower results fit rel =
          let result : Option (ℕ × ℕ) = numbered_result (of.numbers f) (result_frame (function_at program g).result name) in
          let inner : List Waiting = waiting_for (function_at program g).result name (after k) ∷ stack in
          let all_below : IsBelow rank (rank g) inner = (lower, below_more rank (rank g) (rank f) stack (omega arith) below) in
          subst (λ (x : ℕ). Reached p q n ko ka k (Enters x (map embed vs) result (after k) m) (after_call (callees g vs h) go)) (sym same)
          (entered_run p q ko ka k g name vs m h after go (callees g vs h) results (goes g vs inner m h there all_below rel (fit vs refl)))

      pub call_run : (p q : Bool) (ko ka k : List BodyItem) (scopes : List Scope) (call : CallTree) (number : ℕ) (after : List BodyItem → List BodyItem) (go : Option Value → History → Ending) (m h : List RunEvent)
          → CallDoes of program place Rel rank f scopes call number after go → Here of program place Rel f stack m h
          → Reached p q n ko ka k (ahead of f (call_items (record { program = program; function = f }) scopes call number (after k)) m) (does.called setting scopes call h go)
      call_run p q ko ka k scopes call number after go m h c rel =
          let g : ℕ = callee program call in
          let name : List ℕ = call_name program f number in
          let label : ℕ = (of.numbers f).func (text_at program.words call.name) in
          let result : Option (ℕ × ℕ) = numbered_result (of.numbers f) (result_frame (function_at program g).result name) in
          let are = c.arguments_are (functions_of stack) m h rel in
          let values : Result (List Value) RunFault = operands (does.arguments program scopes h call.arguments (function_at program g).parameters) in
          subst (λ (r : Result (List Value) RunFault). Reached p q n ko ka k (called_end label result (after k) m r) (with_values values (λ vs. after_call (callees g vs h) go)))
          (sym are.agree)
          (operands_run p q ko ka k label g name m h after go values c.named c.there c.lower c.results are.fit rel)
