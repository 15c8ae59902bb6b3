-- Functions do what they say, by recursion on the depth of calls.
--   function_run             the block of a function, and then back
--   called                   so does each call, as deep as is allowed
use Rattle.std.proofs.Common.{◌≡◌, ◌<◌, ◌≤◌, ℕ, zero, suc, ◌+◌, ◌-◌, ◌^◌, List, [], ◌∷◌, length, false, refl, sym, ap, subst, arith}
use Rattle.std.specs.Option.{option_map}
use Rattle.std.proofs.lemmas.Bool.{false≢true}
use Rattle.alf_ops.specs.declared.history.RunEvent.{RunEvent}
use Rattle.alf_ops.specs.declared.history.RunEvent.TheVariants.{Leave}
use Rattle.alf_program.specs.Tree.{BodyItem}
use Rattle.item_runs.specs.Stretches.{End, Leaves, items_after}
use Rattle.item_runs.specs.ItemRuns.{Waiting, Run, ItemProgram, ahead, back, tick}
use Rattle.c_unit.specs.declared.types.Integer.TheVariants.{Char, UnsignedChar, Short, UnsignedShort, Int, UnsignedInt}
use Rattle.c_unit.specs.declared.types.Outcome.{Outcome}
use Rattle.c_unit.specs.declared.types.Outcome.TheVariants as outcomes
use Rattle.c_meaning.specs.Objects.{Program, Function, function_at}
use Rattle.c_meaning.specs.Endings.{Ending, Normal, Broke, Continued, Returned, Faulted, UsedUp}
use Rattle.c_meaning.specs.Statements.{Callees, statements_done}
use Rattle.c_meaning.specs.Programs.{at_end, left, body_done, function_done}
use Rattle.c_lowered.specs.Conditions.{label}
use Rattle.c_lowered.specs.Statements.{labels_in_all}
use Rattle.c_lowered.specs.Programs.{last_return, nowhere, function_items}
use Rattle.lowering_values.specs.Embedding.{embedded_value}
use Rattle.lowering_simulation.specs.Counts.{count}
use Rattle.lowering_simulation.proofs.LabelLemmas.{label_stands_once}
use Rattle.lowering_simulation.specs.Places.{Stands}
use Rattle.lowering_simulation.specs.PlaceLaws.{stands_all}
use Rattle.lowering_simulation.specs.Leaves.{ResultFits}
use Rattle.lowering_simulation.specs.Functions.{Apart, FunctionsDo}
use Rattle.lowering_simulation.proofs.Comes.{functions_of, IsBelow, CallReaches, Reaches, on_from}
use Rattle.lowering_simulation.proofs.RunCalls.{Called, setting}
use Rattle.lowering_simulation.proofs.RunStatements.{all_run}

-- what a function gives at its end fits
end_fits : (o : Outcome) → ResultFits o (at_end o)
end_fits outcomes.Nothing = tt
end_fits (outcomes.Integer Char) = (refl, omega arith)
end_fits (outcomes.Integer UnsignedChar) = (refl, omega arith)
end_fits (outcomes.Integer Short) = (refl, omega arith)
end_fits (outcomes.Integer UnsignedShort) = (refl, omega arith)
end_fits (outcomes.Integer Int) = (refl, omega arith)
end_fits (outcomes.Integer UnsignedInt) = (refl, omega arith)

-- functions of greater ranks are others
apart_below : (rank : ℕ → ℕ) (g : ℕ) (stack : List Waiting) → IsBelow rank (rank g) stack → Apart g (functions_of stack)
apart_below rank g [] below = tt
apart_below rank g (waiting ∷ stack) below =
    ((λ (e : waiting.function ≡ g). let lt : rank g < rank waiting.function = below.0 in let same : rank waiting.function ≡ rank g = ap rank e in absurd (omega arith)), apart_below rank g stack below.1)

module _ (of : ItemProgram) (program : Program) (place : ℕ → ℕ) (Rel : List ℕ → List RunEvent → List RunEvent → Type 0) (rank : ℕ → ℕ) (does : FunctionsDo of program place Rel rank) where
  -- the last return of a function leaves it
  end_leaves : (g : ℕ) (o : Outcome) (m : List RunEvent)
      → ahead of g (last_return o ∷ []) m ≡ Leaves (option_map (embedded_value place) (at_end o)) m
  end_leaves g outcomes.Nothing m = refl
  end_leaves g (outcomes.Integer Char) m = refl
  end_leaves g (outcomes.Integer UnsignedChar) m = refl
  end_leaves g (outcomes.Integer Short) m = refl
  end_leaves g (outcomes.Integer UnsignedShort) m = refl
  end_leaves g (outcomes.Integer Int) m = refl
  end_leaves g (outcomes.Integer UnsignedInt) m = refl

  abbrev result_at : ℕ → Outcome
  result_at g = (function_at program g).result

  function_ends : (g : ℕ) (stack : List Waiting) (n : ℕ) (ko ka : List BodyItem) (start : End) (e : Ending)
      → IsBelow rank (rank g) stack
      → Reaches of program place Rel g stack false false n ko ka (last_return (result_at g) ∷ []) start e → CallReaches of program place Rel g stack n (Run g stack start) (left (result_at g) g e)
  function_ends g stack n ko ka start (Normal h) below r =
      record {
        fits = end_fits (result_at g);
        count = r.count + 1;
        memory = Leave g ∷ r.memory;
        rel = does.leave g (functions_of stack) r.memory h (apart_below rank g stack below) r.rel;
        so = on_from of r.count 1 (Run g stack start) (Run g stack (ahead of g (last_return (result_at g) ∷ []) r.memory))
            (back of stack (option_map (embedded_value place) (at_end (result_at g))) (Leave g ∷ r.memory)) r.so
            (ap (λ (end : End). tick of (Run g stack end)) (end_leaves g (result_at g) r.memory));
      }
  function_ends g stack n ko ka start (Broke h) below r = absurd (false≢true r.0)
  function_ends g stack n ko ka start (Continued h) below r = absurd (false≢true r.0)
  function_ends g stack n ko ka start (Returned v h) below r =
      let there = r.1 in
      record {
        fits = r.0;
        count = there.count + 1;
        memory = Leave g ∷ there.memory;
        rel = does.leave g (functions_of stack) there.memory h (apart_below rank g stack below) there.rel;
        so = on_from of there.count 1 (Run g stack start) (Run g stack (Leaves (option_map (embedded_value place) v) there.memory))
            (back of stack (option_map (embedded_value place) v) (Leave g ∷ there.memory)) there.so refl;
      }
  function_ends g stack n ko ka start (Faulted fault) below r = r
  function_ends g stack n ko ka start UsedUp below r = r

  -- each label of the function stands once
  once : (g : ℕ) → g < length program.functions → (l : ℕ) → l < 2 ^ 64
      → count (label (record { program = program; function = g }) l) (of.items g) ≤ 1
  once g there l low =
      subst (λ (items : List BodyItem). count (label (record { program = program; function = g }) l) items ≤ 1) (sym (does.items g there))
      (label_stands_once program g (function_at program g) l low (does.room g))

  pub function_run : (w : ℕ) (callees : Callees) (n n' : ℕ) (few : n ≤ w) (deep : n ≤ suc n') (goes : Called of program place Rel rank n' callees) (g : ℕ) (stack : List Waiting) (m h : List RunEvent)
      → g < length program.functions → IsBelow rank (rank g) stack → Rel (g ∷ functions_of stack) m h
      → CallReaches of program place Rel g stack n (Run g stack (ahead of g (of.items g) m)) (body_done program w callees g h)
  function_run w callees n n' few deep goes g stack m h there below rel =
      let function : Function = function_at program g in
      let items : List BodyItem = function_items program g function in
      let k : List BodyItem = last_return function.result ∷ [] in
      let out : List BodyItem = items_after [] (of.items g) in
      let stands : Stands (of.items g) items = subst (λ (all : List BodyItem). Stands all items) (sym (does.items g there)) (stands_all items) in
      let ending : Ending = statements_done (setting of program place Rel rank g stack w callees n n' deep goes below) function.scopes function.body h in
      subst (λ (x : List BodyItem). CallReaches of program place Rel g stack n (Run g stack (ahead of g x m)) (left function.result g ending)) (sym (does.items g there))
      (function_ends g stack n out out (ahead of g items m) ending below
      (all_run of program place Rel rank g stack (once g there) w callees n n' few deep goes below false false function.scopes function.body 0 0 nowhere out out k
      (let room : labels_in_all function.body ≤ 2 ^ 64 = does.room g in omega arith) stands refl refl (does.leaves g there) m h rel))

  pub called : (w depth n : ℕ) → n ≤ depth → n ≤ w → Called of program place Rel rank n (function_done program w depth)
  called w zero n le few g vs stack m h there below rel whole = record { count = 0; enough = omega arith; so = tt }
  called w (suc depth) n le few g vs stack m h there below rel whole =
      function_run w (function_done program w depth) n (n - 1) few (omega arith) (called w depth (n - 1) (omega arith) (omega arith)) g stack _ _ there below
      (does.enter g (functions_of stack) m h vs there whole rel)
