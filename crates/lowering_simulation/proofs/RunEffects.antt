-- Effects, declarations and returns do what they say.
use Rattle.std.proofs.Common.{◌≤◌, ℕ, zero, suc, ◌+◌, List, [], ◌∷◌, Option, Some, None, Ok, Bool, refl}
use Rattle.alf_ops.specs.declared.history.Value.TheVariants as values
use Rattle.alf_ops.specs.declared.history.RunEvent.{RunEvent}
use Rattle.alf_ops.specs.Histories.{store}
use Rattle.alf_program.specs.Tree.{NamedExpression, Address, Store, BodyItem, Do}
use Rattle.item_runs.specs.ItemRuns.{Waiting, ItemProgram, ahead}
use Rattle.c_unit.specs.declared.types.Integer.{Integer}
use Rattle.c_unit.specs.declared.types.Integer.TheVariants as integers
use Rattle.c_unit.specs.declared.types.Scalar.{Scalar}
use Rattle.c_unit.specs.declared.types.Scalar.TheVariants as scalars
use Rattle.c_unit.specs.declared.types.Constant.{Constant}
use Rattle.c_unit.specs.Tree.{ValueTree, OfExpression, OfCall, EffectTree, Assigns, Updates, Steps, Calls, LocalShapeTree, LocalInteger, LocalPointer, LocalArray, LocalTree}
use Rattle.c_rules.specs.Names.{Scope}
use Rattle.c_rules.specs.Statements.{with_local}
use Rattle.c_meaning.specs.Values.{Valued, bytes_of_type}
use Rattle.c_meaning.specs.Objects.{Program, object_at, shapes_of, function_at, count_at}
use Rattle.c_meaning.specs.Expressions as meaning
use Rattle.c_meaning.specs.Expressions.{kind_of}
use Rattle.c_meaning.specs.Endings.{History, Ending, Normal, after}
use Rattle.c_meaning.specs.Statements as does
use Rattle.c_meaning.specs.Statements.{Callees, callee, given, assigned, updated, one, step_operator, further_elements}
use Rattle.c_lowered.specs.Names.{frame_of}
use Rattle.c_lowered.specs.Values.{value_of, address_of, cut}
use Rattle.c_lowered.specs.Conditions.{Within}
use Rattle.c_lowered.specs.Effects.{call_value, value_items, assign, effect_items, first_element, element_items, first_items, array_items, shape_items, locals_items, calls_in_shape}
use Rattle.c_lowered.specs.Statements.{effect_if, return_item, return_items}
use Rattle.lowering_simulation.specs.Leaves.{ValueDoes, EffectDoes, IfDoes, FirstDoes, ElementsDo, ArrayDoes, ShapeDoes, LocalsDo, ReturnDoes}
use Rattle.lowering_simulation.proofs.Comes.{IsBelow, Here, Reaches, functions_of, sequence, stays, item_reaches}
use Rattle.lowering_simulation.proofs.RunCalls.{Called, call_run, setting}

module _ (of : ItemProgram) (program : Program) (place : ℕ → ℕ) (Rel : List ℕ → List RunEvent → List RunEvent → Type 0) (rank : ℕ → ℕ) (f : ℕ) (stack : List Waiting) where
  abbrev code : Within
  code = record { program = program; function = f }

  module _ (w : ℕ) (callees : Callees) (n n' : ℕ) (deep : n ≤ suc n') (goes : Called of program place Rel rank n' callees) (below : IsBelow rank (rank f) stack) where
    abbrev set : does.Setting
    set = setting of program place Rel rank f stack w callees n n' deep goes below

    -- from these items on, with k after them, the run goes as the ending says
    abbrev Goes : Bool → Bool → List BodyItem → List BodyItem → List BodyItem → List BodyItem → List RunEvent → Ending
        → Type 0
    Goes p q ko ka k items m e = Reaches of program place Rel f stack p q n ko ka k (ahead of f items m) e

    abbrev Related : List RunEvent → List RunEvent → Type 0
    Related m h = Here of program place Rel f stack m h

    module _ (p q : Bool) (ko ka : List BodyItem) where
      value_run : (scopes : List Scope) (value : ValueTree) (number : ℕ) (made : NamedExpression → BodyItem) (go : Valued → History → Ending) (k : List BodyItem) (m h : List RunEvent)
          → ValueDoes of program place Rel rank f scopes value number made go → Related m h
          → Goes p q ko ka k (value_items code scopes value number made k) m (does.valued set scopes value h go)
      value_run scopes (OfExpression e) number made go k m h do_so rel =
          item_reaches of program place Rel f stack rank p q n ko ka k (ahead of f (made (value_of program scopes e) ∷ k) m) (go (meaning.value_of program scopes h e) h)
          (do_so (functions_of stack) m h k rel)
      value_run scopes (OfCall call) number made go k m h do_so rel =
          call_run of program place Rel rank f stack w callees n n' deep goes below p q ko ka k scopes call number (λ rest. made (call_value code call number) ∷ rest)
          (λ v l. go (given (function_at program (callee program call)).result v) l) m h do_so rel

      pub effect_run : (scopes : List Scope) (e : EffectTree) (number : ℕ) (k : List BodyItem) (m h : List RunEvent)
          → EffectDoes of program place Rel rank f scopes e number → Related m h → Goes p q ko ka k (effect_items code scopes e number k) m (does.effect_done set scopes e h)
      effect_run scopes (Assigns to token value) number k m h do_so rel =
          value_run scopes value number (assign (kind_of program.words scopes to) (address_of program scopes to))
          (λ v l. assigned program (kind_of program.words scopes to) l (meaning.address_of program scopes l to) v) k m h do_so rel
      effect_run scopes (Updates to op token e) number k m h do_so rel =
          item_reaches of program place Rel f stack rank p q n ko ka k (ahead of f (effect_items code scopes (Updates to op token e) number k) m)
          (updated program scopes to op (kind_of program.words scopes e) (meaning.value_of program scopes h e) h) (do_so (functions_of stack) m h k rel)
      effect_run scopes (Steps operand up token) number k m h do_so rel =
          item_reaches of program place Rel f stack rank p q n ko ka k (ahead of f (effect_items code scopes (Steps operand up token) number k) m)
          (updated program scopes operand (step_operator up) (scalars.Integer integers.Int) one h) (do_so (functions_of stack) m h k rel)
      effect_run scopes (Calls call) number k m h do_so rel =
          call_run of program place Rel rank f stack w callees n n' deep goes below p q ko ka k scopes call number (λ rest. rest) (λ v l. Normal l) m h do_so rel

      pub effect_if_run : (scopes : List Scope) (e : Option EffectTree) (number : ℕ) (k : List BodyItem) (m h : List RunEvent)
          → IfDoes of program place Rel rank f scopes e number → Related m h → Goes p q ko ka k (effect_if code scopes e number k) m (does.effect_if set scopes e h)
      effect_if_run scopes None number k m h do_so rel = stays of program place Rel f stack p q n ko ka k m h rel
      effect_if_run scopes (Some e) number k m h do_so rel = effect_run scopes e number k m h do_so rel

      -- ---- declarations

      first_run : (scopes : List Scope) (t : Scalar) (token : ℕ) (first : Option ValueTree) (number : ℕ) (k : List BodyItem) (m h : List RunEvent)
          → FirstDoes of program place Rel rank f scopes t token first number → Related m h
          → Goes p q ko ka k (first_items code scopes t (frame_of program token) first number k) m (does.first_value set scopes t (object_at program.objects token) first h)
      first_run scopes t token None number k m h do_so rel = stays of program place Rel f stack p q n ko ka k m h rel
      first_run scopes t token (Some value) number k m h do_so rel =
          value_run scopes value number (assign t (Address (frame_of program token) 0)) (λ v l. assigned program t l (Ok (values.Ptr (object_at program.objects token) 0)) v) k m h do_so rel

      elements_run : (token : ℕ) (kind : Integer) (offset count : ℕ) (cs : List Constant) (k : List BodyItem) (m h : List RunEvent)
          → ElementsDo of program place Rel rank f token kind offset count cs → Related m h
          → Goes p q ko ka k (element_items program (frame_of program token) kind offset count cs k) m (does.elements_stored program (object_at program.objects token) kind offset count cs h)
      elements_run token kind offset zero cs k m h do_so rel = stays of program place Rel f stack p q n ko ka k m h rel
      elements_run token kind offset (suc count) cs k m h do_so rel =
          let others : List BodyItem = element_items program (frame_of program token) kind (offset + bytes_of_type kind) count (further_elements cs) k in
          let item : BodyItem = Do (Store (Address (frame_of program token) offset) (cut kind (first_element program cs))) in
          let ending : Ending = after (store (shapes_of program) h (values.Ptr (object_at program.objects token) offset) (does.first_element program.words kind cs)) in
          sequence of program place Rel f stack p q n ko ka others k (ahead of f (item ∷ others) m) ending
          (does.elements_stored program (object_at program.objects token) kind (offset + bytes_of_type kind) count (further_elements cs))
          (item_reaches of program place Rel f stack rank p q n ko ka others (ahead of f (item ∷ others) m) ending (do_so.0 (functions_of stack) m h others rel))
          (λ u l there. elements_run token kind (offset + bytes_of_type kind) count (further_elements cs) k u l do_so.1 there)

      array_run : (token : ℕ) (kind : Integer) (size : ℕ) (firsts : Option (List Constant)) (k : List BodyItem) (m h : List RunEvent)
          → ArrayDoes of program place Rel rank f token kind size firsts → Related m h
          → Goes p q ko ka k (array_items program kind (frame_of program token) size firsts k) m (does.first_elements program kind (object_at program.objects token) size firsts h)
      array_run token kind size None k m h do_so rel = stays of program place Rel f stack p q n ko ka k m h rel
      array_run token kind size (Some cs) k m h do_so rel = elements_run token kind 0 (count_at program.words size) cs k m h do_so rel

      shape_run : (scopes : List Scope) (kind : Integer) (token : ℕ) (shape : LocalShapeTree) (number : ℕ) (k : List BodyItem) (m h : List RunEvent)
          → ShapeDoes of program place Rel rank f scopes kind token shape number → Related m h
          → Goes p q ko ka k (shape_items code scopes kind (frame_of program token) shape number k) m (does.shape_done set scopes kind (object_at program.objects token) shape h)
      shape_run scopes kind token (LocalInteger first) number k m h do_so rel = first_run scopes (scalars.Integer kind) token first number k m h do_so rel
      shape_run scopes kind token (LocalPointer first) number k m h do_so rel = first_run scopes (scalars.Pointer kind) token first number k m h do_so rel
      shape_run scopes kind token (LocalArray size firsts) number k m h do_so rel = array_run token kind size firsts k m h do_so rel

      pub locals_run : (kind : Integer) (scopes : List Scope) (locals : List LocalTree) (number : ℕ) (k : List BodyItem) (m h : List RunEvent)
          → LocalsDo of program place Rel rank f kind scopes locals number → Related m h
          → Goes p q ko ka k (locals_items code kind scopes locals number k) m (does.locals_done set kind scopes locals h)
      locals_run kind scopes [] number k m h do_so rel = stays of program place Rel f stack p q n ko ka k m h rel
      locals_run kind scopes (local ∷ locals) number k m h do_so rel =
          let inner : List Scope = with_local kind scopes local in
          let others : List BodyItem = locals_items code kind inner locals (number + calls_in_shape program local.shape) k in
          let items : List BodyItem = shape_items code inner kind (frame_of program local.name) local.shape number others in
          sequence of program place Rel f stack p q n ko ka others k (ahead of f items m)
          (does.shape_done set inner kind (object_at program.objects local.name) local.shape h) (does.locals_done set kind inner locals)
          (shape_run inner kind local.name local.shape number others m h do_so.0 rel)
          (λ u l there. locals_run kind inner locals (number + calls_in_shape program local.shape) k u l do_so.1 there)

      -- ---- returns

      pub return_run : (scopes : List Scope) (value : Option ValueTree) (number : ℕ) (k : List BodyItem) (m h : List RunEvent)
          → ReturnDoes of program place Rel rank f scopes value number → Related m h
          → Goes p q ko ka k (return_items code scopes value number k) m (does.return_done set scopes value h)
      return_run scopes None number k m h do_so rel = (do_so, record { count = 0; memory = m; rel = rel; so = refl })
      return_run scopes (Some value) number k m h do_so rel =
          value_run scopes value number (return_item code) (does.returned (function_at program f).result) k m h do_so rel
