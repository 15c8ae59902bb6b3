-- Effects, declarations and returns do what the unit says.
use Rattle.std.proofs.Common.{◌≡◌, ℕ, zero, suc, ◌+◌, Bool, true, false, List, [], ◌∷◌, map, Option, Some, None, Ok, refl, sym, subst, arith}
use Rattle.alf_ops.specs.declared.history.Value.TheVariants as values
use Rattle.alf_ops.specs.declared.history.RunEvent.{RunEvent}
use Rattle.alf_program.specs.Tree.{NamedExpression, Address, Allocation}
use Rattle.c_unit.specs.declared.types.Integer.{Integer}
use Rattle.c_unit.specs.declared.types.Integer.TheVariants as integers
use Rattle.c_unit.specs.declared.types.Scalar.{Scalar}
use Rattle.c_unit.specs.declared.types.Scalar.TheVariants as scalars
use Rattle.c_unit.specs.declared.types.Outcome.{Outcome}
use Rattle.c_unit.specs.declared.types.Outcome.TheVariants as outcomes
use Rattle.c_unit.specs.declared.types.Constant.{Constant}
use Rattle.c_unit.specs.declared.expression.Binary.{Binary}
use Rattle.c_unit.specs.Tree.{Expression, ValueTree, EffectTree, Assigns, Updates, Steps, Calls, LocalShapeTree, LocalInteger, LocalPointer, LocalArray, LocalTree}
use Rattle.c_unit.specs.Units.{UnitTree}
use Rattle.c_rules.specs.Names.{Scope}
use Rattle.c_rules.specs.Expressions.{is_of_conditions}
use Rattle.c_rules.specs.Statements.{with_local}
use Rattle.c_rules.specs.Units.{definitions}
use Rattle.c_rules.specs.Recursion.{calls_in_effect, calls_if_done, calls_if_valued, calls_in_shape, calls_in_locals}
use Rattle.c_rules.specs.Standing.{IsTarget, IfValued, EffectStands, IfDone, ShapeStands, LocalsStand, ReturnStands}
use Rattle.c_meaning.specs.Values as meaning_values
use Rattle.c_meaning.specs.Values.{Valued, bits_of_type, bytes_of_type}
use Rattle.c_meaning.specs.Objects.{program_of, objects_of, object_at, function_at, count_at, local_object}
use Rattle.c_meaning.specs.Expressions as meaning
use Rattle.c_meaning.specs.Expressions.{kind_of}
use Rattle.c_meaning.specs.Endings.{History, Normal}
use Rattle.c_meaning.specs.Statements as does
use Rattle.c_meaning.specs.Statements.{callee, assigned, one, step_operator, further_elements, returned}
use Rattle.c_lowered.specs.Names.{frame_of}
use Rattle.c_lowered.specs.Values as lowered_values
use Rattle.c_lowered.specs.Values.{value_of, address_of, whole, cut}
use Rattle.c_lowered.specs.Effects as lowered_effects
use Rattle.c_lowered.specs.Effects.{assign, first_element}
use Rattle.c_lowered.specs.Statements.{return_item}
use Rattle.c_lowered.specs.Frames.{effect_frames, last_frames, first_frames, shape_frames, locals_frames}
use Rattle.lowering_layout.specs.Lists.{EachOf}
use Rattle.lowering_layout.specs.ListLaws.{each_parts}
use Rattle.lowering_values.specs.Frames.{frame_number, FramesStand, IsNaming, Sees}
use Rattle.lowering_values.specs.Agreement.{Gives, FitsValued, IsPlain}
use Rattle.lowering_simulation.specs.Leaves.{ResultFits, ItemDoes, EffectDoes, IfDoes, FirstDoes, ElementsDo, ArrayDoes, ShapeDoes, LocalsDo, ReturnDoes}
use Rattle.lowering_simulation.specs.Plain.{FirstIsPlain, EffectIsPlain, LastIsPlain, ShapeIsPlain, LocalsArePlain}
use Rattle.lowering_simulation.specs.Laws.{ValueLaws}
use Rattle.lowering_simulation.proofs.Scopes.{ScopesKnown, IsOwn, local_known}
use Rattle.lowering_simulation.proofs.Leaves.{of, Rel, here, store_does, assign_does, return_does}
use Rattle.lowering_simulation.proofs.LeafCalls.{FineIfDefined, IsFrame, call_does, dropped_results, value_does}

step_plain : (up : Bool) → is_of_conditions (step_operator up) ≡ false
step_plain true = refl
step_plain false = refl

module _ (unit : UnitTree) (root : List ℕ) (rank : ℕ → ℕ) (laws : ValueLaws) (frames : FramesStand unit) (f : ℕ) (naming : IsNaming unit f ((of unit root rank).numbers f).frame) where
  abbrev frame : List ℕ → ℕ
  frame = ((of unit root rank).numbers f).frame

  abbrev related : List ℕ → List RunEvent → List RunEvent → Type 0
  related = Rel unit root rank

  abbrev Fine : ℕ → Type 0
  Fine = FineIfDefined unit root rank laws frames f naming

  abbrev Framed : Allocation → Type 0
  Framed = IsFrame unit root rank laws frames f naming

  -- an update is an assignment of what the operator gives
  update_does : (scopes : List Scope) (to : Expression) (t : Scalar) (op : Binary) (b : Scalar) (e : NamedExpression) (r : History → Valued) → ScopesKnown unit f scopes → IsTarget unit.words scopes to t → IsPlain to
      → is_of_conditions op ≡ false → ((fs : List ℕ) (m h : List RunEvent) → related (f ∷ fs) m h → Gives unit frame m e (r h)) → ((fs : List ℕ) (m h : List RunEvent) → related (f ∷ fs) m h → FitsValued 32 (r h))
      → ItemDoes (of unit root rank) (program_of unit) (frame_number unit) related rank f (lowered_effects.update (program_of unit) scopes to op b e)
      (λ h. does.updated (program_of unit) scopes to op b (r h) h)
  update_does scopes to t op b e r known target plain operator gives fits = λ fs m h rest rel.
      let there = here unit root rank laws frames f naming fs scopes m h known rel in
      let kind : Scalar = kind_of unit.words scopes to in
      let left : Valued = meaning.value_of (program_of unit) scopes h to in
      let left_fits : FitsValued 32 left = laws.values_fit unit scopes h to rel.agree.sound in
      assign_does unit root rank laws frames f naming fs m h rest kind (address_of (program_of unit) scopes to) (lowered_values.binary_value op kind b (value_of (program_of unit) scopes to) e)
      (meaning.address_of (program_of unit) scopes h to) (meaning_values.binary_value op kind b left (r h)) rel
      (laws.addresses unit f frame scopes m h to t there target.has plain target.assignable)
      (laws.operators unit frame m op kind b (value_of (program_of unit) scopes to) e left (r h) frames operator (laws.values unit f frame scopes m h to t there target.has plain) (gives fs m h rel) (fits fs m h rel))
      (laws.operators_fit op kind b left (r h) left_fits (fits fs m h rel))

  pub effect_does : (scopes : List Scope) (e : EffectTree) (n : ℕ) → ScopesKnown unit f scopes
      → EffectStands unit.words (definitions unit.externals) scopes e → EffectIsPlain e
      → EachOf Fine (calls_in_effect e) → EachOf Framed (effect_frames (program_of unit) f n e) → EffectDoes (of unit root rank) (program_of unit) (frame_number unit) related rank f scopes e n
  effect_does scopes (Assigns to token value) n known stands plain fine among =
      let kind : Scalar = kind_of unit.words scopes to in
      value_does unit root rank laws frames f naming scopes stands.0 value n (assign kind (address_of (program_of unit) scopes to))
      (λ v h. assigned (program_of unit) kind h (meaning.address_of (program_of unit) scopes h to) v) known stands.2 plain.1 fine among
      (λ fs m h rest e v rel gives fits. assign_does unit root rank laws frames f naming fs m h rest kind (address_of (program_of unit) scopes to) e (meaning.address_of (program_of unit) scopes h to) v rel
      (laws.addresses unit f frame scopes m h to stands.0 (here unit root rank laws frames f naming fs scopes m h known rel) stands.1.has plain.0 stands.1.assignable) gives fits)
  effect_does scopes (Updates to op token e) n known stands plain fine among =
      update_does scopes to stands.type op (kind_of unit.words scopes e) (value_of (program_of unit) scopes e) (λ h. meaning.value_of (program_of unit) scopes h e) known stands.target plain.1 plain.0
      (λ fs m h rel. laws.values unit f frame scopes m h e stands.other (here unit root rank laws frames f naming fs scopes m h known rel) stands.has plain.2)
      (λ fs m h rel. laws.values_fit unit scopes h e rel.agree.sound)
  effect_does scopes (Steps operand up token) n known stands plain fine among =
      update_does scopes operand stands.0 (step_operator up) (scalars.Integer integers.Int) (whole 1) (λ h. one) known stands.1 plain (step_plain up) (λ fs m h rel. refl) (λ fs m h rel. (refl, omega arith))
  effect_does scopes (Calls call) n known stands plain fine among =
      call_does unit root rank laws frames f naming scopes call n (λ rest. rest) (λ v h. Normal h) stands.0 known stands.1 plain (fine.0 stands.1.made)
      (dropped_results unit root rank laws frames f naming (function_at (program_of unit) (callee (program_of unit) call)).result n among)

  pub last_does : (scopes : List Scope) (e : Option EffectTree) (n : ℕ) → ScopesKnown unit f scopes
      → IfDone unit.words (definitions unit.externals) scopes e → LastIsPlain e
      → EachOf Fine (calls_if_done e) → EachOf Framed (last_frames (program_of unit) f n e) → IfDoes (of unit root rank) (program_of unit) (frame_number unit) related rank f scopes e n
  last_does scopes None n known stands plain fine among = tt
  last_does scopes (Some e) n known stands plain fine among = effect_does scopes e n known stands plain fine among

  -- ---- declarations

  first_does : (scopes : List Scope) (t : Scalar) (token : ℕ) (first : Option ValueTree) (n : ℕ)
      → ScopesKnown unit f scopes → Sees unit f (object_at (objects_of unit) token)
      → IfValued unit.words (definitions unit.externals) scopes t first → FirstIsPlain first → EachOf Fine (calls_if_valued first) → EachOf Framed (first_frames (program_of unit) f n first)
      → FirstDoes (of unit root rank) (program_of unit) (frame_number unit) related rank f scopes t token first n
  first_does scopes t token None n known sees stands plain fine among = tt
  first_does scopes t token (Some value) n known sees stands plain fine among =
      value_does unit root rank laws frames f naming scopes t value n (assign t (Address (frame_of (program_of unit) token) 0))
      (λ v h. assigned (program_of unit) t h (Ok (values.Ptr (object_at (objects_of unit) token) 0)) v) known stands plain fine among
      (λ fs m h rest e v rel gives fits. assign_does unit root rank laws frames f naming fs m h rest t (Address (frame_of (program_of unit) token) 0) e (Ok (values.Ptr (object_at (objects_of unit) token) 0)) v rel
      (laws.objects unit f frame m token 0 naming sees) gives fits)

  elements_do : (token : ℕ) (kind : Integer) (offset count : ℕ) (cs : List Constant)
      → Sees unit f (object_at (objects_of unit) token)
      → ElementsDo (of unit root rank) (program_of unit) (frame_number unit) related rank f token kind offset count cs
  elements_do token kind offset zero cs sees = tt
  elements_do token kind offset (suc count) cs sees = (
    (λ fs m h rest rel.
        let element = laws.elements unit frame m kind cs in
        store_does unit root rank laws frames f naming fs m h rest (bits_of_type kind) (Address (frame_of (program_of unit) token) offset) (cut kind (first_element (program_of unit) cs))
        (Ok (values.Ptr (object_at (objects_of unit) token) offset)) (Ok (does.first_element unit.words kind cs)) rel (laws.objects unit f frame m token offset naming sees) element.gives element.fits),
    elements_do token kind (offset + bytes_of_type kind) count (further_elements cs) sees,
  )

  array_does : (token : ℕ) (kind : Integer) (size : ℕ) (firsts : Option (List Constant))
      → Sees unit f (object_at (objects_of unit) token)
      → ArrayDoes (of unit root rank) (program_of unit) (frame_number unit) related rank f token kind size firsts
  array_does token kind size None sees = tt
  array_does token kind size (Some cs) sees = elements_do token kind 0 (count_at unit.words size) cs sees

  shape_does : (scopes : List Scope) (kind : Integer) (token : ℕ) (shape : LocalShapeTree) (n : ℕ)
      → ScopesKnown unit f scopes → Sees unit f (object_at (objects_of unit) token)
      → ShapeStands unit.words (definitions unit.externals) scopes kind shape → ShapeIsPlain shape → EachOf Fine (calls_in_shape shape) → EachOf Framed (shape_frames (program_of unit) f n shape)
      → ShapeDoes (of unit root rank) (program_of unit) (frame_number unit) related rank f scopes kind token shape n
  shape_does scopes kind token (LocalInteger first) n known sees stands plain fine among = first_does scopes (scalars.Integer kind) token first n known sees stands plain fine among
  shape_does scopes kind token (LocalPointer first) n known sees stands plain fine among = first_does scopes (scalars.Pointer kind) token first n known sees stands plain fine among
  shape_does scopes kind token (LocalArray size firsts) n known sees stands plain fine among = array_does token kind size firsts sees

  pub locals_do : (kind : Integer) (scopes : List Scope) (locals : List LocalTree) (n : ℕ) → ScopesKnown unit f scopes
      → EachOf (IsOwn unit f) (map (local_object unit.words f kind) locals)
      → LocalsStand unit.words (definitions unit.externals) kind scopes locals → LocalsArePlain locals → EachOf Fine (calls_in_locals locals) → EachOf Framed (locals_frames (program_of unit) f n kind locals)
      → LocalsDo (of unit root rank) (program_of unit) (frame_number unit) related rank f kind scopes locals n
  locals_do kind scopes [] n known own stands plain fine among = tt
  locals_do kind scopes (local ∷ locals) n known own stands plain fine among =
      let inner : List Scope = with_local kind scopes local in
      let d : ℕ = n + lowered_effects.calls_in_shape (program_of unit) local.shape in
      let inside : ScopesKnown unit f inner = local_known unit f kind scopes local known own.0 in
      let calls = each_parts Fine (calls_in_shape local.shape) (calls_in_locals locals) fine in
      let parts = each_parts Framed (shape_frames (program_of unit) f n local.shape) (locals_frames (program_of unit) f d kind locals) among.1 in (
        shape_does inner kind local.name local.shape n inside own.0 stands.1 plain.0 calls.0 parts.0,
        locals_do kind inner locals d inside own.1 stands.2 plain.1 calls.1 parts.1,
      )

  -- ---- returns

  pub return_stands_does : (scopes : List Scope) (o : Outcome) (value : Option ValueTree) (n : ℕ)
      → o ≡ (function_at (program_of unit) f).result → ScopesKnown unit f scopes
      → ReturnStands unit.words (definitions unit.externals) scopes o value → FirstIsPlain value → EachOf Fine (calls_if_valued value) → EachOf Framed (first_frames (program_of unit) f n value)
      → ReturnDoes (of unit root rank) (program_of unit) (frame_number unit) related rank f scopes value n
  return_stands_does scopes outcomes.Nothing None n is known stands plain fine among = subst (λ (p : Outcome). ResultFits p None) is tt
  return_stands_does scopes outcomes.Nothing (Some value) n is known stands plain fine among = absurd stands
  return_stands_does scopes (outcomes.Integer i) None n is known stands plain fine among = absurd stands
  return_stands_does scopes (outcomes.Integer i) (Some value) n is known stands plain fine among =
      value_does unit root rank laws frames f naming scopes (scalars.Integer i) value n (return_item (record { program = program_of unit; function = f })) (returned (function_at (program_of unit) f).result)
      known stands plain fine among
      (λ fs m h rest e v rel gives fits. return_does unit root rank laws frames f naming fs m h rest i e v (sym is) rel gives fits)
