-- The leaves of statements do what the unit says.
use Rattle.std.proofs.Common.{◌≡◌, ℕ, Bool, true, false, List, [], ◌∷◌, Some, Result, Ok, Err, refl, sym, ap, ◌∙◌, subst}
use Rattle.std.specs.Prelude.{⊤}
use Rattle.alf_ops.specs.declared.history.Value.{Value}
use Rattle.alf_ops.specs.declared.history.RunFault.{RunFault}
use Rattle.alf_ops.specs.declared.history.FrameShape.{FrameShape}
use Rattle.alf_ops.specs.declared.history.RunEvent.{RunEvent}
use Rattle.alf_ops.specs.declared.history.RunEvent.TheVariants as events
use Rattle.alf_ops.specs.Histories.{Address as Cell, address_of as cell_at, stored as stored_in, store}
use Rattle.alf_ops.specs.Values.{size_of}
use Rattle.alf_program.specs.Tree.{NamedExpression, Store, Return, BodyItem, Do}
use Rattle.alf_check.specs.Numbered.{numbered}
use Rattle.alf_runs.specs.Statements.{after_store}
use Rattle.item_runs.specs.Stretches.{End, Stops, stored_then, returned as returned_end}
use Rattle.item_runs.specs.ItemRuns.{ItemProgram, ahead}
use Rattle.item_runs.specs.CheckedItems.{with_items}
use Rattle.c_unit.specs.declared.types.Integer.{Integer}
use Rattle.c_unit.specs.declared.types.Scalar.{Scalar}
use Rattle.c_unit.specs.declared.types.Scalar.TheVariants as scalars
use Rattle.c_unit.specs.declared.types.Outcome.{Outcome}
use Rattle.c_unit.specs.declared.types.Outcome.TheVariants as outcomes
use Rattle.c_unit.specs.declared.expression.Unary.{Unary}
use Rattle.c_unit.specs.declared.expression.Unary.TheVariants as unary
use Rattle.c_unit.specs.declared.expression.Binary.{Binary}
use Rattle.c_unit.specs.declared.expression.Binary.TheVariants as binary
use Rattle.c_unit.specs.Tree.{Expression, OfConstant, OfName, WithUnary, WithCast, AtIndex, WithBinary}
use Rattle.c_unit.specs.Units.{UnitTree}
use Rattle.c_rules.specs.Names.{Scope}
use Rattle.c_rules.specs.Typed.{HasType, constant, object, within, before, converted, indexed, between}
use Rattle.c_meaning.specs.Values as meaning_values
use Rattle.c_meaning.specs.Values.{Valued, on_value, bits_of_type}
use Rattle.c_meaning.specs.Objects.{Program, program_of, function_at, bits_of_scalar}
use Rattle.c_meaning.specs.Expressions.{condition_of}
use Rattle.c_meaning.specs.Endings.{History, Ending, after}
use Rattle.c_meaning.specs.Statements as does
use Rattle.c_meaning.specs.Statements.{assigned, some_of, returned_so, returned}
use Rattle.c_lowered.specs.Values.{cut, cut_to}
use Rattle.c_lowered.specs.Effects.{assign}
use Rattle.c_lowered.specs.Statements.{as_result, return_item}
use Rattle.c_lowered.specs.Programs.{lowered}
use Rattle.lowering_values.specs.Embedding.{embedded_result}
use Rattle.lowering_values.specs.OperatorLaws as operators
use Rattle.lowering_values.specs.Frames.{frame_number, is_object_frame, frames_of, FramesStand, IsNaming}
use Rattle.lowering_values.specs.Agreement.{Here, Gives, FitsValued, AgreeAfter, IsPlain}
use Rattle.lowering_simulation.specs.Leaves.{ResultFits, as_bit, PlainAgrees, ConditionAgrees, ItemEnds}
use Rattle.lowering_simulation.specs.Related.{AreRunning, Related}
use Rattle.lowering_simulation.specs.Plain.{IsPlainCondition}
use Rattle.lowering_simulation.specs.Laws.{ValueLaws}
use Rattle.lowering_simulation.proofs.Scopes.{ScopesKnown, scopes_see}

-- ---- functions that run

-- a store lets functions run
running_after_store : (fs : List ℕ) (m : List RunEvent) (frame offset size : ℕ) (v : Value) → AreRunning fs m
    → AreRunning fs (events.Store frame offset size v ∷ m)
running_after_store [] m frame offset size v running = tt
running_after_store (f ∷ fs) m frame offset size v running = (running.0, running_after_store fs m frame offset size v running.1)

abbrev pub StillRunning : List ℕ → Result (List RunEvent) RunFault → Type 0
StillRunning fs (Ok m) = AreRunning fs m
StillRunning fs (Err fault) = ⊤

running_stored : (fs : List ℕ) (m : List RunEvent) (v : Value) (at : Result Cell RunFault) → AreRunning fs m
    → StillRunning fs (stored_in m v at)
running_stored fs m v (Ok cell) running = running_after_store fs m cell.frame cell.offset (size_of v) v running
running_stored fs m v (Err fault) running = tt

pub running_store : (fs : List ℕ) (frames : List FrameShape) (m : List RunEvent) (place v : Value) → AreRunning fs m
    → StillRunning fs (store frames m place v)
running_store fs frames m place v running = running_stored fs m v (cell_at frames m place (size_of v)) running

running_after : (fs : List ℕ) (frames : List FrameShape) (m : List RunEvent) (to v : Result Value RunFault)
    → AreRunning fs m → StillRunning fs (after_store frames m to v)
running_after fs frames m (Err fault) v running = tt
running_after fs frames m (Ok place) (Err fault) running = tt
running_after fs frames m (Ok place) (Ok v) running = running_store fs frames m place v running

bit_same : (r : Result Bool RunFault) → operators.as_bit r ≡ as_bit r
bit_same (Ok true) = refl
bit_same (Ok false) = refl
bit_same (Err fault) = refl

module _ (unit : UnitTree) (root : List ℕ) (rank : ℕ → ℕ) where
  abbrev pub program : Program
  program = program_of unit

  abbrev pub of : ItemProgram
  of = with_items (numbered (lowered unit) root) (lowered unit)

  abbrev pub Rel : List ℕ → List RunEvent → List RunEvent → Type 0
  Rel = Related (frame_number unit) (is_object_frame unit)

  module _ (laws : ValueLaws) (frames : FramesStand unit) (f : ℕ) (naming : IsNaming unit f (of.numbers f).frame) where
    abbrev pub frame : List ℕ → ℕ
    frame = (of.numbers f).frame

    pub here : (fs : List ℕ) (scopes : List Scope) (m h : List RunEvent) → ScopesKnown unit f scopes → Rel (f ∷ fs) m h
        → Here unit f frame scopes m h
    here fs scopes m h known rel = record { frames = frames; naming = naming; see = scopes_see unit f scopes known; agree = rel.agree }

    -- ---- conditions

    plain_agrees : (scopes : List Scope) (e : Expression) (t : Scalar) → ScopesKnown unit f scopes
        → HasType unit.words scopes e t → IsPlain e
        → PlainAgrees of program (frame_number unit) Rel rank f scopes e
    plain_agrees scopes e t known has plain fs m h rel =
        laws.tests unit f frame scopes m h e t (here fs scopes m h known rel) has plain ∙ bit_same (condition_of program scopes h e)

    unary_agrees : (scopes : List Scope) (op : Unary) (token : ℕ) (operand : Expression) (t : Scalar)
        → ScopesKnown unit f scopes → HasType unit.words scopes (WithUnary op token operand) t
        → (IsPlainCondition operand → ConditionAgrees of program (frame_number unit) Rel rank f scopes operand) → IsPlainCondition (WithUnary op token operand)
        → ConditionAgrees of program (frame_number unit) Rel rank f scopes (WithUnary op token operand)
    unary_agrees scopes unary.Not token operand t known has inner plain = inner plain
    unary_agrees scopes op token operand t known has inner plain = plain_agrees scopes (WithUnary op token operand) t known has plain

    binary_agrees : (scopes : List Scope) (op : Binary) (token : ℕ) (left right : Expression) (t : Scalar)
        → ScopesKnown unit f scopes → HasType unit.words scopes (WithBinary op token left right) t
        → (IsPlainCondition left → ConditionAgrees of program (frame_number unit) Rel rank f scopes left) → (IsPlainCondition right → ConditionAgrees of program (frame_number unit) Rel rank f scopes right)
        → IsPlainCondition (WithBinary op token left right) → ConditionAgrees of program (frame_number unit) Rel rank f scopes (WithBinary op token left right)
    binary_agrees scopes binary.Both token left right t known has on_left on_right plain = (on_left plain.0, on_right plain.1)
    binary_agrees scopes binary.Either token left right t known has on_left on_right plain = (on_left plain.0, on_right plain.1)
    binary_agrees scopes op token left right t known has on_left on_right plain =
        λ fs m h rel. laws.comparisons unit f frame scopes m h op token left right t (here fs scopes m h known rel) has (refl, plain.0, plain.1) ∙ bit_same (condition_of program scopes h (WithBinary op token left right))

    pub condition_agrees : (scopes : List Scope) (e : Expression) (t : Scalar) → ScopesKnown unit f scopes
        → HasType unit.words scopes e t → IsPlainCondition e
        → ConditionAgrees of program (frame_number unit) Rel rank f scopes e
    condition_agrees scopes e t known (constant {token = token} is) plain = plain_agrees scopes (OfConstant token) t known (constant is) tt
    condition_agrees scopes e t known (object {token = token} found is) plain = plain_agrees scopes (OfName token) t known (object found is) tt
    condition_agrees scopes e t known (within {inner = inner} has) plain = condition_agrees scopes inner t known has plain
    condition_agrees scopes e t known (before {op = op} {token = token} {operand = operand} {t = u} has gives) plain =
        unary_agrees scopes op token operand t known (before has gives) (λ p. condition_agrees scopes operand u known has p) plain
    condition_agrees scopes e t known (converted {token = token} {to = to} {operand = operand} has gives) plain = plain_agrees scopes (WithCast token to operand) t known (converted has gives) plain
    condition_agrees scopes e t known (indexed {base = base} {token = token} {index = index} has at gives) plain = plain_agrees scopes (AtIndex base token index) t known (indexed has at gives) plain
    condition_agrees scopes e t known (between {op = op} {token = token} {left = left} {right = right} {a = a} {b = b} has has' gives) plain =
        binary_agrees scopes op token left right t known (between has has' gives) (λ p. condition_agrees scopes left a known has p) (λ p. condition_agrees scopes right b known has' p) plain

    -- ---- stores

    -- what is done from an item on
    abbrev pub Ends : List ℕ → List BodyItem → End → Ending → Type 0
    Ends fs rest end e = ItemEnds of program (frame_number unit) Rel rank f fs rest end e

    store_ends : (fs : List ℕ) (rest : List BodyItem) (x : Result (List RunEvent) RunFault) (y : Result History RunFault) → AgreeAfter unit x y → StillRunning (f ∷ fs) x
        → Ends fs rest (stored_then x (λ later. ahead of f rest later)) (after y)
    store_ends fs rest (Ok m) (Ok h) agree running = record { later = m; rel = record { agree = agree; running = running }; same = refl }
    store_ends fs rest (Ok m) (Err fault) agree running = absurd agree
    store_ends fs rest (Err fault) (Ok h) agree running = absurd agree
    store_ends fs rest (Err fault) (Err other) agree running = ap Stops agree

    pub store_does : (fs : List ℕ) (m h : List RunEvent) (rest : List BodyItem) (size : ℕ) (to e : NamedExpression) (place v : Valued) → Rel (f ∷ fs) m h
        → Gives unit frame m to place → Gives unit frame m e v → FitsValued size v → Ends fs rest (ahead of f (Do (Store to e) ∷ rest) m) (after (does.stored program h place v))
    store_does fs m h rest size to e place v rel to_gives gives fits =
        store_ends fs rest _ (does.stored program h place v) (laws.stores unit frame m h size to e place v frames rel.agree to_gives gives fits)
        (running_after (f ∷ fs) (frames_of unit) m _ _ rel.running)

    pub assign_does : (fs : List ℕ) (m h : List RunEvent) (rest : List BodyItem) (t : Scalar) (to e : NamedExpression) (place v : Valued) → Rel (f ∷ fs) m h
        → Gives unit frame m to place → Gives unit frame m e v → FitsValued 32 v → Ends fs rest (ahead of f (assign t to e ∷ rest) m) (assigned program t h place v)
    assign_does fs m h rest t to e place v rel to_gives gives fits =
        store_does fs m h rest (bits_of_scalar t) to (cut_to t e) place (on_value (meaning_values.cut_to t) v) rel to_gives (laws.cuts unit frame m t e v gives) (laws.cuts_fit t v fits)

    -- ---- returns

    returned_is : (i : Integer) (v : Valued) (h : History) → returned (outcomes.Integer i) v h ≡ returned_so (some_of (on_value (meaning_values.cut_to (scalars.Integer i)) v)) h
    returned_is i (Ok v) h = refl
    returned_is i (Err fault) h = refl

    gives_back : (fs : List ℕ) (m h : List RunEvent) (rest : List BodyItem) (i : Integer) (r : Valued)
        → (function_at program f).result ≡ outcomes.Integer i → Rel (f ∷ fs) m h → FitsValued (bits_of_type i) r
        → Ends fs rest (returned_end m (embedded_result (frame_number unit) r)) (returned_so (some_of r) h)
    gives_back fs m h rest i (Ok v) is rel fits =
        record { fits = subst (λ (o : Outcome). ResultFits o (Some v)) (sym is) fits; goes = record { later = m; rel = rel; same = refl } }
    gives_back fs m h rest i (Err fault) is rel fits = refl

    pub return_does : (fs : List ℕ) (m h : List RunEvent) (rest : List BodyItem) (i : Integer) (e : NamedExpression) (v : Valued) → (function_at program f).result ≡ outcomes.Integer i → Rel (f ∷ fs) m h
        → Gives unit frame m e v → FitsValued 32 v
        → Ends fs rest (ahead of f (return_item (record { program = program; function = f }) e ∷ rest) m) (returned (function_at program f).result v h)
    return_does fs m h rest i e v is rel gives fits =
        let r : Valued = on_value (meaning_values.cut_to (scalars.Integer i)) v in
        subst (λ (o : Outcome). Ends fs rest (ahead of f (Do (Return (Some (as_result o e))) ∷ rest) m) (returned o v h)) (sym is)
        (subst (λ (x : Ending). Ends fs rest (ahead of f (Do (Return (Some (cut i e))) ∷ rest) m) x) (sym (returned_is i v h))
        (subst (λ (x : Result Value RunFault). Ends fs rest (returned_end m x) (returned_so (some_of r) h)) (sym (laws.cuts unit frame m (scalars.Integer i) e v gives))
        (gives_back fs m h rest i r is rel (laws.cuts_fit (scalars.Integer i) v fits))))
