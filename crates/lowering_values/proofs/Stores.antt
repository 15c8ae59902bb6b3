-- Stores, arguments, calls and results of lowered code.
use Rattle.std.specs.Prelude.{⊤}
use Rattle.std.proofs.Common.{◌≡◌, ℕ, ◌^◌, ◌<◌, List, [], ◌∷◌, map, All, Result, Ok, Err, refl, sym, ap, ◌∙◌, subst}
use Rattle.std.proofs.lemmas.List.Elements.{All-nil, All-cons, All-head, All-tail}
use Rattle.alf_ops.specs.declared.history.Value.{Value}
use Rattle.alf_ops.specs.declared.history.Value.TheVariants as values
use Rattle.alf_ops.specs.declared.history.RunFault.{RunFault}
use Rattle.alf_ops.specs.declared.history.RunEvent.{RunEvent}
use Rattle.alf_ops.specs.Values.{size_of, FitsValue}
use Rattle.alf_ops.specs.Pointers.{operands, before}
use Rattle.alf_program.specs.Tree.{NamedExpression, with_frames}
use Rattle.alf_runs.specs.Expressions.{value_of}
use Rattle.alf_runs.specs.Statements.{after_store}
use Rattle.c_unit.specs.declared.types.Scalar.{Scalar}
use Rattle.c_unit.specs.declared.external.Parameter.{Parameter}
use Rattle.c_unit.specs.Tree.{Expression}
use Rattle.c_unit.specs.Units.{UnitTree}
use Rattle.c_rules.specs.Names.{Scope}
use Rattle.c_rules.specs.Standing.{ArgumentsSuit}
use Rattle.c_meaning.specs.Values.{Valued, on_value, cut_to}
use Rattle.c_meaning.specs.Objects.{Program, program_of, shapes_of}
use Rattle.c_meaning.specs.Expressions as meaning
use Rattle.c_meaning.specs.Statements as statements
use Rattle.c_meaning.specs.Statements.{stored}
use Rattle.c_lowered.specs.Values as lowered
use Rattle.c_lowered.specs.Effects as effects
use Rattle.lowering_values.specs.Embedding.{embedded_value, embedded_result, embedded_results}
use Rattle.lowering_values.specs.EmbeddingLaws.{StoresAgree}
use Rattle.lowering_values.specs.OperatorLaws.{FitsResult, CutsFit}
use Rattle.lowering_values.specs.Frames.{frame_number, is_object_frame, frames_of, FramesStand, Agrees}
use Rattle.lowering_values.specs.Agreement.{Here, value_in, Gives, IsWhole, AgreeAfter, IsPlain}
use Rattle.lowering_values.proofs.Fitting.{Sizes, value_fits}
use Rattle.lowering_values.proofs.Agreeing.{Operators, values_agree}

-- ---- sizes

-- a value of some size has the size that it tells
pub whole : (size : ℕ) (v : Value) → FitsValue size v → IsWhole v
whole size (values.Int own w) fits = (refl, subst (λ (n : ℕ). w < 2 ^ n) (sym fits.0) fits.1)
whole size (values.Ptr o w) fits = (refl, fits.1)

pub size_is : (size : ℕ) (v : Value) → FitsValue size v → size_of v ≡ size
size_is size (values.Int own w) fits = fits.0
size_is size (values.Ptr o w) fits = sym fits.0

-- ---- stores

pub stores_agree : StoresAgree → (unit : UnitTree) (frame : List ℕ → ℕ) (m h : List RunEvent) (size : ℕ) (to e : NamedExpression) (place v : Valued)
    → FramesStand unit → Agrees unit m h → Gives unit frame m to place → Gives unit frame m e v → FitsResult size v
    → AgreeAfter unit (after_store (frames_of unit) m (value_in unit frame m to) (value_in unit frame m e)) (stored (program_of unit) h place v)
stores_agree law unit frame m h size to e place v stand agree gives_place gives_value fits =
    subst (λ (x : Valued). AgreeAfter unit (after_store (frames_of unit) m x (value_in unit frame m e)) (stored (program_of unit) h place v)) (sym gives_place)
    (subst (λ (x : Valued). AgreeAfter unit (after_store (frames_of unit) m (embedded_result (frame_number unit) place) x) (stored (program_of unit) h place v)) (sym gives_value)
    (of_results place v fits))
  where
    of_results : (place v : Valued) → FitsResult size v
        → AgreeAfter unit (after_store (frames_of unit) m (embedded_result (frame_number unit) place) (embedded_result (frame_number unit) v)) (stored (program_of unit) h place v)
    of_results (Err fault) v fits = refl
    of_results (Ok place) (Err fault) fits = refl
    of_results (Ok place) (Ok value) fits =
        law (frame_number unit) (is_object_frame unit) (shapes_of (program_of unit)) (frames_of unit) m h place value stand agree (whole size value fits)

-- ---- arguments

module _ (place : ℕ → ℕ) where
  then_values : (v : Value) (r : Result (List Value) RunFault)
      → before (embedded_value place v) (embedded_results place r) ≡ embedded_results place (before v r)
  then_values v (Ok vs) = refl
  then_values v (Err fault) = refl

  next_operand : (x : Valued) (xs : List Valued) (v : Valued) (vs : List Valued) → x ≡ embedded_result place v
      → operands xs ≡ embedded_results place (operands vs)
      → operands (x ∷ xs) ≡ embedded_results place (operands (v ∷ vs))
  next_operand x xs (Ok v) vs first rest =
      ap (λ (y : Valued). operands (y ∷ xs)) first ∙ ap (λ (r : Result (List Value) RunFault). before (embedded_value place v) r) rest ∙ then_values v (operands vs)
  next_operand x xs (Err fault) vs first rest = ap (λ (y : Valued). operands (y ∷ xs)) first

module _ (laws : Operators) (sizes : Sizes) (unit : UnitTree) (f : ℕ) (frame : List ℕ → ℕ) (scopes : List Scope) (m h : List RunEvent) (here : Here unit f frame scopes m h) where
  abbrev P : Program
  P = program_of unit

  pub arguments_agree : (es : List Expression) (kinds : List Scalar) (ps : List Parameter)
      → ArgumentsSuit unit.words scopes es kinds → All IsPlain es
      → operands (map (value_of (frames_of unit) m) (map (with_frames frame) (effects.arguments P scopes es ps))) ≡ embedded_results (frame_number unit) (operands (statements.arguments P scopes h es ps))
  arguments_agree [] kinds ps suit plain = refl
  arguments_agree (e ∷ es) [] ps suit plain = absurd suit
  arguments_agree (e ∷ es) (k ∷ ks) [] suit plain =
      next_operand (frame_number unit) (value_in unit frame m (lowered.value_of P scopes e))
      (map (value_of (frames_of unit) m) (map (with_frames frame) (effects.arguments P scopes es []))) (meaning.value_of P scopes h e) (statements.arguments P scopes h es [])
      (values_agree laws sizes unit f frame scopes m h here e suit.0.type suit.0.has (All-head IsPlain e es plain))
      (arguments_agree es ks [] suit.1 (All-tail IsPlain e es plain))
  arguments_agree (e ∷ es) (k ∷ ks) (p ∷ ps) suit plain =
      next_operand (frame_number unit) (value_in unit frame m (lowered.cut_to p.kind (lowered.value_of P scopes e)))
      (map (value_of (frames_of unit) m) (map (with_frames frame) (effects.arguments P scopes es ps))) (on_value (cut_to p.kind) (meaning.value_of P scopes h e)) (statements.arguments P scopes h es ps)
      (laws.cuts (frame_number unit) (frames_of unit) frame m p.kind (lowered.value_of P scopes e) (meaning.value_of P scopes h e)
      (values_agree laws sizes unit f frame scopes m h here e suit.0.type suit.0.has (All-head IsPlain e es plain)))
      (arguments_agree es ks ps suit.1 (All-tail IsPlain e es plain))

-- each value that is given has the size that it tells
abbrev AreWhole : Result (List Value) RunFault → Type 0
AreWhole (Ok vs) = All IsWhole vs
AreWhole (Err fault) = ⊤

next_whole : (size : ℕ) (v : Valued) (vs : List Valued) → FitsResult size v → AreWhole (operands vs)
    → AreWhole (operands (v ∷ vs))
next_whole size (Err fault) vs fits rest = tt
next_whole size (Ok v) vs fits rest = before_rest (operands vs) rest
  where
    before_rest : (r : Result (List Value) RunFault) → AreWhole r → AreWhole (before v r)
    before_rest (Ok ws) rest = All-cons IsWhole v ws (whole size v fits) rest
    before_rest (Err fault) rest = tt

module _ (sizes : Sizes) (cuts : CutsFit) (program : Program) (scopes : List Scope) (h : List RunEvent) (sound : Rattle.alf_ops.specs.Histories.IsSoundHistory h) where
  each_whole : (es : List Expression) (ps : List Parameter)
      → AreWhole (operands (statements.arguments program scopes h es ps))
  each_whole [] ps = All-nil IsWhole
  each_whole (e ∷ es) [] =
      next_whole 32 (meaning.value_of program scopes h e) (statements.arguments program scopes h es []) (value_fits sizes program scopes h sound e) (each_whole es [])
  each_whole (e ∷ es) (p ∷ ps) =
      next_whole (Rattle.c_meaning.specs.Objects.bits_of_scalar p.kind) (on_value (cut_to p.kind) (meaning.value_of program scopes h e)) (statements.arguments program scopes h es ps)
      (cuts p.kind (meaning.value_of program scopes h e) (value_fits sizes program scopes h sound e)) (each_whole es ps)

  pub arguments_whole : (es : List Expression) (ps : List Parameter) (vs : List Value)
      → operands (statements.arguments program scopes h es ps) ≡ Ok vs → All IsWhole vs
  arguments_whole es ps vs is = subst (λ (r : Result (List Value) RunFault). AreWhole r) is (each_whole es ps)
