-- What lowered operators give after a history: the embedded value of the operator of C, where their operands give
-- embedded values.
--   Gives place frames frame m e v   the lowered expression gives the embedded v, where `frame` numbers the frames that are named
--   as_bit test            a test as a word of one bit
--   FitsResult size r      a fault, or a value of the size
--   IsApart place          frames that differ are embedded in frames that differ
--   OperatorsGive          operators of two operands
--   ComparisonsGive        those as tests, of one bit
--   TestsGive              whether a value is not 0, as a bit
--   UnariesGive            `!`, `~` and `-`
--   ExtendsGive, CutsGive, CastsGive   conversions
--   ElementsGive           where an element lies
--   WordsAreCut            the lowest bits of a word of a number are the lowest bits of the number
--   OperatorsFit, UnariesFit, ExtendsFit, CutsFit, CastsFit, ElementsFit   the sizes of what C gives
use Rattle.std.specs.Prelude.{◌≡◌, ◌≤◌, ℕ, ℤ, pos, Bool, true, false, ⊤, List, Result, Ok, Err}
use Rattle.alf_ops.specs.declared.history.Value.{Value}
use Rattle.alf_ops.specs.declared.history.Value.TheVariants as values
use Rattle.alf_ops.specs.declared.history.RunFault.{RunFault}
use Rattle.alf_ops.specs.declared.history.FrameShape.{FrameShape}
use Rattle.alf_ops.specs.declared.history.RunEvent.{RunEvent}
use Rattle.alf_ops.specs.Values.{FitsValue}
use Rattle.alf_ops.specs.TwosComplement.{word}
use Rattle.alf_program.specs.Tree.{NamedExpression, with_frames}
use Rattle.alf_runs.specs.Expressions.{value_of}
use Rattle.c_unit.specs.declared.types.Integer.{Integer}
use Rattle.c_unit.specs.declared.types.Scalar.{Scalar}
use Rattle.c_unit.specs.declared.expression.Binary.{Binary}
use Rattle.c_rules.specs.Expressions.{is_of_conditions}
use Rattle.c_meaning.specs.Values.{Valued, on_value, widened, cut_to, cast_to, negation, complement, opposite, truth_of, binary_value, bits_of_type}
use Rattle.c_meaning.specs.Objects.{bits_of_scalar}
use Rattle.c_meaning.specs.Expressions.{element_address}
use Rattle.c_lowered.specs.Values as lowered
use Rattle.c_unit.specs.declared.expression.Unary.TheVariants as unary
use Rattle.lowering_values.specs.Embedding.{embedded_result}

-- ---- what is compared

abbrev pub Gives : (ℕ → ℕ) → List FrameShape → (List ℕ → ℕ) → List RunEvent → NamedExpression → Valued → Type 0
Gives place frames frame m e v = value_of frames m (with_frames frame e) ≡ embedded_result place v

-- 1 where it holds, 0 where not
abbrev pub as_bit : Result Bool RunFault → Result Value RunFault
as_bit (Ok true) = Ok (values.Int 1 1)
as_bit (Ok false) = Ok (values.Int 1 0)
as_bit (Err fault) = Err fault

abbrev pub FitsResult : ℕ → Result Value RunFault → Type 0
FitsResult size (Ok v) = FitsValue size v
FitsResult size (Err fault) = ⊤

abbrev pub IsApart : (ℕ → ℕ) → Type 0
IsApart place = (frame other : ℕ) → place frame ≡ place other → frame ≡ other

-- ---- operators

-- a word that is taken away has 32 bits
abbrev pub OperatorsGive : Type 0
OperatorsGive = (place : ℕ → ℕ) (frames : List FrameShape) (frame : List ℕ → ℕ) (m : List RunEvent) (op : Binary)
    (a b : Scalar) (left right : NamedExpression) (l r : Valued)
    → IsApart place
    → is_of_conditions op ≡ false
    → Gives place frames frame m left l
    → Gives place frames frame m right r
    → FitsResult 32 r
    → Gives place frames frame m (lowered.binary_value op a b left right) (binary_value op a b l r)

abbrev pub ComparisonsGive : Type 0
ComparisonsGive = (place : ℕ → ℕ) (frames : List FrameShape) (frame : List ℕ → ℕ) (m : List RunEvent) (op : Binary)
    (a b : Scalar) (left right : NamedExpression) (l r : Valued)
    → IsApart place
    → is_of_conditions op ≡ false
    → Gives place frames frame m left l
    → Gives place frames frame m right r
    → FitsResult 32 r
    → value_of frames m (with_frames frame (lowered.test_of op a b left right)) ≡ as_bit (truth_of (binary_value op a b l r))

abbrev pub TestsGive : Type 0
TestsGive = (place : ℕ → ℕ) (frames : List FrameShape) (frame : List ℕ → ℕ) (m : List RunEvent) (e : NamedExpression)
    (v : Valued)
    → Gives place frames frame m e v
    → value_of frames m (with_frames frame (lowered.is_true e)) ≡ as_bit (truth_of v)

pub record GiveUnaries (place : ℕ → ℕ) (frames : List FrameShape) (frame : List ℕ → ℕ) (m : List RunEvent)
    (e at : NamedExpression) (v : Valued) (t : Scalar) : Type 0 where
  pub not_gives : Gives place frames frame m (lowered.unary_value unary.Not t e at) (on_value opposite v)
  pub complement_gives : Gives place frames frame m (lowered.unary_value unary.Complement t e at)
      (on_value complement v)
  pub minus_gives : Gives place frames frame m (lowered.unary_value unary.Minus t e at) (on_value negation v)

abbrev pub UnariesGive : Type 0
UnariesGive = (place : ℕ → ℕ) (frames : List FrameShape) (frame : List ℕ → ℕ) (m : List RunEvent)
    (e at : NamedExpression) (v : Valued) (t : Scalar)
    → Gives place frames frame m e v
    → GiveUnaries place frames frame m e at v t

-- ---- conversions

abbrev pub ExtendsGive : Type 0
ExtendsGive = (place : ℕ → ℕ) (frames : List FrameShape) (frame : List ℕ → ℕ) (m : List RunEvent) (i : Integer)
    (e : NamedExpression) (v : Valued)
    → Gives place frames frame m e v
    → Gives place frames frame m (lowered.extended i e) (on_value (widened i) v)

abbrev pub CutsGive : Type 0
CutsGive = (place : ℕ → ℕ) (frames : List FrameShape) (frame : List ℕ → ℕ) (m : List RunEvent) (t : Scalar)
    (e : NamedExpression) (v : Valued)
    → Gives place frames frame m e v
    → Gives place frames frame m (lowered.cut_to t e) (on_value (cut_to t) v)

abbrev pub CastsGive : Type 0
CastsGive = (place : ℕ → ℕ) (frames : List FrameShape) (frame : List ℕ → ℕ) (m : List RunEvent) (t : Scalar)
    (e : NamedExpression) (v : Valued)
    → Gives place frames frame m e v
    → Gives place frames frame m (lowered.cast_to t e) (on_value (cast_to t) v)

abbrev pub WordsAreCut : Type 0
WordsAreCut = (size more : ℕ) (z : ℤ) → size ≤ more → word size (pos (word more z)) ≡ word size z

-- ---- elements

abbrev pub ElementsGive : Type 0
ElementsGive = (place : ℕ → ℕ) (frames : List FrameShape) (frame : List ℕ → ℕ) (m : List RunEvent) (t of : Scalar)
    (base index : NamedExpression) (b i : Valued)
    → Gives place frames frame m base b
    → Gives place frames frame m index i
    → Gives place frames frame m (lowered.element_address t of base index) (element_address t b i)

-- ---- sizes

abbrev pub OperatorsFit : Type 0
OperatorsFit = (op : Binary) (a b : Scalar) (l r : Valued) → FitsResult 32 l → FitsResult 32 r
    → FitsResult 32 (binary_value op a b l r)

pub record FitUnaries (v : Valued) : Type 0 where
  pub not_fits : FitsResult 32 (on_value opposite v)
  pub complement_fits : FitsResult 32 (on_value complement v)
  pub minus_fits : FitsResult 32 (on_value negation v)

abbrev pub UnariesFit : Type 0
UnariesFit = (v : Valued) → FitUnaries v

abbrev pub ExtendsFit : Type 0
ExtendsFit = (i : Integer) (v : Valued) → FitsResult (bits_of_type i) v → FitsResult 32 (on_value (widened i) v)

abbrev pub CutsFit : Type 0
CutsFit = (t : Scalar) (v : Valued) → FitsResult 32 v → FitsResult (bits_of_scalar t) (on_value (cut_to t) v)

abbrev pub CastsFit : Type 0
CastsFit = (t : Scalar) (v : Valued) → FitsResult 32 v → FitsResult 32 (on_value (cast_to t) v)

abbrev pub ElementsFit : Type 0
ElementsFit = (t : Scalar) (base index : Valued) → FitsResult 32 (element_address t base index)
