-- What code of a lowered program computes is what the unit computes: the laws of values and memories.
--   Here                     a place in the code of function f: frames and their names stand, the scopes see objects of the function, histories agree
--   IsPlain e                no `&&` and no `||` stands in the expression
--   value_in unit frame m e  what a lowered expression gives after a history
--   Gives unit frame m e v   that is the value or the fault v of the unit
--   IsWhole v                a value has the size that it tells
--   FitsValued size v        a fault, or a value of the size
--   AgreeAfter               both histories go on and agree, or both stop with the same fault
--   as_bit test              a condition as a bit
--   IsLaidOut unit program   arguments, what is exported and what stands in globals at first lie where the objects lie
--   ValuesAgree, AddressesAgree   expressions, and what they designate
--   TestsAgree, ComparisonsAgree   conditions
--   OperatorsAgree           the values of `op=`, `++` and `--`
--   ValuesFit, OperatorsFit  they have 32 bits
--   CutsAgree, CutsFit       what is assigned, given or returned, as its type has it
--   StoresAgree, ObjectsAgree, ElementsAgree   stores, the addresses of objects, and the constants of arrays
--   ArgumentsAgree, ArgumentsFit, EntersAgree, ResultsAgree   calls
--   OutputsAgree, StartsAgree   what the global integers hold at the end, and the start with an input
use Rattle.std.specs.Prelude.{◌≡◌, ◌<◌, ◌^◌, ℕ, true, false, List, [], ◌∷◌, map, ⊤, All, Contains, Some, Result, Ok}
use Rattle.std.specs.Option.{option_map}
use Rattle.alf_ops.specs.declared.history.Value.{Value}
use Rattle.alf_ops.specs.declared.history.Value.TheVariants as values
use Rattle.alf_ops.specs.declared.history.RunFault.{RunFault}
use Rattle.alf_ops.specs.declared.history.RunEvent.{RunEvent}
use Rattle.alf_ops.specs.Histories.{is_running, store, IsSoundHistory}
use Rattle.alf_ops.specs.Pointers.{operands}
use Rattle.alf_ops.specs.Values.{size_of, FitsValue}
use Rattle.alf_program.specs.Tree.{NamedExpression, Address, with_frames}
use Rattle.alf_check.specs.declared.rows.InputRow.{InputRow}
use Rattle.alf_check.specs.CheckedPrograms.{NumberedProgram}
use Rattle.alf_check.specs.Numbers.{frame_rows}
use Rattle.alf_runs.specs.Expressions as runs
use Rattle.alf_runs.specs.Statements.{after_store}
use Rattle.alf_runs.specs.Entering as runs_entering
use Rattle.alf_runs.specs.Outcomes.{exported}
use Rattle.alf_runs.specs.Starts as runs_starts
use Rattle.c_unit.specs.declared.types.Integer.{Integer}
use Rattle.c_unit.specs.declared.types.Scalar.{Scalar}
use Rattle.c_unit.specs.declared.types.Outcome.TheVariants as outcomes
use Rattle.c_unit.specs.declared.types.Constant.{Constant}
use Rattle.c_unit.specs.declared.expression.Binary.{Binary}
use Rattle.c_unit.specs.declared.external.Parameter.{Parameter}
use Rattle.c_unit.specs.Tree.{Expression, OfConstant, OfName, InParentheses, WithUnary, WithCast, AtIndex, WithBinary}
use Rattle.c_unit.specs.Units.{UnitTree}
use Rattle.c_rules.specs.Names.{Scope}
use Rattle.c_rules.specs.Expressions.{designates, is_of_conditions}
use Rattle.c_rules.specs.Typed.{HasType}
use Rattle.c_rules.specs.Standing.{ArgumentsSuit}
use Rattle.c_meaning.specs.Values as meaning_values
use Rattle.c_meaning.specs.Values.{Valued, on_value, bits_of_type}
use Rattle.c_meaning.specs.Objects.{program_of, objects_of, object_at, function_at, integers_of, token_of_parameter, bits_of_scalar}
use Rattle.c_meaning.specs.Expressions as meaning
use Rattle.c_meaning.specs.Statements as meaning_statements
use Rattle.c_meaning.specs.Programs as meaning_programs
use Rattle.c_lowered.specs.Names.{frame_of, call_name}
use Rattle.c_lowered.specs.Values as lowered_values
use Rattle.c_lowered.specs.Effects as lowered_effects
use Rattle.c_lowered.specs.Programs.{lowered}
use Rattle.lowering_values.specs.Embedding.{embedded_value, embedded_result, embedded_results}
use Rattle.lowering_values.specs.EmbeddingLaws as histories
use Rattle.lowering_values.specs.OperatorLaws.{FitsResult}
pub use Rattle.lowering_values.specs.OperatorLaws.{as_bit}
use Rattle.lowering_values.specs.Frames.{frame_number, is_object_frame, frames_of, FramesStand, Sees, ScopesSee, IsNaming, frames_in_body, Agrees}

-- ---- what is compared

pub record Here (unit : UnitTree) (f : ℕ) (frame : List ℕ → ℕ) (scopes : List Scope)
    (m h : List RunEvent) : Type 0 where
  pub frames : FramesStand unit
  pub naming : IsNaming unit f frame
  pub see : ScopesSee unit f scopes
  pub agree : Agrees unit m h

abbrev pub value_in : UnitTree → (List ℕ → ℕ) → List RunEvent → NamedExpression → Result Value RunFault
value_in unit frame m e = runs.value_of (frames_of unit) m (with_frames frame e)

abbrev pub Gives : UnitTree → (List ℕ → ℕ) → List RunEvent → NamedExpression → Valued → Type 0
Gives unit frame m e v = value_in unit frame m e ≡ embedded_result (frame_number unit) v

abbrev pub embed : UnitTree → Value → Value
embed unit v = embedded_value (frame_number unit) v

abbrev pub IsWhole : Value → Type 0
IsWhole v = FitsValue (size_of v) v

abbrev pub FitsValued : ℕ → Valued → Type 0
FitsValued size v = FitsResult size v

abbrev pub AgreeAfter : UnitTree → Result (List RunEvent) RunFault → Result (List RunEvent) RunFault → Type 0
AgreeAfter unit later other = histories.AgreeAfter (frame_number unit) (is_object_frame unit) later other

abbrev pub IsPlain : Expression → Type 0
IsPlain (OfConstant token) = ⊤
IsPlain (OfName token) = ⊤
IsPlain (InParentheses token inner) = IsPlain inner
IsPlain (WithUnary op token operand) = IsPlain operand
IsPlain (WithCast token to operand) = IsPlain operand
IsPlain (AtIndex base token index) = IsPlain base × IsPlain index
IsPlain (WithBinary op token left right) = (is_of_conditions op ≡ false) × IsPlain left × IsPlain right

-- ---- expressions

abbrev pub ValuesAgree : Type 0
ValuesAgree = (unit : UnitTree) (f : ℕ) (frame : List ℕ → ℕ) (scopes : List Scope) (m h : List RunEvent)
    (e : Expression) (t : Scalar)
    → Here unit f frame scopes m h
    → HasType unit.words scopes e t
    → IsPlain e
    → Gives unit frame m (lowered_values.value_of (program_of unit) scopes e)
    (meaning.value_of (program_of unit) scopes h e)

abbrev pub AddressesAgree : Type 0
AddressesAgree = (unit : UnitTree) (f : ℕ) (frame : List ℕ → ℕ) (scopes : List Scope) (m h : List RunEvent)
    (e : Expression) (t : Scalar)
    → Here unit f frame scopes m h
    → HasType unit.words scopes e t
    → IsPlain e
    → designates unit.words scopes e ≡ true
    → Gives unit frame m (lowered_values.address_of (program_of unit) scopes e)
    (meaning.address_of (program_of unit) scopes h e)

-- a condition that is no comparison
abbrev pub TestsAgree : Type 0
TestsAgree = (unit : UnitTree) (f : ℕ) (frame : List ℕ → ℕ) (scopes : List Scope) (m h : List RunEvent)
    (e : Expression) (t : Scalar)
    → Here unit f frame scopes m h
    → HasType unit.words scopes e t
    → IsPlain e
    → value_in unit frame m (lowered_values.is_true (lowered_values.value_of (program_of unit) scopes e)) ≡ as_bit (meaning.condition_of (program_of unit) scopes h e)

-- an operator of two operands as a condition
abbrev pub ComparisonsAgree : Type 0
ComparisonsAgree = (unit : UnitTree) (f : ℕ) (frame : List ℕ → ℕ) (scopes : List Scope) (m h : List RunEvent)
    (op : Binary) (token : ℕ) (left right : Expression) (t : Scalar)
    → Here unit f frame scopes m h
    → HasType unit.words scopes (WithBinary op token left right) t
    → IsPlain (WithBinary op token left right)
    → value_in unit frame m
    (lowered_values.test_of op (meaning.kind_of unit.words scopes left) (meaning.kind_of unit.words scopes right)
    (lowered_values.value_of (program_of unit) scopes left) (lowered_values.value_of (program_of unit) scopes right))
    ≡ as_bit (meaning.condition_of (program_of unit) scopes h (WithBinary op token left right))

-- an operator at what both sides give, as in `op=`, `++` and `--`
abbrev pub OperatorsAgree : Type 0
OperatorsAgree = (unit : UnitTree) (frame : List ℕ → ℕ) (m : List RunEvent) (op : Binary) (a b : Scalar)
    (left right : NamedExpression) (l r : Valued)
    → FramesStand unit
    → is_of_conditions op ≡ false
    → Gives unit frame m left l
    → Gives unit frame m right r
    → FitsValued 32 r
    → Gives unit frame m (lowered_values.binary_value op a b left right) (meaning_values.binary_value op a b l r)

-- a value has 32 bits
abbrev pub ValuesFit : Type 0
ValuesFit = (unit : UnitTree) (scopes : List Scope) (h : List RunEvent) (e : Expression) → IsSoundHistory h
    → FitsValued 32 (meaning.value_of (program_of unit) scopes h e)

abbrev pub OperatorsFit : Type 0
OperatorsFit = (op : Binary) (a b : Scalar) (l r : Valued) → FitsValued 32 l → FitsValued 32 r
    → FitsValued 32 (meaning_values.binary_value op a b l r)

-- ---- conversions to the type of what is assigned, given or returned

abbrev pub CutsAgree : Type 0
CutsAgree = (unit : UnitTree) (frame : List ℕ → ℕ) (m : List RunEvent) (t : Scalar) (e : NamedExpression) (v : Valued)
    → Gives unit frame m e v
    → Gives unit frame m (lowered_values.cut_to t e) (on_value (meaning_values.cut_to t) v)

abbrev pub CutsFit : Type 0
CutsFit = (t : Scalar) (v : Valued) → FitsValued 32 v → FitsValued (bits_of_scalar t)
    (on_value (meaning_values.cut_to t) v)

-- ---- stores

-- a fault of the address, then of the value, then of the store
abbrev pub StoresAgree : Type 0
StoresAgree = (unit : UnitTree) (frame : List ℕ → ℕ) (m h : List RunEvent) (size : ℕ) (to e : NamedExpression)
    (place v : Valued)
    → FramesStand unit
    → Agrees unit m h
    → Gives unit frame m to place
    → Gives unit frame m e v
    → FitsValued size v
    → AgreeAfter unit (after_store (frames_of unit) m (value_in unit frame m to) (value_in unit frame m e))
    (meaning_statements.stored (program_of unit) h place v)

-- the address of an object that the function sees
abbrev pub ObjectsAgree : Type 0
ObjectsAgree = (unit : UnitTree) (f : ℕ) (frame : List ℕ → ℕ) (m : List RunEvent) (token offset : ℕ)
    → IsNaming unit f frame
    → Sees unit f (object_at (objects_of unit) token)
    → Gives unit frame m (Address (frame_of (program_of unit) token) offset)
    (Ok (values.Ptr (object_at (objects_of unit) token) offset))

-- a constant of an array
pub record ElementAgrees (unit : UnitTree) (frame : List ℕ → ℕ) (m : List RunEvent) (kind : Integer)
    (cs : List Constant) : Type 0 where
  pub gives : Gives unit frame m (lowered_values.cut kind (lowered_effects.first_element (program_of unit) cs))
      (Ok (meaning_statements.first_element unit.words kind cs))
  pub fits : FitsValue (bits_of_type kind) (meaning_statements.first_element unit.words kind cs)

abbrev pub ElementsAgree : Type 0
ElementsAgree = (unit : UnitTree) (frame : List ℕ → ℕ) (m : List RunEvent) (kind : Integer) (cs : List Constant)
    → ElementAgrees unit frame m kind cs

-- ---- calls

abbrev pub ArgumentsAgree : Type 0
ArgumentsAgree = (unit : UnitTree) (f : ℕ) (frame : List ℕ → ℕ) (scopes : List Scope) (m h : List RunEvent)
    (es : List Expression) (kinds : List Scalar) (ps : List Parameter)
    → Here unit f frame scopes m h
    → ArgumentsSuit unit.words scopes es kinds
    → All IsPlain es
    → operands (map (runs.value_of (frames_of unit) m) (map (with_frames frame)
    (lowered_effects.arguments (program_of unit) scopes es ps)))
    ≡ embedded_results (frame_number unit) (operands (meaning_statements.arguments (program_of unit) scopes h es ps))

-- each value that is given has the size that it tells
abbrev pub ArgumentsFit : Type 0
ArgumentsFit = (unit : UnitTree) (scopes : List Scope) (h : List RunEvent) (es : List Expression)
    (ps : List Parameter) (vs : List Value)
    → IsSoundHistory h
    → operands (meaning_statements.arguments (program_of unit) scopes h es ps) ≡ Ok vs
    → All IsWhole vs

-- where the arguments of a function lie
abbrev pub parameter_frame : UnitTree → Parameter → ℕ
parameter_frame unit p = frame_number unit (object_at (objects_of unit) (token_of_parameter p))

-- the frame of the global that a token declares
abbrev pub declared_frame : UnitTree → ℕ → ℕ
declared_frame unit token = frame_number unit (object_at (objects_of unit) token)

pub record IsLaidOut (unit : UnitTree) (program : NumberedProgram) : Type 0 where
  pub frames : FramesStand unit
  pub rows : program.frames ≡ frame_rows (lowered unit)
  pub arguments : (g : ℕ) → runs_entering.args_at program g ≡ map (parameter_frame unit)
      (function_at (program_of unit) g).parameters
  pub no_inits : (g : ℕ) → runs_entering.inits_at program g ≡ []
  pub exports : program.exports ≡ map (declared_frame unit) (integers_of unit)
  pub globals : Agrees unit (runs_entering.with_inits program.inits [])
      (meaning_programs.globals_first (program_of unit) unit.externals [])

abbrev pub EntersAgree : Type 0
EntersAgree = (unit : UnitTree) (program : NumberedProgram) (g : ℕ) (vs : List Value) (m h : List RunEvent)
    → IsLaidOut unit program
    → All IsWhole vs
    → Agrees unit m h
    → Agrees unit (runs_entering.entered program g (map (embed unit) vs) m)
    (meaning_programs.entered (program_of unit) g vs h)

-- where a result of the type i is stored, and what the expression of the call gives then
pub record ResultAgrees (unit : UnitTree) (f : ℕ) (frame : List ℕ → ℕ) (m h : List RunEvent) (k : ℕ) (i : Integer)
    (v : Value) : Type 0 where
  pub later : List RunEvent
  pub stored : store (frames_of unit) m (values.Ptr (frame (call_name (program_of unit) f k)) 0)
      (embed unit v) ≡ Ok later
  pub agree : Agrees unit later h
  pub gives : Gives unit frame later (lowered_effects.result_value (outcomes.Integer i)
      (call_name (program_of unit) f k)) (meaning_statements.given (outcomes.Integer i) (Some v))
  pub fits : FitsValued 32 (meaning_statements.given (outcomes.Integer i) (Some v))

abbrev pub ResultsAgree : Type 0
ResultsAgree = (unit : UnitTree) (f : ℕ) (frame : List ℕ → ℕ) (m h : List RunEvent) (k : ℕ) (i : Integer) (v : Value)
    → FramesStand unit
    → IsNaming unit f frame
    → Contains (frames_in_body unit f) (record { name = call_name (program_of unit) f k; bits = bits_of_type i })
    → Agrees unit m h
    → is_running m f ≡ true
    → FitsValue (bits_of_type i) v
    → ResultAgrees unit f frame m h k i v

-- ---- outputs and starts

abbrev pub OutputsAgree : Type 0
OutputsAgree = (unit : UnitTree) (program : NumberedProgram) (m h : List RunEvent)
    → IsLaidOut unit program
    → Agrees unit m h
    → map (exported program m) program.exports ≡ map (option_map (embed unit))
    (map (meaning_programs.held (program_of unit) h) (integers_of unit))

-- the rows of the input and their words are these cells
pub data AreCells (unit : UnitTree) : List InputRow → List ℕ → List meaning_programs.Cell → Type 0 where
  none : AreCells unit [] [] []
  cell : (row : InputRow) (rows : List InputRow) (word : ℕ) (words : List ℕ) (object : ℕ)
      (cells : List meaning_programs.Cell)
      → row.frame ≡ frame_number unit object
      → word < 2 ^ row.size
      → AreCells unit rows words cells
      → AreCells unit (row ∷ rows) (word ∷ words)
      (record { object = object; offset = row.offset; size = row.size; word = word } ∷ cells)

abbrev pub StartsAgree : Type 0
StartsAgree = (unit : UnitTree) (program : NumberedProgram) (rows : List InputRow) (words : List ℕ)
    (cells : List meaning_programs.Cell)
    → IsLaidOut unit program
    → AreCells unit rows words cells
    → Agrees unit (runs_starts.start_history program rows words)
    (meaning_programs.start_history unit program.root cells)
