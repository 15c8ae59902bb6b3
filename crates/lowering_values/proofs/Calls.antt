-- Functions entered, results kept, what is told at the end, and starts.
use Rattle.std.specs.Prelude.{slice_get, negsuc, if◌then◌else◌}
use Rattle.std.specs.Option.{option_map, option_map_or}
use Rattle.std.specs.Result.{result_ok}
use Rattle.std.proofs.Common.{◌≡◌, ℕ, ◌^◌, ◌<◌, ◌/◌, ℤ, pos, neg_ℤ, Bool, true, false, List, [], ◌∷◌, map, All, Contains, Option, Some, None, Ok, Err, refl, sym, ap, ◌∙◌, subst, arith}
use Rattle.std.proofs.Math.Nat.{mod-eq_of_lt}
use Rattle.std.proofs.lemmas.Nat.{pow_pos, mod_below}
use Rattle.alf_ops.specs.declared.operator.Op.TheVariants as ops
use Rattle.std.proofs.lemmas.List.Elements.{All-nil, All-head, All-tail}
use Rattle.std.proofs.lemmas.Option.{slice_get-map}
use Rattle.alf_ops.specs.declared.history.Value.{Value}
use Rattle.alf_ops.specs.declared.history.Value.TheVariants as values
use Rattle.alf_ops.specs.declared.history.FrameShape.{FrameShape}
use Rattle.alf_ops.specs.declared.history.RunEvent.{RunEvent}
use Rattle.alf_ops.specs.declared.history.RunEvent.TheVariants.{Enter, Store}
use Rattle.alf_ops.specs.TwosComplement.{word}
use Rattle.alf_ops.specs.Values.{size_of, FitsValue}
use Rattle.alf_ops.specs.Histories.{is_running, is_active, load}
use Rattle.alf_program.specs.Tree.{NamedExpression, Address, Load}
use Rattle.alf_check.specs.declared.rows.FrameRow.{FrameRow}
use Rattle.alf_check.specs.declared.rows.InputRow.{InputRow}
use Rattle.alf_check.specs.CheckedPrograms.{NumberedProgram}
use Rattle.alf_check.specs.Numbers.{frame_rows}
use Rattle.alf_check.specs.Shapes.{shapes_of}
use Rattle.alf_runs.specs.Entering.{with_arguments, with_inits, args_at, entered}
use Rattle.alf_runs.specs.Outcomes.{bits_at, exported}
use Rattle.alf_runs.specs.Starts.{with_inputs, start_history}
use Rattle.c_unit.specs.declared.types.Integer.{Integer}
use Rattle.c_unit.specs.declared.types.Integer.TheVariants.{Char, UnsignedChar, Short, UnsignedShort, Int, UnsignedInt}
use Rattle.c_unit.specs.declared.types.Constant.{Constant}
use Rattle.c_unit.specs.declared.external.Parameter.{Parameter}
use Rattle.c_unit.specs.Units.{UnitTree}
use Rattle.c_tokens.specs.declared.worth.Worth.{Worth}
use Rattle.c_tokens.specs.declared.worth.Worth.TheVariants as worth
use Rattle.c_rules.specs.Names.{worth_at, number_of, text_at}
use Rattle.c_meaning.specs.Values.{Valued, bits_of_type}
use Rattle.c_meaning.specs.Objects as meaning
use Rattle.c_meaning.specs.Objects.{program_of, objects_of, object_at, function_at, integers_of, token_of_parameter}
use Rattle.c_meaning.specs.Statements.{constant_number}
use Rattle.c_meaning.specs.Programs as programs
use Rattle.c_lowered.specs.Names.{call_name}
use Rattle.c_lowered.specs.Values as lowered
use Rattle.c_lowered.specs.Effects as effects
use Rattle.c_lowered.specs.Programs.{lowered as lowered_unit}
use Rattle.lowering_values.specs.Embedding.{embedded_value, embedded_result}
use Rattle.lowering_values.specs.EmbeddingLaws.{LoadsAgree, FurtherFrame, SizesStay, EventsAgree, IsKeptIn}
use Rattle.lowering_values.specs.OperatorLaws.{ExtendsGive, ExtendsFit, CutsGive, WordsAreCut}
use Rattle.lowering_values.specs.Frames.{frame_number, is_object_frame, frames_of, FramesStand, IsNaming, IsResultFrame, frames_in_body, Agrees}
use Rattle.lowering_values.specs.Agreement.{value_in, Gives, embed, IsWhole, ElementAgrees, ResultAgrees, IsLaidOut, parameter_frame, declared_frame, AreCells, none, cell}
use Rattle.lowering_values.proofs.Constants.{worth_small}
use Rattle.lowering_values.proofs.Fitting.{type_cell}
use Rattle.lowering_values.proofs.Stores.{size_is}

-- ---- functions entered

-- a value that is put into the frame of an object
pub put : EventsAgree → SizesStay → (unit : UnitTree) (m h : List RunEvent) (o : ℕ) (v : Value) → FramesStand unit
    → IsWhole v → Agrees unit m h
    → Agrees unit (Store (frame_number unit o) 0 (size_of (embed unit v)) (embed unit v) ∷ m) (Store o 0 (size_of v) v ∷ h)
put events stay unit m h o v stand fits agree =
    subst (λ (size : ℕ). Agrees unit (Store (frame_number unit o) 0 size (embed unit v) ∷ m) (Store o 0 (size_of v) v ∷ h)) (sym (stay (frame_number unit) v))
    ((events (frame_number unit) (is_object_frame unit) m h agree).put o 0 (size_of v) v (stand.told o) fits)

arguments_put : EventsAgree → SizesStay
    → (unit : UnitTree) (ps : List Parameter) (vs : List Value) (m h : List RunEvent) → FramesStand unit
    → All IsWhole vs → Agrees unit m h
    → Agrees unit (with_arguments (map (parameter_frame unit) ps) (map (embed unit) vs) m) (programs.with_arguments (program_of unit) ps vs h)
arguments_put events stay unit [] vs m h stand fits agree = agree
arguments_put events stay unit (p ∷ ps) [] m h stand fits agree = agree
arguments_put events stay unit (p ∷ ps) (v ∷ vs) m h stand fits agree =
    arguments_put events stay unit ps vs (Store (parameter_frame unit p) 0 (size_of (embed unit v)) (embed unit v) ∷ m) (Store (object_at (objects_of unit) (token_of_parameter p)) 0 (size_of v) v ∷ h)
    stand (All-tail IsWhole v vs fits) (put events stay unit m h (object_at (objects_of unit) (token_of_parameter p)) v stand (All-head IsWhole v vs fits) agree)

pub enters_agree : EventsAgree → SizesStay
    → (unit : UnitTree) (program : NumberedProgram) (g : ℕ) (vs : List Value) (m h : List RunEvent)
    → IsLaidOut unit program → All IsWhole vs → Agrees unit m h
    → Agrees unit (entered program g (map (embed unit) vs) m) (programs.entered (program_of unit) g vs h)
enters_agree events stay unit program g vs m h laid fits agree =
    subst (λ inits. Agrees unit (with_inits inits (with_arguments (args_at program g) (map (embed unit) vs) (Enter g ∷ m))) (programs.entered (program_of unit) g vs h)) (sym (laid.no_inits g))
    (subst (λ (args : List ℕ). Agrees unit (with_arguments args (map (embed unit) vs) (Enter g ∷ m)) (programs.entered (program_of unit) g vs h)) (sym (laid.arguments g))
    (arguments_put events stay unit (function_at (program_of unit) g).parameters vs (Enter g ∷ m) (Enter g ∷ h) laid.frames fits
    ((events (frame_number unit) (is_object_frame unit) m h agree).enter g)))

-- ---- results

-- what a load gives of a result in its frame
result_read : (unit : UnitTree) (frame : List ℕ → ℕ) (m : List RunEvent) (name : List ℕ) (i : Integer) (v : Value) (value : Value)
    → size_of value ≡ bits_of_type i → load (frames_of unit) m (values.Ptr (frame name) 0) (size_of value) ≡ Ok value → value ≡ embed unit v
    → Gives unit frame m (Load (bits_of_type i) (Address name 0)) (Ok v)
result_read unit frame m name i v value sized read is =
    subst (λ (size : ℕ). load (frames_of unit) m (values.Ptr (frame name) 0) size ≡ Ok value) sized read ∙ ap Ok is

pub results_agree : FurtherFrame → SizesStay → ExtendsGive → ExtendsFit
    → (unit : UnitTree) (f : ℕ) (frame : List ℕ → ℕ) (m h : List RunEvent) (k : ℕ) (i : Integer) (v : Value)
    → FramesStand unit → IsNaming unit f frame
    → Contains (frames_in_body unit f) (record { name = call_name (program_of unit) f k; bits = bits_of_type i })
    → Agrees unit m h → is_running m f ≡ true → FitsValue (bits_of_type i) v → ResultAgrees unit f frame m h k i v
results_agree further stay extends extends_fit unit f frame m h k i v stand naming among agree running fits =
    record {
      later = kept.later;
      stored = kept.stored;
      agree = kept.agrees;
      gives = extends (frame_number unit) (frames_of unit) frame kept.later i (Load (bits_of_type i) (Address name 0)) (Ok v)
          (result_read unit frame kept.later name i v value sized kept.loaded refl);
      fits = extends_fit i (Ok v) fits;
    }
  where
    name : List ℕ
    name = call_name (program_of unit) f k

    value : Value
    value = embed unit v

    is : IsResultFrame unit f i (frame name)
    is = naming.results k i among

    sized : size_of value ≡ bits_of_type i
    sized = stay (frame_number unit) v ∙ size_is (bits_of_type i) v fits

    shape : FrameRow → FrameShape
    shape row = record { owner = row.owner; bits = row.bits }

    at : slice_get (frames_of unit) (frame name) ≡ Some (shape is.row)
    at = slice_get-map shape (frame_rows (lowered_unit unit)) (frame name) ∙ ap (option_map shape) is.at

    kept : IsKeptIn (frame_number unit) (is_object_frame unit) (frames_of unit) m h (frame name) value
    kept = further (frame_number unit) (is_object_frame unit) (frames_of unit) m h (frame name) (shape is.row) value agree is.other at
        (subst (λ (owner : Option ℕ). is_active owner m ≡ true) (sym is.owned) running) (sized ∙ sym is.sized)
        (subst (λ (size : ℕ). 0 < size / 8) (sym sized) (type_cell i).0)

-- ---- outputs

told_same : (place : ℕ → ℕ) (r : Valued)
    → result_ok (embedded_result place r) ≡ option_map (embedded_value place) (result_ok r)
told_same place (Ok v) = refl
told_same place (Err fault) = refl

abbrev bits_in : Option FrameShape → ℕ
bits_in found = option_map_or (λ (shape : FrameShape). shape.bits) found 0

row_bits : (found : Option FrameRow) → option_map_or (λ (row : FrameRow). row.bits) found 0 ≡ bits_in (option_map (λ (row : FrameRow). record { owner = row.owner; bits = row.bits }) found)
row_bits None = refl
row_bits (Some row) = refl

module _ (loads : LoadsAgree) (unit : UnitTree) (program : NumberedProgram) (m h : List RunEvent) (laid : IsLaidOut unit program) (agree : Agrees unit m h) where
  -- a frame of an object has the object's size
  same_bits : (o : ℕ) → bits_at program (frame_number unit o) ≡ programs.bits_at (program_of unit) o
  same_bits o =
      ap (λ (rows : List FrameRow). option_map_or (λ (row : FrameRow). row.bits) (slice_get rows (frame_number unit o)) 0) laid.rows
      ∙ row_bits (slice_get (frame_rows (lowered_unit unit)) (frame_number unit o))
      ∙ ap bits_in (sym (slice_get-map (λ (row : FrameRow). record { owner = row.owner; bits = row.bits }) (frame_rows (lowered_unit unit)) (frame_number unit o)))
      ∙ ap bits_in (laid.frames.same o)

  held_same : (o : ℕ) → exported program m (frame_number unit o)
      ≡ option_map (embed unit) (result_ok (load (meaning.shapes_of (program_of unit)) h (values.Ptr o 0) (programs.bits_at (program_of unit) o)))
  held_same o =
      ap (λ (rows : List FrameRow). result_ok (load (shapes_of rows) m (values.Ptr (frame_number unit o) 0) (bits_at program (frame_number unit o)))) laid.rows
      ∙ ap (λ (bits : ℕ). result_ok (load (frames_of unit) m (values.Ptr (frame_number unit o) 0) bits)) (same_bits o)
      ∙ ap (λ (r : Valued). result_ok r) (loads (frame_number unit) (is_object_frame unit) (meaning.shapes_of (program_of unit)) (frames_of unit) m h (values.Ptr o 0) (programs.bits_at (program_of unit) o) laid.frames agree)
      ∙ told_same (frame_number unit) (load (meaning.shapes_of (program_of unit)) h (values.Ptr o 0) (programs.bits_at (program_of unit) o))

  each_held : (tokens : List ℕ) → map (exported program m) (map (declared_frame unit) tokens) ≡ map (option_map (embed unit)) (map (programs.held (program_of unit) h) tokens)
  each_held [] = refl
  each_held (token ∷ tokens) = rw (held_same (object_at (objects_of unit) token), each_held tokens) refl

  pub outputs_agree : map (exported program m) program.exports ≡ map (option_map (embed unit)) (map (programs.held (program_of unit) h) (integers_of unit))
  outputs_agree = ap (λ (frames : List ℕ). map (exported program m) frames) laid.exports ∙ each_held (integers_of unit)

-- ---- starts

inputs_agree : EventsAgree
    → (unit : UnitTree) (rows : List InputRow) (words : List ℕ) (cells : List programs.Cell) (m h : List RunEvent)
    → FramesStand unit → AreCells unit rows words cells → Agrees unit m h → Agrees unit (with_inputs rows words m) (programs.with_cells cells h)
inputs_agree events unit rows words cells m h stand none agree = agree
inputs_agree events unit rows words cells m h stand (cell row rows_after word words_after object cells_after at small rest) agree =
    inputs_agree events unit rows_after words_after cells_after
    (Store row.frame row.offset row.size (values.Int row.size word) ∷ m) (Store object row.offset row.size (values.Int row.size word) ∷ h) stand rest
    (subst (λ (frame : ℕ). Agrees unit (Store frame row.offset row.size (values.Int row.size word) ∷ m) (Store object row.offset row.size (values.Int row.size word) ∷ h)) (sym at)
    ((events (frame_number unit) (is_object_frame unit) m h agree).put object row.offset row.size (values.Int row.size word) (stand.told object) (refl, small)))

pub starts_agree : EventsAgree → SizesStay
    → (unit : UnitTree) (program : NumberedProgram) (rows : List InputRow) (words : List ℕ) (cells : List programs.Cell)
    → IsLaidOut unit program → AreCells unit rows words cells
    → Agrees unit (start_history program rows words) (programs.start_history unit program.root cells)
starts_agree events stay unit program rows words cells laid are =
    inputs_agree events unit rows words cells (entered program program.root [] (with_inits program.inits []))
    (programs.entered (program_of unit) program.root [] (programs.globals_first (program_of unit) unit.externals [])) laid.frames are
    (enters_agree events stay unit program program.root [] (with_inits program.inits []) (programs.globals_first (program_of unit) unit.externals []) laid (All-nil IsWhole) laid.globals)

-- ---- constants of arrays

module _ (cuts : CutsGive) (cut_words : WordsAreCut) (unit : UnitTree) (frame : List ℕ → ℕ) (m : List RunEvent) where
  abbrev G : NamedExpression → Valued → Type 0
  G e v = Gives unit frame m e v

  -- a number of 32 bits, cut to a type
  cut_number : (kind : Integer) (e : NamedExpression) (z : ℤ) → G e (Ok (values.Int 32 (word 32 z)))
      → G (lowered.cut kind e) (Ok (values.Int (bits_of_type kind) (word (bits_of_type kind) z)))
  cut_number kind e z g = cuts (frame_number unit) (frames_of unit) frame m (Rattle.c_unit.specs.declared.types.Scalar.TheVariants.Integer kind) e (Ok (values.Int 32 (word 32 z))) g ∙ lowest kind
    where
      lowest : (kind : Integer) → embedded_result (frame_number unit) (Rattle.c_meaning.specs.Values.cut (bits_of_type kind) (values.Int 32 (word 32 z))) ≡ Ok (values.Int (bits_of_type kind) (word (bits_of_type kind) z))
      lowest Int = refl
      lowest UnsignedInt = refl
      lowest Char = ap (λ (w : ℕ). Ok (values.Int 8 w)) (cut_words 8 32 z (omega arith))
      lowest UnsignedChar = ap (λ (w : ℕ). Ok (values.Int 8 w)) (cut_words 8 32 z (omega arith))
      lowest Short = ap (λ (w : ℕ). Ok (values.Int 16 w)) (cut_words 16 32 z (omega arith))
      lowest UnsignedShort = ap (λ (w : ℕ). Ok (values.Int 16 w)) (cut_words 16 32 z (omega arith))

  constant_plain : (w : Worth) → number_of w < 2 ^ 32
      → G (lowered.constant_of w) (Ok (values.Int 32 (word 32 (pos (number_of w)))))
  constant_plain w small = same w ∙ ap (λ (n : ℕ). Ok (values.Int 32 n)) (sym (mod-eq_of_lt small))
    where
      same : (w : Worth) → value_in unit frame m (lowered.constant_of w) ≡ Ok (values.Int 32 (number_of w))
      same worth.NoConstant = refl
      same worth.TooLarge = refl
      same (worth.Int n) = refl
      same (worth.UnsignedInt n) = refl

  constant_minus : (w : Worth) → G (lowered.of_one ops.Neg lowered.size (lowered.constant_of w)) (Ok (values.Int 32 (word 32 (neg_ℤ (pos (number_of w))))))
  constant_minus worth.NoConstant = refl
  constant_minus worth.TooLarge = refl
  constant_minus (worth.Int n) = refl
  constant_minus (worth.UnsignedInt n) = refl

  signed_constant : (minus : Bool) (token : ℕ)
      → G (if minus then lowered.of_one ops.Neg lowered.size (lowered.constant_of (worth_at unit.words token)) else lowered.constant_of (worth_at unit.words token))
      (Ok (values.Int 32 (word 32 (if minus then neg_ℤ (pos (number_of (worth_at unit.words token))) else pos (number_of (worth_at unit.words token))))))
  signed_constant true token = constant_minus (worth_at unit.words token)
  signed_constant false token = constant_plain (worth_at unit.words token) (worth_small (text_at unit.words token))

  zero_gives : (kind : Integer) → G (lowered.cut kind (lowered.whole 0)) (Ok (values.Int (bits_of_type kind) 0))
  zero_gives Int = refl
  zero_gives UnsignedInt = refl
  zero_gives Char = refl
  zero_gives UnsignedChar = refl
  zero_gives Short = refl
  zero_gives UnsignedShort = refl

  type_some : (kind : Integer) → 0 < 2 ^ bits_of_type kind
  type_some kind = pow_pos (bits_of_type kind)

  pub element_agrees : (kind : Integer) (cs : List Constant) → ElementAgrees unit frame m kind cs
  element_agrees kind [] = record { gives = zero_gives kind; fits = (refl, type_some kind) }
  element_agrees kind (c ∷ cs) = record {
    gives = cut_number kind (effects.constant_value (program_of unit) c) (constant_number unit.words c) (signed_constant c.minus c.token);
    fits = (refl, word_in (bits_of_type kind) (constant_number unit.words c));
  }
    where
      word_in : (size : ℕ) (z : ℤ) → word size z < 2 ^ size
      word_in size (pos a) = mod_below a (2 ^ size) (pow_pos size)
      word_in size (negsuc a) = let some = pow_pos size in omega (arith, some)
