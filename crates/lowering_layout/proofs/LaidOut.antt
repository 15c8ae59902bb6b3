-- Arguments, exports and first words lie where the objects lie.
use Rattle.std.specs.Prelude.{slice_get, unwrap_or}
use Rattle.std.specs.Option.{option_map, option_map_or}
use Rattle.std.specs.List.{range_with_len}
use Rattle.std.proofs.Common.{◌≡◌, ◌+◌, ℕ, zero, suc, List, [], ◌∷◌, ◌++◌, map, length, Option, Some, None, refl, sym, ap, ◌∙◌, subst, arith}
use Rattle.std.proofs.lemmas.Option.{none-some, same_Some, slice_get-map}
use Rattle.alf_ops.specs.declared.history.Value.TheVariants as values
use Rattle.alf_ops.specs.declared.history.RunEvent.{RunEvent}
use Rattle.alf_ops.specs.declared.history.RunEvent.TheVariants.{Store}
use Rattle.alf_ops.specs.Values.{FitsValue}
use Rattle.alf_program.specs.Tree.{Allocation, InitialValue, WholeProgram}
use Rattle.alf_program.specs.Tree as alf
use Rattle.alf_faults.specs.Places.{frame_place}
use Rattle.alf_check.specs.declared.rows.FrameRow.{FrameRow}
use Rattle.alf_check.specs.declared.rows.InitRow.{InitRow}
use Rattle.alf_check.specs.CheckedPrograms.{NumberedFunction}
use Rattle.alf_check.specs.Numbers.{row_for, frame_rows, first_frame, frames_before, placed}
use Rattle.alf_check.specs.Numbered.{numbered_init, numbered_function, functions_from, export_number, numbered}
use Rattle.alf_runs.specs.Entering.{with_inits, args_at, inits_at}
use Rattle.c_unit.specs.declared.types.Integer.{Integer}
use Rattle.c_unit.specs.declared.types.Constant.{Constant}
use Rattle.c_unit.specs.declared.external.Parameter.{Parameter}
use Rattle.c_unit.specs.Tree.{ShapeTree, GlobalInteger, GlobalArray, FunctionOf, DeclaratorTree, ExternalTree, Declaration, Definition}
use Rattle.c_unit.specs.Units.{UnitTree}
use Rattle.c_rules.specs.Units.{element_of}
use Rattle.c_meaning.specs.Values.{bits_of_type, bytes_of_type}
use Rattle.c_meaning.specs.Objects as meaning
use Rattle.c_meaning.specs.Objects.{Object, Function, Program, program_of, objects_of, object_at, function_at, parameter_object, token_of_parameter, global_object, globals_declared, globals_in, count_at, integers_in, integers_of}
use Rattle.c_meaning.specs.Statements.{first_element, zero_value, constant_value}
use Rattle.c_meaning.specs.Programs.{elements_first, global_first, declarators_first, globals_first}
use Rattle.c_lowered.specs.Names.{frame_of}
use Rattle.c_lowered.specs.Frames.{parameter_frames, global_frames, element_words, shape_words, declarators_words, first_words}
use Rattle.c_lowered.specs.Frames as frames
use Rattle.c_lowered.specs.Programs.{lowered_function, lowered_from, lowered}
use Rattle.lowering_values.specs.EmbeddingLaws.{EventsAgree}
use Rattle.lowering_layout.specs.Lists.{EachOf}
use Rattle.lowering_layout.specs.ListLaws.{each_when, each_both, each_joined, each_parts, each_at}
use Rattle.lowering_layout.specs.Spelled.{HasNames}
use Rattle.lowering_layout.specs.PartFrames.{HasFrame}
use Rattle.lowering_layout.specs.PlaceLaws.{object_found, each_of_places}
use Rattle.lowering_layout.specs.Views.{globals_part}
use Rattle.lowering_values.specs.Frames.{frame_number, is_object_frame, Agrees}
use Rattle.lowering_values.specs.Agreement.{ElementsAgree, IsLaidOut, parameter_frame, declared_frame}
use Rattle.lowering_layout.proofs.Rows.{global_at, arg_at, placed_at, not_placed}
use Rattle.lowering_layout.proofs.Objects.{lowered_at, to_function, number_is, frames_stand}
use Rattle.lowering_layout.proofs.Naming.{by_place}

-- ---- functions by number

by_function : {A : Type 0} (x : Option Function) → (x ≡ None → A) → ((function : Function) → x ≡ Some function → A) → A
by_function None first second = first refl
by_function (Some function) first second = second function refl

lowered_none : (program : Program) (k : ℕ) (functions : List Function) (f : ℕ) → slice_get functions f ≡ None
    → slice_get (lowered_from program k functions) f ≡ None
lowered_none program k [] f at = refl
lowered_none program k (g ∷ gs) zero at = absurd (none-some g (sym at))
lowered_none program k (g ∷ gs) (suc f) at = lowered_none program (suc k) gs f at

function_none : (whole : WholeProgram) (first : ℕ) (funcs : List alf.Function) (g : ℕ) → slice_get funcs g ≡ None
    → slice_get (functions_from whole first funcs) g ≡ None
function_none whole first [] g at = refl
function_none whole first (f ∷ fs) zero at = absurd (none-some f (sym at))
function_none whole first (f ∷ fs) (suc g) at = function_none whole (first + (length f.args + length f.decls)) fs g at

function_some : (whole : WholeProgram) (first : ℕ) (funcs : List alf.Function) (g : ℕ) (func : alf.Function)
    → slice_get funcs g ≡ Some func
    → slice_get (functions_from whole first funcs) g ≡ Some (numbered_function whole (first + frames_before funcs g) func)
function_some whole first [] g func at = absurd (none-some func at)
function_some whole first (f ∷ fs) zero func at =
    ap (λ (x : alf.Function). Some (numbered_function whole first x)) (same_Some f func at)
    ∙ ap (λ (n : ℕ). Some (numbered_function whole n func)) (let e : first ≡ first + 0 = omega arith in e)
function_some whole first (f ∷ fs) (suc g) func at =
    function_some whole (first + (length f.args + length f.decls)) fs g func at
    ∙ ap (λ (n : ℕ). Some (numbered_function whole n func))
    (let e : (first + (length f.args + length f.decls)) + frames_before fs g ≡ first + ((length f.args + length f.decls) + frames_before fs g) = omega arith in e)

module _ (unit : UnitTree) (names : HasNames (program_of unit)) (root : List ℕ) where
  abbrev P : Program
  P = program_of unit

  abbrev rows : List FrameRow
  rows = frame_rows (lowered unit)

  abbrev decls : List Allocation
  decls = global_frames P

  -- each object is found by its token
  abbrev IsKnown : Object → Type 0
  IsKnown o = slice_get (objects_of unit) (object_at (objects_of unit) o.token) ≡ Some o

  all_known : EachOf IsKnown (objects_of unit)
  all_known = each_of_places IsKnown (objects_of unit) (λ i o at. ap (λ (n : ℕ). slice_get (objects_of unit) n) (object_found P names i o at) ∙ at)

  -- ---- arguments

  parameters_known : (g : ℕ) (function : Function) → slice_get P.functions g ≡ Some function
      → EachOf IsKnown (map (parameter_object g) function.parameters)
  parameters_known g function at =
      let owned = (each_parts IsKnown (globals_in unit.words unit.externals) (meaning.owned_in unit.words 0 unit.externals) all_known).1 in
      subst (λ (n : ℕ). EachOf IsKnown (map (parameter_object n) function.parameters)) (let e : 0 + g ≡ g = omega arith in e)
      (to_function IsKnown unit.words 0 (record { scope = []; made = [] }) unit.externals g function at owned).0

  parameter_number : (g : ℕ) (function : Function) → slice_get P.functions g ≡ Some function → (j : ℕ) (p : Parameter)
      → slice_get function.parameters j ≡ Some p
      → first_frame (lowered unit) g + j ≡ parameter_frame unit p
  parameter_number g function at j p at_p =
      let o = parameter_object g p in
      let known : IsKnown o =
      each_at IsKnown (map (parameter_object g) function.parameters) j o
      (slice_get-map (parameter_object g) function.parameters j ∙ ap (λ (x : Option Parameter). option_map (parameter_object g) x) at_p) (parameters_known g function at)
      in
      let here : slice_get (lowered unit).funcs g ≡ Some (lowered_function P g function) =
      lowered_at P 0 P.functions g function at ∙ ap (λ (n : ℕ). Some (lowered_function P n function)) (let e : 0 + g ≡ g = omega arith in e)
      in
      let at_arg : slice_get (parameter_frames P function.parameters) j ≡ Some (frames.parameter_frame P p) =
      slice_get-map (frames.parameter_frame P) function.parameters j ∙ ap (λ (x : Option Parameter). option_map (frames.parameter_frame P) x) at_p
      in
      number_is unit names (object_at (objects_of unit) (token_of_parameter p)) o (first_frame (lowered unit) g + j) (row_for (Some g) (frames.parameter_frame P p)) known
      (arg_at (lowered unit) g (lowered_function P g function) j (frames.parameter_frame P p) here at_arg) refl

  range_is : (params : List Parameter) (start : ℕ)
      → ((j : ℕ) (p : Parameter) → slice_get params j ≡ Some p → start + j ≡ parameter_frame unit p)
      → range_with_len start (length (parameter_frames P params)) ≡ map (parameter_frame unit) params
  range_is [] start each = refl
  range_is (p ∷ ps) start each =
      ap (λ (n : ℕ). n ∷ range_with_len (start + 1) (length (parameter_frames P ps))) ((let e : start ≡ start + 0 = omega arith in e) ∙ each 0 p refl)
      ∙ ap (λ (ns : List ℕ). parameter_frame unit p ∷ ns)
      (range_is ps (start + 1) (λ j q at. (let e : (start + 1) + j ≡ start + suc j = omega arith in e) ∙ each (suc j) q at))

  abbrev of_args : Option NumberedFunction → List ℕ
  of_args found = option_map_or (λ (function : NumberedFunction). function.args) found []

  abbrev of_inits : Option NumberedFunction → List InitRow
  of_inits found = option_map_or (λ (function : NumberedFunction). function.inits) found []

  own_parameters : Option Function → List Parameter
  own_parameters found = (option_map_or (λ (function : Function). function) found meaning.no_function).parameters

  no_function_at : (g : ℕ) → slice_get P.functions g ≡ None
      → slice_get (functions_from (lowered unit) (length decls) (lowered unit).funcs) g ≡ None
  no_function_at g none = function_none (lowered unit) (length decls) (lowered unit).funcs g (lowered_none P 0 P.functions g none)

  function_number : (g : ℕ) (function : Function) → slice_get P.functions g ≡ Some function
      → slice_get (functions_from (lowered unit) (length decls) (lowered unit).funcs) g ≡ Some (numbered_function (lowered unit) (first_frame (lowered unit) g) (lowered_function P g function))
  function_number g function at =
      function_some (lowered unit) (length decls) (lowered unit).funcs g (lowered_function P g function)
      (lowered_at P 0 P.functions g function at ∙ ap (λ (n : ℕ). Some (lowered_function P n function)) (let e : 0 + g ≡ g = omega arith in e))

  arguments : (g : ℕ)
      → args_at (numbered (lowered unit) root) g ≡ map (parameter_frame unit) (function_at P g).parameters
  arguments g =
      by_function (slice_get P.functions g)
      (λ none.
      ap of_args (no_function_at g none)
      ∙ sym (ap (λ (x : Option Function). map (parameter_frame unit) (option_map_or (λ (function : Function). function) x meaning.no_function).parameters) none))
      (λ function at.
      ap of_args (function_number g function at)
      ∙ range_is function.parameters (first_frame (lowered unit) g) (λ j p at_p. parameter_number g function at j p at_p)
      ∙ sym (ap (λ (x : Option Function). map (parameter_frame unit) (option_map_or (λ (function : Function). function) x meaning.no_function).parameters) at))

  no_inits : (g : ℕ) → inits_at (numbered (lowered unit) root) g ≡ []
  no_inits g =
      by_function (slice_get P.functions g)
      (λ none. ap of_inits (no_function_at g none))
      (λ function at. ap of_inits (function_number g function at))

  -- ---- globals

  -- the frame of the name of a global is that of its object
  abbrev IsNumbered : ℕ → Type 0
  IsNumbered token = unwrap_or (placed 0 decls (frame_of P token)) 0 ≡ frame_number unit (object_at (objects_of unit) token)

  global_number : (o : Object) → IsKnown o × HasFrame P decls o → IsNumbered o.token
  global_number o has =
      by_place (frame_place decls (frame_of P o.token))
      (λ none. absurd (not_placed decls (frame_of P o.token) none has.1.frame has.1.among has.1.name))
      (λ p at.
      let found = placed_at decls (frame_of P o.token) p at in
      ap (λ (x : Option ℕ). unwrap_or (option_map (λ place. 0 + place) x) 0) at
      ∙ (let e : 0 + p ≡ p = omega arith in e)
      ∙ number_is unit names (object_at (objects_of unit) o.token) o p (row_for None found.frame) has.0 (global_at (lowered unit) p found.frame found.at) found.named)

  abbrev Numbered : Object → Type 0
  Numbered o = IsNumbered o.token

  all_numbered : EachOf Numbered (globals_in unit.words unit.externals)
  all_numbered =
      let known = (each_parts IsKnown (globals_in unit.words unit.externals) (meaning.owned_in unit.words 0 unit.externals) all_known).0 in
      each_when (λ (o : Object). IsKnown o × HasFrame P decls o) Numbered (globals_in unit.words unit.externals) (λ o has. global_number o has)
      (each_both IsKnown (HasFrame P decls) (globals_in unit.words unit.externals) known (globals_part unit names 0).objects_have)

  -- ---- exports

  integer_numbered : (kind : Integer) (name : ℕ) (shape : ShapeTree)
      → EachOf Numbered (global_object unit.words kind name shape)
      → EachOf IsNumbered (meaning.integer_declared name shape)
  integer_numbered kind name (GlobalInteger first) all = (all.0, tt)
  integer_numbered kind name (GlobalArray size firsts) all = tt
  integer_numbered kind name (FunctionOf params) all = tt

  declared_numbered : (kind : Integer) (ds : List DeclaratorTree)
      → EachOf Numbered (globals_declared unit.words kind ds) → EachOf IsNumbered (meaning.integers_declared ds)
  declared_numbered kind [] all = tt
  declared_numbered kind (d ∷ ds) all =
      let parts = each_parts Numbered (global_object unit.words kind d.name d.shape) (globals_declared unit.words kind ds) all in
      each_joined IsNumbered (meaning.integer_declared d.name d.shape) (meaning.integers_declared ds) (integer_numbered kind d.name d.shape parts.0) (declared_numbered kind ds parts.1)

  integers_numbered : (xs : List ExternalTree) → EachOf Numbered (globals_in unit.words xs)
      → EachOf IsNumbered (integers_in xs)
  integers_numbered [] all = tt
  integers_numbered (Declaration first o ds ∷ xs) all =
      let parts = each_parts Numbered (globals_declared unit.words (element_of o) ds) (globals_in unit.words xs) all in
      each_joined IsNumbered (meaning.integers_declared ds) (integers_in xs) (declared_numbered (element_of o) ds parts.0) (integers_numbered xs parts.1)
  integers_numbered (Definition first o name params body ∷ xs) all = integers_numbered xs all

  exports_are : (tokens : List ℕ) → EachOf IsNumbered tokens
      → map (export_number (lowered unit)) (map (frame_of P) tokens) ≡ map (declared_frame unit) tokens
  exports_are [] all = refl
  exports_are (token ∷ tokens) all =
      ap (λ (n : ℕ). n ∷ map (export_number (lowered unit)) (map (frame_of P) tokens)) all.0 ∙ ap (λ (ns : List ℕ). declared_frame unit token ∷ ns) (exports_are tokens all.1)

  -- ---- first words

  abbrev init : InitialValue → InitRow
  init word = numbered_init 0 decls word

  inits_joined : (xs ys : List InitialValue) (m : List RunEvent)
      → with_inits (map init (xs ++ ys)) m ≡ with_inits (map init ys) (with_inits (map init xs) m)
  inits_joined [] ys m = refl
  inits_joined (x ∷ xs) ys m = inits_joined xs ys (Store (init x).frame (init x).offset (init x).num.size (values.Int (init x).num.size (init x).num.bits) ∷ m)

  module _ (events : EventsAgree) (elements : ElementsAgree) where
    fits : (kind : Integer) (cs : List Constant) → FitsValue (bits_of_type kind) (first_element unit.words kind cs)
    fits kind cs = (elements unit (λ name. 0) [] kind cs).fits

    put : (m h : List RunEvent) (token offset : ℕ) (kind : Integer) (cs : List Constant) → IsNumbered token
        → Agrees unit m h
        → Agrees unit (Store (unwrap_or (placed 0 decls (frame_of P token)) 0) offset (bits_of_type kind) (first_element unit.words kind cs) ∷ m)
        (Store (object_at (objects_of unit) token) offset (bits_of_type kind) (first_element unit.words kind cs) ∷ h)
    put m h token offset kind cs is agree =
        subst (λ (n : ℕ). Agrees unit (Store n offset (bits_of_type kind) (first_element unit.words kind cs) ∷ m) (Store (object_at (objects_of unit) token) offset (bits_of_type kind) (first_element unit.words kind cs) ∷ h)) (sym is)
        (word_put cs)
      where
        word_put : (cs : List Constant) → Agrees unit (Store (frame_number unit (object_at (objects_of unit) token)) offset (bits_of_type kind) (first_element unit.words kind cs) ∷ m)
            (Store (object_at (objects_of unit) token) offset (bits_of_type kind) (first_element unit.words kind cs) ∷ h)
        word_put [] = (events (frame_number unit) (is_object_frame unit) m h agree).put (object_at (objects_of unit) token) offset (bits_of_type kind) (zero_value kind) ((frames_stand unit names).told (object_at (objects_of unit) token)) (fits kind [])
        word_put (c ∷ others) = (events (frame_number unit) (is_object_frame unit) m h agree).put (object_at (objects_of unit) token) offset (bits_of_type kind) (constant_value unit.words kind c) ((frames_stand unit names).told (object_at (objects_of unit) token)) (fits kind (c ∷ others))

    elements_put : (count : ℕ) (m h : List RunEvent) (token offset : ℕ) (kind : Integer) (cs : List Constant)
        → IsNumbered token → Agrees unit m h
        → Agrees unit (with_inits (map init (element_words P (frame_of P token) kind offset count cs)) m) (elements_first P (object_at (objects_of unit) token) kind offset count cs h)
    elements_put zero m h token offset kind cs is agree = agree
    elements_put (suc count) m h token offset kind [] is agree =
        elements_put count (Store (unwrap_or (placed 0 decls (frame_of P token)) 0) offset (bits_of_type kind) (zero_value kind) ∷ m)
        (Store (object_at (objects_of unit) token) offset (bits_of_type kind) (zero_value kind) ∷ h) token (offset + bytes_of_type kind) kind [] is (put m h token offset kind [] is agree)
    elements_put (suc count) m h token offset kind (c ∷ cs) is agree =
        elements_put count (Store (unwrap_or (placed 0 decls (frame_of P token)) 0) offset (bits_of_type kind) (constant_value unit.words kind c) ∷ m)
        (Store (object_at (objects_of unit) token) offset (bits_of_type kind) (constant_value unit.words kind c) ∷ h) token (offset + bytes_of_type kind) kind cs is (put m h token offset kind (c ∷ cs) is agree)

    shape_put : (m h : List RunEvent) (kind : Integer) (token : ℕ) (shape : ShapeTree)
        → EachOf Numbered (global_object unit.words kind token shape) → Agrees unit m h
        → Agrees unit (with_inits (map init (shape_words P (frame_of P token) kind shape)) m) (global_first P kind (object_at (objects_of unit) token) shape h)
    shape_put m h kind token (GlobalInteger None) all agree = put m h token 0 kind [] all.0 agree
    shape_put m h kind token (GlobalInteger (Some c)) all agree = put m h token 0 kind (c ∷ []) all.0 agree
    shape_put m h kind token (GlobalArray size firsts) all agree =
        elements_put (count_at unit.words size) m h token 0 kind (option_map_or (λ cs. cs) firsts []) all.0 agree
    shape_put m h kind token (FunctionOf params) all agree = agree

    declarators_put : (ds : List DeclaratorTree) (m h : List RunEvent) (kind : Integer)
        → EachOf Numbered (globals_declared unit.words kind ds) → Agrees unit m h
        → Agrees unit (with_inits (map init (declarators_words P kind ds)) m) (declarators_first P kind ds h)
    declarators_put [] m h kind all agree = agree
    declarators_put (d ∷ ds) m h kind all agree =
        let parts = each_parts Numbered (global_object unit.words kind d.name d.shape) (globals_declared unit.words kind ds) all in
        subst (λ (events : List RunEvent). Agrees unit events (declarators_first P kind (d ∷ ds) h)) (sym (inits_joined (shape_words P (frame_of P d.name) kind d.shape) (declarators_words P kind ds) m))
        (declarators_put ds (with_inits (map init (shape_words P (frame_of P d.name) kind d.shape)) m) (global_first P kind (object_at (objects_of unit) d.name) d.shape h) kind parts.1
        (shape_put m h kind d.name d.shape parts.0 agree))

    externals_put : (xs : List ExternalTree) (m h : List RunEvent) → EachOf Numbered (globals_in unit.words xs)
        → Agrees unit m h
        → Agrees unit (with_inits (map init (first_words P xs)) m) (globals_first P xs h)
    externals_put [] m h all agree = agree
    externals_put (Declaration first o ds ∷ xs) m h all agree =
        let parts = each_parts Numbered (globals_declared unit.words (element_of o) ds) (globals_in unit.words xs) all in
        subst (λ (events : List RunEvent). Agrees unit events (globals_first P (Declaration first o ds ∷ xs) h)) (sym (inits_joined (declarators_words P (element_of o) ds) (first_words P xs) m))
        (externals_put xs (with_inits (map init (declarators_words P (element_of o) ds)) m) (declarators_first P (element_of o) ds h) parts.1
        (declarators_put ds m h (element_of o) parts.0 agree))
    externals_put (Definition first o name params body ∷ xs) m h all agree = externals_put xs m h all agree

    pub laid_out : IsLaidOut unit (numbered (lowered unit) root)
    laid_out = record {
      frames = frames_stand unit names;
      rows = refl;
      arguments = arguments;
      no_inits = no_inits;
      exports = exports_are (integers_of unit) (integers_numbered unit.externals all_numbered);
      globals = externals_put unit.externals [] [] all_numbered (record { same = refl; sound = tt });
    }
