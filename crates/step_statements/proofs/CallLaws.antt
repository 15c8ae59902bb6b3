-- Functions entered: arguments in their frames, and then what frames hold at first.
--   argument_there   the value has the size of a cell, which lies in its frame
--   first_argument   the first of the arguments, and those that are left
--   entered_frames     in a function that was entered, the frames of its arguments are active
--   entered_room       and so are those of what its frames hold at first
--   entered_is         the memory after all
--   plain_room, plain_is   the same where no argument is given
use Rattle.std.specs.Prelude.{All, Contains}
use Rattle.std.specs.List.{AllZip}
use Rattle.std.specs.Option.{option_map, option_map_or}
use Rattle.std.proofs.Common.{◌≡◌, ℕ, Bool, true, List, [], ◌∷◌, map, Option, Some, ◌+◌, ◌*◌, refl, sym, ap, subst, ◌∙◌, arith}
use Rattle.std.proofs.lemmas.Bool.{le-leb, eq-eqb}
use Rattle.std.proofs.lemmas.Option.{slice_get-map, same_Some}
use Rattle.lists.specs.MemberLaws.{first_member, further_member}
use Rattle.alf_ops.specs.declared.history.FrameShape.{FrameShape}
use Rattle.alf_check.specs.declared.rows.FrameRow.{FrameRow}
use Rattle.alf_check.specs.declared.rows.FuncRow.{FuncRow}
use Rattle.alf_check.specs.declared.rows.InitRow.{InitRow}
use Rattle.alf_check.specs.CheckedPrograms.{NumberedFunction, NumberedProgram, seen}
use Rattle.alf_check.specs.Lookups.{IsFunction}
use Rattle.alf_check.specs.Kept.{IsKept, InitFits, IsFrameOf}
use Rattle.alf_runs.specs.Entering.{args_at, inits_at}
use Rattle.alf_runs.specs.Steps.{frames_of}
use Rattle.pointer_rules.specs.AbstractValues.{AbstractValue}
use Rattle.memory_rules.specs.Memories.{Mem, is_on, entered}
use Rattle.memory_rules.specs.AbstractSets.{abstract_sets}
use Rattle.memory_model.specs.KeptMemories.{MemoryParts, memory_in}
use Rattle.transfer_rules.specs.Evaluating.{width_of}
use Rattle.transfer_rules.specs.EvaluatingLaws.{ArgumentIs}
use Rattle.transfer_rules.specs.DoingLaws.{width_is}
use Rattle.transfer_rules.specs.Filling.{filled, with_arguments, with_inits, entered_with}
use Rattle.transfer_rules.specs.FillingLaws.{args_of}
use Rattle.transfer_rules.specs.CellStores.{IsCellAt}
use Rattle.step_statements.specs.Rooms.{HaveRoom}
use Rattle.step_statements.specs.Arguments.{IsArgument, HaveFrames, FitCall}

-- ---- one argument

pub argument_there : (table : List FrameRow) (owner : Option ℕ) (runs : ℕ → Bool) (frame : ℕ) (v : AbstractValue) (rows : List FrameShape)
    → rows ≡ map (λ (r : FrameRow). record { owner = r.owner; bits = r.bits }) table → is_on runs owner ≡ true → IsArgument table owner frame v → IsCellAt rows runs frame 0 (width_of v)
argument_there table owner runs frame v rows same active is =
    let shape : FrameRow → FrameShape = λ (r : FrameRow). record { owner = r.owner; bits = r.bits } in
    let width : width_of v ≡ is.row.bits = width_is is.row.bits v is.is in
    subst (λ (shapes : List FrameShape). IsCellAt shapes runs frame 0 (width_of v)) (sym same) (record {
      row = shape is.row;
      found = slice_get-map shape table frame ∙ ap (option_map shape) is.at;
      active = ap (is_on runs) is.owned ∙ active;
      fits = le-leb (0 * 8 + width_of v) is.row.bits (omega (arith, width));
    })

-- the first argument
pub first_argument : (parts : MemoryParts) (frame : ℕ) (others args : List ℕ) (v : AbstractValue) (further vs : List AbstractValue) → args ≡ frame ∷ others → vs ≡ v ∷ further
    → (h : HaveFrames parts args vs) → IsArgument (seen parts.checked).frames h.owner frame v × AllZip (IsArgument (seen parts.checked).frames h.owner) others further
first_argument parts frame others args v further vs cons values h =
    subst (λ (xs : List AbstractValue). AllZip (IsArgument (seen parts.checked).frames h.owner) (frame ∷ others) xs) values
    (subst (λ (frames : List ℕ). AllZip (IsArgument (seen parts.checked).frames h.owner) frames vs) cons h.each)

-- ---- a function entered

arguments_run : (args : List ℕ) (vs : List AbstractValue) (m : Mem abstract_sets)
    → (with_arguments args vs m).runs ≡ m.runs
arguments_run [] vs m = refl
arguments_run (frame ∷ args) [] m = refl
arguments_run (frame ∷ args) (v ∷ vs) m = arguments_run args vs (filled m frame 0 (width_of v) v)

own_arguments : (table : List FrameRow) (k f : ℕ) (args : List ℕ) (vs : List AbstractValue)
    → ((frame : ℕ) → Contains args frame → IsFrameOf table (Some f) frame)
    → AllZip (ArgumentIs table k) args vs → AllZip (IsArgument table (Some f)) args vs
own_arguments table k f [] [] own are = tt
own_arguments table k f [] (v ∷ vs) own are = absurd are
own_arguments table k f (frame ∷ args) [] own are = absurd are
own_arguments table k f (frame ∷ args) (v ∷ vs) own are =
    let mine = own frame (first_member frame args) in
    let first = are.0 in
    let same : mine.row ≡ first.keeps.row = same_Some mine.row first.keeps.row (sym mine.at ∙ first.keeps.at) in (
      record {
        row = first.keeps.row;
        at = first.keeps.at;
        owned = subst (λ (r : FrameRow). r.owner ≡ Some f) same mine.owned;
        cell = first.keeps.cell;
        is = first.is;
      },
      own_arguments table k f args vs (λ other among. own other (further_member frame args other among)) are.1,
    )

module _ (program : NumberedProgram) (keeps : IsKept program) (f : ℕ) (row : FuncRow) (is : IsFunction program f row) where
  same_function : (vs : List AbstractValue) (fit : FitCall program f vs) → fit.function ≡ is.function
  same_function vs fit = same_Some fit.function is.function (sym fit.at ∙ is.at)

  -- the frames of its arguments are active
  pub entered_frames : (new : MemoryParts) (m : Mem abstract_sets) (rows : List FrameShape) (vs : List AbstractValue)
      → seen new.checked ≡ program → memory_in new ≡ entered abstract_sets rows m f
      → FitCall program f vs → HaveFrames new row.args.items vs
  entered_frames new m rows vs same now fit = record {
    owner = Some f;
    active = ap (λ (n : Mem abstract_sets). n.runs f) now ∙ rw (eq-eqb f f refl) refl;
    each = subst (λ (p : NumberedProgram). AllZip (IsArgument p.frames (Some f)) row.args.items vs) (sym same)
        (subst (λ (args : List ℕ). AllZip (IsArgument program.frames (Some f)) args vs) (sym is.args)
        (own_arguments program.frames fit.caller f is.function.args vs (args_of program keeps f is.function is.at)
        (subst (λ (g : NumberedFunction). AllZip (ArgumentIs program.frames fit.caller) g.args vs) (same_function vs fit) fit.are)));
  }

  -- and so are those of what its frames hold at first
  pub entered_room : (new : MemoryParts) (m : Mem abstract_sets) (rows : List FrameShape) (vs : List AbstractValue)
      → seen new.checked ≡ program
      → memory_in new ≡ with_arguments row.args.items vs (entered abstract_sets rows m f) → HaveRoom new row.inits.items
  entered_room new m rows vs same now = record {
    owner = Some f;
    active = ap (λ (n : Mem abstract_sets). n.runs f) now ∙ ap (λ (r : ℕ → Bool). r f) (arguments_run row.args.items vs (entered abstract_sets rows m f)) ∙ rw (eq-eqb f f refl) refl;
    fit = subst (λ (p : NumberedProgram). All (InitFits p.frames (Some f)) row.inits.items) (sym same)
        (subst (All (InitFits program.frames (Some f))) (sym is.inits) is.keeps.inits);
  }

  args_are : args_at program f ≡ row.args.items
  args_are = ap (λ (o : Option NumberedFunction). option_map_or (λ (g : NumberedFunction). g.args) o []) is.at ∙ sym is.args

  inits_are : inits_at program f ≡ row.inits.items
  inits_are = ap (λ (o : Option NumberedFunction). option_map_or (λ (g : NumberedFunction). g.inits) o []) is.at ∙ sym is.inits

  -- the memory after all
  pub entered_is : (vs : List AbstractValue) (m first second last : Mem abstract_sets) (rows : List FrameShape)
      → rows ≡ frames_of program → first ≡ entered abstract_sets rows m f
      → second ≡ with_arguments row.args.items vs first → last ≡ with_inits row.inits.items second → last ≡ entered_with program f vs m
  entered_is vs m first second last rows same one two three =
      three ∙ ap (with_inits row.inits.items) (two ∙ ap (with_arguments row.args.items vs) (one ∙ ap (λ (r : List FrameShape). entered abstract_sets r m f) same))
      ∙ ap (λ (inits : List InitRow). with_inits inits (with_arguments row.args.items vs (entered abstract_sets (frames_of program) m f))) (sym inits_are)
      ∙ ap (λ (args : List ℕ). with_inits (inits_at program f) (with_arguments args vs (entered abstract_sets (frames_of program) m f))) (sym args_are)

  no_arguments : (args : List ℕ) (m : Mem abstract_sets) → with_arguments args [] m ≡ m
  no_arguments [] m = refl
  no_arguments (frame ∷ args) m = refl

  -- without arguments
  pub plain_room : (new : MemoryParts) (m : Mem abstract_sets) (rows : List FrameShape) → seen new.checked ≡ program
      → memory_in new ≡ entered abstract_sets rows m f → HaveRoom new row.inits.items
  plain_room new m rows same now = entered_room new m rows [] same (now ∙ sym (no_arguments row.args.items (entered abstract_sets rows m f)))

  pub plain_is : (m first last : Mem abstract_sets) (rows : List FrameShape) → rows ≡ frames_of program
      → first ≡ entered abstract_sets rows m f → last ≡ with_inits row.inits.items first
      → last ≡ entered_with program f [] m
  plain_is m first last rows same one two = entered_is [] m first first last rows same one (sym (no_arguments row.args.items first)) two
