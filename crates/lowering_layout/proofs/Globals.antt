-- Each global frame is that of an object.
use Rattle.std.specs.Prelude.{slice_get}
use Rattle.std.proofs.Common.{◌≡◌, ◌≢◌, ℕ, zero, suc, List, [], ◌∷◌, ◌++◌, Option, Some, None, refl, sym, ◌∙◌, subst, arith}
use Rattle.std.proofs.lemmas.Option.{none-some, same_Some}
use Rattle.alf_program.specs.Tree.{Allocation}
use Rattle.alf_program.specs.Tree as alf
use Rattle.alf_check.specs.declared.rows.FrameRow.{FrameRow}
use Rattle.alf_check.specs.Numbers.{row_for, rows_of, rows_from, frame_rows}
use Rattle.c_unit.specs.Units.{UnitTree}
use Rattle.c_meaning.specs.Objects.{program_of, globals_in}
use Rattle.c_lowered.specs.Frames.{global_frames}
use Rattle.c_lowered.specs.Programs.{lowered}
use Rattle.lowering_layout.specs.Lists.{EachOf}
use Rattle.lowering_layout.specs.ListLaws.{each_at}
use Rattle.lowering_layout.specs.Spelled.{HasNames}
use Rattle.lowering_layout.specs.PartFrames.{IsFrameOf, of_object, of_result}
use Rattle.lowering_layout.specs.PlaceLaws.{frame_at}
use Rattle.lowering_layout.specs.Views.{globals_part}
use Rattle.lowering_values.specs.Frames.{frame_number}
use Rattle.lowering_layout.proofs.Objects.{number_is}

-- rows of an owner
owner_of : (owner : Option ℕ) (frames : List Allocation) (rest : List FrameRow) (Q : FrameRow → Type 0)
    → ((i : ℕ) (a : Allocation) → slice_get frames i ≡ Some a → Q (row_for owner a)) → ((i : ℕ) (row : FrameRow) → slice_get rest i ≡ Some row → Q row)
    → (i : ℕ) (row : FrameRow) → slice_get (rows_of owner frames ++ rest) i ≡ Some row → Q row
owner_of owner [] rest Q own others i row at = others i row at
owner_of owner (a ∷ frames) rest Q own others zero row at = subst Q (same_Some (row_for owner a) row at) (own 0 a refl)
owner_of owner (a ∷ frames) rest Q own others (suc i) row at = owner_of owner frames rest Q (λ j b at_b. own (suc j) b at_b) others i row at

-- a row of a function is no global one
functions_own : (k : ℕ) (funcs : List alf.Function) (i : ℕ) (row : FrameRow)
    → slice_get (rows_from k funcs) i ≡ Some row → row.owner ≢ None
functions_own k [] i row at = λ e. none-some row at
functions_own k (func ∷ funcs) i row at =
    owner_of (Some k) func.args (rows_of (Some k) func.decls ++ rows_from (suc k) funcs) (λ (r : FrameRow). r.owner ≢ None) (λ j a at_a e. none-some k (sym e))
    (λ j r at_r. owner_of (Some k) func.decls (rows_from (suc k) funcs) (λ (s : FrameRow). s.owner ≢ None) (λ l b at_b e. none-some k (sym e)) (λ l s at_s. functions_own (suc k) funcs l s at_s) j r at_r)
    i row at

module _ (unit : UnitTree) (names : HasNames (program_of unit)) where
  abbrev decls : List Allocation
  decls = global_frames (program_of unit)

  -- its number is that of the frame of an object
  abbrev IsOfObject : ℕ → Type 0
  IsOfObject n = (o : ℕ) × (n ≡ frame_number unit o)

  known_object : (n : ℕ) (row : FrameRow) (a : Allocation)
      → IsFrameOf (program_of unit) 0 0 0 (globals_in unit.words unit.externals) a → row.name ≡ a.name
      → slice_get (frame_rows (lowered unit)) n ≡ Some row → IsOfObject n
  known_object n row a (of_object o c is name bits) named at =
      (is.0, number_is unit names is.0 o n row is.1 at (named ∙ name ∙ frame_at (program_of unit) names is.0 o is.1))
  known_object n row a (of_result k from to function few name) named at = absurd (omega (arith, to))

  global_known : (frames : List Allocation)
      → EachOf (IsFrameOf (program_of unit) 0 0 0 (globals_in unit.words unit.externals)) frames
      → (i : ℕ) (a : Allocation) → slice_get frames i ≡ Some a
      → IsFrameOf (program_of unit) 0 0 0 (globals_in unit.words unit.externals) a
  global_known frames each i a at = each_at (IsFrameOf (program_of unit) 0 0 0 (globals_in unit.words unit.externals)) frames i a at each

  pub global_object : (n : ℕ) (row : FrameRow) → slice_get (frame_rows (lowered unit)) n ≡ Some row → row.owner ≡ None
      → IsOfObject n
  global_object n row at global =
      owner_of None decls (rows_from 0 (lowered unit).funcs) (λ (r : FrameRow). r.owner ≡ None → slice_get (frame_rows (lowered unit)) n ≡ Some r → IsOfObject n)
      (λ i a at_a own here. known_object n (row_for None a) a (global_known decls (globals_part unit names 0).known i a at_a) refl here)
      (λ i r at_r own here. absurd (functions_own 0 (lowered unit).funcs i r at_r own))
      n row at global at
