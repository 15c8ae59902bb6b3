-- The cells of input rows are those of objects.
--   are_cells   words of input rows are held by cells of the unit
--   one_cells   and by no others
use Rattle.std.specs.Prelude.{slice_get}
use Rattle.std.specs.Option.{option_map, option_map_or}
use Rattle.std.proofs.Common.{◌≡◌, ℕ, List, [], ◌∷◌, map, All, Contains, Option, None, Some, refl, sym, ap, ◌∙◌, subst, ⊎_elim}
use Rattle.std.proofs.lemmas.Option.{none-some, same_Some, slice_get-map}
use Rattle.std.proofs.lemmas.List.Elements.{All-head, All-tail}
use Rattle.lists.specs.MemberLaws.{placed as member_at}
use Rattle.alf_check.specs.declared.rows.FrameRow.{FrameRow}
use Rattle.alf_check.specs.declared.rows.InputRow.{InputRow}
use Rattle.alf_check.specs.CheckedPrograms.{NumberedFunction, NumberedProgram}
use Rattle.alf_check.specs.Inputs.{IsRootArgument, KeepsInput}
use Rattle.alf_runs.specs.Places.{AreWords}
use Rattle.c_unit.specs.declared.external.Parameter.{Parameter}
use Rattle.c_unit.specs.Units.{UnitTree}
use Rattle.c_meaning.specs.Objects.{program_of, objects_of, object_at, function_at, token_of_parameter}
use Rattle.c_meaning.specs.Programs.{Cell}
use Rattle.lowering_layout.specs.Spelled.{HasNames}
use Rattle.lowering_values.specs.Frames.{frame_number, FramesStand}
use Rattle.lowering_values.specs.Agreement.{IsLaidOut, AreCells, none, cell, parameter_frame}
use Rattle.lowering_layout.specs.FrameLaws.{GlobalFramesAreObjects}

module _ (globals : GlobalFramesAreObjects) (unit : UnitTree) (program : NumberedProgram) (names : HasNames (program_of unit)) (laid : IsLaidOut unit program) where
  -- its number is that of the frame of an object
  abbrev IsOfObject : ℕ → Type 0
  IsOfObject n = (o : ℕ) × (n ≡ frame_number unit o)

  of_parameter : (found : Option Parameter) (n : ℕ) → option_map (parameter_frame unit) found ≡ Some n → IsOfObject n
  of_parameter None n is = absurd (none-some n is)
  of_parameter (Some p) n is = (object_at (objects_of unit) (token_of_parameter p), sym (same_Some (parameter_frame unit p) n is))

  argument : (n : ℕ) → IsRootArgument program n → IsOfObject n
  argument n is =
      let params = (function_at (program_of unit) program.root).parameters in
      let args : is.function.args ≡ map (parameter_frame unit) params =
      sym (ap (λ (x : Option NumberedFunction). option_map_or (λ (function : NumberedFunction). function.args) x []) is.at) ∙ laid.arguments program.root
      in
      let among = subst (λ (ns : List ℕ). Contains ns n) args is.among in
      of_parameter (slice_get params among.0) n (sym (slice_get-map (parameter_frame unit) params among.0) ∙ member_at (map (parameter_frame unit) params) n among)

  object_of : (row : InputRow) → KeepsInput program row → IsOfObject row.frame
  object_of row keeps =
      ⊎_elim
      (λ (global : keeps.row.owner ≡ None). globals unit row.frame keeps.row names (sym (ap (λ (rows : List FrameRow). slice_get rows row.frame) laid.rows) ∙ keeps.at) global)
      (λ (own : IsRootArgument program row.frame). argument row.frame own)
      keeps.may

  pub are_cells : (rows : List InputRow) (words : List ℕ) → All (KeepsInput program) rows → AreWords rows words
      → (cells : List Cell) × AreCells unit rows words cells
  are_cells [] [] keep are = ([], none)
  are_cells [] (word ∷ words) keep are = absurd are
  are_cells (row ∷ rows) [] keep are = absurd are
  are_cells (row ∷ rows) (word ∷ words) keep are =
      let o = object_of row (All-head (KeepsInput program) row rows keep) in
      let rest = are_cells rows words (All-tail (KeepsInput program) row rows keep) are.1 in
      (record { object = o.0; offset = row.offset; size = row.size; word = word } ∷ rest.0, cell row rows word words o.0 rest.0 o.1 are.0 rest.1)

-- objects lie in frames of their own, so that a row has one object
module _ (unit : UnitTree) (frames : FramesStand unit) where
  pub one_cells : (rows : List InputRow) (words : List ℕ) (these those : List Cell) → AreCells unit rows words these
      → AreCells unit rows words those → these ≡ those
  one_cells _ _ _ _ none none = refl
  one_cells _ _ _ _ (cell row rows word words o these at low is) (cell _ _ _ _ p those beside _ are) =
      let object : o ≡ p = frames.apart o p (sym at ∙ beside) in
      let rest : these ≡ those = one_cells rows words these those is are in
      λ i. record { object = object i; offset = row.offset; size = row.size; word = word } ∷ rest i
