-- The frame that is found for a name.
--   FoundFrame args name f rows g   it is one of the rows, the first of which has number f, and may be an input's
--   frame_found                     what is found is
--   may_be                          it is global or an argument of the root
use Rattle.std.proofs.Common.{◌≡◌, ◌+◌, ◌⊎◌, inl, inr, ℕ, suc, true, ◌||◌, nat_eq, List, [], ◌∷◌, Option, Some, None, is_none, slice_get, refl, subst, arith}
use Rattle.std.specs.List.{list_any}
use Rattle.std.specs.Option.{option_map_or}
use Rattle.std.proofs.lemmas.Bool.{and_parts, false≢true}
use Rattle.std.proofs.lemmas.Option.{none-some, same_Some}
use Rattle.std.proofs.lemmas.Bool.Decides.{nat_tests}
use Rattle.std.specs.Str.{bytes_eq}
use Rattle.std.proofs.lemmas.Map.Views.{Contains-from_any}
use Rattle.lists.specs.TestLaws.{by_test}
use Rattle.alf_check.specs.declared.rows.FrameRow.{FrameRow}
use Rattle.alf_check.specs.CheckedPrograms.{NumberedFunction, NumberedProgram}
use Rattle.alf_check.specs.Inputs.{IsRootArgument}
use Rattle.cost_table.specs.Inputs.{frame_from, is_input_frame, root_arguments}

-- it is one of the rows, and may be an input's
pub record FoundFrame (args name : List ℕ) (f : ℕ) (rows : List FrameRow) (g : ℕ) : Type 0 where
  pub place : ℕ
  pub row : FrameRow
  pub number : g ≡ place + f
  pub at : slice_get rows place ≡ Some row
  pub is : is_input_frame args name g row ≡ true

-- one of the rows after the first
further : (args name : List ℕ) (f : ℕ) (row : FrameRow) (rows : List FrameRow) (g : ℕ)
    → FoundFrame args name (f + 1) rows g → FoundFrame args name f (row ∷ rows) g
further args name f row rows g found = record { place = suc found.place; row = found.row; number = omega (arith, found.number); at = found.at; is = found.is }

-- what is found is one of the rows
pub frame_found : (args name : List ℕ) (f : ℕ) (rows : List FrameRow) (g : ℕ) → frame_from args name f rows ≡ Some g
    → FoundFrame args name f rows g
frame_found args name f [] g e = absurd (none-some g e)
frame_found args name f (row ∷ rows) g e = by_test (is_input_frame args name f row)
    (λ t. let same : f ≡ g = same_Some f g (rw t at e) in record { place = 0; row = row; number = omega (arith, same); at = refl; is = subst (λ k. is_input_frame args name k row ≡ true) same t })
    (λ t. further args name f row rows g (frame_found args name (f + 1) rows g (rw t at e)))

-- equal numbers are the same
same_number : (x y : ℕ) → nat_eq x y ≡ true → x ≡ y
same_number x y e = grind (arith, nat_tests)

-- an argument of the root
root_argument : (program : NumberedProgram) (f : ℕ) (root : Option NumberedFunction)
    → slice_get program.funcs program.root ≡ root
    → list_any (nat_eq f) (option_map_or (λ (function : NumberedFunction). function.args) root []) ≡ true
    → IsRootArgument program f
root_argument program f None at among = absurd (false≢true among)
root_argument program f (Some function) at among = record { function = function; at = at; among = Contains-from_any same_number f function.args among }

-- it is global or an argument of the root
pub may_be : (program : NumberedProgram) (name : List ℕ) (f : ℕ) (row : FrameRow)
    → is_input_frame (root_arguments program) name f row ≡ true → (row.owner ≡ None) ⊎ IsRootArgument program f
may_be program name f row is = global_or (row.owner) (and_parts (bytes_eq row.name name) (is_none row.owner || list_any (nat_eq f) (root_arguments program)) is).1
  where
    global_or : (owner : Option ℕ) → (is_none owner || list_any (nat_eq f) (root_arguments program)) ≡ true
        → (owner ≡ None) ⊎ IsRootArgument program f
    global_or None t = inl refl
    global_or (Some k) t = inr (root_argument program f (slice_get program.funcs program.root) refl t)
