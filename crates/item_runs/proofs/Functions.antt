-- The functions of a numbered program.
--   functions_are_cut   the blocks of each do what its items do
use Rattle.std.proofs.Common.{◌≡◌, ℕ, zero, suc, ◌+◌, List, [], ◌∷◌, length, Some, slice_get, refl, sym, ap, ◌∙◌, subst, add-zero, arith}
use Rattle.std.proofs.lemmas.Option.{same_Some}
use Rattle.alf_ops.specs.declared.history.FrameShape.{FrameShape}
use Rattle.alf_program.specs.Tree.{Function, WholeProgram}
use Rattle.alf_check.specs.CheckedPrograms.{NumberedBlock, NumberedFunction}
use Rattle.alf_check.specs.Numbers.{frames_before, first_frame, numbers_in}
use Rattle.alf_check.specs.Numbered.{numbered_function, functions_from, numbered}
use Rattle.item_runs.specs.Cuts.{IsCut, FunctionIsCut}
use Rattle.item_runs.proofs.Doing.{is_cut}

-- the function of this number
record IsNumberedAt (whole : WholeProgram) (first : ℕ) (funcs : List Function) (k : ℕ)
    (function : NumberedFunction) : Type 0 where
  func : Function
  at : slice_get funcs k ≡ Some func
  is : function ≡ numbered_function whole (first + frames_before funcs k) func

numbered_at : (whole : WholeProgram) (first : ℕ) (funcs : List Function) (k : ℕ) (function : NumberedFunction)
    → slice_get (functions_from whole first funcs) k ≡ Some function → IsNumberedAt whole first funcs k function
numbered_at whole first [] k function e = absurd (cc)
numbered_at whole first (func ∷ funcs) zero function e = record {
  func = func;
  at = refl;
  is = sym (same_Some (numbered_function whole first func) function e) ∙ ap (λ (n : ℕ). numbered_function whole n func) (sym (add-zero first));
}
numbered_at whole first (func ∷ funcs) (suc k) function e =
    let further = numbered_at whole (first + (length func.args + length func.decls)) funcs k function e in
    let same : first + (length func.args + length func.decls) + frames_before funcs k ≡ first + ((length func.args + length func.decls) + frames_before funcs k) = omega arith in
    record { func = further.func; at = further.at; is = further.is ∙ ap (λ (n : ℕ). numbered_function whole n further.func) same }

-- the blocks of each function do what its items do
pub functions_are_cut : (frames : List FrameShape) (whole : WholeProgram) (root : List ℕ) (k : ℕ) (function : NumberedFunction) → slice_get (numbered whole root).funcs k ≡ Some function
    → FunctionIsCut frames whole k function
functions_are_cut frames whole root k function e =
    let found = numbered_at whole (length whole.decls) whole.funcs k function e in
    let numbers = numbers_in whole (first_frame whole k) found.func in
    let blocks = ap (λ (f : NumberedFunction). f.blocks) found.is in
    record {
      func = found.func;
      at = found.at;
      cut = subst (λ (bs : List NumberedBlock). IsCut frames numbers found.func.items bs) (sym blocks) (is_cut frames numbers found.func.items refl);
    }
