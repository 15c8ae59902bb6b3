-- Functions by name.
--   from_same    a function with the name is found
--   from_other   one without is passed
--   from_end     past the last there is none
--   named_there  a function that is found is there
use Rattle.std.proofs.Common.{◌≡◌, ◌+◌, ◌<◌, ◌≤◌, ℕ, suc, true, false, List, [], ◌∷◌, length, drop, Some, None, slice_get, refl, ap, ◌∙◌, arith}
use Rattle.std.specs.Prelude.{if◌then◌else◌}
use Rattle.std.specs.Str.{bytes_eq}
use Rattle.std.proofs.Math.Seq.{drop-cons}
use Rattle.std.proofs.lemmas.List.{drop_all}
use Rattle.std.proofs.lemmas.Option.{get_or_from_slice_get, none-some, same_Some, slice_get_within}
use Rattle.lists.specs.TestLaws.{by_test}
use Rattle.alf_check.specs.CheckedPrograms.{NumberedFunction, NumberedProgram}
use Rattle.cost_table.specs.Costs.{function_from, function_named}

-- the search from a function on
from_there : (name : List ℕ) (fs : List NumberedFunction) (k : ℕ) (function : NumberedFunction) → slice_get fs k ≡ Some function → function_from name k (drop k fs) ≡ (if bytes_eq function.name name then Some k else function_from name (k + 1) (drop (k + 1) fs))
from_there name fs k function at =
    let next : suc k ≡ k + 1 = omega arith in
    ap (function_from name k) (drop-cons fs k function (slice_get_within fs k function at) ∙ ap (λ (first : NumberedFunction). first ∷ drop (suc k) fs) (get_or_from_slice_get fs k function function at) ∙ ap (λ (j : ℕ). function ∷ drop j fs) next)

-- a function with the name is found
pub from_same : (name : List ℕ) (fs : List NumberedFunction) (k : ℕ) (function : NumberedFunction)
    → slice_get fs k ≡ Some function → bytes_eq function.name name ≡ true → function_from name k (drop k fs) ≡ Some k
from_same name fs k function at is = from_there name fs k function at ∙ rw is refl

-- and one without is passed
pub from_other : (name : List ℕ) (fs : List NumberedFunction) (k : ℕ) (function : NumberedFunction)
    → slice_get fs k ≡ Some function → bytes_eq function.name name ≡ false
    → function_from name k (drop k fs) ≡ function_from name (k + 1) (drop (k + 1) fs)
from_other name fs k function at is = from_there name fs k function at ∙ rw is refl

-- past the last there is none
pub from_end : (name : List ℕ) (fs : List NumberedFunction) (k : ℕ) → length fs ≤ k
    → function_from name k (drop k fs) ≡ None
from_end name fs k all = rw (drop_all k fs all) refl

-- what is found is one of them
from_low : (name : List ℕ) (k : ℕ) (fs : List NumberedFunction) (f : ℕ) → function_from name k fs ≡ Some f
    → f < k + length fs
from_low name k [] f e = absurd (none-some f e)
from_low name k (function ∷ fs) f e = by_test (bytes_eq function.name name)
    (λ t. let same : k ≡ f = same_Some k f (rw t at e) in omega (arith, same))
    (λ t. let low = from_low name (k + 1) fs f (rw t at e) in omega (arith, low))

-- a function that is found is there
pub named_there : (program : NumberedProgram) (name : List ℕ) (f : ℕ) → function_named program name ≡ Some f
    → f < length program.funcs
named_there program name f e = let low = from_low name 0 program.funcs f e in omega (arith, low)
