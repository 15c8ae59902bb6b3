-- Call paths of checked programs, and the functions on them.
--   is_among f functions      the function is one of these
--   keeps_block               a block of a checked program keeps the rules
--   CallOn                    a call of a path, with what the checks say of it
--   call_on                   each call of a call path is one
--   rank program kept f       the rank of function f
--   newest_is_new             the function of a call is none of those before it on the path
use Rattle.std.proofs.Common.{◌≡◌, ◌<◌, ◌≤◌, ℕ, Bool, true, false, List, [], ◌∷◌, Option, Some, None, refl, sym, ap, subst, arith}
use Rattle.std.specs.Prelude.{◌==◌, if◌then◌else◌, slice_get, slice_index}
use Rattle.std.specs.Option.{option_map_or}
use Rattle.std.proofs.lemmas.Bool.{eqb-true, false≢true}
use Rattle.std.proofs.lemmas.Option.{slice_get_within}
use Rattle.alf_check.specs.CheckedPrograms.{Call, NumberedBlock, NumberedFunction, NumberedProgram, blocks_at}
use Rattle.alf_check.specs.Kept.{IsKept, KeepsBlock, KeepsEnding, CallKeeps}
use Rattle.alf_check.specs.KeptLaws.{call_falls}
use Rattle.flow_graph.specs.Nodes.{callee_of, function_at}
use Rattle.alf_runs.specs.Places.{functions_on, IsCall, IsCallPath}
use Rattle.lists.specs.ImageLaws.{some_image}
use Rattle.lists.specs.TestLaws.{by_test}

-- the function is one of these
abbrev pub is_among : ℕ → List ℕ → Bool
is_among f [] = false
is_among f (g ∷ functions) = if g == f then true else is_among f functions

-- a block of a checked program keeps the rules
pub keeps_block : (program : NumberedProgram) → IsKept program → (k b : ℕ) (block : NumberedBlock)
    → slice_get (blocks_at program k) b ≡ Some block → KeepsBlock program k b block
keeps_block program kept k b block at = go (slice_get program.funcs k) refl at
  where
    go : (o : Option NumberedFunction) → slice_get program.funcs k ≡ o
        → slice_get (option_map_or (λ function. function.blocks) o []) b ≡ Some block → KeepsBlock program k b block
    go None found at = absurd (let low = slice_get_within [] b block at in omega arith)
    go (Some function) found at = (kept.functions k function found).blocks b block at

-- a call of a path, with what the checks say of it
pub record CallOn (program : NumberedProgram) (path : List ℕ) (b : ℕ) (call : IsCall program path b) : Type 0 where
  pub enters : function_at program (b ∷ path) ≡ call.func
  pub keeps : CallKeeps program (function_at program path) b call.func call.args call.result call.next
  pub block : NumberedBlock
  pub at : slice_get (blocks_at program (function_at program path)) b ≡ Some block
  pub ends : block.ending ≡ Call call.func call.args call.result call.next

pub call_on : (program : NumberedProgram) → IsKept program → (path : List ℕ) (b : ℕ) (call : IsCall program path b)
    → CallOn program path b call
call_on program kept path b call =
    let k : ℕ = function_at program path in
    let found = some_image (λ (block : NumberedBlock). block.ending) (slice_get (blocks_at program k) b) (Call call.func call.args call.result call.next) call.calls in
    record {
      enters = ap callee_of call.calls;
      keeps = subst (KeepsEnding program k b) found.2 (keeps_block program kept k b found.0 found.1).ending;
      block = found.0;
      at = found.1;
      ends = found.2;
    }

-- the rank of function f
abbrev rank : (program : NumberedProgram) → IsKept program → ℕ → ℕ
rank program kept f = slice_index kept.ranked.ranks f

-- the function of a call has a lower rank than the one that calls it
lower : (program : NumberedProgram) (kept : IsKept program) (path : List ℕ) (b : ℕ) → IsCall program path b
    → rank program kept (function_at program (b ∷ path)) < rank program kept (function_at program path)
lower program kept path b call =
    let on = call_on program kept path b call in
    let falls = call_falls program kept.ranked.ranks kept.ranked.ranked (function_at program path) b call.func call.next call.args call.result on.block on.at on.ends in
    subst (λ f. rank program kept f < rank program kept (function_at program path)) (sym on.enters) falls

-- of the functions on a path the newest has the lowest rank
newest_lowest : (program : NumberedProgram) (kept : IsKept program) (path : List ℕ) → IsCallPath program path → (f : ℕ)
    → is_among f (functions_on program path) ≡ true
    → rank program kept (function_at program path) ≤ rank program kept f
newest_lowest program kept [] calls f among = by_test (program.root == f)
    (λ same. let e = eqb-true program.root f same in subst (λ g. rank program kept program.root ≤ rank program kept g) e (omega arith))
    (λ other. let e : false ≡ true = rw other at among in absurd (false≢true e))
newest_lowest program kept (b ∷ path) calls f among = by_test (function_at program (b ∷ path) == f)
    (λ same. let e = eqb-true (function_at program (b ∷ path)) f same in subst (λ g. rank program kept (function_at program (b ∷ path)) ≤ rank program kept g) e (omega arith))
    (λ other.
    let further : is_among f (functions_on program path) ≡ true = rw other at among in
    let above = newest_lowest program kept path calls.1 f further in
    let below = lower program kept path b calls.0 in omega arith)

-- the function of a call is none of those before it on the path
pub newest_is_new : (program : NumberedProgram) → IsKept program → (path : List ℕ) (b : ℕ)
    → IsCallPath program (b ∷ path)
    → is_among (function_at program (b ∷ path)) (functions_on program path) ≡ false
newest_is_new program kept path b calls = by_test (is_among (function_at program (b ∷ path)) (functions_on program path))
    (λ among.
    let above = newest_lowest program kept path calls.1 (function_at program (b ∷ path)) among in
    let below = lower program kept path b calls.0 in absurd (omega arith))
    (λ other. other)
