-- The functions on a call path.
--   ranks_rise   from the newest to the root their ranks rise, so they differ
--   is_short     a call path is shorter than the list of functions
use Rattle.std.proofs.Common.{◌≡◌, ◌<◌, ◌≤◌, ◌+◌, ℕ, List, [], ◌∷◌, length, slice_get, slice_index, All, AllPairs, ap, sym, subst, arith}
use Rattle.std.proofs.lemmas.List.{length-map}
use Rattle.std.proofs.lemmas.List.Elements.{All-nil, All-cons}
use Rattle.std.proofs.lemmas.List.Kept.{AllPairs-cons}
use Rattle.lists.specs.ImageLaws.{some_image}
use Rattle.alf_check.specs.CheckedPrograms.{NumberedBlock, NumberedFunction, NumberedProgram, Call, blocks_at}
use Rattle.alf_check.specs.Kept.{IsKept, called_in, block_calls}
use Rattle.alf_check.specs.KeptLaws.{call_falls}
use Rattle.graph_walks.specs.Walks.{IsDistinct}
use Rattle.flow_graph.specs.Nodes.{callee_of, function_at}
use Rattle.flow_graph.specs.Paths.{IsCallPath, functions_on}

module _ (program : NumberedProgram) (keeps : IsKept program) where
  -- the rank of function f, as the checks say that there is one
  abbrev rank : ℕ → ℕ
  rank f = slice_index keeps.ranked.ranks f

  abbrev rank_at : List ℕ → ℕ
  rank_at path = rank (function_at program path)

  -- a call goes to a lower rank
  falls : (b : ℕ) (path : List ℕ) → IsCallPath program (b ∷ path) → rank_at (b ∷ path) < rank_at path
  falls b path calls =
      let call = calls.0 in
      let k : ℕ = function_at program path in
      let found = some_image (λ (block : NumberedBlock). block.ending) (slice_get (blocks_at program k) b) (Call call.callee call.args call.result call.next) call.ends in
      let lower = call_falls program keeps.ranked.ranks keeps.ranked.ranked k b call.callee call.next call.args call.result found.0 found.1 found.2 in
      subst (λ (f : ℕ). rank f < rank_at path) (sym (ap callee_of call.ends)) lower

  all_above : (low high : ℕ) (fs : List ℕ) → low < high → All (λ (f : ℕ). high ≤ rank f) fs
      → All (λ (f : ℕ). low < rank f) fs
  all_above low high fs less all k d inside = let above = all k d inside in omega arith

  no_less : (path : List ℕ) → IsCallPath program path
      → All (λ (f : ℕ). rank_at path ≤ rank f) (functions_on program path)
  no_less [] calls = All-cons (λ (f : ℕ). rank_at [] ≤ rank f) program.root [] (omega arith) (All-nil (λ (f : ℕ). rank_at [] ≤ rank f))
  no_less (b ∷ path) calls =
      All-cons (λ (f : ℕ). rank_at (b ∷ path) ≤ rank f) (function_at program (b ∷ path)) (functions_on program path) (omega arith)
      (λ k d inside. let above = no_less path calls.1 k d inside in let fall = falls b path calls in omega arith)

  -- their ranks rise
  ranks_rise : (path : List ℕ) → IsCallPath program path
      → AllPairs (λ (f g : ℕ). rank f < rank g) (functions_on program path)
  ranks_rise [] calls = λ i j d before inside. absurd (omega arith)
  ranks_rise (b ∷ path) calls =
      AllPairs-cons (λ (f g : ℕ). rank f < rank g) (function_at program (b ∷ path)) (functions_on program path)
      (all_above (rank_at (b ∷ path)) (rank_at path) (functions_on program path) (falls b path calls) (no_less path calls.1)) (ranks_rise path calls.1)

  -- so they differ
  pub functions_differ : (path : List ℕ) → IsCallPath program path → IsDistinct (functions_on program path)
  functions_differ path calls i j d before inside =
      let less = ranks_rise path calls i j d before inside in λ e. let same = ap rank e in omega arith

  falls_by : (path : List ℕ) → IsCallPath program path → rank_at path + length path ≤ rank program.root
  falls_by [] calls = omega arith
  falls_by (b ∷ path) calls = let more = falls_by path calls.1 in let fall = falls b path calls in omega arith

  count_calls : length (block_calls program) ≡ length program.funcs
  count_calls = length-map program.funcs (λ (function : NumberedFunction). called_in function.blocks)

  -- a call path is shorter than the list of functions
  pub is_short : (path : List ℕ) → IsCallPath program path → length path < length program.funcs
  is_short path calls =
      let fall = falls_by path calls in
      let root = keeps.root in
      let low : rank program.root < length (block_calls program) = keeps.ranked.ranked.within program.root (omega (arith, count_calls)) in
      omega (arith, count_calls)
