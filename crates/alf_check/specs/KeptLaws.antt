-- What follows from what is kept.
--   call_falls    a call that a block ends with leads to a lower rank
use Rattle.std.proofs.Common.{◌≡◌, ◌<◌, ◌∙◌, ℕ, List, [], Contains, Option, Some, None, slice_get, slice_index, option_map, refl, ap, sym, subst}
use Rattle.std.specs.Option.{option_map_or}
use Rattle.std.proofs.lemmas.Option.{none-some, slice_get-map, get_or_from_slice_get}
use Rattle.lists.specs.MemberLaws.{contained, first_member}
use Rattle.lists.specs.ImageLaws.{joined}
use Rattle.graph_walks.specs.Calls.{IsRanked}
use Rattle.alf_program.specs.Tree.{NumberedExpression}
use Rattle.alf_check.specs.CheckedPrograms.{BlockEnding, Call, NumberedBlock, NumberedFunction, NumberedProgram, blocks_at}
use Rattle.alf_check.specs.Kept.{called_at, called_in, block_calls}

-- a call that a block ends with leads to a lower rank
pub call_falls : (program : NumberedProgram) (ranks : List ℕ) → IsRanked (block_calls program) ranks
    → (k b f next : ℕ) (args : List NumberedExpression) (result : Option (ℕ × ℕ)) (block : NumberedBlock)
    → slice_get (blocks_at program k) b ≡ Some block → block.ending ≡ Call f args result next → slice_index ranks f < slice_index ranks k
call_falls program ranks ranked k b f next args result block at ends = go (slice_get program.funcs k) refl at where
  calls : NumberedFunction → List ℕ
  calls function = called_in function.blocks

  go : (o : Option NumberedFunction) → slice_get program.funcs k ≡ o
      → slice_get (option_map_or (λ (function : NumberedFunction). function.blocks) o []) b ≡ Some block
      → slice_index ranks f < slice_index ranks k
  go None found none = absurd (none-some block none)
  go (Some function) found there =
      let row = get_or_from_slice_get (block_calls program) k (calls function) [] (slice_get-map calls program.funcs k ∙ ap (option_map calls) found) in
      let calls_it : Contains (called_at block.ending) f = subst (λ (ending : BlockEnding). Contains (called_at ending) f) (sym ends) (first_member f []) in
      ranked.falls k f (subst (λ (called : List ℕ). Contains called f) (sym row) (joined (λ (x : NumberedBlock). called_at x.ending) function.blocks block f (contained function.blocks b block there) calls_it))
