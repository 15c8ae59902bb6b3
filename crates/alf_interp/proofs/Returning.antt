-- Where functions are left.
--   returned_cell   what is returned to a call has the size of a cell
use Rattle.std.proofs.Common.{◌≡◌, ℕ, List, [], ◌∷◌, Option, Some, None, slice_get, refl, sym, ap, subst}
use Rattle.std.specs.Option.{option_map, option_map_or}
use Rattle.alf_program.specs.Tree.{NumberedExpression}
use Rattle.alf_check.specs.declared.rows.FrameRow.{FrameRow}
use Rattle.alf_check.specs.CheckedPrograms.{NumberedProgram, NumberedBlock, NumberedFunction, BlockEnding, Call, Return, blocks_at}
use Rattle.alf_check.specs.Kept.{IsKept, HasCellSize, Gives, CallKeeps}
use Rattle.flow_graph.specs.Nodes.{ending_at, callee_of, function_at}
use Rattle.flow_graph.specs.Paths.{IsCallPath}
use Rattle.flow_graph.specs.PathLaws.{ending_keeps, path_low}

-- the block that ends so
record EndsSo (blocks : List NumberedBlock) (b : ℕ) (ending : BlockEnding) : Type 0 where
  block : NumberedBlock
  at : slice_get blocks b ≡ Some block
  ends : block.ending ≡ ending

ends_so : (blocks : List NumberedBlock) (b : ℕ) (ending : BlockEnding)
    → option_map (λ (block : NumberedBlock). block.ending) (slice_get blocks b) ≡ Some ending → EndsSo blocks b ending
ends_so blocks b ending e = go (slice_get blocks b) refl e where
  go : (o : Option NumberedBlock) → slice_get blocks b ≡ o
      → option_map (λ (block : NumberedBlock). block.ending) o ≡ Some ending → EndsSo blocks b ending
  go None h e = absurd (cc)
  go (Some block) h e = record { block = block; at = h; ends = cc }

given_cell : (rows : List FrameRow) (f : ℕ) (result : Option (ℕ × ℕ)) (e : NumberedExpression)
    → Gives rows f result (Some e) → HasCellSize rows f e
given_cell rows f None e h = absurd h
given_cell rows f (Some to) e h = h

-- what is returned to a call has the size of a cell
pub returned_cell : (program : NumberedProgram) (c : ℕ) (path : List ℕ) (b : ℕ) (e : NumberedExpression)
    → IsKept program → IsCallPath program (c ∷ path)
    → ending_at program (function_at program (c ∷ path)) b ≡ Some (Return (Some e)) → HasCellSize program.frames (function_at program (c ∷ path)) e
returned_cell program c path b e kept calls ends =
    let call = calls.0 in
    let keeps : CallKeeps program (function_at program path) c call.callee call.args call.result call.next =
    ending_keeps program kept (function_at program path) c (Call call.callee call.args call.result call.next) (path_low program kept path calls.1) call.ends in
    let is : function_at program (c ∷ path) ≡ call.callee = ap callee_of call.ends in
    let blocks : blocks_at program call.callee ≡ keeps.function.blocks = ap (λ (o : Option NumberedFunction). option_map_or (λ (function : NumberedFunction). function.blocks) o []) keeps.at in
    let there : option_map (λ (block : NumberedBlock). block.ending) (slice_get keeps.function.blocks b) ≡ Some (Return (Some e)) =
    subst (λ (bs : List NumberedBlock). option_map (λ (block : NumberedBlock). block.ending) (slice_get bs b) ≡ Some (Return (Some e))) blocks
    (subst (λ (f : ℕ). ending_at program f b ≡ Some (Return (Some e))) is ends) in
    let found = ends_so keeps.function.blocks b (Return (Some e)) there in
    subst (λ (f : ℕ). HasCellSize program.frames f e) (sym is)
    (given_cell program.frames call.callee call.result e (keeps.gives b found.block (Some e) found.at found.ends))
