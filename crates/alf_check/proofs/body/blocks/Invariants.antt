use Rattle.std.proofs.Common.{◌≡◌, ◌++◌, map, length}
use Rattle.alf_program.specs.Tree.{item_of}
use Rattle.alf_check.specs.Blocks.{blocks_of}
use Rattle.alf_check.specs.CheckedPrograms.{block_of}
use Rattle.alf_check.specs.Numbered.{numbered_blocks}
use Rattle.alf_check.specs.Names.{numbers_of}
use Rattle.alf_check.proofs.body.blocks.Given as goal

abbrev pub invariant-loop-rest : goal.invariant-loop-rest
invariant-loop-rest l =
    map block_of l.blocks.items ++ numbered_blocks (numbers_of l.names) l.number (blocks_of (map item_of l.rest)) ≡ numbered_blocks (numbers_of l.names) 0 (blocks_of (map item_of l.items))

abbrev pub decreases-loop-rest : goal.decreases-loop-rest
decreases-loop-rest l = length l.rest
