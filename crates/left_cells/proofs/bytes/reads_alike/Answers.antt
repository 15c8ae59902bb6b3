use Rattle.memory_model.specs.KeptMemories.{memory_in, rows_of}
use Rattle.left_cells.proofs.Alike.{both_lone}
use Rattle.left_cells.proofs.bytes.reads_alike.Goals as goal

pub returns : goal.returns
returns c = λ yes.
    both_lone (rows_of c.args.first.now.checked) (rows_of c.args.second.now.checked) (memory_in c.args.first.now) (memory_in c.args.second.now) c.args.frame c.args.byte
    c.in_ok-before.before c.in_ok-after.after c.in_ok-before.ensures c.in_ok-after.ensures (c.are_one.ensures yes)
