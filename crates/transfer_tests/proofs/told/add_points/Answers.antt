use Rattle.std.proofs.Common.{◌≢◌, ℕ, sym, subst}
use Rattle.memory_model.specs.KeptMemories.{MemoryParts, IsMemory}
use Rattle.transfer_tests.proofs.told.add_points.Goals as goal

pub add_point-requires : goal.add_point-requires
add_point-requires c =
    subst (λ (point : ℕ × MemoryParts). point.0 ≢ c.args.exit → IsMemory point.1) (sym c.point-item.is)
    (c.requires c.loop-point.point-index c.point-item.result c.loop-point-test.true)
