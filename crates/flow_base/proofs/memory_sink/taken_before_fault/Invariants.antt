use Rattle.std.proofs.Common.{◌≡◌, length}
use Rattle.flow_base.specs.MemorySink.{prefix_before_fault}
use Rattle.flow_base.proofs.memory_sink.taken_before_fault.Given as goal

abbrev pub invariant-loop-first : goal.invariant-loop-first
invariant-loop-first l = prefix_before_fault l.rest l.call ≡ prefix_before_fault l.failing l.call

abbrev pub decreases-loop-first : goal.decreases-loop-first
decreases-loop-first l = length l.rest
