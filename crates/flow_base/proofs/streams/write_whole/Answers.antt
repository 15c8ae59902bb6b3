use Rattle.std.proofs.Common.{◌++◌, take, refl}
use Rattle.flow_base.proofs.Cutting.{taken_next, appended_more}
use Rattle.flow_base.proofs.streams.write_whole.Goals as goal

pub loop-rest-preserved-in-Ok : goal.loop-rest-preserved-in-Ok
loop-rest-preserved-in-Ok g c =
    let ((done, whole, took), later) = c.loop-rest.invariant in
    let rest = c.loop-rest.rest.now in
    let count = c.in-Ok.count in
    let taken = g.W.Output.taken in (
      (
        done ++ take count rest,
        taken_next c.args.bytes.now done rest _ count whole refl,
        appended_more (taken c.args.output.now) (taken c.loop-rest.output) (taken c.write.new.self) done (take count rest) took c.in-Ok.ensures.bytes,
      ),
      λ fails. later (c.in-Ok.ensures.later fails),
    )
