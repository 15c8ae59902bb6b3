-- What is left to show of `go`.
use Rattle.std.proofs.Common.{arith}
use Rattle.flow_recorders.proofs.SpanLemmas.{room_for_more}
use Rattle.flow_recorders.proofs.totals.TotalsRecorder.go.Goals as goal

pub visit-requires-clause-least : goal.visit-requires-clause-least
visit-requires-clause-least c =
    (room_for_more c.self.inside.counts c.args.self.now c.args.to c.self.view_is (let node = c.requires.node in let each = c.requires.recorder in omega arith) c.requires.room).0

pub visit-requires-clause-most : goal.visit-requires-clause-most
visit-requires-clause-most c =
    (room_for_more c.self.inside.counts c.args.self.now c.args.to c.self.view_is (let node = c.requires.node in let each = c.requires.recorder in omega arith) c.requires.room).1
