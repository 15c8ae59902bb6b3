-- What is left to show of `finish`.
use Rattle.std.proofs.Common.{sym}
use Rattle.flow_recorders.proofs.Tallying.{ledger_of}
use Rattle.flow_recorders.proofs.visits.VisitsRecorder.finish.Goals as goal

pub end-requires-clause-ledger : goal.end-requires-clause-ledger
end-requires-clause-ledger g c =
    ledger_of (g.K.Counted.tally c.args.outline.now) c.book.inside.tallies c.args.book.now c.args.self.now c.self.inside.spans (sym (g.met.K.Counted.are_keys c.args.outline.now c.kept.ensures).same_length) c.book.view_is c.self.view_is c.requires.book c.requires.recorder
