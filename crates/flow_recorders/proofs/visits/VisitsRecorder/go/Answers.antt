-- What is left to show of `go`.
use Rattle.std.proofs.Common.{sym}
use Rattle.recorder_rules.specs.TotalLaws.{node_low}
use Rattle.flow_recorders.proofs.Tallying.{ledger_of}
use Rattle.flow_recorders.proofs.visits.VisitsRecorder.go.Goals as goal

pub go_on-requires-clause-ledger : goal.go_on-requires-clause-ledger
go_on-requires-clause-ledger g c =
    ledger_of (g.K.Counted.tally c.args.outline.now) c.book.inside.tallies c.args.book.now c.args.self.now c.self.inside.spans (sym (g.met.K.Counted.are_keys c.args.outline.now c.kept.ensures).same_length) c.book.view_is c.self.view_is c.requires.book c.requires.recorder

pub go_on-requires-clause-from : goal.go_on-requires-clause-from
go_on-requires-clause-from g c = node_low c.args.outline.now c.args.from (c.kept.ensures.edges_within c.args.from c.args.to c.requires.edge).0
