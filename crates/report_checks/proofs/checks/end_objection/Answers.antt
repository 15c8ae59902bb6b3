-- The first place that is left, and its scope.
use Rattle.report_checks.proofs.Answering.{first_low, left_is}
use Rattle.flow_facts.specs.Reports.{certificate_of, reported}
use Rattle.report_checks.proofs.checks.end_objection.Goals as goal

pub node-requires : goal.node-requires
node-requires g c = first_low g.S.Stepper.machine c.args.pool.now c.node_at-node.result c.node_at-node.ensures c.args.outline.now c.requires.outline c.requires.kept.kept

pub returns-then-places-gt0 : goal.returns-then-places-gt0
returns-then-places-gt0 g c =
    left_is c.args.pool.now c.args.outline.now (reported c.args.report.now) (certificate_of c.args.cert.now) c.node_at-node.result c.node.result.now c.node_at-node.ensures c.requires.outline c.node.ensures
