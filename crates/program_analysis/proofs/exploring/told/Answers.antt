use Rattle.flow_facts.specs.Reports.{reported}
use Rattle.program_analysis.proofs.ExploringLaws.{happened_in, along_in, room_in, closed_in}
use Rattle.program_analysis.proofs.exploring.told.Goals as goal

pub report-requires-clause-outline : goal.report-requires-clause-outline
report-requires-clause-outline c = along_in c.args.pool.now c.args.outline.now c.args.policy c.args.turns c.args.events.items c.requires.explored

pub report-requires-clause-orderly : goal.report-requires-clause-orderly
report-requires-clause-orderly c =
    c.numbers_are_at_most_the_steps.ensures c.args.pool.now.stepper c.args.outline.now c.args.events.items c.args.pool.now
    (happened_in c.args.pool.now c.args.outline.now c.args.policy c.args.turns c.args.events.items c.requires.explored)

pub report-requires-clause-room : goal.report-requires-clause-room
report-requires-clause-room c = room_in c.args.pool.now c.args.outline.now c.args.policy c.args.turns c.args.events.items c.requires.explored c.requires.nodes c.requires.turns

pub returns-clause-events : goal.returns-clause-events
returns-clause-events c =
    closed_in c.args.pool.now c.args.outline.now c.args.policy c.args.turns c.args.events.items c.requires.explored (reported c.in_ok-report.report) c.in_ok-report.ensures.told
