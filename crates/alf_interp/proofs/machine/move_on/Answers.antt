use Rattle.std.proofs.Common.{List, subst}
use Rattle.alf_ops.specs.declared.history.RunEvent.{RunEvent}
use Rattle.alf_check.specs.CheckedPrograms.{seen}
use Rattle.alf_values.specs.Standing.{StandsFor}
use Rattle.flow_graph.specs.Places.{node_at}
use Rattle.alf_runs.specs.PlaceLaws.{IsPlaced}
use Rattle.alf_runs.specs.Steps.{At, step}
use Rattle.std.specs.Prelude.{Ok}
use Rattle.alf_interp.specs.declared.turn.Turn.{Turn}
use Rattle.alf_interp.specs.Stepping.{machine_at}
use Rattle.alf_interp.specs.Turns.{Turns}
use Rattle.alf_interp.proofs.Moving.{instance_at, block_at, caller_at, told_on, standing_low}
use Rattle.alf_interp.proofs.machine.move_on.Goals as goal

pub take_turn-requires-clause-here : goal.take_turn-requires-clause-here
take_turn-requires-clause-here c =
    let here = c.node-here in
    instance_at c.args.checked.now c.args.graph.now c.keeps.ensures c.requires.graph c.args.node (node_at here.result.path.now here.result.block) here.result.func here.ensures.node here.ensures.func

pub take_turn-requires-clause-block : goal.take_turn-requires-clause-block
take_turn-requires-clause-block c =
    let here = c.node-here in
    block_at c.args.checked.now c.args.graph.now c.keeps.ensures c.requires.graph c.args.node (node_at here.result.path.now here.result.block) here.result.func here.ensures.node here.ensures.func

pub take_turn-requires-clause-caller : goal.take_turn-requires-clause-caller
take_turn-requires-clause-caller c =
    let here = c.node-here in
    caller_at c.args.checked.now c.args.graph.now c.keeps.ensures c.requires.graph c.args.node (node_at here.result.path.now here.result.block) c.next_func.result here.ensures.node
    (λ goal edge. c.next_func.ensures (seen c.args.checked.now) goal c.requires.graph edge)

pub returns-in-Ok-On-clause-tells : goal.returns-in-Ok-On-clause-tells
returns-in-Ok-On-clause-tells c =
    let program = seen c.args.checked.now in
    let here = c.node-here in
    let node = node_at here.result.path.now here.result.block in
    let old = c.args.frames.now in
    let new = c.take_turn.new.frames in
    let on = c.in-Ok-On in
    let turns = subst (λ (t : Turn). (history : List RunEvent) → StandsFor old history → IsPlaced program (step program (At node history)) → Turns new (step program (At node history)) (Ok t))
    on.field-0-is on.ensures.turns in
    told_on c.args.checked.now c.args.graph.now c.keeps.ensures c.requires.graph c.a_step_leads_along_an_edge.ensures.along c.active_frames_follow_the_call_path.ensures.step
    c.args.node node old new here.ensures.node on.block c.next_node.result turns c.next_node.ensures

pub returns-in-Ok-On-clause-there : goal.returns-in-Ok-On-clause-there
returns-in-Ok-On-clause-there c =
    let program = seen c.args.checked.now in
    let here = c.node-here in
    let node = node_at here.result.path.now here.result.block in
    let old = c.args.frames.now in
    let new = c.take_turn.new.frames in
    let on = c.in-Ok-On in
    let turns = subst (λ (t : Turn). (history : List RunEvent) → StandsFor old history → IsPlaced program (step program (At node history)) → Turns new (step program (At node history)) (Ok t))
    on.field-0-is on.ensures.turns in
    let tells = told_on c.args.checked.now c.args.graph.now c.keeps.ensures c.requires.graph c.a_step_leads_along_an_edge.ensures.along c.active_frames_follow_the_call_path.ensures.step
    c.args.node node old new here.ensures.node on.block c.next_node.result turns c.next_node.ensures in
    let moment = c.requires.standing.moment in
    standing_low (machine_at c.args.checked.now c.args.graph.now c.next_node.result new) (step program moment) (tells moment c.requires.standing.stands).1
