use Rattle.std.proofs.Common.{◌≡◌, ℕ, List, Some, map, reverse, sym, subst, rules}
use Rattle.alf_ops.specs.declared.history.FrameShape.{FrameShape}
use Rattle.alf_ops.specs.Pointers.{operands}
use Rattle.alf_check.specs.declared.rows.Term.{Term}
use Rattle.alf_check.specs.declared.rows.BlockEnd.{BlockEnd}
use Rattle.alf_check.specs.declared.rows.BlockEnd.TheVariants as ends
use Rattle.alf_check.specs.CheckedPrograms.{seen, end_of, term_of}
use Rattle.alf_values.specs.Memories.{shapes}
use Rattle.flow_graph.specs.Nodes.{ending_at}
use Rattle.alf_runs.specs.Expressions.{value_of}
use Rattle.alf_runs.specs.Steps.{frames_of, switch_step, call_step, ending_step}
use Rattle.alf_interp.specs.Turns.{Turns}
use Rattle.alf_interp.proofs.Stores.{taken}
use Rattle.alf_interp.proofs.turn.end_block.Goals as goal

pub leave-requires-in-Return-Some-clause-taken : goal.leave-requires-in-Return-Some-clause-taken
leave-requires-in-Return-Some-clause-taken c =
    let program = seen c.args.checked.now in
    let f = c.args.instance.now.func in
    let given = c.in-Return-Some in
    let end_is : c.args.end.now ≡ ends.Return (Some given.term) = search rules in
    let is = subst (λ (end : BlockEnd). ending_at program f c.args.block ≡ Some (end_of end)) end_is c.requires.ends in
    taken program (reverse c.args.instance.now.path.now) f c.args.block (term_of given.term) c.in_ok-returned-in-Return-Some.returned c.keeps.ensures c.requires.here is
    c.in_ok-returned-in-Return-Some.ensures.fits

pub returns-in-Switch-clause-turns : goal.returns-in-Switch-clause-turns
returns-in-Switch-clause-turns c = λ history stands placed.
    let program = seen c.args.checked.now in
    let path = reverse c.args.instance.now.path.now in
    let frames = c.args.frames.now in
    let given = c.in-Switch in
    let one = subst (λ (ts : List (ℕ × ℕ)). Turns frames (switch_step path ts given.others history (value_of (shapes frames) history (term_of given.term))) c.switch.result)
    c.deref.ensures.value (c.switch.ensures path history stands) in
    let two = subst (λ (fs : List FrameShape). Turns frames (switch_step path given.targets.items given.others history (value_of fs history (term_of given.term))) c.switch.result)
    c.requires.made.shapes_are one in
    subst (λ (end : BlockEnd). Turns frames (ending_step program path c.args.block (end_of end) history) c.switch.result) (sym given.is) two

pub returns-in-Call-clause-turns : goal.returns-in-Call-clause-turns
returns-in-Call-clause-turns c = λ history stands placed.
    let program = seen c.args.checked.now in
    let path = reverse c.args.instance.now.path.now in
    let given = c.in-Call in
    let one = subst (λ (ts : List Term). Turns c.call.new.frames (call_step program path c.args.block given.func history (operands (map (value_of (frames_of program) history) (map term_of ts)))) c.call.result)
    c.deref-in-Call.ensures.value (c.call.ensures.turns path c.args.block history stands) in
    subst (λ (end : BlockEnd). Turns c.call.new.frames (ending_step program path c.args.block (end_of end) history) c.call.result) (sym given.is) one
