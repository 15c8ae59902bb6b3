use Rattle.std.proofs.Common.{◌≡◌, ◌∷◌, List, map, Ok, ap, sym, subst, refl}
use Rattle.std.specs.List.{AllByRecursion}
use Rattle.std.proofs.lemmas.Option.{slice_get_within}
use Rattle.alf_ops.specs.declared.history.Value.{Value}
use Rattle.alf_ops.specs.declared.history.FrameShape.{FrameShape}
use Rattle.alf_ops.specs.declared.history.RunEvent.{RunEvent}
use Rattle.alf_ops.specs.declared.history.RunEvent.TheVariants.{Enter}
use Rattle.alf_ops.specs.Pointers.{operands}
use Rattle.alf_check.specs.CheckedPrograms.{seen, term_of}
use Rattle.alf_values.specs.Standing.{StandsFor, IsStorable}
use Rattle.flow_graph.specs.Nodes.{entry_node}
use Rattle.alf_runs.specs.Expressions.{value_of}
use Rattle.alf_runs.specs.Entering.{args_at, entered}
use Rattle.alf_runs.specs.Steps.{frames_of, call_step}
use Rattle.alf_interp.specs.Filling.{ArgumentsHaveRoom}
use Rattle.alf_interp.proofs.Rooms.{arguments_storable, args_typed, call_room}
use Rattle.alf_interp.proofs.turn.call.Goals as goal

pub values-requires-clause-typed : goal.values-requires-clause-typed
values-requires-clause-typed c =
    let call = c.requires.call in
    args_typed (seen c.args.checked.now).frames call.caller call.keeps.function.args (map term_of c.args.args.now) call.keeps.args_keep

pub enter-requires-clause-func : goal.enter-requires-clause-func
enter-requires-clause-func c =
    let call = c.requires.call in
    slice_get_within (seen c.args.checked.now).funcs c.args.func call.keeps.function call.keeps.at

pub enter-requires-clause-storable : goal.enter-requires-clause-storable
enter-requires-clause-storable c =
    let program = seen c.args.checked.now in
    let es = map term_of c.args.args.now in
    let call = c.requires.call in
    let history = c.requires.remembers.history in
    let stands = c.requires.remembers.stands in
    let values = c.in_ok-given.given.items in
    let are = subst (λ (frames : List FrameShape). operands (map (value_of frames history) es) ≡ Ok values) c.requires.made.shapes_are (c.in_ok-given.ensures history stands) in
    subst (AllByRecursion IsStorable) (sym c.deref.ensures.value)
    (arguments_storable c.values_have_their_size.ensures.value program call.caller history call.keeps.function.args es values stands.sound call.keeps.args_keep are)

pub returns-clause-turns : goal.returns-clause-turns
returns-clause-turns c = λ path block history stands.
    let program = seen c.args.checked.now in
    let f = c.args.func in
    let es = map term_of c.args.args.now in
    let call = c.requires.call in
    let values = c.in_ok-given.given.items in
    let are = subst (λ (frames : List FrameShape). operands (map (value_of frames history) es) ≡ Ok values) c.requires.made.shapes_are (c.in_ok-given.ensures history stands) in
    let fit = c.starts_and_calls_store_without_a_fault.ensures.arguments program.frames call.caller (frames_of program) history call.keeps.function.args es values stands.sound call.keeps.args_keep are in
    let room = call_room program f call.keeps.function values history c.keeps.ensures call.keeps.at fit in
    let Enters = λ (vs : List Value). (h : List RunEvent) → StandsFor c.args.frames.now h → ArgumentsHaveRoom (frames_of program) (Enter f ∷ h) (args_at program f) vs → StandsFor c.enter.new.frames (entered program f vs h) in
    record {
      node = entry_node (block ∷ path);
      history = entered program f values history;
      is = ap (call_step program path block f history) are;
      block_is = refl;
      stands = subst Enters c.deref.ensures.value c.in_ok-enter.ensures.entered history stands room;
    }
