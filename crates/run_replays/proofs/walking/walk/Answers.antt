-- The run so far, from step to step.
use Rattle.std.proofs.Common.{arith, rules, ◌≡◌, ◌≢◌, ◌≤◌, ◌∙◌, ap, sym, refl}
use Rattle.std.specs.Prelude.{slice_index}
use Rattle.std.proofs.lemmas.Grind.{common_steps, get_or_default_zero}
use Rattle.alf_check.specs.CheckedPrograms.{seen}
use Rattle.report_soundness.specs.ReportTold.{costs_of}
use Rattle.run_replays.proofs.WalkSteps.{low, left_low, node_price, begun, passed_here, step_along, goes_on, is_over}
use Rattle.run_replays.proofs.walking.walk.Goals as goal

pub loop-turn-init : goal.loop-turn-init
loop-turn-init g c =
    begun g.R.Lattice.order g.R.Recorder.recording g.met.R.Recorder.is_recording _ _ _ _ _ _ _ _ (record { suits = c.requires.suits; kept = c.kept.ensures })
    (ap seen c.in_ok-machine.ensures.checked) c.in_ok-machine.ensures.graph c.in_ok-machine.ensures.first c.in_ok-machine.ensures.stands c.requires.long c.in_ok-recorder.ensures c.in_ok-book.ensures

pub index-requires : goal.index-requires
index-requires g c =
    let so = c.loop-turn.invariant in
    let more = c.a_run_has_one_continuation.ensures.more in
    let less = left_low g.R.Lattice.order g.R.Recorder.recording g.met.R.Recorder.is_recording _ _ _ _ _ _ _ _ _ _ _ _ so more in
    grind (arith, common_steps)

pub index_mut-requires : goal.index_mut-requires
index_mut-requires g c =
    let so = c.loop-turn.invariant in
    let more = c.a_run_has_one_continuation.ensures.more in
    let less = left_low g.R.Lattice.order g.R.Recorder.recording g.met.R.Recorder.is_recording _ _ _ _ _ _ _ _ _ _ _ _ so more in
    grind (arith, common_steps)

pub node-requires : goal.node-requires
node-requires g c =
    let so = c.loop-turn.invariant in
    let more = c.a_run_has_one_continuation.ensures.more in
    low g.R.Lattice.order g.R.Recorder.recording g.met.R.Recorder.is_recording _ _ _ _ _ _ _ _ _ _ _ _ so more

pub returns-then-index-eq0 : goal.returns-then-index-eq0
returns-then-index-eq0 g c =
    let so = c.loop-turn.invariant in
    let more = c.a_run_has_one_continuation.ensures.more in
    let less = left_low g.R.Lattice.order g.R.Recorder.recording g.met.R.Recorder.is_recording _ _ _ _ _ _ _ _ _ _ _ _ so more in
    let first_is : c.index.result.now ≡ slice_index c.loop-turn.left.items c.loop-turn.at = c.index.ensures ∙ get_or_default_zero c.loop-turn.left.items c.loop-turn.at c.index.result.now less in
    passed_here g.R.Lattice.order g.R.Recorder.recording g.met.R.Recorder.is_recording _ _ _ _ _ _ _ _ _ _ _ _ so more (sym first_is ∙ c.if-index-eq0.true)

pub go-requires-clause-edge : goal.go-requires-clause-edge
go-requires-clause-edge g c =
    let so = c.loop-turn.invariant in
    let more = c.a_run_has_one_continuation.ensures.more in
    let expands = c.graphs_are_expansions.ensures _ _ c.keeps.ensures c.requires.graph in
    let told = rw c.in-To.is at (c.in_ok-next.ensures.steps _ so.stands) in
    let along = step_along g.R.Lattice.order g.R.Recorder.recording g.met.R.Recorder.is_recording _ _ _ _ _ _ _ _ _ _ _ _ so more expands c.requires.outline c.a_step_leads_along_an_edge.ensures.next c.in-To.next c.step.new.self c.step.ensures.graph told.0 told.1 in
    along.edge

pub loop-turn-preserved : goal.loop-turn-preserved
loop-turn-preserved g c =
    let so = c.loop-turn.invariant in
    let more = c.a_run_has_one_continuation.ensures.more in
    let less = left_low g.R.Lattice.order g.R.Recorder.recording g.met.R.Recorder.is_recording _ _ _ _ _ _ _ _ _ _ _ _ so more in
    let one_is : c.index_mut.result.now ≡ slice_index c.loop-turn.left.items c.loop-turn.at = c.index_mut.ensures.value ∙ get_or_default_zero c.loop-turn.left.items c.loop-turn.at c.index_mut.result.now less in
    let first_is : c.index.result.now ≡ slice_index c.loop-turn.left.items c.loop-turn.at = c.index.ensures ∙ get_or_default_zero c.loop-turn.left.items c.loop-turn.at c.index.result.now less in
    let some : c.index_mut.result.now ≢ 0 = λ none. c.if-index-eq0.false (first_is ∙ sym one_is ∙ none) in
    let price_is : c.from-cost.result ≡ slice_index (costs_of c.args.outline.now) c.loop-turn.at = c.from-cost.ensures ∙ node_price c.args.outline.now c.loop-turn.at c.node.result.now c.node.ensures in
    let price_low : c.from-cost.result ≤ 4294967295 = search rules in
    let expands = c.graphs_are_expansions.ensures _ _ c.keeps.ensures c.requires.graph in
    let told = rw c.in-To.is at (c.in_ok-next.ensures.steps _ so.stands) in
    let along = step_along g.R.Lattice.order g.R.Recorder.recording g.met.R.Recorder.is_recording _ _ _ _ _ _ _ _ _ _ _ _ so more expands c.requires.outline c.a_step_leads_along_an_edge.ensures.next c.in-To.next c.step.new.self c.step.ensures.graph told.0 told.1 in
    goes_on g.R.Lattice.order g.R.Recorder.recording g.met.R.Recorder.is_recording _ _ _ _ _ _ _ _ _ _ _ _ so more c.index_mut.result.now c.from-cost.result one_is some price_is price_low c.in-To.next c.go.new.self c.go.new.book c.step.new.self along
    c.in_ok-go-in-To.ensures.gone c.in_ok-go-in-To.ensures.collected c.step.ensures.checked c.step.ensures.graph told.0 told.1

pub returns-in-Ended : goal.returns-in-Ended
returns-in-Ended g c =
    let so = c.loop-turn.invariant in
    let more = c.a_run_has_one_continuation.ensures.more in
    let less = left_low g.R.Lattice.order g.R.Recorder.recording g.met.R.Recorder.is_recording _ _ _ _ _ _ _ _ _ _ _ _ so more in
    let one_is : c.index_mut.result.now ≡ slice_index c.loop-turn.left.items c.loop-turn.at = c.index_mut.ensures.value ∙ get_or_default_zero c.loop-turn.left.items c.loop-turn.at c.index_mut.result.now less in
    let first_is : c.index.result.now ≡ slice_index c.loop-turn.left.items c.loop-turn.at = c.index.ensures ∙ get_or_default_zero c.loop-turn.left.items c.loop-turn.at c.index.result.now less in
    let some : c.index_mut.result.now ≢ 0 = λ none. c.if-index-eq0.false (first_is ∙ sym one_is ∙ none) in
    let price_is : c.from-cost.result ≡ slice_index (costs_of c.args.outline.now) c.loop-turn.at = c.from-cost.ensures ∙ node_price c.args.outline.now c.loop-turn.at c.node.result.now c.node.ensures in
    let price_low : c.from-cost.result ≤ 4294967295 = search rules in
    let told = rw c.in-Ended.is at (c.in_ok-next.ensures.steps _ so.stands) in
    is_over g.R.Lattice.order g.R.Recorder.recording g.met.R.Recorder.is_recording _ _ _ _ _ _ _ _ _ _ _ _ so more c.index_mut.result.now c.from-cost.result one_is some price_is price_low _ _ _ _ told refl refl c.in_ok-finish-in-Ended.ensures

pub returns-in-Faulted : goal.returns-in-Faulted
returns-in-Faulted g c =
    let so = c.loop-turn.invariant in
    let more = c.a_run_has_one_continuation.ensures.more in
    let less = left_low g.R.Lattice.order g.R.Recorder.recording g.met.R.Recorder.is_recording _ _ _ _ _ _ _ _ _ _ _ _ so more in
    let one_is : c.index_mut.result.now ≡ slice_index c.loop-turn.left.items c.loop-turn.at = c.index_mut.ensures.value ∙ get_or_default_zero c.loop-turn.left.items c.loop-turn.at c.index_mut.result.now less in
    let first_is : c.index.result.now ≡ slice_index c.loop-turn.left.items c.loop-turn.at = c.index.ensures ∙ get_or_default_zero c.loop-turn.left.items c.loop-turn.at c.index.result.now less in
    let some : c.index_mut.result.now ≢ 0 = λ none. c.if-index-eq0.false (first_is ∙ sym one_is ∙ none) in
    let price_is : c.from-cost.result ≡ slice_index (costs_of c.args.outline.now) c.loop-turn.at = c.from-cost.ensures ∙ node_price c.args.outline.now c.loop-turn.at c.node.result.now c.node.ensures in
    let price_low : c.from-cost.result ≤ 4294967295 = search rules in
    let told = rw c.in-Faulted.is at (c.in_ok-next.ensures.steps _ so.stands) in
    is_over g.R.Lattice.order g.R.Recorder.recording g.met.R.Recorder.is_recording _ _ _ _ _ _ _ _ _ _ _ _ so more c.index_mut.result.now c.from-cost.result one_is some price_is price_low _ _ _ _ told refl refl c.in_ok-finish-in-Faulted.ensures
