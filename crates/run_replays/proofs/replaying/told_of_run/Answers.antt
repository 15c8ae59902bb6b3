-- What is told of the run, from how it went.
use Rattle.std.proofs.Common.{◌≡◌, ◌+◌, ◌∙◌, ℕ, List, Err, None, Some, ap, sym, subst}
use Rattle.std.specs.Prelude.{count_by, position}
use Rattle.alf_check.specs.CheckedPrograms.{seen}
use Rattle.alf_runs.specs.Starts.{start}
use Rattle.flow_facts.specs.declared.fact.Fact.{Fact}
use Rattle.flow_facts.specs.Reports.{reported}
use Rattle.domain_core.specs.Outlines.{shape_of}
use Rattle.report_soundness.specs.ReportTold.{costs_of, four_recording}
use Rattle.report_objections.specs.Shaping.{tells_total}
use Rattle.report_objections.specs.CountLaws.{most_of}
use Rattle.report_objections.specs.declared.objection.Objection.TheVariants.{NoFact}
use Rattle.run_replays.specs.Replays.{TellsReplayedRun}
use Rattle.run_replays.proofs.Held.{passed_low, some_place, told_stop, told_end}
use Rattle.run_replays.proofs.replaying.told_of_run.Goals as goal

pub allowed-requires-clause-once : goal.allowed-requires-clause-once
allowed-requires-clause-once c = λ n low. subst (λ (fs : List Fact). count_by (λ f. tells_total n f) fs ≡ 1) (sym c.deref.ensures.value) (c.requires.shaped.totals n low)

pub returns-in-Over : goal.returns-in-Over
returns-in-Over c =
    let program = seen c.args.checked.now in
    let over = rw c.in-Over.is at c.in_ok-run.ensures in
    told_end program c.args.graph.now c.args.outline.now (start program c.args.rows.now c.args.words.now) (reported c.args.report.now) c.in_ok-visits.visits.items c.requires.outline c.in_ok-visits.ensures.long
    (λ n low. c.in_ok-visits.ensures.most n low ∙ ap (λ (fs : List Fact). most_of n fs) c.deref.ensures.value) four_recording c.in-Over.run' _ over (c.told_of.ensures over.past over.entered over.cost)

pub unreachable-requires : goal.unreachable-requires
unreachable-requires c =
    let program = seen c.args.checked.now in
    let report = reported c.args.report.now in
    let passed = rw c.in-Passed.is at c.in_ok-run.ensures in
    let low = passed_low program c.args.graph.now c.args.outline.now (start program c.args.rows.now c.args.words.now) report c.in_ok-visits.visits.items c.requires.outline c.in_ok-visits.ensures.long
    (λ n below. c.in_ok-visits.ensures.most n below ∙ ap (λ (fs : List Fact). most_of n fs) c.deref.ensures.value) c.in-Passed.node passed in
    let none : position (λ f. tells_total c.in-Passed.node f) report.facts ≡ None =
    ap (λ (fs : List Fact). position (λ f. tells_total c.in-Passed.node f) fs) (sym c.deref-in-Passed.ensures.value) ∙ sym c.in-None.ensures in
    absurd (some_place (λ f. tells_total c.in-Passed.node f) report.facts (c.requires.shaped.totals c.in-Passed.node low) none)

pub returns-in-Some : goal.returns-in-Some
returns-in-Some c =
    let program = seen c.args.checked.now in
    let report = reported c.args.report.now in
    let passed = rw c.in-Passed.is at c.in_ok-run.ensures in
    let there : position (λ f. tells_total c.in-Passed.node f) report.facts ≡ Some c.in-Some.place =
    ap (λ (fs : List Fact). position (λ f. tells_total c.in-Passed.node f) fs) (sym c.deref-in-Passed.ensures.value) ∙ sym c.in-Some.ensures in
    subst (λ (line : ℕ). TellsReplayedRun program c.args.graph.now.nodes (start program c.args.rows.now c.args.words.now) (shape_of c.args.outline.now) (costs_of c.args.outline.now) report (Err (NoFact (line + c.in-Some.place))))
    (sym c.first_line.ensures.line)
    (told_stop program c.args.graph.now c.args.outline.now (start program c.args.rows.now c.args.words.now) report c.in_ok-visits.visits.items c.requires.outline c.in_ok-visits.ensures.long
    (λ n low. c.in_ok-visits.ensures.most n low ∙ ap (λ (fs : List Fact). most_of n fs) c.deref.ensures.value) c.in-Passed.node c.in-Some.place passed there)
