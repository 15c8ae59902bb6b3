-- The form is asked first, and of a report of the right form the rest tells.
use Rattle.std.proofs.Common.{◌≡◌, Bool, false, List, refl, subst}
use Rattle.std.specs.Prelude.{IsTrue}
use Rattle.alf_check.specs.declared.rows.InputRow.{InputRow}
use Rattle.alf_check.specs.CheckedPrograms.{seen}
use Rattle.flow_facts.specs.Reports.{reported}
use Rattle.report_objections.specs.declared.objection.Objection.TheVariants.{NoShape}
use Rattle.report_objections.specs.Shaping.{IsShaped}
use Rattle.run_replays.specs.Replays.{objects, passes, TellsValues}
use Rattle.sweet_cli.proofs.commands.replay.replayed.Goals as goal

not_both : (b : Bool) → IsTrue b → b ≡ false → ⊥
not_both b is lacks = cc

pub returns-then-not-shaped : goal.returns-then-not-shaped
returns-then-not-shaped c =
    let program = c.args.program.now in
    let never : IsShaped program.outline (reported c.args.report.now) → ⊥ = λ shape. not_both c.in_ok-shaped.shaped (c.in_ok-shaped.ensures.1 shape) c.if-not-shaped.true in
    objects NoShape (record { shapeless = never; is = refl }) refl

pub returns : goal.returns
returns c =
    let program = c.args.program.now in
    let tells = subst (λ (l : List InputRow). TellsValues (seen program.expanded.checked) program.expanded.graph.nodes l program.outline (reported c.args.report.now) c.args.values.now c.in_ok-told.told)
    c.as_slice-rows.ensures.value c.in_ok-told.ensures in
    passes (c.in_ok-shaped.ensures.0 c.if-not-shaped.false) tells
