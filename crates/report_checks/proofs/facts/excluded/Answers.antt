-- The lines before this one exclude nothing.
use Rattle.std.proofs.Common.{List, All, sym, ◌∙◌, subst, arith}
use Rattle.std.proofs.lemmas.List.Elements.{All-tail}
use Rattle.domain_core.specs.Outlines.{shape_of}
use Rattle.flow_facts.specs.declared.fact.Fact.{Fact}
use Rattle.ipet_rows.specs.Shaped.{FitsOutline}
use Rattle.flow_gathering.specs.Gathering.{found_in}
use Rattle.report_objections.specs.Objecting.{excludes as excludes_of, place_of}
use Rattle.report_checks.proofs.Answering.{placed_later}
use Rattle.report_checks.proofs.facts.excluded.Goals as goal

pub loop-fact-preserved : goal.loop-fact-preserved
loop-fact-preserved c =
    let split = c.in-Some.ensures.cases in
    let room = c.loop-fact.invariant.1 in
    let shorter = split.1 in (
      placed_later (λ f. excludes_of (found_in c.args.found.now) f) c.loop-fact.line c.loop-fact.rest.now c.in-Some.others.now c.in-Some.fact.now
          (place_of (λ f. excludes_of (found_in c.args.found.now) f) c.args.first c.args.facts.now) split.0 (sym c.excludes.ensures ∙ c.if-excludes.false) c.loop-fact.invariant.0,
      omega (arith, room, shorter),
      All-tail (λ f. FitsOutline (shape_of c.args.outline.now) f) c.in-Some.fact.now c.in-Some.others.now
          (subst (λ (fs : List Fact). All (λ f. FitsOutline (shape_of c.args.outline.now) f) fs) split.0 c.loop-fact.invariant.2),
    )
