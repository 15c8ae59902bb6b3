use Rattle.std.proofs.Common.{◌≡◌, ◌+◌, ℕ, List, ◌∷◌, Bool, false, cond, Option, Some, All, length, sym, ap, ◌∙◌, subst, arith}
use Rattle.std.proofs.lemmas.List.Elements.{All-tail}
use Rattle.domain_core.specs.Outlines.{shape_of}
use Rattle.flow_facts.specs.declared.fact.Fact.{Fact}
use Rattle.ipet_rows.specs.Shaped.{FitsOutline}
use Rattle.report_soundness.specs.ReportTold.{books_of}
use Rattle.report_objections.specs.Objecting.{place_of}
use Rattle.run_replays.specs.Tests.{breaks as breaks_of}
use Rattle.run_replays.proofs.meeting.broken.Goals as goal

placed_later : {A : Type 0} (p : A → Bool) (b : ℕ) (xs more : List A) (x : A) (answer : Option ℕ) → xs ≡ x ∷ more
    → p x ≡ false → place_of p b xs ≡ answer → place_of p (b + 1) more ≡ answer
placed_later {A} p b xs more x answer split miss is =
    sym (ap (λ (v : Bool). cond v (Some b) (place_of p (b + 1) more)) miss) ∙ sym (ap (λ (zs : List A). place_of p b zs) split) ∙ is

pub loop-fact-preserved : goal.loop-fact-preserved
loop-fact-preserved c =
    let split = c.in-Some.ensures.cases in
    let room = c.loop-fact.invariant.1 in
    let shorter = split.1 in (
      placed_later (λ f. breaks_of (books_of c.args.books.now) f) c.loop-fact.line c.loop-fact.rest.now c.in-Some.others.now c.in-Some.fact.now
          (place_of (λ f. breaks_of (books_of c.args.books.now) f) c.args.first c.args.facts.now) split.0 (sym c.breaks.ensures ∙ c.if-breaks.false) c.loop-fact.invariant.0,
      omega (arith, room, shorter),
      All-tail (λ f. FitsOutline (shape_of c.args.outline.now) f) c.in-Some.fact.now c.in-Some.others.now
          (subst (λ (fs : List Fact). All (λ f. FitsOutline (shape_of c.args.outline.now) f) fs) split.0 c.loop-fact.invariant.2),
    )
