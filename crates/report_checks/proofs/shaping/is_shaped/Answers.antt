-- All parts of the form.
use Rattle.std.proofs.Common.{◌≡◌, ◌<◌, ℕ, List, All, map, length, count_by, sym, ◌∙◌, subst}
use Rattle.domain_core.specs.Outlines.{shape_of}
use Rattle.flow_facts.specs.declared.fact.Fact.{Fact}
use Rattle.flow_facts.specs.declared.report.NodeLine.{NodeLine}
use Rattle.flow_facts.specs.Reports.{node_of}
use Rattle.ipet_rows.specs.Shaped.{FitsOutline}
use Rattle.report_soundness.specs.ReportTold.{named_nodes}
use Rattle.report_objections.specs.Shaping.{tells_total as tells_total_of}
use Rattle.report_checks.proofs.shaping.is_shaped.Goals as goal

pub returns : goal.returns
returns c =
    let o = c.args.outline.now in (
      λ yes. record {
        nodes = subst (λ (xs : List NodeLine). map node_of xs ≡ named_nodes o) c.as_slice.ensures.value (c.are_nodes.ensures.0 c.if-not-are_nodes.false);
        scopes = sym c.as_slice-2.ensures.value ∙ c.are_scopes.ensures.0 c.if-not-are_scopes.false;
        facts = subst (λ (xs : List Fact). All (λ f. FitsOutline (shape_of o) f) xs) c.as_slice-3.ensures.value (c.all_fit.ensures.0 c.if-not-all_fit.false);
        totals = subst (λ (xs : List Fact). (n : ℕ) → n < length o.nodes → count_by (λ f. tells_total_of n f) xs ≡ 1) c.as_slice-4.ensures.value (c.in_ok-once.ensures.0 yes);
      },
      λ shaped. c.in_ok-once.ensures.1 (subst (λ (xs : List Fact). (n : ℕ) → n < length o.nodes → count_by (λ f. tells_total_of n f) xs ≡ 1) (sym c.as_slice-4.ensures.value) shaped.totals),
    )
