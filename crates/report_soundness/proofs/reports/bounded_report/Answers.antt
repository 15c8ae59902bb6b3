-- What is left to show of `bounded_report`.
use Rattle.std.proofs.Common.{◌<◌, ◌^◌, ℕ, sym, ap, ◌∙◌, subst}
use Rattle.flow_facts.specs.declared.report.BoundWord.{BoundWord}
use Rattle.flow_facts.specs.Reports.{Reported, reported}
use Rattle.report_soundness.specs.Bounded.{with_path_bound, bounded, IsWithinCount}
use Rattle.report_soundness.specs.BoundedLaws.{facts_limited, bound_most}
use Rattle.report_soundness.proofs.BoundedLemmas.{facts_about, openings_fit}
use Rattle.report_soundness.proofs.reports.bounded_report.Goals as goal

pub path_bound-requires-clause-about : goal.path_bound-requires-clause-about
path_bound-requires-clause-about c = facts_about c.args.outline.now (reported c.args.report) c.requires.told

pub path_bound-requires-clause-limited : goal.path_bound-requires-clause-limited
path_bound-requires-clause-limited c = facts_limited c.args.outline.now (reported c.args.report) c.requires.told

pub path_bound-requires-clause-room : goal.path_bound-requires-clause-room
path_bound-requires-clause-room c =
    openings_fit c.args.outline.now (reported c.args.report) c.requires.told (subst (λ (n : ℕ). n < 2 ^ 64) c.count_bound.ensures c.count_bound.type_inv)

pub returns-clause-most : goal.returns-clause-most
returns-clause-most c =
    subst (λ (r : Reported). IsWithinCount r) (sym c.with_bound.ensures)
    (bound_most c.args.outline.now (reported c.args.report) c.requires.told c.in_ok-bound.bound.value c.in_ok-bound.ensures.most)

pub returns-clause-collected : goal.returns-clause-collected
returns-clause-collected c = λ found same.
    let o = c.args.outline.now in
    let bound = ap (λ (b : ℕ × BoundWord). with_path_bound (reported c.args.report) b) c.in_ok-bound.ensures.told in
    c.with_bound.ensures ∙ bound ∙ ap (λ (r : Reported). bounded o r c.args.pivots) same
