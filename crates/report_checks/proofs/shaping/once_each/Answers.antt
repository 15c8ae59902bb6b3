-- Each node has one line exactly where no line is the second one and all nodes are marked.
use Rattle.std.proofs.Common.{rules, ◌≡◌, ℕ, Bool, true, false, List, Some, None, All, drop, length, replicate, sym, ap, ◌∙◌, subst}
use Rattle.std.proofs.lemmas.List.{take_at}
use Rattle.report_checks.specs.Marks.{marks_if, marked_by}
use Rattle.report_checks.proofs.MarkLaws.{all_numbered, each_once, not_once}
use Rattle.report_checks.proofs.shaping.once_each.Goals as goal

pub returns-then-not-mark_lines : goal.returns-then-not-mark_lines
returns-then-not-mark_lines c =
    let o = c.args.outline.now in
    let facts = c.args.facts.now in
    let start : c.deref_mut.result.now ≡ replicate (length o.nodes) false = c.deref_mut.ensures.value ∙ c.in_ok-marks.ensures ∙ ap (λ (k : ℕ). replicate k false) c.node_count.ensures in
    let none : marked_by (Some (replicate (length o.nodes) false)) facts ≡ None =
    ap (λ (marks : List Bool). marked_by (Some marks) facts) (sym start) ∙ c.mark_lines.ensures.marks ∙ ap (λ (v : Bool). marks_if v c.mark_lines.new.marks) c.if-not-mark_lines.true in
    (λ yes. absurd (let bad = yes in cc), λ each. absurd (not_once (length o.nodes) facts (all_numbered o facts c.requires.fit) none each))

pub returns : goal.returns
returns c =
    let o = c.args.outline.now in
    let facts = c.args.facts.now in
    let new = c.mark_lines.new.marks in
    let start : c.deref_mut.result.now ≡ replicate (length o.nodes) false = c.deref_mut.ensures.value ∙ c.in_ok-marks.ensures ∙ ap (λ (k : ℕ). replicate k false) c.node_count.ensures in
    let some : marked_by (Some (replicate (length o.nodes) false)) facts ≡ Some new =
    ap (λ (marks : List Bool). marked_by (Some marks) facts) (sym start) ∙ c.mark_lines.ensures.marks ∙ ap (λ (v : Bool). marks_if v new) c.if-not-mark_lines.false in
    let long : length new ≡ c.in_ok-marks.marks.len = search rules in
    let here : c.deref.result.now ≡ new = c.deref.ensures.value ∙ take_at new (drop (length new) c.in_ok-marks.marks.items) c.in_ok-marks.marks.len long in
    let both = each_once (length o.nodes) facts new some in (
      λ yes. both.0 (subst (λ (marks : List Bool). All (λ mark. mark ≡ true) marks) here (c.are_marked.ensures.0 yes)),
      λ each. c.are_marked.ensures.1 (subst (λ (marks : List Bool). All (λ mark. mark ≡ true) marks) (sym here) (both.1 each)),
    )
