-- The faults that are told are those of alarms.
use Rattle.std.proofs.Common.{rules, ◌≡◌, List, drop, length, ap, ◌∙◌}
use Rattle.std.proofs.lemmas.List.{take_at}
use Rattle.domain_core.specs.declared.fault_set.FaultSet.{FaultSet}
use Rattle.report_checks.specs.Marks.{told_by}
use Rattle.report_checks.proofs.MarkLaws.{told_from_none}
use Rattle.report_checks.proofs.alarms.alarms_told.Goals as goal

pub returns-clause-told : goal.returns-clause-told
returns-clause-told c = λ n fault low.
    let new = c.tell_all.new.sets in
    let long : length new ≡ c.in_ok-sets.sets.len = search rules in
    told_from_none c.args.count n fault c.args.facts.now _ low
    (take_at new (drop (length new) c.in_ok-sets.sets.items) c.in_ok-sets.sets.len long ∙ c.tell_all.ensures
    ∙ ap (λ (sets : List FaultSet). told_by sets c.args.facts.now) (c.deref_mut.ensures.value ∙ c.in_ok-sets.ensures))
