-- No node so far lacks an alarm.
use Rattle.std.proofs.Common.{◌≡◌, None}
use Rattle.ipet_rows.specs.Firsts.{first}
use Rattle.worklist_rules.specs.Pools.{alarm_at}
use Rattle.flow_gathering.specs.Gathering.{found_in}
use Rattle.report_soundness.specs.ReportTold.{all_faults}
use Rattle.report_objections.specs.Objecting.{first_lacking}
use Rattle.report_checks.proofs.alarms.lacking.Given as goal

abbrev pub invariant-loop-n : goal.invariant-loop-n
invariant-loop-n l = first l.n (λ n. first_lacking l.facts (alarm_at (found_in l.found).alarms n) n all_faults) ≡ None
